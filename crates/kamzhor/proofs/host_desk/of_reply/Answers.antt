-- `of_reply` tells a reply and the desk after it.
-- Assumes nothing.
use Rattle.kamzhor.proofs.host_desk.of_reply.Goals as goal

pub returns : goal.returns
returns c = rw c.of_booking.ensures

-- `of_close` tells a cancel or an expiry and the desk after it.
-- Assumes nothing.
use Rattle.kamzhor.proofs.host_desk.of_close.Goals as goal

pub returns : goal.returns
returns c = rw c.of_closing.ensures

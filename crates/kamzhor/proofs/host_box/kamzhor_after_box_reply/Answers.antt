-- `kamzhor_after_box_reply` is the box after the desk's answer to a reply, told in numbers.
-- Assumes nothing.
use Rattle.kamzhor.proofs.host_box.kamzhor_after_box_reply.Goals as goal

pub returns : goal.returns
returns c = (_, rw (c.meant_box.ensures, c.meant_booking.ensures) at c.told_reply.ensures, c.of_box.ensures)

-- `kamzhor_after_box_close` is the box after the desk's answer to a cancel or an expiry, told in numbers.
-- Assumes nothing.
use Rattle.kamzhor.proofs.host_box.kamzhor_after_box_close.Goals as goal

pub returns : goal.returns
returns c = (_, rw (c.meant_box.ensures, c.meant_closing.ensures) at c.told_closing.ensures, c.of_box.ensures)

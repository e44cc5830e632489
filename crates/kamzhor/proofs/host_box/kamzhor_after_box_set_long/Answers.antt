-- `kamzhor_after_box_set_long` sets the long-pass edge of the box that numbers mean, told in numbers.
-- Assumes nothing.
use Rattle.kamzhor.proofs.host_box.kamzhor_after_box_set_long.Goals as goal

pub returns : goal.returns
returns c = (_, rw c.meant_box.ensures at c.set_long.ensures, c.of_ask.ensures)

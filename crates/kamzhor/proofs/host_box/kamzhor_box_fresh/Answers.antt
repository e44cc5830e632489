-- `kamzhor_box_fresh` is a fresh filter box, told in numbers.
-- Assumes nothing.
use Rattle.kamzhor.proofs.host_box.kamzhor_box_fresh.Goals as goal

pub returns : goal.returns
returns c = rw (c.of_box.ensures, c.make.ensures)

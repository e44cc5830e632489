-- `of_out` tells in numbers what is out.
-- Assumes nothing.
use Rattle.kamzhor.proofs.host_box.of_out.Goals as goal

pub returns-in-None : goal.returns-in-None
returns-in-None c = rw c.in-None.is

pub returns-in-Some : goal.returns-in-Some
returns-in-Some c = rw (c.in-Some.is, c.of_pass.ensures)

-- `of_edge` tells an edge in numbers.
-- Assumes nothing.
use Rattle.kamzhor.proofs.host_box.of_edge.Goals as goal

pub returns-in-None : goal.returns-in-None
returns-in-None c = rw c.in-None.is

pub returns-in-Some : goal.returns-in-Some
returns-in-Some c = rw c.in-Some.is

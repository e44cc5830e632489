-- `of_box` tells a filter box in numbers.
-- Assumes nothing.
use Rattle.kamzhor.proofs.host_box.of_box.Goals as goal

pub returns : goal.returns
returns c = rw (c.of_edge.ensures, c.of_edge-2.ensures, c.of_out.ensures)

-- `meant_box` is the filter box that numbers mean.
-- Assumes nothing.
use Rattle.kamzhor.proofs.host_box.meant_box.Goals as goal

pub returns : goal.returns
returns c = rw (c.meant_edge.ensures, c.meant_edge-2.ensures, c.meant_out.ensures)

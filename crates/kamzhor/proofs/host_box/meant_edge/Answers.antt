-- `meant_edge` is the edge that numbers mean.
-- Assumes nothing.
use borrow.Author.Tests.{ne_eqb}
use Rattle.kamzhor.proofs.host_box.meant_edge.Goals as goal

pub returns-then-edge-eq0 : goal.returns-then-edge-eq0
returns-then-edge-eq0 c = rw c.if-edge-eq0.true

pub returns : goal.returns
returns c = rw (ne_eqb _ _ c.if-edge-eq0.false)

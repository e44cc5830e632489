use borrow.Author.Tests.{eq-eqb, ne_eqb}
use Rattle.lanes.proofs.is_theirs.Goals as goal

pub returns-then-lane-ne0 : goal.returns-then-lane-ne0
returns-then-lane-ne0 c = simp (ne_eqb _ _ c.if-lane-ne0.true)

pub returns-else-lane-ne0 : goal.returns-else-lane-ne0
returns-else-lane-ne0 c = simp (eq-eqb _ _ c.if-lane-ne0.false)

-- `meant_value` is the number that a sign and a magnitude mean.
-- Assumes nothing.
use borrow.Author.Tests.{ne_eqb}
use Rattle.kamzhor.proofs.host_values.meant_value.Goals as goal

pub returns-then-negative-eq0 : goal.returns-then-negative-eq0
returns-then-negative-eq0 c = rw c.if-negative-eq0.true

pub returns-then-magnitude-eq0 : goal.returns-then-magnitude-eq0
returns-then-magnitude-eq0 c = rw (ne_eqb _ _ c.if-negative-eq0.false, c.if-magnitude-eq0.true)

pub returns : goal.returns
returns c = rw (ne_eqb _ _ c.if-negative-eq0.false, ne_eqb _ _ c.if-magnitude-eq0.false)

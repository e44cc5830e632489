-- `meant_out` is what is out, from its numbers.
-- Assumes nothing.
use borrow.Author.Tests.{ne_eqb}
use Rattle.kamzhor.proofs.host_box.meant_out.Goals as goal

pub returns-then-out-eq1 : goal.returns-then-out-eq1
returns-then-out-eq1 c = rw c.if-out-eq1.true

pub returns-then-out-eq2 : goal.returns-then-out-eq2
returns-then-out-eq2 c = rw c.if-out-eq2.true

pub returns : goal.returns
returns c = rw (ne_eqb _ _ c.if-out-eq1.false, ne_eqb _ _ c.if-out-eq2.false)

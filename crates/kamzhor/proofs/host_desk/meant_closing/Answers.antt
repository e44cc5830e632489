-- `meant_closing` is the desk's answer to a cancel or an expiry, from its numbers.
-- Assumes nothing.
use borrow.Author.Tests.{ne_eqb}
use Rattle.kamzhor.proofs.host_desk.meant_closing.Goals as goal

pub returns-then-closing-eq0 : goal.returns-then-closing-eq0
returns-then-closing-eq0 c = rw c.if-closing-eq0.true

pub returns : goal.returns
returns c = rw (ne_eqb _ _ c.if-closing-eq0.false)

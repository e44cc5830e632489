use borrow.Author.Tests.{eq-eqb, ne_eqb}
use Rattle.scan.proofs.is_its_own.Goals as goal

pub returns-then-scan-eq0 : goal.returns-then-scan-eq0
returns-then-scan-eq0 c = rw (eq-eqb _ 0 c.if-scan-eq0.true)

pub returns : goal.returns
returns c = rw (ne_eqb _ 0 c.if-scan-eq0.false)

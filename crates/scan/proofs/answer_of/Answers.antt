use borrow.Author.Tests.{eq-eqb, ne_eqb}
use Rattle.scan.proofs.answer_of.Goals as goal

pub returns-then-sort-eq-DATAGRAM : goal.returns-then-sort-eq-DATAGRAM
returns-then-sort-eq-DATAGRAM c = rw (eq-eqb _ 8 c.if-sort-eq-DATAGRAM.true)

pub returns-else-sort-eq-DATAGRAM : goal.returns-else-sort-eq-DATAGRAM
returns-else-sort-eq-DATAGRAM c = rw (ne_eqb _ 8 c.if-sort-eq-DATAGRAM.false)

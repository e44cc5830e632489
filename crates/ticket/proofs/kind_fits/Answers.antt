use borrow.Author.Tests.{lt-leb}
use Rattle.rows.proofs.Laws.{tests}
use Rattle.ticket.proofs.kind_fits.Goals as goal

pub returns-then-answered-le-BUSY : goal.returns-then-answered-le-BUSY
returns-then-answered-le-BUSY c = search tests

pub returns-else-answered-le-BUSY : goal.returns-else-answered-le-BUSY
returns-else-answered-le-BUSY c = rw (lt-leb _ _ c.if-answered-le-BUSY.false, c.wanted.ensures)

use Rattle.rows.proofs.Laws.{tests}
use Rattle.ticket.proofs.register_fits.Goals as goal

pub returns-then-register-asked : goal.returns-then-register-asked
returns-then-register-asked c = search tests

pub returns-then-answered-le-ACK : goal.returns-then-answered-le-ACK
returns-then-answered-le-ACK c = search tests

pub returns-else-answered-le-ACK : goal.returns-else-answered-le-ACK
returns-else-answered-le-ACK c = search tests

use Rattle.rows.proofs.Laws.{tests}
use Rattle.ticket.proofs.wanted.Goals as goal

pub returns-then-asked-eq-READ : goal.returns-then-asked-eq-READ
returns-then-asked-eq-READ c = search tests

pub returns-else-asked-eq-READ : goal.returns-else-asked-eq-READ
returns-else-asked-eq-READ c = search tests

use Rattle.rows.proofs.Laws.{tests}
use Rattle.lent.proofs.least.Goals as goal

pub returns-then-a-b : goal.returns-then-a-b
returns-then-a-b c = search tests

pub returns-else-a-b : goal.returns-else-a-b
returns-else-a-b c = search tests

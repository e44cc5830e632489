use Rattle.rows.proofs.Laws.{tests}
use Rattle.request.proofs.one_to.Goals as goal

pub returns-then-x-ge1 : goal.returns-then-x-ge1
returns-then-x-ge1 c = search tests

pub returns-else-x-ge1 : goal.returns-else-x-ge1
returns-else-x-ge1 c = search tests

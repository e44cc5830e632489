use Rattle.rows.proofs.Laws.{tests}
use Rattle.request.proofs.wrong_data.Goals as goal

pub returns-then-size-gt-MOST_DATA : goal.returns-then-size-gt-MOST_DATA
returns-then-size-gt-MOST_DATA c = search tests

pub returns-then-sort-eq-READ : goal.returns-then-sort-eq-READ
returns-then-sort-eq-READ c = search tests

pub returns-else-sort-eq-READ : goal.returns-else-sort-eq-READ
returns-else-sort-eq-READ c = search tests

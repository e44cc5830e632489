use Rattle.rows.proofs.Laws.{tests}
use Rattle.telegram.proofs.reader.sized.Goals as goal

pub returns-then-n-lt-SHORTEST : goal.returns-then-n-lt-SHORTEST
returns-then-n-lt-SHORTEST c = search tests

pub returns-then-n-gt-LONGEST : goal.returns-then-n-gt-LONGEST
returns-then-n-gt-LONGEST c = search tests

pub returns-then-room-n : goal.returns-then-room-n
returns-then-room-n c = search tests

pub returns : goal.returns
returns c = search tests

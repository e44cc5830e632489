use Rattle.rows.proofs.Laws.{tests}
use Rattle.marks.proofs.word_of.Goals as goal

pub returns-then-place-lt64 : goal.returns-then-place-lt64
returns-then-place-lt64 c = search tests

pub returns-then-place-lt128 : goal.returns-then-place-lt128
returns-then-place-lt128 c = search tests

pub returns : goal.returns
returns c = search tests

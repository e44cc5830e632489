use Rattle.rows.proofs.Laws.{tests}
use Rattle.setting.specs.Setting.{is_above}
use Rattle.setting.proofs.is_above.Goals as goal

pub returns-then-a-b : goal.returns-then-a-b
unfolding is_above
returns-then-a-b c = search tests

pub returns : goal.returns
unfolding is_above
returns c = search tests

use Rattle.rows.proofs.Laws.{tests}
use Rattle.setting.specs.Setting.{is_allowed}
use Rattle.setting.proofs.is_allowed.Goals as goal

pub returns-then-head-lt1 : goal.returns-then-head-lt1
unfolding is_allowed
returns-then-head-lt1 c = search tests

pub returns-then-head-gt160 : goal.returns-then-head-gt160
unfolding is_allowed
returns-then-head-gt160 c = search tests

pub returns-then-head-lt1-2 : goal.returns-then-head-lt1-2
unfolding is_allowed
returns-then-head-lt1-2 c = search tests

pub returns-then-head-gt7 : goal.returns-then-head-gt7
unfolding is_allowed
returns-then-head-gt7 c = search tests

pub returns-then-head-lt1-3 : goal.returns-then-head-lt1-3
unfolding is_allowed
returns-then-head-lt1-3 c = search tests

pub returns-then-head-gt240 : goal.returns-then-head-gt240
unfolding is_allowed
returns-then-head-gt240 c = search tests

pub returns : goal.returns
unfolding is_allowed
returns c = search (tests, c.measure.ensures)

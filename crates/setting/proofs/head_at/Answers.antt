use Rattle.setting.proofs.Steps.{head_read, head_none}
use Rattle.setting.proofs.head_at.Goals as goal

pub returns-then-k-rows : goal.returns-then-k-rows
returns-then-k-rows c = head_read _ _ c.if-k-rows.true

pub returns : goal.returns
returns c = head_none _ _ c.if-k-rows.false

use mathlib.Core.Path.{refl, ◌∙◌}
use Rattle.setting.proofs.Steps.{tail-read, tail_none}
use Rattle.setting.proofs.tail_at.Goals as goal

pub returns-then-k-rows : goal.returns-then-k-rows
returns-then-k-rows c = c.load.ensures ∙ tail-read _ _ _ _ c.if-k-rows.true refl refl

pub returns : goal.returns
returns c = tail_none _ _ c.if-k-rows.false

use mathlib.Core.Path.{refl, ◌∙◌}
use Rattle.sheet.proofs.Steps.{field_read}
use Rattle.sheet.proofs.field.Goals as goal

pub returns : goal.returns
returns c = c.load.ensures ∙ field_read _ _ _ _ refl c.requires.1

use mathlib.Core.Path.{◌∙◌}
use Rattle.sheet_line.proofs.Spacing.{same_told}
use Rattle.sheet_line.proofs.words.same.Goals as goal

pub returns : goal.returns
returns c = c.eq.ensures ∙ same_told c.args.word.now c.args.other.now

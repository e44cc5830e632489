use Rattle.scan.proofs.Calls.{closing_ends, closing_leaves}
use mathlib.Core.Path.{◌∙◌}
use Rattle.scan.proofs.told_closing.Goals as goal

pub returns-then-is_its_own : goal.returns-then-is_its_own
returns-then-is_its_own c = c.turn_over.ensures ∙ closing_ends _ _ _ c.is_its_own.ensures _ _ _ c.in-Ok.is c.if-is_its_own.true

pub returns : goal.returns
returns c = closing_leaves _ _ _ c.is_its_own.ensures _ _ _ c.in-Ok.is c.if-is_its_own.false

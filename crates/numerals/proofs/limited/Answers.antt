-- By what the value is.
-- Assumes nothing.
use Rattle.numerals.proofs.Steps.{natural_under, natural_over, negative_over}
use Rattle.numerals.proofs.limited.Goals as goal

pub returns-then-n-over : goal.returns-then-n-over
returns-then-n-over c = natural_under _ _ _ c.in-Natural.is c.if-n-over.true

pub returns-else-n-over : goal.returns-else-n-over
returns-else-n-over c = natural_over _ _ _ c.in-Natural.is c.if-n-over.false

pub returns-in-Negative : goal.returns-in-Negative
returns-in-Negative c = negative_over _ _ _ c.in-Negative.is

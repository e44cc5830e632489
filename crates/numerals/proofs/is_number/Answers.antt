-- The digits are what is left of the word from where they begin.
-- Assumes nothing.
use Rattle.numerals.proofs.Steps.{number_none, number_told_lem}
use Rattle.numerals.proofs.is_number.Goals as goal

pub returns-then-word-at : goal.returns-then-word-at
returns-then-word-at c = number_none _ _ c.figures_at-at.ensures c.if-word-at.true

pub returns : goal.returns
returns c = number_told_lem _ _ _ _ c.figures_at-at.ensures c.base.ensures.0 c.if-word-at.false c.are_digits.ensures

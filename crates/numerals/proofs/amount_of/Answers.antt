-- The digits are what is left of the word from where they begin.
-- Assumes nothing.
use Rattle.numerals.proofs.Steps.{amount_none, amount_told}
use Rattle.numerals.proofs.amount_of.Goals as goal

pub returns-then-word-at : goal.returns-then-word-at
returns-then-word-at c = amount_none _ _ c.figures_at-at.ensures c.if-word-at.true

pub returns : goal.returns
returns c = amount_told _ _ _ _ c.figures_at-at.ensures c.base.ensures.0 c.worth_of.ensures

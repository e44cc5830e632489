-- Behind the end of a word 0 stands, which is no `x`.
-- Assumes nothing.
use mathlib.Core.Path.{sym, ◌∙◌}
use mathlib.Core.Bool.{true≢false}
use borrow.Author.Tests.{eqb-true, eqb-false, le-ltb}
use Rattle.numerals.proofs.Steps.{hex_there, no_nought, no_x}
use Rattle.numerals.proofs.is_hex.Goals.{then-at-word, else-at-word}
use Rattle.numerals.proofs.is_hex.Goals as goal

pub returns-then-word-at-eq48 : goal.returns-then-word-at-eq48
returns-then-word-at-eq48 c = elim c.if-at-word.branch [
  | then-at-word w ↦ hex_there _ _ c.unsigned_at-at.ensures.0 (eqb-true _ _ (sym w.value-is ∙ c.if-word-at-eq48.true))
  | else-at-word w ↦ absurd (true≢false (sym c.if-word-at-eq48.true ∙ w.value-is ∙ le-ltb _ _ w.if-at-word.false))
]

pub returns-else-word-at-eq48 : goal.returns-else-word-at-eq48
returns-else-word-at-eq48 c = elim c.if-at-word.branch [
  | then-at-word w ↦ c.if-word-at-eq48.false ∙ no_nought _ _ c.unsigned_at-at.ensures.0 (eqb-false _ _ (sym w.value-is ∙ c.if-word-at-eq48.false))
  | else-at-word w ↦ c.if-word-at-eq48.false ∙ no_x _ _ c.unsigned_at-at.ensures.0 w.if-at-word.false
]

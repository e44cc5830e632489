-- An empty word has no first byte, and 0 stands for it.
-- Assumes nothing.
use mathlib.Core.Path.{refl, sym, ◌∙◌}
use borrow.Author.Tests.{le-ltb}
use Rattle.numerals.specs.Numerals.{is_minus}
use Rattle.numerals.proofs.Steps.{no_minus}
use Rattle.numerals.proofs.is_minus.Goals as goal

pub returns-then-word-gt0 : goal.returns-then-word-gt0
unfolding is_minus
returns-then-word-gt0 c = refl

pub returns-else-word-gt0 : goal.returns-else-word-gt0
returns-else-word-gt0 c = le-ltb _ _ c.if-word-gt0.false ∙ sym (no_minus _ c.if-word-gt0.false)

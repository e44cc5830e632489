-- By what was read.
-- Assumes nothing.
use mathlib.Core.Path.{refl}
use borrow.Author.Rules.{rules}
use Rattle.numerals.proofs.Steps.{limits_is, limits_huge, limits_nothing}
use Rattle.numerals.proofs.up_to.Goals as goal

pub returns-in-Is : goal.returns-in-Is
returns-in-Is c = limits_is _ _ _ _ _ _ c.read.ensures c.in-Is.is refl c.limited.ensures

pub returns-in-Huge : goal.returns-in-Huge
returns-in-Huge c = limits_huge _ _ _ _ c.read.ensures c.in-Huge.is refl (search rules)

pub returns-in-Nothing : goal.returns-in-Nothing
returns-in-Nothing c = limits_nothing _ _ _ _ c.read.ensures c.in-Nothing.is refl

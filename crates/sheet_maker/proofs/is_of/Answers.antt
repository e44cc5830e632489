use mathlib.Core.Path.{refl}
use borrow.Author.Tests.{eq-eqb, ne_eqb}
use Rattle.sheet_maker.proofs.is_of.Goals as goal

pub returns-then-head-unit : goal.returns-then-head-unit
returns-then-head-unit c = rw (eq-eqb _ _ c.if-head-unit.true) refl

pub returns : goal.returns
returns c = rw (ne_eqb _ _ c.if-head-unit.false) refl

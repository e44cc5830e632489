use Rattle.sheet_maker.proofs.Steps.{told_one, told_none}
use mathlib.Core.Path.{refl}
use Rattle.sheet_maker.proofs.gathering.tell.Goals as goal

pub returns-then-at-list : goal.returns-then-at-list
returns-then-at-list c = told_one _ _ _ _ c.if-at-list.true refl

pub returns : goal.returns
returns c = told_none _ _ _ c.if-at-list.false

-- `-0` is 0.
-- Assumes nothing.
use mathlib.Core.Path.{sym}
use Rattle.numerals.proofs.Steps.{below_some, below_none}
use Rattle.numerals.proofs.signed.Goals as goal

pub returns-then-size-gt0 : goal.returns-then-size-gt0
returns-then-size-gt0 c = rw c.if-minus.true (sym (below_some _ c.if-size-gt0.true))

pub returns-else-size-gt0 : goal.returns-else-size-gt0
returns-else-size-gt0 c = rw c.if-minus.true (sym (below_none _ c.if-size-gt0.false))

pub returns-else-minus : goal.returns-else-minus
returns-else-minus c = rw c.if-minus.false

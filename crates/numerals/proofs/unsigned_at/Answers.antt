-- By the minus.
-- Assumes nothing.
use native.Mathlib.Omega.{arith}
use Rattle.numerals.specs.Numerals.{unsigned_at}
use Rattle.numerals.proofs.unsigned_at.Goals as goal

pub returns-then-is_minus : goal.returns-then-is_minus
unfolding unsigned_at
returns-then-is_minus c = (rw (← c.is_minus.ensures, c.if-is_minus.true), omega arith)

pub returns-else-is_minus : goal.returns-else-is_minus
unfolding unsigned_at
returns-else-is_minus c = (rw (← c.is_minus.ensures, c.if-is_minus.false), omega arith)

-- By the `0x`.
-- Assumes nothing.
use native.Mathlib.Omega.{arith}
use Rattle.numerals.specs.Numerals.{figures_at}
use Rattle.numerals.proofs.figures_at.Goals as goal

pub returns-then-is_hex : goal.returns-then-is_hex
unfolding figures_at
returns-then-is_hex c = rw (← c.is_hex.ensures, c.if-is_hex.true, c.unsigned_at.ensures.0)

pub returns-else-is_hex : goal.returns-else-is_hex
unfolding figures_at
returns-else-is_hex c = rw (← c.is_hex.ensures, c.if-is_hex.false, c.unsigned_at-else-is_hex.ensures.0) (omega arith)

-- By the `0x`.
-- Assumes nothing.
use native.Mathlib.Omega.{arith}
use Rattle.numerals.specs.Numerals.{base_of}
use Rattle.numerals.proofs.base.Goals as goal

pub returns-then-is_hex : goal.returns-then-is_hex
unfolding base_of
returns-then-is_hex c = (rw (← c.is_hex.ensures, c.if-is_hex.true), omega arith, omega arith)

pub returns-else-is_hex : goal.returns-else-is_hex
unfolding base_of
returns-else-is_hex c = (rw (← c.is_hex.ensures, c.if-is_hex.false), omega arith, omega arith)

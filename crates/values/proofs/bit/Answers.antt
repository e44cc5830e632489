-- `bit` tests the place of `bit_at`; a number of 64 bits has no one above them.
-- Assumes nothing.
use mathlib.Core.Path.{◌≡◌, refl, sym, ap, ◌∙◌}
use Prim.Native.Nat.{ℕ, ◌%◌, ◌^◌, ◌<◌, ◌≤◌}
use native.Mathlib.Nat.{div-eq_of_lt, lt_of_lt_of_le}
use borrow.Author.Tests.{le-ltb}
use lib.Dec.{eqb}
use lib.Pow.{pow_mono}
use Rattle.values.specs.Values.{bit_at}
use Rattle.values.proofs.bit.Goals as goal

none_above : (v k : ℕ) → v < 2 ^ 64 → 64 ≤ k → bit_at v k ≡ 0
none_above v k h l = ap (λ (x : ℕ). x % 2) (div-eq_of_lt (lt_of_lt_of_le h (pow_mono {i = 64} l)))

pub returns-then-place-lt64 : goal.returns-then-place-lt64
returns-then-place-lt64 c = refl

pub returns-else-place-lt64 : goal.returns-else-place-lt64
returns-else-place-lt64 c = le-ltb _ _ c.if-place-lt64.false ∙ ap (λ (x : ℕ). eqb x 1) (sym (none_above _ _ c.ranges.v.fits c.if-place-lt64.false))

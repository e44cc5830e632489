-- `value_at` is `value_at`: 2 ^ (8 * size) is twice the middle.
-- Assumes nothing.
use mathlib.Core.Path.{◌≡◌, ap, ◌∙◌}
use Prim.Native.Nat.{ℕ, ◌-◌, ◌*◌, ◌^◌, ◌<◌, ◌≤◌}
use native.Mathlib.Omega.{arith}
use lib.Pow.{pow_pos}
use Rattle.values.specs.declared.Value.TheVariants.{Negative}
use Rattle.values.proofs.Sized.{power_half, value_unsigned, value_low, value_high}
use Rattle.values.proofs.value_at.Goals as goal

-- how far a number lies above the middle, counted down from the top
mirrored : (n v middle : ℕ) → 0 < n → middle ≡ 2 ^ (8 * n - 1) → v < 2 ^ (8 * n) → middle ≤ v
    → (v - middle ≤ middle - 1) × (middle - 1 - (v - middle) ≡ 2 ^ (8 * n) - 1 - v)
mirrored n v middle p e h l = (omega (arith, power_half n p), omega (arith, power_half n p))

pub overflow_sub-result : goal.overflow_sub-result
overflow_sub-result c = omega (arith, c.half-middle.ensures, pow_pos (8 * c.args.size - 1))

pub overflow_sub-result-else-number-middle-2 : goal.overflow_sub-result-else-number-middle-2
overflow_sub-result-else-number-middle-2 c = (mirrored _ _ _ c.requires.0 c.half-middle.ensures c.requires.2 c.if-number-middle.false).0

pub returns-then-number-middle : goal.returns-then-number-middle
returns-then-number-middle c = value_low _ _ _ c.if-signed.true (rw c.half-middle.ensures at c.if-number-middle.true)

pub returns-else-number-middle : goal.returns-else-number-middle
returns-else-number-middle c =
    ap Negative
    (mirrored _ _ _ c.requires.0 c.half-middle.ensures c.requires.2 c.if-number-middle.false).1
    ∙ value_high _ _ _ c.if-signed.true (rw c.half-middle.ensures at c.if-number-middle.false)

pub returns-else-signed : goal.returns-else-signed
returns-else-signed c = value_unsigned _ _ _ c.if-signed.false

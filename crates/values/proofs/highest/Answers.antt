-- `highest` is `greatest`: so many bytes hold twice the middle.
-- Assumes nothing.
use mathlib.Core.Path.{◌≡◌, sym, ap, ◌∙◌}
use mathlib.Core.Bool.{true, false}
use Prim.Native.Nat.{ℕ, ◌+◌, ◌-◌, ◌*◌, ◌^◌, ◌<◌, ◌≤◌}
use native.Mathlib.Omega.{arith}
use lib.Pow.{pow_pos}
use Rattle.values.specs.Values.{size_of, is_signed, greatest}
use Rattle.values.proofs.Sized.{size-le, power_half, half_le, greatest_signed, greatest_unsigned}
use Rattle.values.proofs.highest.Goals as goal
use Rattle.values.proofs.highest.Goals.{After-signed}

-- what is known of the middle: it is no number below 1, and twice it is no more than 64 bits hold
middle : (kind n m : ℕ) → 0 < size_of kind → n ≡ size_of kind → m ≡ 2 ^ (8 * n - 1) → (1 ≤ m) × (m ≤ 2 ^ 63) × (m ≡ 2 ^ (8 * size_of kind - 1))
middle kind n m p e h =
    let known : m ≡ 2 ^ (8 * size_of kind - 1) = h ∙ ap (λ (k : ℕ). 2 ^ (8 * k - 1)) e in
    (omega (arith, pow_pos (8 * size_of kind - 1)), omega (arith, half_le (size_of kind) (size-le kind p)), known)

signed_top : (kind m : ℕ) → m ≡ 2 ^ (8 * size_of kind - 1) → is_signed kind ≡ true → m - 1 ≡ greatest kind
signed_top kind m known s = ap (λ (k : ℕ). k - 1) known ∙ sym (greatest_signed kind s)

unsigned-top : (kind m : ℕ) → 0 < size_of kind → (1 ≤ m) × (m ≤ 2 ^ 63) × (m ≡ 2 ^ (8 * size_of kind - 1)) → is_signed kind ≡ false
    → m - 1 + m ≡ greatest kind
unsigned-top kind m p known s = omega (arith, power_half (size_of kind) p, greatest_unsigned kind s)

-- the middle as it is once the sign is known
at-middle : (c : After-signed)
    → (1 ≤ c.half-middle.result) × (c.half-middle.result ≤ 2 ^ 63) × (c.half-middle.result ≡ 2 ^ (8 * size_of c.args.kind - 1))
at-middle c = middle _ _ _ c.requires c.size.ensures c.half-middle.ensures

pub half-middle-requires : goal.half-middle-requires
half-middle-requires c = (omega (arith, c.size.ensures), omega (arith, c.size.ensures, size-le _ c.requires))

pub overflow_sub-result : goal.overflow_sub-result
overflow_sub-result c = (at-middle (goal.at.overflow_sub-result c).After-signed).0

pub overflow_sub-result-else-signed : goal.overflow_sub-result-else-signed
overflow_sub-result-else-signed c = (at-middle (goal.at.overflow_sub-result-else-signed c).After-signed).0

pub overflow_add-result : goal.overflow_add-result
overflow_add-result c = omega (arith, (at-middle (goal.at.overflow_add-result c).After-signed).1)

pub returns-then-signed : goal.returns-then-signed
returns-then-signed c = signed_top _ _ (at-middle (goal.at.returns-then-signed c).After-signed).2 (sym c.signed.ensures ∙ c.if-signed.true)

pub returns-else-signed : goal.returns-else-signed
returns-else-signed c = unsigned-top _ _ c.requires (at-middle (goal.at.returns-else-signed c).After-signed) (sym c.signed.ensures ∙ c.if-signed.false)

-- Values of n bytes, signed or not: what the kinds share, over the size.
-- Assumes nothing.
use mathlib.Core.Path.{◌≡◌, refl, sym, ap, ◌∙◌}
use mathlib.Core.Bool.{Bool, true, false, ◌&&◌}
use mathlib.Core.List.{[], ◌∷◌}
use Prim.Native.Nat.{ℕ, zero, suc, ◌-◌, ◌*◌, ◌^◌, ◌≤◌, ◌<◌}
use native.Mathlib.Decide.{dec_lt}
use native.Mathlib.Omega.{arith}
use borrow.Author.Tests.{lt-ltb, le-ltb, ne_eqb, eqb-false, not-true}
use lib.Dec.{T, leb, eqb, leb→le}
use lib.ListN.{get_or, get_or-eq_default}
use lib.Pow.{pow_pos, pow_mono}
use Rattle.values.specs.Values.{sizes, size_of, is_signed, is_kind, greatest, value_at, stored_at, Holds}
use Rattle.values.specs.declared.Value.{Value}
use Rattle.values.specs.declared.Value.TheVariants.{Natural, Negative}
use Rattle.values.proofs.Table.{at, both_left, both_right}

-- ---- the kinds are 1 to 7, of 1 to 8 bytes

size-within : ℕ → Bool
size-within n = leb 1 n && leb n 8

pub size_of_kind : (kind : ℕ) → 1 ≤ kind → kind ≤ 7 → (1 ≤ size_of kind) × (size_of kind ≤ 8)
unfolding size_of size-within
size_of_kind zero l h = absurd (omega arith)
size_of_kind (suc k) l h =
    let t : T (size-within (get_or sizes (suc k) 0)) = at size-within (1 ∷ 1 ∷ 2 ∷ 2 ∷ 4 ∷ 4 ∷ 8 ∷ []) 0 tt k (omega arith) in (
      leb→le 1 _ (both_left (leb 1 (get_or sizes (suc k) 0)) (leb (get_or sizes (suc k) 0) 8) t),
      leb→le _ 8 (both_right (leb 1 (get_or sizes (suc k) 0)) (leb (get_or sizes (suc k) 0) 8) t),
    )

pub kind_of_size : (kind : ℕ) → 1 ≤ size_of kind → (1 ≤ kind) × (kind ≤ 7)
unfolding size_of
kind_of_size zero h = absurd (omega arith)
kind_of_size (suc k) h = elim (dec_lt (suc k) 8) [
  | yes under ↦ (omega arith, omega arith)
  | no past ↦ absurd (omega (arith, get_or-eq_default sizes 0 {n = suc k} (omega arith)))
]

pub size-le : (kind : ℕ) → 1 ≤ size_of kind → size_of kind ≤ 8
size-le kind h =
    let k : (1 ≤ kind) × (kind ≤ 7) = kind_of_size kind h in
    (size_of_kind kind k.0 k.1).1

pub positive : (n : ℕ) → (n ≡ 0 → ⊥) → 0 < n
positive n h = omega arith

pub kind_positive : (kind : ℕ) → is_kind kind ≡ true → 0 < size_of kind
unfolding is_kind
kind_positive kind e = positive (size_of kind) (eqb-false (size_of kind) 0 (not-true (eqb (size_of kind) 0) e))

pub kind_known : (kind n : ℕ) → n ≡ size_of kind → (n ≡ 0 → ⊥) → is_kind kind ≡ true
unfolding is_kind
kind_known kind n e h = rw (← e, ne_eqb n 0 h)

pub kind_unknown : (kind n : ℕ) → n ≡ size_of kind → n ≡ 0 → is_kind kind ≡ false
unfolding is_kind
kind_unknown kind n e h = rw (← e, h)

-- ---- a signed value

-- so many bytes hold twice as many numbers as lie below the sign bit
pub power_half : (n : ℕ) → 0 < n → 2 ^ (8 * n) ≡ 2 * 2 ^ (8 * n - 1)
power_half n p =
    let one_more : 8 * n ≡ suc (8 * n - 1) = omega arith in
    ap (λ (k : ℕ). 2 ^ k) one_more ∙ twice (8 * n - 1)
  where
    twice : (k : ℕ) → 2 ^ suc k ≡ 2 * 2 ^ k
    twice k = omega arith

pub half_le : (n : ℕ) → n ≤ 8 → 2 ^ (8 * n - 1) ≤ 2 ^ 63
half_le n h = pow_mono {j = 63} (omega arith)

pub greatest_signed : (kind : ℕ) → is_signed kind ≡ true → greatest kind ≡ 2 ^ (8 * size_of kind - 1) - 1
unfolding greatest
greatest_signed kind e = rw e

pub greatest_unsigned : (kind : ℕ) → is_signed kind ≡ false → greatest kind ≡ 2 ^ (8 * size_of kind) - 1
unfolding greatest
greatest_unsigned kind e = rw e

pub value_unsigned : (b : Bool) (n v : ℕ) → b ≡ false → Natural v ≡ value_at b n v
unfolding value_at
value_unsigned b n v e = rw e

pub value_low : (b : Bool) (n v : ℕ) → b ≡ true → v < 2 ^ (8 * n - 1) → Natural v ≡ value_at b n v
unfolding value_at
value_low b n v e h = rw (e, lt-ltb _ _ h)

pub value_high : (b : Bool) (n v : ℕ) → b ≡ true → 2 ^ (8 * n - 1) ≤ v → Negative (2 ^ (8 * n) - 1 - v) ≡ value_at b n v
unfolding value_at
value_high b n v e h = rw (e, le-ltb _ _ h)

-- ---- a value and the number of its bytes are inverse, where the value can be held

pub stored_back : (b : Bool) (n : ℕ) (value : Value) → 0 < n → Holds b n value
    → (stored_at n value < 2 ^ (8 * n)) × (value_at b n (stored_at n value) ≡ value)
unfolding Holds stored_at
stored_back false n (Natural v) p h = (h, sym (value_unsigned false n v refl))
stored_back false n (Negative m) p h = absurd h
stored_back true n (Natural v) p h = (omega (arith, power_half n p), sym (value_low true n v refl h))
stored_back true n (Negative m) p h =
    let double : 2 ^ (8 * n) ≡ 2 * 2 ^ (8 * n - 1) = power_half n p in
    let back : 2 ^ (8 * n) - 1 - (2 ^ (8 * n) - 1 - m) ≡ m = omega arith in (
      omega (arith, pow_pos (8 * n)),
      sym (value_high true n (2 ^ (8 * n) - 1 - m) refl (omega arith)) ∙ ap Negative back,
    )

pub value_back : (b : Bool) (n v : ℕ) → 0 < n → v < 2 ^ (8 * n) → Holds b n (value_at b n v) × (stored_at n (value_at b n v) ≡ v)
unfolding Holds stored_at value_at
value_back false n v p h = (h, refl)
value_back true n v p h = elim (dec_lt v (2 ^ (8 * n - 1))) [
  | yes low ↦ rw (lt-ltb _ _ low) (low, refl)
  | no high ↦ let double : 2 ^ (8 * n) ≡ 2 * 2 ^ (8 * n - 1) = power_half n p in
      rw (le-ltb v (2 ^ (8 * n - 1)) (omega arith)) (omega arith, omega arith)
]

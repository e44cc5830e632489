-- One bit of a word, set or cleared, and the ones at a word's lower end.
-- Assumes nothing.
use mathlib.Core.Path.{◌≡◌, refl, sym, ap, ◌∙◌}
use mathlib.Core.Bool.{Bool, true, false, cond}
use mathlib.Core.Logic.{◌≢◌}
use Prim.Native.Nat.{ℕ, zero, suc, ◌+◌, ◌-◌, ◌*◌, ◌/◌, ◌%◌, ◌^◌, ◌≤◌, ◌<◌}
use native.Mathlib.Nat.{div_self, div-eq_of_lt, mul-mod_left, pow-suc, div-one, lt_of_le_of_lt}
use native.Mathlib.Decide.{dec_lt}
use native.Mathlib.Omega.{arith}
use lib.Count.{count_trailing_zeros, under}
use lib.Pow.{pow_pos, pow-lt, pow-add, shl-shr, shr-shr, shr_lt, shr_le}
use Rattle.values.proofs.Laws.{set-one, set_zero, clear_one, clear_zero}
use Rattle.values.specs.Values.{bit_at}
use Rattle.marks.specs.Marks.{changed_bit}

-- ---- a power of two has one bit

power_here : (k : ℕ) → bit_at (2 ^ k) k ≡ 1
power_here k = ap (λ (x : ℕ). x % 2) (div_self (pow_pos k))

power_below : (k i : ℕ) → i < k → bit_at (2 ^ k) i ≡ 0
power_below k i h =
    let parts : k ≡ suc (k - i - 1) + i = omega arith in
    rw parts
    (ap (λ (x : ℕ). x / 2 ^ i % 2) (pow-add 2 (suc (k - i - 1)) i) ∙ ap (λ (x : ℕ). x % 2) (shl-shr (2 ^ suc (k - i - 1)) i)
    ∙ ap (λ (x : ℕ). x % 2) (pow-suc 2 (k - i - 1)) ∙ mul-mod_left (2 ^ (k - i - 1)) 2)

power_other : (k i : ℕ) → i ≢ k → bit_at (2 ^ k) i ≡ 0
power_other k i n = elim (dec_lt i k) [
  | yes h ↦ power_below k i h
  | no h ↦ ap (λ (x : ℕ). x % 2) (div-eq_of_lt (pow-lt {i = k} {j = i} (omega (arith, n))))
]

-- ---- one bit set, or cleared, and every other as it was

pub changed_here : (word k : ℕ) (held : Bool) → k < 64 → bit_at (changed_bit word k held) k ≡ cond held 1 0
changed_here word k true h = set-one word (2 ^ k) k (power_here k)
changed_here word k false h = clear_one word (2 ^ k) k h (pow-lt {i = k} {j = 64} h) (power_here k)

pub changed_other : (word k : ℕ) (held : Bool) (i : ℕ) → k < 64 → i < 64 → i ≢ k → bit_at (changed_bit word k held) i ≡ bit_at word i
changed_other word k true i h l n = set_zero word (2 ^ k) i (power_other k i n)
changed_other word k false i h l n = clear_zero word (2 ^ k) i l (pow-lt {i = k} {j = 64} h) (power_other k i n)

-- ---- the ones at the lower end of a word of d bits: as many as its complement has zeros there

-- what is known of a count n of them: each is a one, and the bit behind them is none
abbrev pub Ones : ℕ → ℕ → ℕ → Type 0
Ones d word n = (n ≤ d) × ((i : ℕ) → i < n → bit_at word i ≡ 1) × (n < d → bit_at word n ≡ 0)

bit_up : (word i : ℕ) → bit_at (word / 2) i ≡ bit_at word (suc i)
bit_up word i = let one : suc i ≡ 1 + i = omega arith in rw one (ap (λ (x : ℕ). x % 2) (shr-shr word 1 i))

bit_lowest : (word : ℕ) → bit_at word 0 ≡ word % 2
bit_lowest word = ap (λ (x : ℕ). x % 2) (div-one word)

pub trailing_ones : (d word : ℕ) → word < 2 ^ d → Ones d word (count_trailing_zeros d (2 ^ d - 1 - word))
unfolding count_trailing_zeros
trailing_ones zero word h = (omega arith, λ i l. absurd (omega arith), λ l. absurd (omega arith))
trailing_ones (suc d) word h =
    let twice : 2 ^ suc d ≡ 2 ^ d * 2 = pow-suc 2 d in
    let half : word / 2 < 2 ^ d = omega (arith, twice) in
    let rest : (2 ^ suc d - 1 - word) / 2 ≡ 2 ^ d - 1 - word / 2 = omega (arith, twice) in
    go ((2 ^ suc d - 1 - word) % 2) refl (rw (← rest) at (trailing_ones d (word / 2) half)) (omega (arith, twice))
  where
    go : (b : ℕ) → (2 ^ suc d - 1 - word) % 2 ≡ b → Ones d (word / 2) (count_trailing_zeros d ((2 ^ suc d - 1 - word) / 2))
        → (2 ^ suc d - 1 - word) % 2 + word % 2 ≡ 1 → Ones (suc d) word (under b (count_trailing_zeros d ((2 ^ suc d - 1 - word) / 2)))
    go zero e ones sum = (
      omega (arith, ones.0),
      λ i. elim i as (λ n. n < under zero (count_trailing_zeros d ((2 ^ suc d - 1 - word) / 2)) → bit_at word n ≡ 1) [ zero ↦ λ l. bit_lowest word ∙ omega arith | suc j ↦ λ l. sym (bit_up word j) ∙ ones.1 j (omega arith) ],
      λ l. sym (bit_up word _) ∙ ones.2 (omega arith),
    )
    go (suc b) e ones sum = (omega arith, λ i l. absurd (omega arith), λ l. bit_lowest word ∙ omega arith)

-- a word that was moved down
pub bit_moved : (word k i : ℕ) → bit_at (word / 2 ^ k) i ≡ bit_at word (k + i)
bit_moved word k i = ap (λ (x : ℕ). x % 2) (shr-shr word k i)

-- has no ones beyond what is left of it
none_beyond : (word d : ℕ) → word < 2 ^ d → bit_at word d ≡ 0
none_beyond word d h = ap (λ (x : ℕ). x % 2) (div-eq_of_lt h)

-- so the ones at its lower end are all within that
pub ones_left : (d k n word : ℕ) → d + k ≡ n → word < 2 ^ n → Ones d (word / 2 ^ k) (count_trailing_zeros n (2 ^ n - 1 - word / 2 ^ k))
ones_left d k n word e h =
    let left : word / 2 ^ k < 2 ^ d = shr_lt {n = word} d k (rw e h) in
    let ones : Ones n (word / 2 ^ k) (count_trailing_zeros n (2 ^ n - 1 - word / 2 ^ k)) = trailing_ones n (word / 2 ^ k) (lt_of_le_of_lt (shr_le word k) h) in
    go (count_trailing_zeros n (2 ^ n - 1 - word / 2 ^ k)) ones (none_beyond (word / 2 ^ k) d left)
  where
    go : (m : ℕ) → Ones n (word / 2 ^ k) m → bit_at (word / 2 ^ k) d ≡ 0 → Ones d (word / 2 ^ k) m
    go m ones none = elim (dec_lt d m) [
      | yes over ↦ absurd (omega (arith, ones.1 d over, none))
      | no within ↦ (omega arith, ones.1, λ l. ones.2 (omega (arith, e)))
    ]

-- The least power of x that leaves 1, but for x^0, is the 32767th: computed over all of them, in plain numbers.
-- Assumes nothing.
use mathlib.Core.Path.{◌≡◌, refl, sym, ap, ◌∙◌}
use mathlib.Core.Logic.{◌≢◌}
use mathlib.Core.Bool.{Bool, true, false, not, cond, ◌&&◌}
use Prim.Native.Nat.{ℕ, zero, suc, ◌+◌, ◌-◌, ◌*◌, ◌/◌, ◌%◌, ◌^◌, ◌<◌}
use native.Mathlib.Nat.{one-mul}
use native.Mathlib.Omega.{arith}
use borrow.Author.Tests.{ltb-false, eqb-true}
use lib.Bits.{bit_and, and_high, xor_add_and}
use lib.Dec.{ltb, eqb}
use lib.Pow.{high_ones}
use Rattle.rows.proofs.Laws.{decides_eq, decides_not, decides_and, decides_set}
use Rattle.remainder.specs.Remainder.{◌⊕◌, times_x, times_xs}
use Rattle.remainder.proofs.Sum.{sum_assoc}
use Rattle.remainder.proofs.Division.{leaves_self, leaves_times_x, divisor_taken}

-- ---- x times a remainder, in plain numbers, which antt works out quicker than digit by digit

-- with the digit k turned over
abbrev turned : ℕ → ℕ → ℕ
turned k n = n + 2 ^ k - n / 2 ^ k % 2 * 2 ^ k * 2

turned_is : (k n : ℕ) → n ⊕ 2 ^ k ≡ turned k n
turned_is k n =
    let there : bit_and n (2 ^ k) ≡ n / 2 ^ k % 2 * 2 ^ k = ap (bit_and n) (sym (one-mul (2 ^ k)) ∙ sym (high_ones 1 k)) ∙ and_high n 1 k in
    omega (arith, xor_add_and n (2 ^ k))

-- with the digits 12, 5 and 0 turned over
abbrev thrice : ℕ → ℕ
thrice n = turned 0 (turned 5 (turned 12 n))

thrice_is : (n : ℕ) → n ⊕ (2 ^ 12 + 2 ^ 5 + 1) ≡ thrice n
thrice_is n =
    sym (sum_assoc n 4128 1) ∙ ap (λ (x : ℕ). x ⊕ 1) (sym (sum_assoc n 4096 32))
    ∙ ap (λ (x : ℕ). x ⊕ 32 ⊕ 1) (turned_is 12 n) ∙ ap (λ (x : ℕ). x ⊕ 1) (turned_is 5 (turned 12 n)) ∙ turned_is 0 (turned 5 (turned 12 n))

abbrev stepped : Bool → ℕ → ℕ
stepped true s = s * 2
stepped false s = thrice ((s - 2 ^ 15) * 2)

abbrev step : ℕ → ℕ
step s = stepped (ltb s (2 ^ 15)) s

step_is : (s : ℕ) → s < 2 ^ 16 → step s ≡ times_x s
unfolding times_x
step_is s h = go (ltb s (2 ^ 15)) refl
  where
    go : (t : Bool) → ltb s (2 ^ 15) ≡ t → stepped t s ≡ cond t (s * 2) (s * 2 ⊕ 69665)
    go true e = refl
    go false e = sym (divisor_taken s (ltb-false s (2 ^ 15) e) h ∙ thrice_is ((s - 2 ^ 15) * 2))

-- ---- all powers

-- x^n times s leaves 1, and no lower power of x does
abbrev only_after : ℕ → ℕ → Bool
only_after zero s = eqb s 1
only_after (suc n) s = not (eqb s 1) && only_after n (step s)

walked : (n s : ℕ) → s < 2 ^ 16 → only_after n s ≡ true → (times_xs n s ≡ 1) × ((d : ℕ) → d < n → times_xs d s ≢ 1)
unfolding times_xs
walked zero s h e = (eqb-true s 1 e, λ d l. absurd (omega arith))
walked (suc n) s h e =
    let both = (decides_and (decides_not (decides_eq s 1)) (decides_set (only_after n (step s)))).so e in
    let rest = walked n (times_x s) (leaves_times_x (leaves_self s h)).under (rw (step_is s h) at both.1) in
    (rest.0, later both.0 rest.1)
  where
    later : s ≢ 1 → ((d : ℕ) → d < n → times_xs d (times_x s) ≢ 1) → (d : ℕ) → d < suc n → times_xs d s ≢ 1
    later first rest zero l = first
    later first rest (suc d) l = rest d (omega arith)

-- from x itself on, the walk computed
from-x : (times_xs 32766 2 ≡ 1) × ((d : ℕ) → d < 32766 → times_xs d 2 ≢ 1)
from-x = walked 32766 2 (omega arith) refl

one_more : (n : ℕ) → times_xs (suc n) 1 ≡ times_xs n 2
unfolding times_xs times_x
one_more n = refl

-- 02, #111: "in exactly two bits, anywhere": two bits are seen unless x to their distance leaves 1. x^32767 does,
pub order_32767 : times_xs 32767 1 ≡ 1
order_32767 = one_more 32766 ∙ from-x.0

-- and no lower power but x^0
pub order_least : (d : ℕ) → 0 < d → d < 32767 → times_xs d 1 ≢ 1
order_least zero pos l e = omega arith
order_least (suc d) pos l e = from-x.1 d (omega arith) (sym (one_more d) ∙ e)

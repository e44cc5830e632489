-- The sum of polynomials: what `lib.Bits` leaves to be said of the exclusive or.
-- Assumes nothing.
use mathlib.Core.Path.{◌≡◌, refl, sym, ap, ap₂, ◌∙◌}
use mathlib.Core.Logic.{◌≢◌}
use Prim.Native.Nat.{ℕ, zero, suc, ◌+◌, ◌*◌, ◌/◌, ◌%◌, ◌^◌, ◌<◌}
use native.Mathlib.Nat.{div-add-mod', add-zero}
use native.Mathlib.Omega.{arith}
use lib.Arith.{bin_ind}
use lib.Bits.{bit_xor, xor_shr, xor_mod, xor_block, xor_comm, xor_self, xor_zero_r, xor_lt}
use lib.Pow.{pow_pos}
use Rattle.remainder.specs.Remainder.{◌⊕◌}

-- the sum goes by the lowest digit and the rest
halves : (a b : ℕ) → a ⊕ b ≡ (a / 2 ⊕ b / 2) * 2 + (a % 2 ⊕ b % 2)
halves a b = sym (div-add-mod' (a ⊕ b) 2) ∙ ap₂ (λ (x y : ℕ). x * 2 + y) (xor_shr a b 1) (xor_mod a b 1)

digit_assoc : (x y z : ℕ) → x < 2 → y < 2 → z < 2 → x ⊕ y ⊕ z ≡ x ⊕ (y ⊕ z)
digit_assoc zero y z hx hy hz = refl
digit_assoc (suc zero) zero z hx hy hz = refl
digit_assoc (suc zero) (suc zero) zero hx hy hz = refl
digit_assoc (suc zero) (suc zero) (suc zero) hx hy hz = refl
digit_assoc (suc zero) (suc zero) (suc (suc z)) hx hy hz = absurd (omega arith)
digit_assoc (suc zero) (suc (suc y)) z hx hy hz = absurd (omega arith)
digit_assoc (suc (suc x)) y z hx hy hz = absurd (omega arith)

pub sum_assoc : (a b c : ℕ) → a ⊕ b ⊕ c ≡ a ⊕ (b ⊕ c)
sum_assoc a =
    bin_ind (λ (n : ℕ). (b c : ℕ) → n ⊕ b ⊕ c ≡ n ⊕ (b ⊕ c)) (λ b c. refl)
    (λ n ih b c. halves (n ⊕ b) c
    ∙ ap₂ (λ (x y : ℕ). (x ⊕ c / 2) * 2 + (y ⊕ c % 2)) (xor_shr n b 1) (xor_mod n b 1)
    ∙ ap₂ (λ (x y : ℕ). x * 2 + y) (ih (b / 2) (c / 2))
    (digit_assoc (n % 2) (b % 2) (c % 2) (omega arith) (omega arith) (omega arith))
    ∙ sym (halves n (b ⊕ c) ∙ ap₂ (λ (x y : ℕ). (n / 2 ⊕ x) * 2 + (n % 2 ⊕ y)) (xor_shr b c 1) (xor_mod b c 1)))
    a

-- the second of two sums cancels
pub sum_cancel : (a b : ℕ) → a ⊕ b ⊕ b ≡ a
sum_cancel a b = sum_assoc a b b ∙ ap (λ (x : ℕ). a ⊕ x) (xor_self b) ∙ xor_zero_r a

pub sum-zero : (a b : ℕ) → a ⊕ b ≡ 0 → a ≡ b
sum-zero a b e = sym (sum_cancel a b) ∙ ap (λ (x : ℕ). x ⊕ b) e

-- two sums of two, paired the other way
pub sum_exchange : (a b c d : ℕ) → a ⊕ b ⊕ (c ⊕ d) ≡ a ⊕ c ⊕ (b ⊕ d)
sum_exchange a b c d =
    sum_assoc a b (c ⊕ d)
    ∙ ap (λ (x : ℕ). a ⊕ x) (sym (sum_assoc b c d) ∙ ap (λ (x : ℕ). x ⊕ d) (xor_comm b c) ∙ sum_assoc c b d)
    ∙ sym (sum_assoc a c (b ⊕ d))

-- x^k times a sum
pub sum_shift : (k a b : ℕ) → (a ⊕ b) * 2 ^ k ≡ a * 2 ^ k ⊕ b * 2 ^ k
sum_shift k a b =
    sym (add-zero ((a ⊕ b) * 2 ^ k))
    ∙ sym (xor_block k a b 0 0 (pow_pos k) (pow_pos k))
    ∙ ap₂ bit_xor (add-zero (a * 2 ^ k)) (add-zero (b * 2 ^ k))

-- two digits that differ
pub unlike_digits : (c d : ℕ) → c < 2 → d < 2 → c ≢ d → c ⊕ d ≡ 1
unlike_digits c d hc hd n =
    let under : c ⊕ d < 2 = xor_lt 1 c d hc hd in
    let some : c ⊕ d ≢ 0 = λ e. n (sum-zero c d e) in
    omega arith

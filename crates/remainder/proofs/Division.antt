-- Division by x^16 + x^12 + x^5 + 1: what a polynomial leaves is one number, and how sums and multiples go with it.
-- Assumes nothing.
use mathlib.Core.Path.{◌≡◌, refl, sym, ap, ap₂, ◌∙◌}
use mathlib.Core.Logic.{⊎_elim}
use mathlib.Core.Bool.{Bool, true, false, cond}
use Prim.Native.Nat.{ℕ, zero, suc, ◌+◌, ◌-◌, ◌*◌, ◌/◌, ◌%◌, ◌^◌, ◌≤◌, ◌<◌}
use native.Mathlib.Nat.{div-add-mod', mul_right_comm, mul_assoc, mul-one, pow-suc, div-eq_of_lt, le-div_iff_mul-le, one-mul, eq-zero-or-pos, eq_of_mul-eq-mul_right, zero-lt-suc}
use native.Mathlib.Omega.{arith}
use borrow.Author.Tests.{ltb-true, ltb-false}
use lib.Arith.{bin_ind}
use lib.Bits.{bit_xor, xor_shr, xor_mod, xor_block, xor_self, xor_zero_r, xor_lt, xor_shifted}
use lib.Dec.{ltb}
use lib.Pow.{pow_pos}
use Rattle.remainder.specs.Remainder.{◌⊕◌, times_divisor, Leaves, times_x, times_xs}
use Rattle.remainder.proofs.Sum.{sum-zero, sum_exchange, sum_shift}

-- ---- multiples of the divisor

pub multiple_sum : (p q : ℕ) → times_divisor (p ⊕ q) ≡ times_divisor p ⊕ times_divisor q
unfolding times_divisor
multiple_sum p q =
    cc (
      sum_shift 16 p q,
      sum_shift 12 p q,
      sum_shift 5 p q,
      sum_exchange (p * 2 ^ 16) (q * 2 ^ 16) (p * 2 ^ 12) (q * 2 ^ 12),
      sum_exchange (p * 2 ^ 16 ⊕ p * 2 ^ 12) (q * 2 ^ 16 ⊕ q * 2 ^ 12) (p * 2 ^ 5) (q * 2 ^ 5),
      sum_exchange (p * 2 ^ 16 ⊕ p * 2 ^ 12 ⊕ p * 2 ^ 5) (q * 2 ^ 16 ⊕ q * 2 ^ 12 ⊕ q * 2 ^ 5) p q,
    )

multiple_twice : (q : ℕ) → times_divisor (q * 2) ≡ times_divisor q * 2
unfolding times_divisor
multiple_twice q =
    cc (
      mul_right_comm q 2 (2 ^ 16),
      mul_right_comm q 2 (2 ^ 12),
      mul_right_comm q 2 (2 ^ 5),
      sum_shift 1 (q * 2 ^ 16) (q * 2 ^ 12),
      sum_shift 1 (q * 2 ^ 16 ⊕ q * 2 ^ 12) (q * 2 ^ 5),
      sum_shift 1 (q * 2 ^ 16 ⊕ q * 2 ^ 12 ⊕ q * 2 ^ 5) q,
    )

-- a number as the sum of its lowest digit and the rest
split_low : (q : ℕ) → q ≡ q / 2 * 2 ⊕ q % 2
split_low q = sym (xor_shifted (q / 2) 1 (q % 2) (omega arith) ∙ div-add-mod' q 2)

multiple_halves : (q : ℕ) → times_divisor q ≡ times_divisor (q / 2) * 2 ⊕ times_divisor (q % 2)
multiple_halves q =
    ap times_divisor (split_low q) ∙ multiple_sum (q / 2 * 2) (q % 2)
    ∙ ap (λ (x : ℕ). x ⊕ times_divisor (q % 2)) (multiple_twice (q / 2))

digit_multiple : (d : ℕ) → d < 2 → times_divisor d ≡ d * 69665
unfolding times_divisor
digit_multiple zero h = refl
digit_multiple (suc zero) h = refl
digit_multiple (suc (suc d)) h = absurd (omega arith)

-- digits above the k lowest are not touched by a number that has only those
above_kept : (k a b : ℕ) → 2 ^ k ≤ a → b < 2 ^ k → 2 ^ k ≤ a ⊕ b
above_kept k a b ha hb =
    let high : (a ⊕ b) / 2 ^ k ≡ a / 2 ^ k = xor_shr a b k ∙ ap (λ (x : ℕ). a / 2 ^ k ⊕ x) (div-eq_of_lt hb) ∙ xor_zero_r (a / 2 ^ k) in
    let one : 1 ≤ a / 2 ^ k = (le-div_iff_mul-le (pow_pos k)).1 (rw one-mul ha) in
    rw one-mul at ((le-div_iff_mul-le {k = 2 ^ k} {x = 1} {y = a ⊕ b} (pow_pos k)).0 (rw high one))

-- only 0 times the divisor has under 16 bits
multiple_large : (q : ℕ) → 0 < q → 2 ^ 16 ≤ times_divisor q
multiple_large =
    bin_ind (λ (n : ℕ). 0 < n → 2 ^ 16 ≤ times_divisor n) (λ h. absurd (omega arith))
    (λ n ih h. ⊎_elim
    (λ z. let one : n ≡ 1 = omega arith in rw one (rw (digit_multiple 1 (omega arith)) (omega arith)))
    (λ pos.
    let large : 2 ^ 16 ≤ times_divisor (n / 2) = ih pos in
    let small : times_divisor (n % 2) < 2 ^ 17 = rw (digit_multiple (n % 2) (omega arith)) (omega arith) in
    let kept : 2 ^ 17 ≤ times_divisor (n / 2) * 2 ⊕ times_divisor (n % 2) = above_kept 17 (times_divisor (n / 2) * 2) (times_divisor (n % 2)) (omega arith) small in
    rw (multiple_halves n) (omega arith))
    (eq-zero-or-pos (n / 2)))

-- ---- what is left

-- only one number is left
pub leaves_one : {p r s : ℕ} → Leaves p r → Leaves p s → r ≡ s
leaves_one {p} {r} {s} a b = sum-zero r s (⊎_elim nothing (λ pos. absurd (too_large pos)) (eq-zero-or-pos q))
  where
    q : ℕ
    q = a.quotient ⊕ b.quotient

    both : times_divisor q ≡ r ⊕ s
    both =
        multiple_sum a.quotient b.quotient
        ∙ sum-zero (times_divisor a.quotient ⊕ times_divisor b.quotient) (r ⊕ s)
        (sum_exchange (times_divisor a.quotient) (times_divisor b.quotient) r s
        ∙ ap₂ bit_xor (sym a.divided) (sym b.divided) ∙ xor_self p)

    nothing : q ≡ 0 → r ⊕ s ≡ 0
    nothing e = sym both ∙ ap times_divisor e ∙ digit_multiple 0 (omega arith)

    too_large : 0 < q → ⊥
    too_large pos =
        let h : 2 ^ 16 ≤ times_divisor q = multiple_large q pos in
        let l : r ⊕ s < 2 ^ 16 = xor_lt 16 r s a.under b.under in
        omega (arith, both)

pub leaves_self : (r : ℕ) → r < 2 ^ 16 → Leaves r r
leaves_self r h = record { quotient = 0; divided = sym (ap (λ (x : ℕ). x ⊕ r) (digit_multiple 0 (omega arith))); under = h }

pub leaves_sum : {p q r s : ℕ} → Leaves p r → Leaves q s → Leaves (p ⊕ q) (r ⊕ s)
leaves_sum {p} {q} {r} {s} a b =
    record {
      quotient = a.quotient ⊕ b.quotient;
      divided =
          ap₂ bit_xor a.divided b.divided
          ∙ sum_exchange (times_divisor a.quotient) r (times_divisor b.quotient) s
          ∙ ap (λ (x : ℕ). x ⊕ (r ⊕ s)) (sym (multiple_sum a.quotient b.quotient));
      under = xor_lt 16 r s a.under b.under;
    }

-- x times the divisor's highest term is taken away with the divisor itself: the sum in 16 bits
pub divisor_taken : (s : ℕ) → 2 ^ 15 ≤ s → s < 2 ^ 16 → s * 2 ⊕ (2 ^ 16 + 2 ^ 12 + 2 ^ 5 + 1) ≡ (s - 2 ^ 15) * 2 ⊕ 4129
divisor_taken s lo hi =
    let e : s * 2 ≡ 1 * 2 ^ 16 + (s - 2 ^ 15) * 2 = omega arith in
    ap (λ (x : ℕ). x ⊕ 69665) e ∙ xor_block 16 1 1 ((s - 2 ^ 15) * 2) 4129 (omega arith) (omega arith)
    ∙ add_zero_left ((s - 2 ^ 15) * 2 ⊕ 4129)
  where
    add_zero_left : (x : ℕ) → 0 + x ≡ x
    add_zero_left x = omega arith

leaves_low : {p r : ℕ} → Leaves p r → r < 2 ^ 15 → Leaves (p * 2) (r * 2)
leaves_low {p} {r} a h =
    record {
      quotient = a.quotient * 2;
      divided =
          ap (λ (x : ℕ). x * 2) a.divided ∙ sum_shift 1 (times_divisor a.quotient) r
          ∙ ap (λ (x : ℕ). x ⊕ r * 2) (sym (multiple_twice a.quotient));
      under = omega arith;
    }

leaves_high : {p r : ℕ} → Leaves p r → 2 ^ 15 ≤ r → Leaves (p * 2) (r * 2 ⊕ 69665)
leaves_high {p} {r} a h =
    record {
      quotient = a.quotient * 2 ⊕ 1;
      divided =
          ap (λ (x : ℕ). x * 2) a.divided ∙ sum_shift 1 (times_divisor a.quotient) r
          ∙ ap (λ (x : ℕ). x ⊕ r * 2) (sym (multiple_twice a.quotient))
          ∙ sym (ap (λ (x : ℕ). x ⊕ (r * 2 ⊕ 69665)) (multiple_sum (a.quotient * 2) 1)
          ∙ ap (λ (x : ℕ). times_divisor (a.quotient * 2) ⊕ x ⊕ (r * 2 ⊕ 69665)) (digit_multiple 1 (omega arith))
          ∙ sum_exchange (times_divisor (a.quotient * 2)) 69665 (r * 2) 69665
          ∙ xor_zero_r (times_divisor (a.quotient * 2) ⊕ r * 2));
      under = rw (divisor_taken r h a.under) (xor_lt 16 ((r - 2 ^ 15) * 2) 4129 (omega (arith, a.under)) (omega arith));
    }

pub leaves_times_x : {p r : ℕ} → Leaves p r → Leaves (p * 2) (times_x r)
unfolding times_x
leaves_times_x {p} {r} a = go (ltb r (2 ^ 15)) refl
  where
    go : (t : Bool) → ltb r (2 ^ 15) ≡ t → Leaves (p * 2) (cond t (r * 2) (r * 2 ⊕ 69665))
    go true e = leaves_low a (ltb-true r (2 ^ 15) e)
    go false e = leaves_high a (ltb-false r (2 ^ 15) e)

pub shift_suc : (p k : ℕ) → p * 2 ^ suc k ≡ p * 2 ^ k * 2
shift_suc p k = ap (λ (x : ℕ). p * x) (pow-suc 2 k) ∙ sym (mul_assoc p (2 ^ k) 2)

pub leaves_times_xs : (n : ℕ) {p r : ℕ} → Leaves p r → Leaves (p * 2 ^ n) (times_xs n r)
unfolding times_xs
leaves_times_xs zero {p} {r} a = rw (mul-one p) a
leaves_times_xs (suc n) {p} {r} a = rw (shift_suc p n ∙ mul_right_comm p (2 ^ n) 2) (leaves_times_xs n (leaves_times_x a))

-- the divisor has an odd end, so what it divides it divides without the factor x too
unshift : {p : ℕ} → Leaves (p * 2) 0 → Leaves p 0
unshift {p} a =
    record {
      quotient = q / 2;
      divided = eq_of_mul-eq-mul_right 2 (zero-lt-suc 1) p (times_divisor (q / 2) ⊕ 0) (whole ∙ ap (λ (x : ℕ). x * 2) (sym (xor_zero_r (times_divisor (q / 2)))));
      under = omega arith;
    }
  where
    q : ℕ
    q = a.quotient

    split : p * 2 ≡ times_divisor (q / 2) * 2 ⊕ q % 2 * 69665
    split =
        a.divided ∙ xor_zero_r (times_divisor q) ∙ multiple_halves q
        ∙ ap (λ (x : ℕ). times_divisor (q / 2) * 2 ⊕ x) (digit_multiple (q % 2) (omega arith))

    even : q % 2 ≡ 0
    even =
        let low : (times_divisor (q / 2) * 2 ⊕ q % 2 * 69665) % 2 ≡ (times_divisor (q / 2) * 2 % 2 ⊕ q % 2 * 69665 % 2) = xor_mod (times_divisor (q / 2) * 2) (q % 2 * 69665) 1 in
        let zeros : times_divisor (q / 2) * 2 % 2 ≡ 0 = omega arith in
        let digit : q % 2 * 69665 % 2 ≡ q % 2 = omega arith in
        let both : p * 2 % 2 ≡ q % 2 = ap (λ (x : ℕ). x % 2) split ∙ low ∙ ap₂ bit_xor zeros digit in
        omega (arith, both)

    whole : p * 2 ≡ times_divisor (q / 2) * 2
    whole = split ∙ ap (λ (x : ℕ). times_divisor (q / 2) * 2 ⊕ x * 69665) even ∙ xor_zero_r (times_divisor (q / 2) * 2)

pub unshifts : (k : ℕ) {p : ℕ} → Leaves (p * 2 ^ k) 0 → Leaves p 0
unshifts zero {p} a = rw (mul-one p) at a
unshifts (suc k) {p} a = unshifts k (unshift (rw (shift_suc p k) at a))

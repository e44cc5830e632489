-- Bits with an odd number of ones have a remainder other than 0: x + 1 divides x^16 + x^12 + x^5 + 1, so every multiple of it has an even number.
-- Assumes nothing.
use mathlib.Core.Path.{◌≡◌, refl, sym, ap, ap₂, ◌∙◌}
use mathlib.Core.Logic.{◌≢◌}
use mathlib.Core.List.{List, [], ◌∷◌}
use Prim.Native.Nat.{ℕ, zero, suc, ◌+◌, ◌*◌, ◌%◌, ◌^◌, ◌≤◌, ◌<◌}
use native.Mathlib.Nat.{mul-one}
use native.Mathlib.Omega.{arith}
use lib.Bits.{bit_xor, bit_and, xor_add_and, xor_comm, xor_self, xor_shifted, xor_zero_r}
use lib.ListN.{length}
use Rattle.remainder.specs.Remainder.{◌⊕◌, bits, polynomial, times_divisor, Leaves, remainder_of}
use Rattle.remainder.proofs.Sum.{sum_cancel, sum-zero, sum_exchange, sum_shift}
use Rattle.remainder.proofs.Division.{shift_suc, unshifts}
use Rattle.remainder.proofs.Bytes.{Digits, polynomial_lt, digits_bits}
use Rattle.remainder.proofs.Laws.{is_remainder}

-- how many of these bits are ones
unfoldable pub ones : List ℕ → ℕ
ones [] = 0
ones (c ∷ cs) = c + ones cs

-- ---- division by x + 1

-- p divided by x + 1 leaves r
record Left (p r : ℕ) : Type 0 where
  share : ℕ
  shared : p ≡ share * 2 ⊕ share ⊕ r

left_self : (r : ℕ) → Left r r
left_self r = record { share = 0; shared = refl }

left_sum : {p q r s : ℕ} → Left p r → Left q s → Left (p ⊕ q) (r ⊕ s)
left_sum {p} {q} {r} {s} a b =
    record {
      share = a.share ⊕ b.share;
      shared =
          ap₂ bit_xor a.shared b.shared
          ∙ sum_exchange (a.share * 2 ⊕ a.share) r (b.share * 2 ⊕ b.share) s
          ∙ ap (λ (x : ℕ). x ⊕ (r ⊕ s)) (sum_exchange (a.share * 2) a.share (b.share * 2) b.share)
          ∙ ap (λ (x : ℕ). x ⊕ (a.share ⊕ b.share) ⊕ (r ⊕ s)) (sym (sum_shift 1 a.share b.share));
    }

-- x times a polynomial leaves what the polynomial leaves
left_twice : {p r : ℕ} → Left p r → Left (p * 2) r
left_twice {p} {r} a =
    let multiple : Left (p * 2 ⊕ p) 0 = record { share = p; shared = sym (xor_zero_r (p * 2 ⊕ p)) } in
    let both : Left (p * 2 ⊕ p ⊕ p) r = left_sum multiple a in
    rw (sum_cancel (p * 2) p) at both

left_shift : (k : ℕ) {p r : ℕ} → Left p r → Left (p * 2 ^ k) r
left_shift zero {p} a = rw (mul-one p) a
left_shift (suc k) {p} a = rw (shift_suc p k) (left_twice (left_shift k a))

-- the divisor has four terms
left_multiple : (q : ℕ) → Left (times_divisor q) 0
unfolding times_divisor
left_multiple q =
    let self : Left q q = left_self q in
    let terms : Left (q * 2 ^ 16 ⊕ q * 2 ^ 12 ⊕ q * 2 ^ 5 ⊕ q) (q ⊕ q ⊕ q ⊕ q) =
    left_sum (left_sum (left_sum (left_shift 16 self) (left_shift 12 self)) (left_shift 5 self)) self in
    let even : q ⊕ q ⊕ q ⊕ q ≡ 0 = ap (λ (x : ℕ). x ⊕ q) (sum_cancel q q) ∙ xor_self q in
    rw even at terms

left_divided : {p : ℕ} → Leaves p 0 → Left p 0
left_divided {p} a =
    let multiple : Left (times_divisor a.quotient ⊕ 0) 0 = left_sum (left_multiple a.quotient) (left_self 0) in
    rw (← a.divided) at multiple

-- only one digit is left
no_share : (e : ℕ) → e * 2 ⊕ e ≡ 1 → ⊥
no_share e h =
    let back : e * 2 ≡ e ⊕ 1 = sym (sum_cancel (e * 2) e) ∙ ap (λ (x : ℕ). x ⊕ e) h ∙ xor_comm 1 e in
    let most : (e ⊕ 1) + bit_and e 1 * 2 ≡ e + 1 = xor_add_and e 1 in
    small e (omega arith) h
  where
    small : (e : ℕ) → e ≤ 1 → e * 2 ⊕ e ≡ 1 → ⊥
    small zero l z = omega arith
    small (suc zero) l z = omega arith
    small (suc (suc e)) l _ = omega arith

left_one : {p : ℕ} → Left p 0 → Left p 1 → ⊥
left_one {p} a b =
    let both : Left (p ⊕ p) 1 = left_sum a b in
    let e : ℕ = both.share in
    no_share e (sum-zero (e * 2 ⊕ e) 1 (sym both.shared ∙ xor_self p))

-- ---- the ones of a polynomial

counted : (c n : ℕ) → c < 2 → c ⊕ n % 2 ≡ (c + n) % 2
counted zero n h = omega arith
counted (suc zero) n h = flipped (n % 2) refl
  where
    flipped : (x : ℕ) → x ≡ n % 2 → 1 ⊕ x ≡ (1 + n) % 2
    flipped zero e = omega arith
    flipped (suc zero) e = omega arith
    flipped (suc (suc x)) e = absurd (omega arith)
counted (suc (suc c)) n h = absurd (omega arith)

left_bits : (cs : List ℕ) → Digits cs → Left (polynomial cs) (ones cs % 2)
unfolding polynomial ones
left_bits [] d = left_self 0
left_bits (c ∷ cs) d =
    let more : Digits cs = λ i. d (suc i) in
    let apart : c * 2 ^ length cs ⊕ polynomial cs ≡ c * 2 ^ length cs + polynomial cs = xor_shifted c (length cs) (polynomial cs) (polynomial_lt cs more) in
    let both : Left (c * 2 ^ length cs ⊕ polynomial cs) (c ⊕ ones cs % 2) = left_sum (left_shift (length cs) (left_self c)) (left_bits cs more) in
    rw (apart, counted c (ones cs) (d 0)) at both

-- 02, #111: "in an odd number of bits": an odd number of ones is seen
pub parity_seen : (es : List ℕ) → ones (bits es) % 2 ≡ 1 → remainder_of es ≢ 0
parity_seen es odd none =
    left_one (left_divided (unshifts 16 (rw none at (is_remainder es)))) (rw odd at (left_bits (bits es) (digits_bits es)))

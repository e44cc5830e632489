-- What is promised of the remainder, each law under the sentence that it keeps: M is the mission's, 01 the specification's.
-- Assumes nothing.
use mathlib.Core.Path.{◌≡◌, refl, sym, ap, ap₂, ◌∙◌}
use mathlib.Core.Logic.{◌≢◌, ◌↔◌}
use mathlib.Core.List.{List, [], ◌∷◌, ◌++◌}
use Prim.Native.Nat.{ℕ, zero, suc, ◌+◌, ◌*◌, ◌/◌, ◌%◌, ◌^◌, ◌≤◌, ◌<◌}
use native.Mathlib.Nat.{mul-suc, mul_assoc, lt_of_lt_of_le}
use native.Mathlib.Omega.{arith}
use native.Mathlib.Decide.{dec_lt}
use lib.Bits.{bit_xor, xor_shifted, xor_self}
use lib.ListN.{length, get_or, take, drop, take-append-drop, length-take, get_or-eq_default}
use lib.Pow.{pow-add, pow_mono}
use lib.Seq.{get_or-take, get_or-drop}
use Rattle.rows.proofs.Settled.{settled}
use Rattle.rows.specs.Settled.{Settled}
use Rattle.remainder.specs.Remainder.{◌⊕◌, bits, polynomial, times_divisor, Leaves, IsRemainder, times_xs, with_byte, with_bytes, remainder_of, times_x, combined}
use Rattle.remainder.specs.Remainder.{Burst, DifferAt, AlteredNearby, Remains}
use Rattle.remainder.proofs.Sum.{sum-zero, sum_shift, unlike_digits}
use Rattle.remainder.proofs.Division.{leaves_one, leaves_self, leaves_sum, leaves_times_xs, unshifts}
use Rattle.remainder.proofs.Bytes.{Digits, polynomial_append, polynomial_lt, polynomial_none, polynomial_zeros, length-bits}
use Rattle.remainder.proofs.Bytes.{digits_bits, number, number_cons, number_append, bits_combined, at_combined, number_combined}

-- ---- 01: "Remainder: the bits of all bytes before it, each byte highest bit first, as a polynomial times x^16, divided modulo 2 by
-- x^16 + x^12 + x^5 + 1. It starts from 0, and the empty string has 0."

pub divisor_is : times_divisor 1 ≡ 2 ^ 16 + 2 ^ 12 + 2 ^ 5 + 1
unfolding times_divisor
divisor_is = refl

with_byte_leaves : (a b : ℕ) {s : ℕ} → Leaves (a * 2 ^ 16) s → Leaves ((a * 256 + b % 256) * 2 ^ 16) (with_byte s b)
unfolding with_byte
with_byte_leaves a b {s} h =
    let byte : b % 256 * 2 ^ 8 < 2 ^ 16 = omega arith in
    let sum : Leaves (a * 2 ^ 16 ⊕ b % 256 * 2 ^ 8) (s ⊕ b % 256 * 2 ^ 8) = leaves_sum h (leaves_self (b % 256 * 2 ^ 8) byte) in
    let same : (a * 2 ^ 16 ⊕ b % 256 * 2 ^ 8) * 2 ^ 8 ≡ (a * 256 + b % 256) * 2 ^ 16 =
    ap (λ (x : ℕ). x * 2 ^ 8) (xor_shifted a 16 (b % 256 * 2 ^ 8) byte) ∙ regroup a (b % 256) in
    rw same at (leaves_times_xs 8 sum)
  where
    regroup : (x y : ℕ) → (x * 65536 + y * 256) * 256 ≡ (x * 256 + y) * 65536
    regroup x y = omega arith

with_bytes_leave : (a s : ℕ) → Leaves (a * 2 ^ 16) s → (xs : List ℕ) → Leaves ((a * 2 ^ (8 * length xs) + number xs) * 2 ^ 16) (with_bytes s xs)
unfolding with_bytes bits polynomial
with_bytes_leave a s h [] = let e : a * 1 + 0 ≡ a = omega arith in rw e h
with_bytes_leave a s h (x ∷ xs) =
    let e : a * 2 ^ (8 * suc (length xs)) + number (x ∷ xs) ≡ (a * 256 + x % 256) * 2 ^ (8 * length xs) + number xs =
    ap₂ (λ (p n : ℕ). a * p + n) (ap (λ (n : ℕ). 2 ^ n) (mul-suc 8 (length xs)) ∙ pow-add 2 (8 * length xs) 8) (number_cons x xs)
    ∙ regroup a (x % 256) (2 ^ (8 * length xs)) (number xs) in
    rw e (with_bytes_leave (a * 256 + x % 256) (with_byte s x) (with_byte_leaves a x h) xs)
  where
    regroup : (u v p n : ℕ) → u * (p * 256) + (v * p + n) ≡ (u * 256 + v) * p + n
    regroup u v p n = omega arith

-- every byte string has a remainder, and it is the one that is worked out
pub is_remainder : (xs : List ℕ) → IsRemainder xs (remainder_of xs)
unfolding remainder_of
is_remainder xs =
    let e : 0 * 2 ^ (8 * length xs) + number xs ≡ number xs = omega arith in
    rw e at (with_bytes_leave 0 0 (leaves_self 0 (omega arith)) xs)

-- it has no other
pub only_remainder : (xs : List ℕ) {r : ℕ} → IsRemainder xs r → r ≡ remainder_of xs
only_remainder xs h = leaves_one h (is_remainder xs)

pub empty_remainder : remainder_of [] ≡ 0
unfolding remainder_of with_bytes
empty_remainder = refl

-- it fits in two bytes
pub remainder_under : (xs : List ℕ) → remainder_of xs < 2 ^ 16
remainder_under xs = (is_remainder xs).under

-- ---- M 3: "the remainder of two equally long byte strings combined by exclusive or is the exclusive or of their remainders."

pub remainder_linear : (xs ys : List ℕ) → length xs ≡ length ys → remainder_of (combined xs ys) ≡ remainder_of xs ⊕ remainder_of ys
remainder_linear xs ys same =
    let e : number (combined xs ys) * 2 ^ 16 ≡ number xs * 2 ^ 16 ⊕ number ys * 2 ^ 16 =
    ap (λ (x : ℕ). x * 2 ^ 16) (number_combined xs ys same) ∙ sum_shift 16 (number xs) (number ys) in
    leaves_one (is_remainder (combined xs ys)) (rw e (leaves_sum (is_remainder xs) (is_remainder ys)))

-- ---- 01: "Taken over a whole right message it is 0." And only over a right one: h and l are the message's last two bytes.

-- what is divided stays divided
pub zeros_stay : (n : ℕ) → times_xs n 0 ≡ 0
unfolding times_xs times_x
zeros_stay zero = refl
zeros_stay (suc n) = zeros_stay n

module _ (xs : List ℕ) (h l : ℕ) where
  seal : ℕ
  seal = h % 256 * 256 + l % 256

  seal_number : number (h ∷ l ∷ []) ≡ seal
  unfolding seal bits polynomial
  seal_number =
      number_cons h (l ∷ [])
      ∙ ap (λ (x : ℕ). h % 256 * 256 + x) (number_cons l [] ∙ omega arith)

  seal_under : seal < 2 ^ 16
  unfolding seal
  seal_under = omega arith

  whole_leaves : Leaves (number (xs ++ h ∷ l ∷ [])) (remainder_of xs ⊕ seal)
  whole_leaves =
      let e : number (xs ++ h ∷ l ∷ []) ≡ number xs * 2 ^ 16 ⊕ seal =
      number_append xs (h ∷ l ∷ []) ∙ ap (λ (x : ℕ). number xs * 2 ^ 16 + x) seal_number ∙ sym (xor_shifted (number xs) 16 seal seal_under) in
      rw e (leaves_sum (is_remainder xs) (leaves_self seal seal_under))

  pub whole : (remainder_of (xs ++ h ∷ l ∷ []) ≡ 0) ↔ (remainder_of xs ≡ h % 256 * 256 + l % 256)
  unfolding seal
  whole = (last_two, none_left)
    where
      last_two : remainder_of (xs ++ h ∷ l ∷ []) ≡ 0 → remainder_of xs ≡ seal
      last_two e =
          sum-zero (remainder_of xs) seal
          (leaves_one whole_leaves (unshifts 16 (rw e at (is_remainder (xs ++ h ∷ l ∷ [])))))

      none_left : remainder_of xs ≡ seal → remainder_of (xs ++ h ∷ l ∷ []) ≡ 0
      none_left e =
          let nothing : remainder_of xs ⊕ seal ≡ 0 = ap (λ (x : ℕ). x ⊕ seal) e ∙ xor_self seal in
          leaves_one (is_remainder (xs ++ h ∷ l ∷ [])) (rw (zeros_stay 16) at (leaves_times_xs 16 (rw nothing at whole_leaves)))

-- a message followed by its remainder, high byte first
pub sealed_right : (xs : List ℕ) → remainder_of (xs ++ remainder_of xs / 256 ∷ remainder_of xs % 256 ∷ []) ≡ 0
sealed_right xs =
    let u : remainder_of xs < 2 ^ 16 = remainder_under xs in
    let e : remainder_of xs ≡ remainder_of xs / 256 % 256 * 256 + remainder_of xs % 256 % 256 = omega arith in
    (whole xs (remainder_of xs / 256) (remainder_of xs % 256)).1 e

-- ---- M 3: "alter one or more bits, all within 16 neighbouring bits [..], each byte taken highest bit first": seen, for a string of any length

-- all ones of these bits stand in 16 neighbouring places: then the polynomial is one of under 16 bits, times some power of x
module _ (cs : List ℕ) (bit : Digits cs) (from : ℕ) (near : (i : ℕ) → get_or cs i 0 ≡ 1 → (from ≤ i) × (i < from + 16)) where
  middle : List ℕ
  middle = take 16 (drop from cs)

  rest : List ℕ
  rest = drop 16 (drop from cs)

  zero_unless_near : (i : ℕ) → ((from ≤ i) × (i < from + 16) → ⊥) → get_or cs i 0 ≡ 0
  zero_unless_near i far = digit (get_or cs i 0) (bit i) (λ e. far (near i e))
    where
      digit : (c : ℕ) → c < 2 → (c ≡ 1 → ⊥) → c ≡ 0
      digit zero h n = refl
      digit (suc zero) h n = absurd (n refl)
      digit (suc (suc c)) h n = absurd (omega arith)

  before_zeros : (i : ℕ) → get_or (take from cs) i 0 ≡ 0
  before_zeros i = elim (dec_lt i from) [
    | yes h ↦ get_or-take from cs i 0 h ∙ zero_unless_near i (λ w. absurd (omega (arith, w.0)))
    | no h ↦ get_or-eq_default (take from cs) 0 (omega (arith, length-take from cs))
  ]

  rest_zeros : (i : ℕ) → get_or rest i 0 ≡ 0
  unfolding rest
  rest_zeros i =
      get_or-drop 16 (drop from cs) i 0 ∙ get_or-drop from cs (16 + i) 0
      ∙ zero_unless_near (from + (16 + i)) (λ w. absurd (omega (arith, w.1)))

  middle_under : polynomial middle < 2 ^ 16
  unfolding middle
  middle_under =
      lt_of_lt_of_le
      (polynomial_lt (take 16 (drop from cs)) bits_there)
      (pow_mono {j = 16} (omega (arith, length-take 16 (drop from cs))))
    where
      bits_there : Digits (take 16 (drop from cs))
      bits_there i = elim (dec_lt i 16) [
        | yes h ↦ rw (get_or-take 16 (drop from cs) i 0 h, get_or-drop from cs i 0) (bit (from + i))
        | no h ↦ rw (get_or-eq_default (take 16 (drop from cs)) 0 {n = i} (omega (arith, length-take 16 (drop from cs)))) (omega arith)
      ]

  burst_polynomial : polynomial cs ≡ polynomial middle * 2 ^ length rest
  unfolding middle rest
  burst_polynomial =
      ap polynomial (sym (take-append-drop from cs)) ∙ polynomial_append (take from cs) (drop from cs)
      ∙ ap (λ (p : ℕ). p * 2 ^ length (drop from cs) + polynomial (drop from cs)) (polynomial_zeros (take from cs) before_zeros)
      ∙ zero_first (2 ^ length (drop from cs)) (polynomial (drop from cs))
      ∙ ap polynomial (sym (take-append-drop 16 (drop from cs))) ∙ polynomial_append middle rest
      ∙ ap (λ (p : ℕ). polynomial middle * 2 ^ length rest + p) (polynomial_zeros rest rest_zeros)
      ∙ zero_last (polynomial middle * 2 ^ length rest)
    where
      zero_first : (p q : ℕ) → 0 * p + q ≡ q
      zero_first p q = omega arith

      zero_last : (p : ℕ) → p + 0 ≡ p
      zero_last p = omega arith

  burst_not_divided : (i : ℕ) → get_or cs i 0 ≡ 1 → (k : ℕ) → Leaves (polynomial cs * 2 ^ k) 0 → ⊥
  burst_not_divided i one k divides =
      let shown : polynomial cs * 2 ^ k ≡ polynomial middle * 2 ^ (length rest + k) =
      ap (λ (p : ℕ). p * 2 ^ k) burst_polynomial ∙ mul_assoc (polynomial middle) (2 ^ length rest) (2 ^ k)
      ∙ ap (λ (p : ℕ). polynomial middle * p) (sym (pow-add 2 (length rest) k)) in
      let none : polynomial middle ≡ 0 =
      leaves_one (leaves_self (polynomial middle) middle_under) (unshifts (length rest + k) (rw shown at divides)) in
      let all : polynomial cs ≡ 0 = burst_polynomial ∙ ap (λ (p : ℕ). p * 2 ^ length rest) none ∙ zero_times (2 ^ length rest) in
      let clash : ◌≡◌ {A = ℕ} 0 1 = sym (polynomial_none cs all i) ∙ one in
      omega arith
    where
      zero_times : (p : ℕ) → 0 * p ≡ 0
      zero_times p = omega arith

-- on bits: an alteration with all its ones within 16 neighbouring bits, and with a one, has a remainder other than 0
pub burst_seen : (es : List ℕ) → Burst (bits es) → remainder_of es ≢ 0
burst_seen es b none =
    burst_not_divided (bits es) (digits_bits es) b.from b.near b.some_one.0 b.some_one.1 16
    (rw none at (is_remainder es))

-- any alteration of a right string whose own remainder is not 0 leaves a string that is not right
pub altered_seen : (xs ys : List ℕ) → length xs ≡ length ys → remainder_of (combined xs ys) ≢ 0 → remainder_of xs ≡ 0 → remainder_of ys ≢ 0
altered_seen xs ys same odd right none = odd (remainder_linear xs ys same ∙ ap₂ bit_xor right none)

-- on bytes: the difference of two equally long strings has a one exactly where they differ
module _ (xs ys : List ℕ) (same : length xs ≡ length ys) where
  pub same_bits : length (bits xs) ≡ length (bits ys)
  same_bits = length-bits xs ∙ ap (λ (n : ℕ). 8 * n) same ∙ sym (length-bits ys)

  pub bit_combined : (i : ℕ) → get_or (bits (combined xs ys)) i 0 ≡ get_or (bits xs) i 0 ⊕ get_or (bits ys) i 0
  bit_combined i = ap (λ (cs : List ℕ). get_or cs i 0) (bits_combined xs ys same) ∙ at_combined (bits xs) (bits ys) same_bits i

  pub differ_one : (i : ℕ) → DifferAt xs ys i ↔ (get_or (bits (combined xs ys)) i 0 ≡ 1)
  differ_one i = (one, differs)
    where
      one : DifferAt xs ys i → get_or (bits (combined xs ys)) i 0 ≡ 1
      one n = bit_combined i ∙ unlike_digits (get_or (bits xs) i 0) (get_or (bits ys) i 0) (digits_bits xs i) (digits_bits ys i) n

      differs : get_or (bits (combined xs ys)) i 0 ≡ 1 → DifferAt xs ys i
      differs e alike =
          let clash : ◌≡◌ {A = ℕ} 0 1 = sym (bit_combined i ∙ ap (λ (c : ℕ). c ⊕ get_or (bits ys) i 0) alike ∙ xor_self (get_or (bits ys) i 0)) ∙ e in
          omega arith

-- where they differ in one or more bits, all within 16 neighbouring ones, their difference is a burst
pub nearby_burst : {xs ys : List ℕ} → AlteredNearby xs ys → Burst (bits (combined xs ys))
nearby_burst {xs} {ys} a =
    let one = differ_one xs ys a.same_length in
    record {
      some_one = (a.some_bit.0, (one a.some_bit.0).0 a.some_bit.1);
      from = a.from;
      near = λ i e. a.near i ((one i).1 e);
    }

-- so a right string altered so is not right any more
pub nearby_seen : {xs ys : List ℕ} → AlteredNearby xs ys → remainder_of xs ≡ 0 → remainder_of ys ≢ 0
nearby_seen {xs} {ys} a = altered_seen xs ys a.same_length (burst_seen (combined xs ys) (nearby_burst a))

-- ---- 01: "Show that any two outcomes allowed by it are equal."

pub remains_settled : (xs : List ℕ) → Settled (Remains xs)
remains_settled xs = settled _

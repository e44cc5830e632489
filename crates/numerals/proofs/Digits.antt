-- What bytes are as digits.
-- Assumes nothing.
use mathlib.Core.Path.{◌≡◌, refl, sym, ap, ◌∙◌}
use mathlib.Core.Bool.{Bool, true, false, ◌&&◌, and_assoc}
use mathlib.Core.List.{List, [], ◌∷◌, ◌++◌}
use Prim.Native.Nat.{ℕ, zero, suc, ◌+◌, ◌-◌, ◌*◌, ◌≤◌, ◌<◌, suc-le-suc}
use native.Mathlib.Nat.{le_refl, le_trans, le-mul_of_pos_right, le_of_suc-le-suc}
use native.Mathlib.Decide.{dec_lt}
use native.Mathlib.Omega.{arith}
use borrow.Author.Tests.{lt-ltb, le-leb, lt-leb, ltb-true}
use lib.Dec.{ltb}
use lib.ListN.{length, get_or}
use Rattle.numerals.specs.Numerals.{digit_of, are_digits, worth}

-- ---- a digit

pub digit_figure : (b : ℕ) → 48 ≤ b → b ≤ 57 → digit_of b ≡ b - 48
unfolding digit_of
digit_figure b lo hi = simp (le-leb 48 b lo, le-leb b 57 hi)

pub digit_upper : (b : ℕ) → 65 ≤ b → b ≤ 70 → digit_of b ≡ b - 65 + 10
unfolding digit_of
digit_upper b lo hi =
    let e : b - 55 ≡ b - 65 + 10 = omega arith in
    simp (le-leb 48 b (omega arith), lt-leb b 57 (omega arith), lt-leb 97 b (omega arith), le-leb 65 b lo, le-leb b 70 hi, e)

pub digit_lower : (b : ℕ) → 97 ≤ b → b ≤ 102 → digit_of b ≡ b - 97 + 10
unfolding digit_of
digit_lower b lo hi =
    let e : b - 87 ≡ b - 97 + 10 = omega arith in
    simp (le-leb 48 b (omega arith), lt-leb b 57 (omega arith), le-leb 97 b lo, le-leb b 102 hi, e)

-- the gaps between the digits
pub digit_before : (b : ℕ) → b < 48 → digit_of b ≡ 16
unfolding digit_of
digit_before b h = simp (lt-leb 48 b h, lt-leb 97 b (omega arith), lt-leb 65 b (omega arith))

pub digit_between : (b : ℕ) → 57 < b → b < 65 → digit_of b ≡ 16
unfolding digit_of
digit_between b lo hi = simp (le-leb 48 b (omega arith), lt-leb b 57 lo, lt-leb 97 b (omega arith), lt-leb 65 b hi)

pub digit_among : (b : ℕ) → 70 < b → b < 97 → digit_of b ≡ 16
unfolding digit_of
digit_among b lo hi = simp (le-leb 48 b (omega arith), lt-leb b 57 (omega arith), lt-leb 97 b hi, le-leb 65 b (omega arith), lt-leb b 70 lo)

pub digit_behind : (b : ℕ) → 102 < b → digit_of b ≡ 16
unfolding digit_of
digit_behind b h =
    simp
    (le-leb 48 b (omega arith), lt-leb b 57 (omega arith), le-leb 97 b (omega arith), lt-leb b 102 h, le-leb 65 b (omega arith), lt-leb b 70 (omega arith))

-- only 0 to 9 are digits below 10

letters_high : (b : ℕ) → 57 < b → 10 ≤ digit_of b
letters_high b h = elim (dec_lt b 65) [
  | yes x ↦ omega (arith, digit_between b h x)
  | no x ↦ elim (dec_lt b 71) [
    | yes y ↦ omega (arith, digit_upper b (omega arith) (omega arith))
    | no y ↦ elim (dec_lt b 97) [
      | yes z ↦ omega (arith, digit_among b (omega arith) z)
      | no z ↦ elim (dec_lt b 103) [
        | yes w ↦ omega (arith, digit_lower b (omega arith) (omega arith))
        | no w ↦ omega (arith, digit_behind b (omega arith))
      ]
    ]
  ]
]

pub figure_of : (b : ℕ) → digit_of b < 10 → (48 ≤ b) × (b ≤ 57)
figure_of b h = elim (dec_lt b 48) [
  | yes x ↦ absurd (omega (arith, digit_before b x))
  | no x ↦ elim (dec_lt b 58) [ yes y ↦ (omega arith, omega arith) | no y ↦ absurd (omega (arith, letters_high b (omega arith))) ]
]

pub figure_digit : (d : ℕ) → d < 10 → digit_of (48 + d) ≡ d
figure_digit d h =
    let e : 48 + d - 48 ≡ d = omega arith in
    digit_figure (48 + d) (omega arith) (omega arith) ∙ e

pub figure_back : (b : ℕ) → digit_of b < 10 → 48 + digit_of b ≡ b
figure_back b h =
    let f = figure_of b h in
    omega (arith, digit_figure b f.0 f.1)

-- ---- each byte is a digit

pub digits_append : (base : ℕ) (xs ys : List ℕ) → are_digits base (xs ++ ys) ≡ (are_digits base xs && are_digits base ys)
unfolding are_digits
digits_append base [] ys = refl
digits_append base (b ∷ xs) ys =
    ap (λ (t : Bool). ltb (digit_of b) base && t) (digits_append base xs ys) ∙ sym (and_assoc (ltb (digit_of b) base) (are_digits base xs) (are_digits base ys))

-- the two parts of a test that holds
pub both : (p q : Bool) → (p && q) ≡ true → (p ≡ true) × (q ≡ true)
both true q e = (refl, e)
both false q e = (cc, cc)

pub digits_rest : (base b : ℕ) (rest : List ℕ) → are_digits base (b ∷ rest) ≡ true → are_digits base rest ≡ true
unfolding are_digits
digits_rest base b rest e = (both (ltb (digit_of b) base) (are_digits base rest) e).1

-- the same said of the places
pub digits_at : (base : ℕ) (xs : List ℕ) (k : ℕ) → are_digits base xs ≡ true → k < length xs → digit_of (get_or xs k 0) < base
unfolding are_digits
digits_at base [] k e h = absurd (omega arith)
digits_at base (b ∷ xs) zero e h = ltb-true (digit_of b) base (both (ltb (digit_of b) base) (are_digits base xs) e).0
digits_at base (b ∷ xs) (suc k) e h = digits_at base xs k (digits_rest base b xs e) (le_of_suc-le-suc h)

pub digits_of : (base : ℕ) (xs : List ℕ) → ((k : ℕ) → k < length xs → digit_of (get_or xs k 0) < base) → are_digits base xs ≡ true
unfolding are_digits
digits_of base [] each = refl
digits_of base (b ∷ xs) each = rw (lt-ltb (digit_of b) base (each 0 (omega arith))) (digits_of base xs (λ k h. each (suc k) (suc-le-suc h)))

-- ---- what digits are worth

pub worth_append : (base n : ℕ) (xs ys : List ℕ) → worth base n (xs ++ ys) ≡ worth base (worth base n xs) ys
unfolding worth
worth_append base n [] ys = refl
worth_append base n (b ∷ xs) ys = worth_append base (n * base + digit_of b) xs ys

-- more digits are not worth less
pub worth_grows : (base n : ℕ) (figures : List ℕ) → 1 ≤ base → n ≤ worth base n figures
unfolding worth
worth_grows base n [] p = le_refl n
worth_grows base n (b ∷ rest) p =
    let here : n ≤ n * base = le-mul_of_pos_right n p in
    le_trans (omega (arith, here)) (worth_grows base (n * base + digit_of b) rest p)

-- How a number's digits, as they are spelt, are read back: step by step, along how many digits there may be.
-- Assumes nothing.
use mathlib.Core.Path.{◌≡◌, refl, sym, ap, ◌∙◌}
use mathlib.Core.Bool.{true, not, ◌&&◌, ◌||◌, true≢false, or-true}
use mathlib.Core.List.{List, [], ◌∷◌, ◌++◌, append-nil}
use Prim.Native.Nat.{ℕ, zero, suc, ◌+◌, ◌*◌, ◌/◌, ◌%◌, ◌^◌, ◌≤◌, ◌<◌}
use native.Mathlib.Decide.{dec_lt}
use native.Mathlib.Nat.{pow-suc, le_trans, lt_of_le_of_lt}
use native.Mathlib.Omega.{arith}
use borrow.Author.Tests.{lt-ltb, le-ltb, eq-eqb, ne_eqb, ltb-true}
use lib.Dec.{eqb, ltb}
use lib.ListN.{length, get_or, length-append, get_or-append}
use lib.Seq.{append_snoc}
use Rattle.text.specs.Text.{decimal_by, decimal}
use Rattle.numerals.specs.Numerals.{digit_of, are_digits, worth, is_short}
use Rattle.numerals.proofs.Digits.{figure_digit, figure_back, digits_append, digits_at, digits_rest, worth_append, worth_grows, both}

-- ---- one digit

by_more : (k n : ℕ) → 10 ≤ n → decimal_by (suc k) n ≡ decimal_by k (n / 10) ++ ((48 + n % 10) ∷ [])
unfolding decimal_by
by_more k n h = rw (le-ltb n 10 h)

by_last : (k n : ℕ) → n < 10 → decimal_by (suc k) n ≡ (48 + n) ∷ []
unfolding decimal_by
by_last k n h = let e : n % 10 ≡ n = omega arith in rw (lt-ltb n 10 h, e)

-- what is left behind a digit less
less_left : (k n : ℕ) → n < 10 ^ suc k → n / 10 < 10 ^ k
less_left k n h = let p : n < 10 ^ k * 10 = rw (pow-suc 10 k) at h in omega arith

one_digit : (d : ℕ) → d < 10 → are_digits 10 ((48 + d) ∷ []) ≡ true
unfolding are_digits
one_digit d h = rw (figure_digit d h, lt-ltb d 10 h)

one_worth : (n d : ℕ) → d < 10 → worth 10 n ((48 + d) ∷ []) ≡ n * 10 + d
unfolding worth
one_worth n d h = rw (figure_digit d h)

-- ---- spelt, and read

pub by_digits : (k n : ℕ) → are_digits 10 (decimal_by k n) ≡ true
unfolding are_digits decimal_by
by_digits zero n = refl
by_digits (suc k) n = elim (dec_lt n 10) [
  | yes h ↦ rw (by_last k n h) (one_digit n h)
  | no h ↦ rw (by_more k n (omega arith), digits_append 10 (decimal_by k (n / 10)) ((48 + n % 10) ∷ []), by_digits k (n / 10))
      (one_digit (n % 10) (omega arith))
]

pub by_some : (k n : ℕ) → 1 ≤ length (decimal_by (suc k) n)
by_some k n = elim (dec_lt n 10) [
  | yes h ↦ rw (by_last k n h) (omega arith)
  | no h ↦ rw (by_more k n (omega arith), length-append (decimal_by k (n / 10)) ((48 + n % 10) ∷ [])) (omega arith)
]

pub by_worth : (k n : ℕ) → n < 10 ^ k → worth 10 0 (decimal_by k n) ≡ n
unfolding worth decimal_by
by_worth zero n h = omega arith
by_worth (suc k) n h = elim (dec_lt n 10) [
  | yes l ↦ rw (by_last k n l, one_worth 0 n l) (omega arith)
  | no l ↦ rw (
    by_more k n (omega arith),
    worth_append 10 0 (decimal_by k (n / 10)) ((48 + n % 10) ∷ []),
    by_worth k (n / 10) (less_left k n h),
    one_worth (n / 10) (n % 10) (omega arith),
  )
      (omega arith)
]

-- no number but 0 begins with 0
pub by_first : (k n : ℕ) → 1 ≤ n → n < 10 ^ suc k → get_or (decimal_by (suc k) n) 0 0 ≡ 48 → ⊥
by_first zero n p h e = let f : 48 + n ≡ 48 = rw (by_last 0 n h) at e in omega arith
by_first (suc k) n p h e = elim (dec_lt n 10) [
  | yes l ↦ let f : 48 + n ≡ 48 = rw (by_last (suc k) n l) at e in omega arith
  | no l ↦
      let front = decimal_by (suc k) (n / 10) in
      let f : get_or (front ++ ((48 + n % 10) ∷ [])) 0 0 ≡ 48 = rw (by_more (suc k) n (omega arith)) at e in
      by_first k (n / 10) (omega arith) (less_left (suc k) n h) (sym (get_or-append front ((48 + n % 10) ∷ []) 0 0 (by_some k (n / 10))) ∙ f)
]

-- ---- read, and spelt

-- room for more digits than there are changes nothing
by_room : (k n : ℕ) → n < 10 ^ suc k → decimal_by (suc (suc k)) n ≡ decimal_by (suc k) n
by_room zero n h = by_last 1 n h ∙ sym (by_last 0 n h)
by_room (suc k) n h = elim (dec_lt n 10) [
  | yes l ↦ by_last (suc (suc k)) n l ∙ sym (by_last (suc k) n l)
  | no l ↦
      by_more (suc (suc k)) n (omega arith)
      ∙ ap (λ (l : List ℕ). l ++ ((48 + n % 10) ∷ [])) (by_room k (n / 10) (less_left (suc k) n h))
      ∙ sym (by_more (suc k) n (omega arith))
]

pub decimal_step : (n d : ℕ) → 1 ≤ n → d < 10 → n * 10 + d < 10 ^ 20 → decimal (n * 10 + d) ≡ decimal n ++ ((48 + d) ∷ [])
unfolding decimal
decimal_step n d p h s =
    let e : (n * 10 + d) / 10 ≡ n = omega arith in
    let f : (n * 10 + d) % 10 ≡ d = omega arith in
    let room : decimal_by 20 n ≡ decimal_by 19 n = by_room 18 n (omega arith) in
    rw room (rw (e, f) at (by_more 19 (n * 10 + d) (omega arith)))

decimal_one : (b : ℕ) → digit_of b < 10 → decimal (digit_of b) ≡ b ∷ []
unfolding decimal
decimal_one b h = by_last 19 (digit_of b) h ∙ ap (λ (x : ℕ). x ∷ []) (figure_back b h)

pub decimal_on : (n : ℕ) (rest : List ℕ) → 1 ≤ n → are_digits 10 rest ≡ true → worth 10 n rest < 10 ^ 20 → decimal (worth 10 n rest) ≡ decimal n ++ rest
unfolding worth are_digits
decimal_on n [] p e h = sym (append-nil (decimal n))
decimal_on n (b ∷ rest) p e h =
    let t = both (ltb (digit_of b) 10) (are_digits 10 rest) e in
    let low : digit_of b < 10 = ltb-true (digit_of b) 10 t.0 in
    let grown : n * 10 + digit_of b ≤ worth 10 (n * 10 + digit_of b) rest = worth_grows 10 (n * 10 + digit_of b) rest (omega arith) in
    decimal_on (n * 10 + digit_of b) rest (omega arith) t.1 h
    ∙ ap (λ (l : List ℕ). l ++ rest) (decimal_step n (digit_of b) p low (lt_of_le_of_lt grown h) ∙ ap (λ (x : ℕ). decimal n ++ (x ∷ [])) (figure_back b low))
    ∙ append_snoc (decimal n) b rest

-- ---- "decimal with no digit too many", said out

pub record Short (figures : List ℕ) : Type 0 where
  pub some : 1 ≤ length figures
  pub digits : are_digits 10 figures ≡ true
  pub leads : 2 ≤ length figures → get_or figures 0 0 ≡ 48 → ⊥

pub short_so : (figures : List ℕ) → is_short figures ≡ true → Short figures
unfolding is_short
short_so figures e =
    let p = both (ltb 0 (length figures)) (are_digits 10 figures && (not (eqb (get_or figures 0 0) 48) || eqb (length figures) 1)) e in
    let q = both (are_digits 10 figures) (not (eqb (get_or figures 0 0) 48) || eqb (length figures) 1) p.1 in
    record {
      some = ltb-true 0 (length figures) p.0;
      digits = q.0;
      leads = λ two zero. true≢false (sym q.1 ∙ rw (eq-eqb (get_or figures 0 0) 48 zero, ne_eqb (length figures) 1 (λ one. omega arith)));
    }

pub so_short : (figures : List ℕ) → Short figures → is_short figures ≡ true
unfolding is_short
so_short figures s = rw (lt-ltb 0 (length figures) s.some, s.digits) (elim (dec_lt 1 (length figures)) [
  | yes two ↦ rw (ne_eqb (get_or figures 0 0) 48 (s.leads two))
  | no one ↦ let all : eqb (length figures) 1 ≡ true = eq-eqb (length figures) 1 (omega (arith, s.some)) in rw all (or-true (not (eqb (get_or figures 0 0) 48)))
])

-- what begins with another digit than 0 is worth something
leading : (b : ℕ) → digit_of b < 10 → (b ≡ 48 → ⊥) → 1 ≤ digit_of b
leading b h n = omega (arith, figure_back b h)

worth_none : (n : ℕ) → worth 10 n [] ≡ n
unfolding worth
worth_none n = refl

worth_first : (b : ℕ) (rest : List ℕ) → worth 10 0 (b ∷ rest) ≡ worth 10 (digit_of b) rest
unfolding worth
worth_first b rest = let e : 0 * 10 + digit_of b ≡ digit_of b = omega arith in ap (λ (n : ℕ). worth 10 n rest) e

pub short_positive : (figures : List ℕ) → are_digits 10 figures ≡ true → 1 ≤ length figures → (get_or figures 0 0 ≡ 48 → ⊥) → 1 ≤ worth 10 0 figures
short_positive [] e p n = absurd (omega arith)
short_positive (b ∷ rest) e p n =
    rw (worth_first b rest)
    (le_trans (leading b (digits_at 10 (b ∷ rest) 0 e (omega arith)) n) (worth_grows 10 (digit_of b) rest (omega arith)))

pub short_decimal : (figures : List ℕ) → Short figures → worth 10 0 figures < 10 ^ 20 → decimal (worth 10 0 figures) ≡ figures
short_decimal [] s h = absurd (omega (arith, s.some))
short_decimal (b ∷ []) s h = rw (worth_first b [], worth_none (digit_of b)) (decimal_one b (digits_at 10 (b ∷ []) 0 s.digits (omega arith)))
short_decimal (b ∷ c ∷ rest) s h =
    let d : digit_of b < 10 = digits_at 10 (b ∷ c ∷ rest) 0 s.digits (omega arith) in
    let on = decimal_on (digit_of b) (c ∷ rest) (leading b d (s.leads (omega arith))) (digits_rest 10 b (c ∷ rest) s.digits) in
    rw (worth_first b (c ∷ rest)) (on (rw (worth_first b (c ∷ rest)) at h) ∙ ap (λ (l : List ℕ). l ++ (c ∷ rest)) (decimal_one b d))

-- What is promised of numbers in words: the laws that callers may cite.
-- Assumes nothing.
use mathlib.Core.Path.{◌≡◌, refl, sym, ap, ◌∙◌}
use mathlib.Core.Bool.{Bool, true, false, cond, not, ◌&&◌, and-false, true≢false}
use mathlib.Core.List.{List, [], ◌∷◌, ◌++◌}
use mathlib.Core.Logic.{◌⊎◌, inl, inr, ⊎_elim, ◌↔◌}
use Prim.Native.Nat.{ℕ, zero, suc, ◌+◌, ◌-◌, ◌*◌, ◌^◌, ◌≤◌, ◌<◌}
use native.Mathlib.Decide.{dec_lt}
use native.Mathlib.Nat.{add-zero, eq-zero-or-pos, le_refl, le_of_lt, le_of_suc-le-suc}
use native.Mathlib.Numerals.{add-one, add-two}
use native.Mathlib.Omega.{arith}
use borrow.Author.Tests.{lt-ltb, le-ltb, lt-leb, eq-eqb, ne_eqb, ltb-true, ltb-false, leb-true, eqb-true}
use lib.Dec.{eqb, leb, ltb}
use lib.IntN.{pos, neg_ℤ}
use lib.ListN.{length, get_or, drop, length-drop, get_or-eq_default}
use lib.Seq.{get_or-drop, drop-cons}
use lib.Pow.{pow_pos, pow_mono}
use Rattle.rows.specs.Settled.{Settled}
use Rattle.rows.proofs.Settled.{settled}
use Rattle.text.specs.Text.{ascii, decimal_by, decimal}
use Rattle.text.proofs.Laws as text
use Rattle.values.proofs.Sized.{size-le, half_le, greatest_signed, greatest_unsigned}
use Rattle.values.specs.declared.Value.{Value}
use Rattle.values.specs.declared.Value.TheVariants.{Natural, Negative}
use Rattle.values.specs.Values.{fits, greatest, is_signed, size_of, integer}
use Rattle.numerals.specs.declared.Numeral.TheVariants as numeral
use Rattle.numerals.specs.Numerals.{digit_of, are_digits, worth, is_minus, unsigned_at, is_hex, base_of, figures_at, figures_of, is_number, amount_of, below, value_of}
use Rattle.numerals.specs.Numerals.{numeral_of, under, limited_to, spelt, is_short, is_shortest, Tells, Reads, Limits}
use Rattle.numerals.proofs.Digits.{figure_of, digits_at, digits_of, both, worth_append}
use Rattle.numerals.proofs.Decimal.{by_digits, by_some, by_worth, by_first, Short, so_short, short_so, short_positive, short_decimal}

-- ---- what an answer of `read` says

pub numeral_is : (word : List ℕ) (v : Value) → numeral_of word ≡ numeral.Is v → (is_number word ≡ true) × (value_of word ≡ v)
unfolding numeral_of
numeral_is word v = go (is_number word) (ltb (amount_of word) (2 ^ 64))
  where
    go : (n t : Bool) → cond n (cond t (numeral.Is (value_of word)) numeral.Huge) numeral.Nothing ≡ numeral.Is v → (n ≡ true) × (value_of word ≡ v)
    go true true e = (refl, cc)
    go true false e = (refl, cc)
    go false t e = (cc, cc)

pub numeral_huge : (word : List ℕ) → numeral_of word ≡ numeral.Huge → (is_number word ≡ true) × (2 ^ 64 ≤ amount_of word)
unfolding numeral_of
numeral_huge word h = let p = go (is_number word) (ltb (amount_of word) (2 ^ 64)) h in (p.0, ltb-false (amount_of word) (2 ^ 64) p.1)
  where
    go : (n t : Bool) → cond n (cond t (numeral.Is (value_of word)) numeral.Huge) numeral.Nothing ≡ numeral.Huge → (n ≡ true) × (t ≡ false)
    go true true e = (refl, cc)
    go true false e = (refl, refl)
    go false t e = (cc, cc)

pub numeral_nothing : (word : List ℕ) → numeral_of word ≡ numeral.Nothing → is_number word ≡ false
unfolding numeral_of
numeral_nothing word = go (is_number word) (ltb (amount_of word) (2 ^ 64))
  where
    go : (n t : Bool) → cond n (cond t (numeral.Is (value_of word)) numeral.Huge) numeral.Nothing ≡ numeral.Nothing → n ≡ false
    go true true e = cc
    go true false e = cc
    go false t e = refl

-- and when each is given
pub numeral_so : (word : List ℕ) → is_number word ≡ true → amount_of word < 2 ^ 64 → numeral_of word ≡ numeral.Is (value_of word)
unfolding numeral_of
numeral_so word e h = rw (e, lt-ltb (amount_of word) (2 ^ 64) h)

pub huge_so : (word : List ℕ) → is_number word ≡ true → 2 ^ 64 ≤ amount_of word → numeral_of word ≡ numeral.Huge
unfolding numeral_of
huge_so word e h = rw (e, le-ltb (amount_of word) (2 ^ 64) h)

pub nothing_so : (word : List ℕ) → is_number word ≡ false → numeral_of word ≡ numeral.Nothing
unfolding numeral_of
nothing_so word e = rw e

-- ---- no register holds a number whose digits 64 bits do not hold

size_most : (kind : ℕ) → size_of kind ≤ 8
size_most kind = ⊎_elim (λ z. omega arith) (λ p. size-le kind p) (eq-zero-or-pos (size_of kind))

unsigned-low : (kind : ℕ) → is_signed kind ≡ false → greatest kind < 2 ^ 64
unsigned-low kind s =
    let most : 2 ^ (8 * size_of kind) ≤ 2 ^ 64 = pow_mono {i = 8 * size_of kind} {j = 64} (omega (arith, size_most kind)) in
    rw (greatest_unsigned kind s) (omega (arith, pow_pos (8 * size_of kind)))

signed_low : (kind : ℕ) → is_signed kind ≡ true → greatest kind < 2 ^ 63
signed_low kind s = rw (greatest_signed kind s) (omega (arith, pow_pos (8 * size_of kind - 1), half_le (size_of kind) (size_most kind)))

unfit_natural : (kind n : ℕ) → 2 ^ 64 ≤ n → fits kind (Natural n) ≡ false
unfolding fits
unfit_natural kind n h = lt-leb n (greatest kind) (go (is_signed kind) refl)
  where
    go : (t : Bool) → is_signed kind ≡ t → greatest kind < n
    go true s = omega (arith, signed_low kind s)
    go false s = omega (arith, unsigned-low kind s)

unfit_below : (kind n : ℕ) → 2 ^ 64 ≤ n → fits kind (below n) ≡ false
unfolding fits below
unfit_below kind zero h = absurd (omega arith)
unfit_below kind (suc n) h = go (is_signed kind) refl
  where
    go : (t : Bool) → is_signed kind ≡ t → cond t (leb n (greatest kind)) false ≡ false
    go true s = lt-leb n (greatest kind) (omega (arith, signed_low kind s))
    go false s = refl

pub huge_unfit : (kind : ℕ) (word : List ℕ) → 2 ^ 64 ≤ amount_of word → fits kind (value_of word) ≡ false
unfolding value_of
huge_unfit kind word h = go (is_minus word)
  where
    go : (t : Bool) → fits kind (cond t (below (amount_of word)) (Natural (amount_of word))) ≡ false
    go true = unfit_below kind (amount_of word) h
    go false = unfit_natural kind (amount_of word) h

-- ---- a number up to a limit

pub limited_most : (most : ℕ) (word : List ℕ) → limited_to most word ≤ most + 1
unfolding limited_to under
limited_most most word = go (is_number word) (value_of word)
  where
    within : (n : ℕ) (t : Bool) → ltb n (most + 1) ≡ t → cond t n (most + 1) ≤ most + 1
    within n true e = le_of_lt (ltb-true n (most + 1) e)
    within n false e = le_refl (most + 1)

    go : (t : Bool) (v : Value) → cond t (under (most + 1) v) (most + 1) ≤ most + 1
    go true (Natural n) = within n (ltb n (most + 1)) refl
    go true (Negative n) = le_refl (most + 1)
    go false v = le_refl (most + 1)

pub limited_so : (most : ℕ) (word : List ℕ) (n : ℕ) → is_number word ≡ true → value_of word ≡ Natural n → n ≤ most → limited_to most word ≡ n
unfolding limited_to under
limited_so most word n e ev h = rw (e, ev, lt-ltb n (most + 1) (omega arith))

pub limited_is : (most : ℕ) (word : List ℕ) (n : ℕ) → limited_to most word ≡ n → n ≤ most → (is_number word ≡ true) × (value_of word ≡ Natural n)
unfolding limited_to under
limited_is most word n e h = go (is_number word) (value_of word) e
  where
    same : (m : ℕ) (t : Bool) → cond t m (most + 1) ≡ n → Natural m ≡ Natural n
    same m true e = ap Natural e
    same m false e = absurd (omega arith)

    go : (t : Bool) (v : Value) → cond t (under (most + 1) v) (most + 1) ≡ n → (t ≡ true) × (v ≡ Natural n)
    go true (Natural m) e = (refl, same m (ltb m (most + 1)) e)
    go true (Negative m) e = absurd (omega arith)
    go false v e = absurd (omega arith)

-- ---- decimal digits behind a minus, or without: they have no `0x` before them

past : (figures : List ℕ) (k : ℕ) → are_digits 10 figures ≡ true → (get_or figures k 0 ≡ 120 → ⊥)
past figures k e x = elim (dec_lt k (length figures)) [
  | yes h ↦ absurd (omega (arith, (figure_of (get_or figures k 0) (digits_at 10 figures k e h)).1))
  | no h ↦ absurd (omega (arith, get_or-eq_default figures 0 {n = k} (omega arith)))
]

no_hex : (word : List ℕ) → are_digits 10 (drop (unsigned_at word) word) ≡ true → is_hex word ≡ false
unfolding is_hex
no_hex word e =
    let f : get_or (drop (unsigned_at word) word) 1 0 ≡ get_or word (unsigned_at word + 1) 0 = get_or-drop (unsigned_at word) word 1 0 in
    let no_x : eqb (get_or word (unsigned_at word + 1) 0) 120 ≡ false = ne_eqb (get_or word (unsigned_at word + 1) 0) 120 (λ x. past (drop (unsigned_at word) word) 1 e (f ∙ x)) in
    rw no_x (and-false (eqb (get_or word (unsigned_at word) 0) 48))

figures_plain : (word : List ℕ) → are_digits 10 (drop (unsigned_at word) word) ≡ true
    → (base_of word ≡ 10) × (figures_of word ≡ drop (unsigned_at word) word)
unfolding base_of figures_of figures_at
figures_plain word e = (rw (no_hex word e), rw (no_hex word e, add-zero (unsigned_at word)))

number-plain : (word : List ℕ) → are_digits 10 (drop (unsigned_at word) word) ≡ true → 1 ≤ length (drop (unsigned_at word) word) → is_number word ≡ true
unfolding is_number
number-plain word e h =
    let p = figures_plain word e in
    rw (p.0, p.1, lt-ltb 0 (length (drop (unsigned_at word) word)) h, e)

amount_plain : (word : List ℕ) → are_digits 10 (drop (unsigned_at word) word) ≡ true → amount_of word ≡ worth 10 0 (drop (unsigned_at word) word)
unfolding amount_of
amount_plain word e = let p = figures_plain word e in rw (p.0, p.1)

-- digits as they stand, or behind a minus
abbrev written : Bool → List ℕ → List ℕ
written true figures = 45 ∷ figures
written false figures = figures

written_minus : (minus : Bool) (figures : List ℕ) → are_digits 10 figures ≡ true → 1 ≤ length figures → is_minus (written minus figures) ≡ minus
unfolding is_minus
written_minus true figures e h = refl
written_minus false figures e h =
    let low = (figure_of (get_or figures 0 0) (digits_at 10 figures 0 e h)).0 in
    ne_eqb (get_or figures 0 0) 45 (λ m. omega (arith, low))

written_unsigned : (minus : Bool) (figures : List ℕ) → are_digits 10 figures ≡ true → 1 ≤ length figures
    → drop (unsigned_at (written minus figures)) (written minus figures) ≡ figures
unfolding unsigned_at
written_unsigned true figures e h = rw (written_minus true figures e h)
written_unsigned false figures e h = rw (written_minus false figures e h)

written_number : (minus : Bool) (figures : List ℕ) → are_digits 10 figures ≡ true → 1 ≤ length figures → is_number (written minus figures) ≡ true
written_number minus figures e h =
    let u = written_unsigned minus figures e h in
    number-plain (written minus figures) (rw u e) (rw u h)

written_amount : (minus : Bool) (figures : List ℕ) → are_digits 10 figures ≡ true → 1 ≤ length figures
    → amount_of (written minus figures) ≡ worth 10 0 figures
written_amount minus figures e h =
    let u = written_unsigned minus figures e h in
    amount_plain (written minus figures) (rw u e) ∙ ap (worth 10 0) u

written_value : (minus : Bool) (figures : List ℕ) → are_digits 10 figures ≡ true → 1 ≤ length figures
    → value_of (written minus figures) ≡ cond minus (below (worth 10 0 figures)) (Natural (worth 10 0 figures))
unfolding value_of
written_value minus figures e h = rw (written_minus minus figures e h, written_amount minus figures e h)

-- ---- a number's decimal digits

pub decimal-digits : (n : ℕ) → are_digits 10 (decimal n) ≡ true
unfolding decimal
decimal-digits n = by_digits 20 n

pub decimal_some : (n : ℕ) → 1 ≤ length (decimal n)
unfolding decimal
decimal_some n = by_some 19 n

pub decimal_worth : (n : ℕ) → n < 10 ^ 20 → worth 10 0 (decimal n) ≡ n
unfolding decimal
decimal_worth n h = by_worth 20 n h

pub decimal_bytes : (n k : ℕ) → k < length (decimal n) → (48 ≤ get_or (decimal n) k 0) × (get_or (decimal n) k 0 ≤ 57)
decimal_bytes n k h = figure_of (get_or (decimal n) k 0) (digits_at 10 (decimal n) k (decimal-digits n) h)

-- only 0 begins with 0
pub decimal_first : (n : ℕ) → 1 ≤ n → n < 10 ^ 20 → get_or (decimal n) 0 0 ≡ 48 → ⊥
unfolding decimal
decimal_first n p h = by_first 19 n p h

two_digits : (n : ℕ) → 2 ≤ length (decimal n) → 1 ≤ n
unfolding decimal decimal_by
two_digits zero two = absurd (omega arith)
two_digits (suc n) two = omega arith

decimal_short : (n : ℕ) → n < 10 ^ 20 → Short (decimal n)
decimal_short n h = record { some = decimal_some n; digits = decimal-digits n; leads = λ two. decimal_first n (two_digits n two) h }

-- ---- a number as it is written

-- how far from 0 a value lies
abbrev pub magnitude : Value → ℕ
magnitude (Natural n) = n
magnitude (Negative n) = suc n

-- it has as many digits at most as a number of 64 bits may have
abbrev pub Small : Value → Type 0
Small v = magnitude v < 10 ^ 20

pub magnitude_plainly : (n : ℕ) → (magnitude (Natural n) ≡ n) × (magnitude (Negative n) ≡ suc n)
magnitude_plainly n = (refl, refl)

abbrev is_negative : Value → Bool
is_negative (Natural n) = false
is_negative (Negative n) = true

spelt_written : (v : Value) → spelt v ≡ written (is_negative v) (decimal (magnitude v))
unfolding spelt
spelt_written (Natural n) = refl
spelt_written (Negative n) = refl

pub spelt_number : (v : Value) → is_number (spelt v) ≡ true
spelt_number v = rw (spelt_written v) (written_number (is_negative v) (decimal (magnitude v)) (decimal-digits (magnitude v)) (decimal_some (magnitude v)))

spelt_amount : (v : Value) → Small v → amount_of (spelt v) ≡ magnitude v
spelt_amount v h =
    rw (spelt_written v, written_amount (is_negative v) (decimal (magnitude v)) (decimal-digits (magnitude v)) (decimal_some (magnitude v)))
    (decimal_worth (magnitude v) h)

pub spelt_value : (v : Value) → Small v → value_of (spelt v) ≡ v
unfolding spelt below
spelt_value (Natural n) h = written_value false (decimal n) (decimal-digits n) (decimal_some n) ∙ ap Natural (decimal_worth n h)
spelt_value (Negative n) h =
    written_value true (decimal (suc n)) (decimal-digits (suc n)) (decimal_some (suc n)) ∙ ap below (decimal_worth (suc n) h)

pub small_so : (v : Value) → magnitude v < 2 ^ 64 → Small v
small_so v h = omega arith

pub spelt_read : (v : Value) → magnitude v < 2 ^ 64 → numeral_of (spelt v) ≡ numeral.Is v
spelt_read v h =
    let small = small_so v h in
    numeral_so (spelt v) (spelt_number v) (rw (spelt_amount v small) h) ∙ ap numeral.Is (spelt_value v small)

-- a register's value is such a one
pub fitting_small : (kind : ℕ) (v : Value) → fits kind v ≡ true → magnitude v < 2 ^ 64
unfolding fits
fitting_small kind (Natural n) e = go (is_signed kind) refl
  where
    most : n ≤ greatest kind
    most = leb-true n (greatest kind) e

    go : (t : Bool) → is_signed kind ≡ t → n < 2 ^ 64
    go true s = omega (arith, most, signed_low kind s)
    go false s = omega (arith, most, unsigned-low kind s)
fitting_small kind (Negative n) e = go (is_signed kind) refl e
  where
    go : (t : Bool) → is_signed kind ≡ t → cond t (leb n (greatest kind)) false ≡ true → suc n < 2 ^ 64
    go true s f = omega (arith, leb-true n (greatest kind) f, signed_low kind s)
    go false s f = absurd (true≢false (sym f))

written_shortest : (minus : Bool) (n : ℕ) → n < 10 ^ 20 → (minus ≡ true → 1 ≤ n) → is_shortest (written minus (decimal n)) ≡ true
unfolding is_shortest
written_shortest minus n h p =
    let digits = decimal-digits n in
    let some = decimal_some n in
    rw
    (written_unsigned minus (decimal n) digits some, so_short (decimal n) (decimal_short n h), written_minus minus (decimal n) digits some)
    (go minus p)
  where
    go : (t : Bool) → (t ≡ true → 1 ≤ n) → not (t && eqb (get_or (written t (decimal n)) 1 0) 48) ≡ true
    go true q = rw (ne_eqb (get_or (decimal n) 0 0) 48 (decimal_first n (q refl) h))
    go false q = refl

pub spelt_shortest : (v : Value) → Small v → is_shortest (spelt v) ≡ true
unfolding spelt
spelt_shortest (Natural n) h = written_shortest false n h (λ e. absurd (true≢false (sym e)))
spelt_shortest (Negative n) h = written_shortest true (suc n) h (λ e. omega arith)

-- ---- and a word so written is what its value is written as

-- the parts of what `is_shortest` tests
shortest_short : (word : List ℕ) → is_shortest word ≡ true → Short (drop (unsigned_at word) word)
unfolding is_shortest
shortest_short word e = short_so (drop (unsigned_at word) word) (both (is_short (drop (unsigned_at word) word)) (not (is_minus word && eqb (get_or word 1 0) 48)) e).0

shortest_leads : (word : List ℕ) → is_shortest word ≡ true → is_minus word ≡ true → get_or word 1 0 ≡ 48 → ⊥
unfolding is_shortest
shortest_leads word e m z =
    let n = (both (is_short (drop (unsigned_at word) word)) (not (is_minus word && eqb (get_or word 1 0) 48)) e).1 in
    true≢false (sym n ∙ rw (m, eq-eqb (get_or word 1 0) 48 z))

pub shortest_number : (word : List ℕ) → is_shortest word ≡ true → is_number word ≡ true
shortest_number word e =
    let s = shortest_short word e in
    number-plain word s.digits s.some

spelt_below : (n : ℕ) → 1 ≤ n → spelt (below n) ≡ 45 ∷ decimal n
unfolding spelt below
spelt_below zero h = absurd (omega arith)
spelt_below (suc n) h = refl

shortest_digits : (word : List ℕ) → is_shortest word ≡ true → amount_of word < 10 ^ 20 → decimal (amount_of word) ≡ drop (unsigned_at word) word
shortest_digits word e h =
    let s = shortest_short word e in
    let a = amount_plain word s.digits in
    rw a (short_decimal (drop (unsigned_at word) word) s (rw a at h))

unsigned_behind : (word : List ℕ) → is_minus word ≡ true → unsigned_at word ≡ 1
unfolding unsigned_at
unsigned_behind word m = rw m

unsigned_first : (word : List ℕ) → is_minus word ≡ false → unsigned_at word ≡ 0
unfolding unsigned_at
unsigned_first word m = rw m

minus_first : (word : List ℕ) → is_minus word ≡ true → get_or word 0 0 ≡ 45
unfolding is_minus
minus_first word m = eqb-true (get_or word 0 0) 45 m

-- a minus stands before a number below 0 alone
shortest_minus : (word : List ℕ) → is_shortest word ≡ true → amount_of word < 10 ^ 20 → is_minus word ≡ true → spelt (below (amount_of word)) ≡ word
shortest_minus word e h m =
    let s = shortest_short word e in
    let one = unsigned_behind word m in
    let figures = drop 1 word in
    let digits : are_digits 10 figures ≡ true = rw one at s.digits in
    let some : 1 ≤ length figures = rw one at s.some in
    let leads : get_or figures 0 0 ≡ 48 → ⊥ = λ z. shortest_leads word e m (sym (get_or-drop 1 word 0 0) ∙ z) in
    let amount : amount_of word ≡ worth 10 0 figures = rw one at (amount_plain word s.digits) in
    let long : 0 < length word = omega (arith, length-drop 1 word) in
    let whole : word ≡ 45 ∷ figures = drop-cons word 0 0 long ∙ ap (λ (b : ℕ). b ∷ figures) (minus_first word m) in
    let same : decimal (amount_of word) ≡ figures = rw one at (shortest_digits word e h) in
    let front : spelt (below (amount_of word)) ≡ 45 ∷ decimal (amount_of word) = spelt_below (amount_of word) (rw amount (short_positive figures digits some leads)) in
    front ∙ rw same (sym whole)

pub shortest_spelt : (word : List ℕ) → is_shortest word ≡ true → amount_of word < 10 ^ 20 → spelt (value_of word) ≡ word
unfolding value_of spelt
shortest_spelt word e h = go (is_minus word) refl
  where
    go : (t : Bool) → is_minus word ≡ t → spelt (cond t (below (amount_of word)) (Natural (amount_of word))) ≡ word
    go true m = shortest_minus word e h m
    go false m = shortest_digits word e h ∙ ap (λ (k : ℕ). drop k word) (unsigned_first word m)

-- ---- the bytes of it

pub spelt_bytes : (v : Value) (k : ℕ) → k < length (spelt v) → (get_or (spelt v) k 0 ≡ 45) ⊎ ((48 ≤ get_or (spelt v) k 0) × (get_or (spelt v) k 0 ≤ 57))
unfolding spelt
spelt_bytes (Natural n) k h = inr (decimal_bytes n k h)
spelt_bytes (Negative n) zero h = inl refl
spelt_bytes (Negative n) (suc k) h = inr (decimal_bytes (suc n) k (le_of_suc-le-suc h))

pub spelt_some : (v : Value) → 1 ≤ length (spelt v)
unfolding spelt
spelt_some (Natural n) = decimal_some n
spelt_some (Negative n) = omega arith

pub spelt_long : (v : Value) → length (spelt v) ≤ 21
unfolding spelt
spelt_long (Natural n) = omega (arith, text.decimal_short n)
spelt_long (Negative n) = omega (arith, text.decimal_short (suc n))

-- ---- a decimal number up to a limit

pub limited_decimal : (most n : ℕ) → n ≤ most → n < 10 ^ 20 → limited_to most (decimal n) ≡ n
unfolding spelt
limited_decimal most n l h = limited_so most (decimal n) n (spelt_number (Natural n)) (spelt_value (Natural n) h) l

-- ---- "numbers in decimal or 0x hex", said out

pub digit_plainly :
    (digit_of 47 ≡ 16)
    × (digit_of 48 ≡ 0)
    × (digit_of 57 ≡ 9)
    × (digit_of 58 ≡ 16)
    × (digit_of 64 ≡ 16)
    × (digit_of 65 ≡ 10)
    × (digit_of 70 ≡ 15)
    × (digit_of 71 ≡ 16)
    × (digit_of 96 ≡ 16)
    × (digit_of 97 ≡ 10)
    × (digit_of 102 ≡ 15)
    × (digit_of 103 ≡ 16)
unfolding digit_of
digit_plainly = (refl, refl, refl, refl, refl, refl, refl, refl, refl, refl, refl, refl)

pub digits_plainly : (base : ℕ) (figures : List ℕ) → (are_digits base figures ≡ true) ↔ ((k : ℕ) → k < length figures → digit_of (get_or figures k 0) < base)
digits_plainly base figures = (λ e k h. digits_at base figures k e h, λ each. digits_of base figures each)

-- a digit more is so many times what was there, and that digit
pub worth_plainly : (base n : ℕ) (figures : List ℕ) (b : ℕ)
    → (worth base n [] ≡ n) × (worth base n (figures ++ (b ∷ [])) ≡ worth base n figures * base + digit_of b)
unfolding worth
worth_plainly base n figures b = (refl, worth_append base n figures (b ∷ []))

-- a word as a number is written: a minus or none, `0x` or none, digits
abbrev pub number_as : Bool → Bool → List ℕ → List ℕ
number_as minus hex figures = cond minus (45 ∷ []) [] ++ (cond hex (48 ∷ 120 ∷ []) [] ++ figures)

-- such a word is a number, and means this
pub number_plainly : (minus hex : Bool) (figures : List ℕ) → 1 ≤ length figures → are_digits (cond hex 16 10) figures ≡ true
    → (is_number (number_as minus hex figures) ≡ true)
    × (amount_of (number_as minus hex figures) ≡ worth (cond hex 16 10) 0 figures)
    × (is_minus (number_as minus hex figures) ≡ minus)
unfolding is_number amount_of figures_of figures_at unsigned_at is_minus is_hex base_of
number_plainly true true figures h e = (rw (lt-ltb 0 (length figures) h, e), refl, refl)
number_plainly false true figures h e = (rw (lt-ltb 0 (length figures) h, e), refl, refl)
number_plainly true false figures h e = (written_number true figures e h, written_amount true figures e h, written_minus true figures e h)
number_plainly false false figures h e = (written_number false figures e h, written_amount false figures e h, written_minus false figures e h)

-- and no other word is one
pub record ANumber (word : List ℕ) : Type 0 where
  pub minus : Bool
  pub hex : Bool
  pub figures : List ℕ
  pub whole : word ≡ number_as minus hex figures
  pub some : 1 ≤ length figures
  pub digits : are_digits (cond hex 16 10) figures ≡ true

-- behind its end a word has 0, so another byte stands in it
byte_there : (word : List ℕ) (k b : ℕ) → 1 ≤ b → get_or word k 0 ≡ b → drop k word ≡ b ∷ drop (suc k) word
byte_there word k b p e = elim (dec_lt k (length word)) [
  | yes h ↦ drop-cons word k 0 h ∙ ap (λ (x : ℕ). x ∷ drop (suc k) word) e
  | no h ↦ absurd (omega (arith, get_or-eq_default word 0 {n = k} (omega arith)))
]

behind_minus : (word : List ℕ) → word ≡ cond (is_minus word) (45 ∷ []) [] ++ drop (unsigned_at word) word
unfolding unsigned_at
behind_minus word = go (is_minus word) refl
  where
    go : (t : Bool) → is_minus word ≡ t → word ≡ cond t (45 ∷ []) [] ++ drop (cond t 1 0) word
    go true m = byte_there word 0 45 (omega arith) (minus_first word m)
    go false m = refl

hex_first : (word : List ℕ) → is_hex word ≡ true → (get_or word (unsigned_at word) 0 ≡ 48) × (get_or word (unsigned_at word + 1) 0 ≡ 120)
unfolding is_hex
hex_first word e =
    let p = both (eqb (get_or word (unsigned_at word) 0) 48) (eqb (get_or word (unsigned_at word + 1) 0) 120) e in
    (eqb-true (get_or word (unsigned_at word) 0) 48 p.0, eqb-true (get_or word (unsigned_at word + 1) 0) 120 p.1)

two_there : (word : List ℕ) (at : ℕ) → get_or word at 0 ≡ 48 → get_or word (at + 1) 0 ≡ 120 → drop at word ≡ 48 ∷ 120 ∷ drop (at + 2) word
two_there word at e f =
    let second = byte_there word (suc at) 120 (omega arith) (rw (add-one at) at f) in
    rw (add-two at) (byte_there word at 48 (omega arith) e ∙ ap (λ (l : List ℕ). 48 ∷ l) second)

behind_hex : (word : List ℕ) → drop (unsigned_at word) word ≡ cond (is_hex word) (48 ∷ 120 ∷ []) [] ++ figures_of word
unfolding figures_of figures_at
behind_hex word = go (is_hex word) refl
  where
    go : (t : Bool) → is_hex word ≡ t → drop (unsigned_at word) word ≡ cond t (48 ∷ 120 ∷ []) [] ++ drop (unsigned_at word + cond t 2 0) word
    go true x = let p = hex_first word x in two_there word (unsigned_at word) p.0 p.1
    go false x = rw (add-zero (unsigned_at word))

pub number_only : (word : List ℕ) → is_number word ≡ true → ANumber word
unfolding is_number base_of
number_only word e =
    let p = both (ltb 0 (length (figures_of word))) (are_digits (base_of word) (figures_of word)) e in
    record {
      minus = is_minus word;
      hex = is_hex word;
      figures = figures_of word;
      whole = behind_minus word ∙ ap (λ (l : List ℕ). cond (is_minus word) (45 ∷ []) [] ++ l) (behind_hex word);
      some = ltb-true 0 (length (figures_of word)) p.0;
      digits = p.1;
    }

-- the integer that is meant; `-0` is 0
pub value_plainly : (word : List ℕ) → integer (value_of word) ≡ cond (is_minus word) (neg_ℤ (pos (amount_of word))) (pos (amount_of word))
unfolding value_of integer below
value_plainly word = go (is_minus word)
  where
    under_zero : (n : ℕ) → integer (below n) ≡ neg_ℤ (pos n)
    under_zero zero = refl
    under_zero (suc n) = refl

    go : (t : Bool) → integer (cond t (below (amount_of word)) (Natural (amount_of word))) ≡ cond t (neg_ℤ (pos (amount_of word))) (pos (amount_of word))
    go true = under_zero (amount_of word)
    go false = refl

-- computed
pub values_so :
    (value_of (ascii "007") ≡ Natural 7)
    × (value_of (ascii "0x1F") ≡ Natural 31)
    × (value_of (ascii "-0") ≡ Natural 0)
    × (value_of (ascii "-5") ≡ Negative 4)
    × (value_of (ascii "-0x10") ≡ Negative 15)
unfolding value_of amount_of figures_of figures_at unsigned_at is_minus is_hex base_of worth digit_of below
values_so = (refl, refl, refl, refl, refl)

pub no_numbers :
    (is_number (ascii "") ≡ false)
    × (is_number (ascii "-") ≡ false)
    × (is_number (ascii "0x") ≡ false)
    × (is_number (ascii "12a") ≡ false)
    × (is_number (ascii "+1") ≡ false)
unfolding is_number figures_of figures_at unsigned_at is_minus is_hex base_of are_digits digit_of
no_numbers = (refl, refl, refl, refl, refl)

-- ---- 01: "Show that any two outcomes allowed by it are equal."

pub tells_settled : (word : List ℕ) → Settled (Tells word)
tells_settled word = settled _

pub reads_settled : (word : List ℕ) → Settled (Reads word)
reads_settled word = settled _

pub limits_settled : (most : ℕ) (word : List ℕ) → Settled (Limits most word)
limits_settled most word = settled _

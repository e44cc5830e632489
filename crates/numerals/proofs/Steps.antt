-- The steps of the functions: what a return or a turn of a loop adds to what is known, over plain lists and numbers.
-- Assumes nothing.
use Rattle.std.specs.Prelude.{Some, None}
use mathlib.Core.Path.{◌≡◌, refl, sym, ◌∙◌}
use mathlib.Core.Bool.{Bool, true, false, cond, and-false}
use mathlib.Core.List.{List, []}
use Prim.Native.Nat.{ℕ, zero, suc, ◌+◌, ◌-◌, ◌*◌, ◌/◌, ◌^◌, ◌≤◌, ◌<◌}
use native.Mathlib.Nat.{le_refl, le_trans, div-lt_iff_lt-mul, le-div_iff_mul-le}
use native.Mathlib.Numerals.{add-one}
use native.Mathlib.Omega.{arith}
use borrow.Author.Tests.{lt-ltb, le-ltb, ne_eqb}
use lib.Dec.{eqb, ltb}
use lib.ListN.{length, get_or, take, drop, drop_of_length-le, length-drop, get_or-eq_default}
use lib.Seq.{drop-cons, take_all}
use Rattle.values.specs.declared.Value.{Value}
use Rattle.values.specs.declared.Value.TheVariants.{Natural, Negative}
use Rattle.numerals.specs.Answers.{Amount}
use Rattle.numerals.specs.declared.Numeral.{Numeral}
use Rattle.numerals.specs.declared.Numeral.TheVariants as numeral
use Rattle.numerals.specs.Numerals.{digit_of, are_digits, worth, is_minus, unsigned_at, is_hex, base_of, figures_at, figures_of, is_number, amount_of, amount_as, below, value_of}
use Rattle.numerals.specs.Numerals.{numeral_of, under, limited_to}
use Rattle.numerals.proofs.Digits.{worth_grows}
use Rattle.numerals.proofs.Laws.{numeral_is, numeral_huge, numeral_nothing}

-- ---- what digits are worth: what is left goes on from what was read

pub worth_on : (base : ℕ) (figures : List ℕ) (n i d : ℕ) → i < length figures → d ≡ digit_of (get_or figures i 0)
    → worth base n (drop i figures) ≡ worth base 0 figures → worth base (n * base + d) (drop (i + 1) figures) ≡ worth base 0 figures
unfolding worth
worth_on base figures n i d h e inv = rw (add-one i, e) (rw (drop-cons figures i 0 h) at inv)

pub worth_all : (base : ℕ) (figures : List ℕ) (n i : ℕ) → length figures ≤ i → worth base n (drop i figures) ≡ worth base 0 figures
    → n ≡ worth base 0 figures
unfolding worth
worth_all base figures n i h inv = rw (drop_of_length-le figures h) at inv

-- the test before the product: whether 64 bits hold one digit more
pub fits_on : (n base d : ℕ) → 1 ≤ base → d ≤ 16 → n ≤ (18446744073709551615 - d) / base → n * base + d < 2 ^ 64
fits_on n base d p l h = let low : n * base ≤ 18446744073709551615 - d = (le-div_iff_mul-le p).0 h in omega arith

pub huge_on : (n base d : ℕ) → 1 ≤ base → d ≤ 16 → (18446744073709551615 - d) / base < n → 2 ^ 64 ≤ n * base + d
huge_on n base d p l h = let high : 18446744073709551615 - d < n * base = (div-lt_iff_lt-mul p).0 h in omega arith

pub as_is : (n m : ℕ) → n < 2 ^ 64 → n ≡ m → Some n ≡ amount_as m
as_is n m h e = rw (← e, lt-ltb n (2 ^ 64) h)

pub as_huge : (base : ℕ) (figures : List ℕ) (n i d : ℕ) → 1 ≤ base → d ≤ 16 → (18446744073709551615 - d) / base < n → i < length figures
    → d ≡ digit_of (get_or figures i 0) → worth base n (drop i figures) ≡ worth base 0 figures → None ≡ amount_as (worth base 0 figures)
as_huge base figures n i d p l t h e inv =
    let grown : n * base + d ≤ worth base 0 figures = rw (worth_on base figures n i d h e inv) at (worth_grows base (n * base + d) (drop (i + 1) figures) p) in
    let high : 2 ^ 64 ≤ worth base 0 figures = le_trans (huge_on n base d p l t) grown in
    rw (le-ltb (worth base 0 figures) (2 ^ 64) high)

-- ---- the minus and the `0x`

pub no_minus : (word : List ℕ) → length word ≤ 0 → is_minus word ≡ false
unfolding is_minus
no_minus word h = rw (get_or-eq_default word 0 h)

pub hex_there : (word : List ℕ) (at : ℕ) → at ≡ unsigned_at word → get_or word at 0 ≡ 48 → eqb (get_or word (at + 1) 0) 120 ≡ is_hex word
unfolding is_hex
hex_there word at e h = rw (← e, h)

pub no_nought : (word : List ℕ) (at : ℕ) → at ≡ unsigned_at word → (get_or word at 0 ≡ 48 → ⊥) → false ≡ is_hex word
unfolding is_hex
no_nought word at e h = rw (← e, ne_eqb (get_or word at 0) 48 h)

pub no_x : (word : List ℕ) (at : ℕ) → at ≡ unsigned_at word → length word ≤ at + 1 → false ≡ is_hex word
unfolding is_hex
no_x word at e h = rw (← e, get_or-eq_default word 0 h) (sym (and-false (eqb (get_or word at 0) 48)))

-- ---- the value

pub below_some : (n : ℕ) → 0 < n → below n ≡ Negative (n - 1)
unfolding below
below_some zero h = absurd (omega arith)
below_some (suc n) h = let e : suc n - 1 ≡ n = omega arith in rw e

pub below_none : (n : ℕ) → n ≤ 0 → below n ≡ Natural n
unfolding below
below_none zero h = refl
below_none (suc n) h = absurd (omega arith)

pub natural_under : (value : Value) (over n : ℕ) → value ≡ Natural n → n < over → n ≡ under over value
unfolding under
natural_under value over n e h = rw (e, lt-ltb n over h)

pub natural_over : (value : Value) (over n : ℕ) → value ≡ Natural n → over ≤ n → over ≡ under over value
unfolding under
natural_over value over n e h = rw (e, le-ltb n over h)

pub negative_over : (value : Value) (over n : ℕ) → value ≡ Negative n → over ≡ under over value
unfolding under
negative_over value over n e = rw e

-- ---- the whole word

-- what is lent of a word from a place on is the rest of it
rest_of : (word : List ℕ) (at : ℕ) → take (length word - at) (drop at word) ≡ drop at word
rest_of word at = take_all (length word - at) (drop at word) (rw (length-drop at word) (le_refl (length word - at)))

pub number_none : (word : List ℕ) (at : ℕ) → at ≡ figures_at word → length word ≤ at → false ≡ is_number word
unfolding is_number figures_of
number_none word at e h = rw (← e, drop_of_length-le word h)

pub number_told_lem : (word : List ℕ) (at base : ℕ) (r : Bool) → at ≡ figures_at word → base ≡ base_of word → at < length word
    → r ≡ are_digits base (take (length word - at) (drop at word)) → r ≡ is_number word
unfolding is_number figures_of
number_told_lem word at base r e eb h er =
    let some : ltb 0 (length (drop at word)) ≡ true = lt-ltb 0 (length (drop at word)) (rw (length-drop at word) (omega arith)) in
    rw (← e, ← eb, some, er, rest_of word at)

pub amount_none : (word : List ℕ) (at : ℕ) → at ≡ figures_at word → length word < at → Some 0 ≡ amount_as (amount_of word)
unfolding amount_of figures_of worth
amount_none word at e h = let none : drop at word ≡ [] = drop_of_length-le word {i = at} (omega arith) in rw (← e, none)

pub amount_told : (word : List ℕ) (at base : ℕ) (r : Amount) → at ≡ figures_at word → base ≡ base_of word
    → r ≡ amount_as (worth base 0 (take (length word - at) (drop at word))) → r ≡ amount_as (amount_of word)
unfolding amount_of figures_of
amount_told word at base r e eb er = rw (← e, ← eb, er, rest_of word at)

-- ---- what is read

amount_is : (n m : ℕ) → Some n ≡ amount_as m → (ltb m (2 ^ 64) ≡ true) × (n ≡ m)
amount_is n m = go (ltb m (2 ^ 64))
  where
    go : (t : Bool) → Some n ≡ cond t (Some m) None → (t ≡ true) × (n ≡ m)
    go true e = (refl, cc)
    go false e = (cc, cc)

amount_huge : (m : ℕ) → None ≡ amount_as m → ltb m (2 ^ 64) ≡ false
amount_huge m = go (ltb m (2 ^ 64))
  where
    go : (t : Bool) → None ≡ cond t (Some m) None → t ≡ false
    go true e = cc
    go false e = refl

pub read_is : (word : List ℕ) (r n : Bool) (a : Amount) (size : ℕ) (value : Value) → n ≡ is_number word → n ≡ true → a ≡ amount_as (amount_of word) → a ≡ Some size
    → r ≡ is_minus word → value ≡ cond r (below size) (Natural size) → numeral.Is value ≡ numeral_of word
unfolding numeral_of value_of
read_is word r n a size value en t ea es er ev =
    let fit = amount_is size (amount_of word) (sym es ∙ ea) in
    rw (← en, t, fit.0, ← fit.1, ← er, ← ev)

pub read_huge : (word : List ℕ) (n : Bool) (a : Amount) → n ≡ is_number word → n ≡ true → a ≡ amount_as (amount_of word) → a ≡ None
    → numeral.Huge ≡ numeral_of word
unfolding numeral_of
read_huge word n a en t ea es = rw (← en, t, amount_huge (amount_of word) (sym es ∙ ea))

pub read_nothing : (word : List ℕ) (n : Bool) → n ≡ is_number word → n ≡ false → numeral.Nothing ≡ numeral_of word
unfolding numeral_of
read_nothing word n en t = rw (← en, t)

-- ---- a number up to a limit

pub limits_is : (most : ℕ) (word : List ℕ) (n : Numeral) (v : Value) (over r : ℕ) → n ≡ numeral_of word → n ≡ numeral.Is v → over ≡ most + 1
    → r ≡ under over v → r ≡ limited_to most word
unfolding limited_to
limits_is most word n v over r en ev eo er =
    let is = numeral_is word v (sym en ∙ ev) in
    rw (is.0, is.1, ← eo, er)

over_natural : (over n : ℕ) → over ≤ 2 ^ 64 → 2 ^ 64 ≤ n → over ≡ under over (Natural n)
unfolding under
over_natural over n o h = rw (le-ltb n over (omega arith))

over_below : (over n : ℕ) → 2 ^ 64 ≤ n → over ≡ under over (below n)
unfolding under below
over_below over zero h = absurd (omega arith)
over_below over (suc n) h = refl

-- a limit is one of 64 bits, so that what they do not hold is over it
over_huge : (over : ℕ) (word : List ℕ) → over ≤ 2 ^ 64 → 2 ^ 64 ≤ amount_of word → over ≡ under over (value_of word)
unfolding value_of
over_huge over word o h = go (is_minus word)
  where
    go : (t : Bool) → over ≡ under over (cond t (below (amount_of word)) (Natural (amount_of word)))
    go true = over_below over (amount_of word) h
    go false = over_natural over (amount_of word) o h

pub limits_huge : (most : ℕ) (word : List ℕ) (n : Numeral) (over : ℕ) → n ≡ numeral_of word → n ≡ numeral.Huge → over ≡ most + 1 → over ≤ 2 ^ 64
    → over ≡ limited_to most word
unfolding limited_to
limits_huge most word n over en e eo o =
    let huge = numeral_huge word (sym en ∙ e) in
    rw (huge.0, ← eo) (over_huge over word o huge.1)

pub limits_nothing : (most : ℕ) (word : List ℕ) (n : Numeral) (over : ℕ) → n ≡ numeral_of word → n ≡ numeral.Nothing → over ≡ most + 1
    → over ≡ limited_to most word
unfolding limited_to
limits_nothing most word n over en e eo = rw (numeral_nothing word (sym en ∙ e), eo)

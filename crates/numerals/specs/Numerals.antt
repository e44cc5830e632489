-- Numbers as an operator writes them in a word, and the one way in which they are written back.
-- Assumes nothing.
use Rattle.std.specs.Prelude.{◌≡◌, Bool, true, cond, not, ◌&&◌, ◌||◌, List, [], ◌∷◌, ℕ, zero, suc, ◌+◌, ◌-◌, ◌*◌, ◌^◌, eqb, leb, ltb, length, get_or, drop, Some, None}
use Rattle.text.specs.Text.{decimal}
use Rattle.values.specs.declared.Value.{Value}
use Rattle.values.specs.declared.Value.TheVariants.{Natural, Negative}
use Rattle.numerals.specs.Answers.{Amount}
use Rattle.numerals.specs.declared.Numeral.{Numeral}
use Rattle.numerals.specs.declared.Numeral.TheVariants as numeral

-- ---- "numbers in decimal or 0x hex"

-- what a byte is as a digit: 0 to 9, a to f, A to F; 16 where it is none
unfoldable pub digit_of : ℕ → ℕ
digit_of b = cond (leb 48 b && leb b 57) (b - 48) (cond (leb 97 b && leb b 102) (b - 87) (cond (leb 65 b && leb b 70) (b - 55) 16))

-- each byte is a digit below the base
unfoldable pub are_digits : ℕ → List ℕ → Bool
are_digits base [] = true
are_digits base (b ∷ rest) = ltb (digit_of b) base && are_digits base rest

-- the number whose digits were n and go on with these
unfoldable pub worth : ℕ → ℕ → List ℕ → ℕ
worth base n [] = n
worth base n (b ∷ rest) = worth base (n * base + digit_of b) rest

-- "a `-` may stand before all of it"
unfoldable pub is_minus : List ℕ → Bool
is_minus word = eqb (get_or word 0 0) 45

unfoldable pub unsigned_at : List ℕ → ℕ
unsigned_at word = cond (is_minus word) 1 0

-- `0x` stands there
unfoldable pub is_hex : List ℕ → Bool
is_hex word = eqb (get_or word (unsigned_at word) 0) 48 && eqb (get_or word (unsigned_at word + 1) 0) 120

unfoldable pub base_of : List ℕ → ℕ
base_of word = cond (is_hex word) 16 10

-- where the digits begin
unfoldable pub figures_at : List ℕ → ℕ
figures_at word = unsigned_at word + cond (is_hex word) 2 0

unfoldable pub figures_of : List ℕ → List ℕ
figures_of word = drop (figures_at word) word

-- "at least one digit"
unfoldable pub is_number : List ℕ → Bool
is_number word = ltb 0 (length (figures_of word)) && are_digits (base_of word) (figures_of word)

-- ---- the integer that a number is

unfoldable pub amount_of : List ℕ → ℕ
amount_of word = worth (base_of word) 0 (figures_of word)

-- "`-0` is 0"
unfoldable pub below : ℕ → Value
below zero = Natural 0
below (suc n) = Negative n

unfoldable pub value_of : List ℕ → Value
value_of word = cond (is_minus word) (below (amount_of word)) (Natural (amount_of word))

-- the number that a value is, if that is one from 0 to less than `over`; `over` where it is not
unfoldable pub under : ℕ → Value → ℕ
under over (Natural n) = cond (ltb n over) n over
under over (Negative n) = over

-- the number that a word is, if that is one from 0 to `most`; `most` and one more where it is not
unfoldable pub limited_to : ℕ → List ℕ → ℕ
limited_to most word = cond (is_number word) (under (most + 1) (value_of word)) (most + 1)

-- ---- how a number is written: "decimal with no digit too many"

unfoldable pub spelt : Value → List ℕ
spelt (Natural n) = decimal n
spelt (Negative n) = 45 ∷ decimal (suc n)

-- a word is written so: decimal digits, the first no 0 unless it is the only one; and `-0` is not
unfoldable pub is_short : List ℕ → Bool
is_short figures = ltb 0 (length figures) && (are_digits 10 figures && (not (eqb (get_or figures 0 0) 48) || eqb (length figures) 1))

unfoldable pub is_shortest : List ℕ → Bool
is_shortest word = is_short (drop (unsigned_at word) word) && not (is_minus word && eqb (get_or word 1 0) 48)

-- ---- the contracts

-- 64 bits hold it
abbrev pub amount_as : ℕ → Amount
amount_as n = cond (ltb n (2 ^ 64)) (Some n) None

unfoldable pub numeral_of : List ℕ → Numeral
numeral_of word = cond (is_number word) (cond (ltb (amount_of word) (2 ^ 64)) (numeral.Is (value_of word)) numeral.Huge) numeral.Nothing

abbrev pub Tells : List ℕ → Bool → Type 0
Tells word r = r ≡ is_number word

abbrev pub Reads : List ℕ → Numeral → Type 0
Reads word r = r ≡ numeral_of word

abbrev pub Limits : ℕ → List ℕ → ℕ → Type 0
Limits most word r = r ≡ limited_to most word

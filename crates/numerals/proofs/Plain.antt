-- The definitions of a number in a word, said out.
-- Assumes nothing.
use mathlib.Core.Path.{◌≡◌, refl}
use mathlib.Core.List.{List, ◌∷◌}
use Prim.Native.Nat.{ℕ, suc}
use Rattle.text.specs.Text.{decimal}
use Rattle.values.specs.declared.Value.TheVariants.{Natural, Negative}
use Rattle.numerals.specs.Numerals.{is_number, numeral_of, limited_to, spelt, Tells, Reads, Limits}

-- the calls answer these and, as they are settled, nothing else
pub calls_plainly : (most : ℕ) (word : List ℕ) → Tells word (is_number word) × Reads word (numeral_of word) × Limits most word (limited_to most word)
calls_plainly most word = (refl, refl, refl)

-- a number is written as its digits, one below 0 with a minus before them
pub spelt_plainly : (n : ℕ) → (spelt (Natural n) ≡ decimal n) × (spelt (Negative n) ≡ 45 ∷ decimal (suc n))
unfolding spelt
spelt_plainly n = (refl, refl)

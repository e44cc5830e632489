-- More kinds of line noise. 02, #111: "any accepted message altered in an odd number of bits, and [..] one altered in exactly two bits, anywhere
-- in its up to 1,968 bits".
-- Assumes nothing.
use Rattle.std.specs.Prelude.{◌≡◌, cond, List, [], ◌∷◌, ℕ, ◌+◌, ◌%◌, eqb, length}
use Rattle.remainder.specs.Remainder.{bits}

-- in how many places two lists of bits differ
unfoldable pub differing : List ℕ → List ℕ → ℕ
differing [] ds = 0
differing (c ∷ cs) [] = 0
differing (c ∷ cs) (d ∷ ds) = cond (eqb c d) 0 1 + differing cs ds

-- how many bits of xs are altered in ys, each byte taken highest bit first
abbrev pub bits_altered : List ℕ → List ℕ → ℕ
bits_altered xs ys = differing (bits xs) (bits ys)

-- ys is xs "altered in an odd number of bits"
pub record AlteredOddly (xs ys : List ℕ) : Type 0 where
  pub same_length : length xs ≡ length ys
  pub odd : bits_altered xs ys % 2 ≡ 1

-- ys is xs "altered in exactly two bits"
pub record AlteredInTwo (xs ys : List ℕ) : Type 0 where
  pub same_length : length xs ≡ length ys
  pub two : bits_altered xs ys ≡ 2

-- The remainder of a byte string: first what it is, then how it is worked out, then what an alteration of some bytes is.
--
-- A polynomial over GF(2) is the number whose binary digits are its coefficients: x^5 + 1 is 2 ^ 5 + 1. So the sum of two
-- polynomials is the exclusive or of the two numbers, and x^k times p is p * 2 ^ k.
-- Assumes nothing.
use Rattle.std.specs.Prelude.{◌≡◌, ◌≢◌, cond, List, [], ◌∷◌, ◌++◌, ℕ, zero, suc, ◌+◌, ◌*◌, ◌/◌, ◌%◌, ◌^◌, ◌≤◌, ◌<◌, ltb, length, get_or}
use Rattle.std.specs.Int.Bits.{bit_xor}

infixl 60 ◌⊕◌
-- the sum of two polynomials
abbrev pub ◌⊕◌ : ℕ → ℕ → ℕ
◌⊕◌ = bit_xor

-- the bits of a byte, highest first
unfoldable pub bits_of : ℕ → List ℕ
bits_of b = b / 128 % 2 ∷ b / 64 % 2 ∷ b / 32 % 2 ∷ b / 16 % 2 ∷ b / 8 % 2 ∷ b / 4 % 2 ∷ b / 2 % 2 ∷ b % 2 ∷ []

-- the bits of all bytes, each byte highest bit first
unfoldable pub bits : List ℕ → List ℕ
bits [] = []
bits (b ∷ rest) = bits_of b ++ bits rest

-- the polynomial whose coefficients are these bits, the highest first
unfoldable pub polynomial : List ℕ → ℕ
polynomial [] = 0
polynomial (c ∷ rest) = c * 2 ^ length rest + polynomial rest

-- q times x^16 + x^12 + x^5 + 1
unfoldable pub times_divisor : ℕ → ℕ
times_divisor q = q * 2 ^ 16 ⊕ q * 2 ^ 12 ⊕ q * 2 ^ 5 ⊕ q

-- p divided by x^16 + x^12 + x^5 + 1 leaves r
pub record Leaves (p r : ℕ) : Type 0 where
  pub quotient : ℕ
  pub divided : p ≡ times_divisor quotient ⊕ r
  pub under : r < 2 ^ 16

-- r is the remainder of the bytes: their bits as a polynomial, times x^16, leave r
abbrev pub IsRemainder : List ℕ → ℕ → Type 0
IsRemainder bytes r = Leaves (polynomial (bits bytes) * 2 ^ 16) r

-- ---- how it is worked out

-- what x times a polynomial leaves that itself leaves s
unfoldable pub times_x : ℕ → ℕ
times_x s = cond (ltb s (2 ^ 15)) (s * 2) (s * 2 ⊕ (2 ^ 16 + 2 ^ 12 + 2 ^ 5 + 1))

-- the same for x^n times the polynomial
unfoldable pub times_xs : ℕ → ℕ → ℕ
times_xs zero s = s
times_xs (suc n) s = times_xs n (times_x s)

-- the remainder of a byte string that goes on with the byte b, from the remainder s of what stands before it
unfoldable pub with_byte : ℕ → ℕ → ℕ
with_byte s b = times_xs 8 (s ⊕ b % 256 * 2 ^ 8)

-- the remainder of a byte string that goes on with these bytes
unfoldable pub with_bytes : ℕ → List ℕ → ℕ
with_bytes s [] = s
with_bytes s (b ∷ rest) = with_bytes (with_byte s b) rest

-- the remainder of the bytes; the empty string has 0
unfoldable pub remainder_of : List ℕ → ℕ
remainder_of bytes = with_bytes 0 bytes

-- ---- alterations

-- two equally long byte strings combined by exclusive or
unfoldable pub combined : List ℕ → List ℕ → List ℕ
combined [] ys = []
combined (x ∷ xs) [] = []
combined (x ∷ xs) (y ∷ ys) = (x ⊕ y) ∷ combined xs ys

-- these bits have a one, and all ones stand within 16 neighbouring places
pub record Burst (cs : List ℕ) : Type 0 where
  pub some_one : (i : ℕ) × (get_or cs i 0 ≡ 1)
  pub from : ℕ
  pub near : (i : ℕ) → get_or cs i 0 ≡ 1 → (from ≤ i) × (i < from + 16)

-- the bits at a place differ
abbrev pub DifferAt : List ℕ → List ℕ → ℕ → Type 0
DifferAt xs ys i = get_or (bits xs) i 0 ≢ get_or (bits ys) i 0

-- ys is xs with one or more bits altered, all within 16 neighbouring bits, each byte taken highest bit first
pub record AlteredNearby (xs ys : List ℕ) : Type 0 where
  pub same_length : length xs ≡ length ys
  pub some_bit : (i : ℕ) × DifferAt xs ys i
  pub from : ℕ
  pub near : (i : ℕ) → DifferAt xs ys i → (from ≤ i) × (i < from + 16)

-- the same by the first and the last bit that differ: they are less than 16 places apart
pub record FirstToLast (xs ys : List ℕ) : Type 0 where
  pub same_length : length xs ≡ length ys
  pub first : ℕ
  pub last : ℕ
  pub first_differs : DifferAt xs ys first
  pub last_differs : DifferAt xs ys last
  pub between : (i : ℕ) → DifferAt xs ys i → (first ≤ i) × (i ≤ last)
  pub apart : last < first + 16

-- ---- the contract

-- what `remainder` answers
abbrev pub Remains : List ℕ → ℕ → Type 0
Remains bytes r = r ≡ remainder_of bytes

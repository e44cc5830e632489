-- Text: fixed words in ASCII, and numbers in decimal without leading zeros.
-- Assumes nothing.
use Rattle.std.specs.Prelude.{◌≡◌, cond, List, [], ◌∷◌, ◌++◌, ℕ, zero, suc, ◌+◌, ◌/◌, ◌%◌, ltb, length}
use Prim.Native.Char.{code}
use Prim.Native.String.{String}
use Rattle.lent.specs.Lent.{over_at}

-- the bytes of a word
abbrev pub ascii : String → List ℕ
ascii String.[] = []
ascii (String.◌∷◌ c word) = code c ∷ ascii word

-- "each line ended by one newline"
abbrev pub newline : List ℕ
newline = 10 ∷ []

-- a number's digits; so many at most
unfoldable pub decimal_by : ℕ → ℕ → List ℕ
decimal_by zero n = []
decimal_by (suc k) n = cond (ltb n 10) [] (decimal_by k (n / 10)) ++ ((48 + n % 10) ∷ [])

-- a number of 64 bits has 20 digits at most
unfoldable pub decimal : ℕ → List ℕ
decimal n = decimal_by 20 n

-- the contract of `decimal_at`: how many digits there are, and what the room holds once they are laid over it from a place on
abbrev pub Spells : ℕ → ℕ → List ℕ → ℕ → List ℕ → Type 0
Spells n at room r room' = (r ≡ length (decimal n)) × (room' ≡ over_at at (decimal n) room)

-- a piece of a text that is put together piece by piece: from a place on, as much of it as there is room for; the place behind it is answered
abbrev pub Puts : List ℕ → ℕ → List ℕ → ℕ → List ℕ → Type 0
Puts piece at room r room' = (r ≡ at + length piece) × (room' ≡ over_at at piece room)

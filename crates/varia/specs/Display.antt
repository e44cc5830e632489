-- What the operators see: two bytes of a reply, and whether a filter is moving. 02, #104.
-- Assumes nothing.
use Rattle.std.specs.Prelude.{◌≡◌, Bool, cond, ◌||◌, List, [], ◌∷◌, ◌≢◌, ℕ, eqb, length, take}
use Rattle.std.proofs.Math.Option.{Option, some, none}
use Rattle.rows.specs.Rows.{Row, row}
use Rattle.values.specs.Values.{bit_at}

-- ---- "It hands back the first two bytes of the fresh one where it has exactly two, otherwise the first two of the kept one, and says which."

-- 64: "neither has exactly two bytes"
unfoldable pub IsNeither : List ℕ → List ℕ → Type 0
IsNeither fresh kept = (length fresh ≢ 2) × (length kept ≢ 2)

unfoldable pub display_rows : List ℕ → List ℕ → List (Row ℕ)
display_rows fresh kept = row (IsNeither fresh kept) 64 ∷ []

-- one of three, by the lengths of the two
abbrev pub by_lengths : {A : Type 0} → List ℕ → List ℕ → A → A → A → A
by_lengths fresh kept of_fresh of_kept of_neither = cond (eqb (length fresh) 2) of_fresh (cond (eqb (length kept) 2) of_kept of_neither)

-- the two bytes; of a refusal none
abbrev pub two_bytes : List ℕ → List ℕ → List ℕ
two_bytes fresh kept = by_lengths fresh kept (take 2 fresh) (take 2 kept) []

-- which: 1 is the fresh one, 2 the kept one; a refusal is its number
abbrev pub which_of : List ℕ → List ℕ → ℕ
which_of fresh kept = by_lengths fresh kept 1 2 64

-- the number that it tells
abbrev pub display_told : ℕ → Option ℕ
display_told which = cond (eqb which 64) (some 64) none

-- ---- "say whether any of filters 1 to 3 is moving (status bits 12 to 14)"

abbrev pub is_moving : ℕ → Bool
is_moving status = eqb (bit_at status 12) 1 || (eqb (bit_at status 13) 1 || eqb (bit_at status 14) 1)

-- ---- the contracts

-- `display`
abbrev pub Displays : List ℕ → List ℕ → List ℕ → ℕ → Type 0
Displays fresh kept part which = (part ≡ two_bytes fresh kept) × (which ≡ which_of fresh kept)

-- `moving`
abbrev pub TellsMoving : ℕ → Bool → Type 0
TellsMoving status r = r ≡ is_moving status

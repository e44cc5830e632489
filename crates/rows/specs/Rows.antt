-- Numbered refusals: "The lowest row that applies is the answer, except as said. Each is given exactly when its condition holds and no
-- earlier one does." A call's rows are a list in the call's order; each condition stands in the paper's words, on its own.
-- Assumes nothing.
use Rattle.std.specs.Prelude.{◌≡◌, Bool, true, false, cond, not, ◌||◌, ◌&&◌, List, [], ◌∷◌, ◌⊎◌, ◌↔◌, ℕ, eqb}
use Rattle.std.proofs.Math.Option.{Option, some, none}

-- a row: its condition, and the refusal that is given where it is the first that holds
pub record Row (F : Type 0) : Type 1 where
  pub holds : Type 0
  pub gives : F

abbrev pub row : {F : Type 0} → Type 0 → F → Row F
row p f = record { holds = p; gives = f }

-- f is what the first row that holds gives
abbrev pub First : {F : Type 0} → List (Row F) → F → Type 0
First [] f = ⊥
First (r ∷ rs) f = (r.holds × (f ≡ r.gives)) ⊎ ((r.holds → ⊥) × First rs f)

-- no row holds
abbrev pub NoRow : {F : Type 0} → List (Row F) → Type 0
NoRow [] = Unit {0}
NoRow (r ∷ rs) = (r.holds → ⊥) × NoRow rs

-- a refusal, or none, is the one that these rows give
abbrev pub Ranked : {F : Type 0} → List (Row F) → Option F → Type 0
Ranked rs none = NoRow rs
Ranked rs (some f) = First rs f

-- ---- how it is worked out

-- a test for a row's condition, with what the row gives
pub record Test (F : Type 0) : Type 0 where
  pub tells : Bool
  pub gives : F

abbrev pub test : {F : Type 0} → Bool → F → Test F
test b f = record { tells = b; gives = f }

-- the first test that tells true
abbrev pub first_row_of : {F : Type 0} → List (Test F) → Option F
first_row_of [] = none
first_row_of (t ∷ ts) = cond t.tells (some t.gives) (first_row_of ts)

-- the first refusal of two groups of tests
abbrev pub or_later : {F : Type 0} → Option F → Option F → Option F
or_later (some f) later = some f
or_later none later = later

-- ---- where one call is made by another, and "a refusal there ends the call": each refusal given as one of the other call's own

abbrev pub passed_up : {F G : Type 0} → (F → G) → List (Row F) → List (Row G)
passed_up up [] = []
passed_up up (r ∷ rs) = row r.holds (up r.gives) ∷ passed_up up rs

abbrev pub raised : {F G : Type 0} → (F → G) → Option F → Option G
raised up (some f) = some (up f)
raised up none = none

-- ---- by the paper's numbers: `passed_up number rows` are the rows of a call with the number that each gives, and `raised number refusal` is
-- the number of a refusal, or none

-- the numbers that rows give, in their order
abbrev pub numbers_of : List (Row ℕ) → List ℕ
numbers_of [] = []
numbers_of (r ∷ rs) = r.gives ∷ numbers_of rs

abbrev pub stands : ℕ → List ℕ → Bool
stands n [] = false
stands n (m ∷ rest) = eqb n m || stands n rest

-- no number stands twice
abbrev pub apart : List ℕ → Bool
apart [] = true
apart (n ∷ rest) = not (stands n rest) && apart rest

-- of what a call told, a number or none, when these are its rows: their numbers are this list, no two are equal, a number is told exactly when
-- its row holds and no earlier one does, and none exactly when no row holds
pub record Numbered (rs : List (Row ℕ)) (numbers : List ℕ) (told : Option ℕ) : Type 0 where
  pub in_order : numbers_of rs ≡ numbers
  pub no_two : apart numbers ≡ true
  pub each : (n : ℕ) → (told ≡ some n) ↔ First rs n
  pub done : (told ≡ none) ↔ NoRow rs

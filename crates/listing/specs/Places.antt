-- Events by their places, to say that each frame of the capture has one line, in order of its place.
-- Assumes nothing.
use Rattle.std.specs.Prelude.{◌≡◌, cond, List, [], ◌∷◌, ◌≢◌, ◌⊎◌, ℕ, suc, ◌+◌, ◌≤◌, ◌<◌, eqb, length, get_or, drop}
use Rattle.lines.specs.declared.Placed.{Placed}
use Rattle.listing.specs.Events.{placed, event_of}

-- the event is one of these
abbrev pub In : Placed → List Placed → Type 0
In e [] = ⊥
In e (x ∷ rest) = (e ≡ x) ⊎ In e rest

-- the places rise, from n on
abbrev pub RisingFrom : ℕ → List Placed → Type 0
RisingFrom n [] = Unit {0}
RisingFrom n (e ∷ rest) = (n ≤ e.place) × RisingFrom (suc e.place) rest

-- an event of these bytes, the first of which stands at a place: that of one of their 13s, as the bytes after it decide
abbrev pub Of13 : List ℕ → ℕ → Placed → Type 0
Of13 xs from e = (i : ℕ) × (e.place ≡ from + i) × (i < length xs) × (get_or xs i 0 ≡ 13) × (e.event ≡ event_of (drop (i + 1) xs))

-- no 10 and no 13 among these
abbrev pub NoEnd : List ℕ → Type 0
NoEnd [] = Unit {0}
NoEnd (b ∷ rest) = (b ≢ 10) × (b ≢ 13) × NoEnd rest

-- how many 13s there are
unfoldable pub thirteens : List ℕ → ℕ
thirteens [] = 0
thirteens (b ∷ rest) = cond (eqb b 13) 1 0 + thirteens rest

-- the same events, so much later
unfoldable pub shifted : ℕ → List Placed → List Placed
shifted by [] = []
shifted by (e ∷ rest) = placed (by + e.place) e.event ∷ shifted by rest

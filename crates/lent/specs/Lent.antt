-- What a lent buffer holds after something was put into it: "in the first bytes of the lent buffer. The rest of that buffer stays."
-- Assumes nothing.
use Rattle.std.specs.Prelude.{◌≡◌, List, [], ◌∷◌, ℕ, zero, suc, take, drop}

-- d with its first bytes replaced by xs; where xs is longer than d, by as many of xs as there is room for
unfoldable pub over : List ℕ → List ℕ → List ℕ
over [] d = d
over (x ∷ xs) [] = []
over (x ∷ xs) (y ∷ d) = x ∷ over xs d

-- the same from place k on; the k bytes before it stay too
unfoldable pub over_at : ℕ → List ℕ → List ℕ → List ℕ
over_at zero xs d = over xs d
over_at (suc k) xs [] = []
over_at (suc k) xs (y ∷ d) = y ∷ over_at k xs d

-- what `lay_at` does to the buffer
abbrev pub Lays : List ℕ → ℕ → List ℕ → List ℕ → Type 0
Lays bytes at room room' = room' ≡ over_at at bytes room

-- what `move_within` does to it: so many bytes from one place on are laid over those from another place on, as they stood before the call
abbrev pub Moves : List ℕ → ℕ → ℕ → ℕ → List ℕ → Type 0
Moves room from to size room' = room' ≡ over_at to (take size (drop from room)) room

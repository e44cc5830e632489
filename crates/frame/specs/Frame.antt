-- A message and its frame: substitution both ways. Start is 13, end is 10, substitution is 94.
-- Assumes nothing.
use Rattle.std.specs.Prelude.{◌≡◌, Bool, true, false, cond, ◌||◌, List, [], ◌∷◌, ◌++◌, ℕ, ◌+◌, ◌-◌, ◌<◌, eqb, length, take, drop}
use Rattle.lent.specs.Lent.{over, over_at}

-- each of these numbers is a byte, as those of a slice of bytes are
abbrev pub AllBytes : List ℕ → Type 0
AllBytes [] = Unit {0}
AllBytes (b ∷ rest) = (b < 256) × AllBytes rest

-- "every 10, 13 and 94 in the message"
abbrev pub is_special : ℕ → Bool
is_special b = eqb b 10 || (eqb b 13 || eqb b 94)

-- "becomes 94 and then the byte plus 64"
abbrev pub substitute : ℕ → List ℕ
substitute b = cond (is_special b) (94 ∷ (b + 64) ∷ []) (b ∷ [])

unfoldable pub substituted : List ℕ → List ℕ
substituted [] = []
substituted (b ∷ rest) = substitute b ++ substituted rest

-- the telegram of a message
unfoldable pub framed : List ℕ → List ℕ
framed message = 13 ∷ substituted message ++ (10 ∷ [])

-- what stands between the ends of a frame
unfoldable pub between : List ℕ → List ℕ
between frame = take (length frame - 2) (drop 1 frame)

-- one byte turned back: a 94 is left out, and the byte after it is less 64. The flag says that a 94 came last.
abbrev pub restore : Bool → ℕ → List ℕ
restore true b = (b - 64) ∷ []
restore false b = cond (eqb b 94) [] (b ∷ [])

abbrev pub opens : Bool → ℕ → Bool
opens true b = false
opens false b = eqb b 94

-- the bytes with each substitution turned back
unfoldable pub restored : Bool → List ℕ → List ℕ
restored after [] = []
restored after (b ∷ rest) = restore after b ++ restored (opens after b) rest

-- the message of a frame, where it has one
unfoldable pub message_of : List ℕ → List ℕ
message_of frame = restored false (between frame)

-- ---- the contracts of the functions that substitute

-- `substituted_length`: how long a message is once it is substituted
abbrev pub Measures : List ℕ → ℕ → Type 0
Measures message r = r ≡ length (substituted message)

-- `substitute_at`: the message, substituted, laid over the room from a place on
abbrev pub Substitutes : List ℕ → ℕ → List ℕ → List ℕ → Type 0
Substitutes message at room room' = room' ≡ over_at at (substituted message) room

-- `restore`: the same back into the room's first bytes; the answer is how long it is, with room or without
abbrev pub Restores : List ℕ → List ℕ → ℕ → List ℕ → Type 0
Restores bytes room r room' = (r ≡ length (restored false bytes)) × (room' ≡ over (restored false bytes) room)

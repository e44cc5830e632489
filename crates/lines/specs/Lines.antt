-- The listing's exact text.
-- Assumes nothing.
use Rattle.std.specs.Prelude.{◌≡◌, cond, Bool, List, [], ◌++◌, ℕ, ◌+◌, eqb, length}
use Rattle.lent.specs.Lent.{over, over_at}
use Rattle.telegram.specs.Read.{fault_number, fault_place}
use Rattle.text.specs.Text.{ascii, newline, decimal}
use Rattle.lines.specs.declared.Event.{Event}
use Rattle.lines.specs.declared.Event.TheVariants.{Read, Refused, Dropped, Open}

unfoldable pub header_text : List ℕ
header_text = ascii "Interbus capture" ++ newline

-- a blank and a number
abbrev pub field : ℕ → List ℕ
field n = ascii " " ++ decimal n

-- a word, and a number after it
abbrev pub labelled : List ℕ → ℕ → List ℕ
labelled word n = word ++ field n

-- 02, #105: "the listing's line becomes `at P refused 3 in Q`"; no other number has a place
abbrev pub place_text : ℕ → ℕ → List ℕ
place_text number place = cond (eqb number 3) (labelled (ascii " in") place) []

-- "The fields after ok are destination, source, type, register, data length."
abbrev pub event_text : Event → List ℕ
event_text (Read t) = labelled (ascii " ok") t.destination ++ (field t.source ++ (field t.sort ++ (field t.register ++ field t.size)))
event_text (Refused f) = labelled (ascii " refused") (fault_number f) ++ place_text (fault_number f) (fault_place f)
event_text Dropped = ascii " dropped"
event_text Open = ascii " open"

unfoldable pub line_text : ℕ → Event → List ℕ
line_text place event = labelled (ascii "at") place ++ (event_text event ++ newline)

unfoldable pub totals_text : ℕ → ℕ → ℕ → List ℕ
totals_text ok refused dropped = labelled (ascii "ok") ok ++ (labelled (ascii " refused") refused ++ (labelled (ascii " dropped") dropped ++ newline))

-- what stands at the capture's end: "Without an open frame there is no open line."
unfoldable pub ending_text : Bool → ℕ → ℕ → ℕ → ℕ → List ℕ
ending_text inside start ok refused dropped = cond inside (line_text start Open) [] ++ totals_text ok refused dropped

-- ---- the contracts of the calls that write text: its length is answered, and it takes the room's first bytes, as much as there is room for

abbrev pub Writes : List ℕ → List ℕ → ℕ → List ℕ → Type 0
Writes text room r room' = (r ≡ length text) × (room' ≡ over text room)

-- the same from a place on, for a piece of a text: the place behind it is answered
abbrev pub Puts : List ℕ → ℕ → List ℕ → ℕ → List ℕ → Type 0
Puts text at room r room' = (r ≡ at + length text) × (room' ≡ over_at at text room)

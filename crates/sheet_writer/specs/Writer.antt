-- Writing a settings sheet: how settings are handed over, when they are refused, and the bytes of the lent buffer.
-- Assumes nothing.
use Rattle.std.specs.Prelude.{◌≡◌, Bool, cond, not, ◌||◌, List, [], ◌∷◌, ◌++◌, ◌⊎◌, ◌≢◌, ℕ, zero, suc, ◌+◌, ◌*◌, ◌<◌, eqb, ltb, length, take, drop, Ok, Err}
use Rattle.std.proofs.Math.Option.{Option, some, none}
use Rattle.rows.specs.Rows.{Row, row, Test, test, first_row_of}
use Rattle.setting.specs.declared.Head.{Head}
use Rattle.setting.specs.Setting.{Setting, length_of, lengths_to, Some, Falls, Unfit, rows_in, heads, tails, settings_in, falls, unfit, some_of, fault_number}
use Rattle.setting.specs.declared.Fault.{Fault}
use Rattle.setting.specs.declared.Fault.TheVariants.{OutOfOrder, NotAllowed, NoRoom, TooMany}
use Rattle.lent.specs.Lent.{over}
use Rattle.sheet.specs.Sheet.{header_for, record_for, sheet_of, room_after}
use Rattle.sheet_writer.specs.Answers.{Writing}

-- ---- settings are handed over as rows of 8 bytes, a sheet's records but for the last number, which says how long the value is; and as
-- their values, one after the other

unfoldable pub rows_for : List Setting → List ℕ
rows_for [] = []
rows_for (s ∷ rest) = record_for s.named (length s.value) ++ rows_for rest

-- the settings that were handed over
unfoldable pub handed : List ℕ → List ℕ → List Setting
handed rows values = settings_in (rows_in rows) rows values

-- ---- the rows: "For a writer: 79 over 128 settings, 68, 69 (also where the value's length isn't count times size), 57."

-- 79: "over 128 settings"
unfoldable pub AreMany : List ℕ → Type 0
AreMany rows = 128 < rows_in rows

-- 68: "a record not above the one before"
unfoldable pub HaveFall : List ℕ → Type 0
HaveFall rows = Some (Falls (heads rows)) (rows_in rows)

-- "the value's length isn't count times size"
unfoldable pub Misstated : List ℕ → ℕ → Type 0
Misstated rows k = tails rows k ≢ length_of (heads rows k)

-- the rows are not whole, a length is not what its row says, or the values are not as long together
unfoldable pub HaveWrongLength : List ℕ → List ℕ → Type 0
HaveWrongLength rows values =
    (length rows ≢ 8 * rows_in rows) ⊎ (Some (Misstated rows) (rows_in rows) ⊎ (length values ≢ lengths_to (heads rows) (rows_in rows)))

-- 69: "kind, count or module (1 to 160) not allowed", "also where the value's length isn't count times size"
unfoldable pub HaveUnfit : List ℕ → List ℕ → Type 0
HaveUnfit rows values = Some (Unfit (heads rows)) (rows_in rows) ⊎ HaveWrongLength rows values

-- 57: "buffer too short"
unfoldable pub IsNarrow : List ℕ → List ℕ → List ℕ → Type 0
IsNarrow rows values room = length room < length (sheet_of (handed rows values))

unfoldable pub write_rows : List ℕ → List ℕ → List ℕ → List (Row Fault)
write_rows rows values room =
    row (AreMany rows) TooMany
    ∷ row (HaveFall rows) OutOfOrder
    ∷ row (HaveUnfit rows values) NotAllowed
    ∷ row (IsNarrow rows values room) NoRoom
    ∷ []

-- ---- how they are tested

abbrev pub misstated : List ℕ → ℕ → Bool
misstated rows k = not (eqb (tails rows k) (length_of (heads rows k)))

-- of n rows with values of so many bytes
unfoldable pub is_misstated : List ℕ → ℕ → Bool
is_misstated rows size =
    not (eqb (length rows) (8 * rows_in rows))
    || (some_of (misstated rows) (rows_in rows) || not (eqb size (lengths_to (heads rows) (rows_in rows))))

-- what is left to refuse of settings that are allowed
abbrev pub room_tests : List ℕ → List ℕ → List (Test Fault)
room_tests sheet room = test (ltb (length room) (length sheet)) NoRoom ∷ []

abbrev pub write_tests : List ℕ → List ℕ → List ℕ → List (Test Fault)
write_tests rows values room =
    test (ltb 128 (rows_in rows)) TooMany
    ∷ test (some_of (falls (heads rows)) (rows_in rows)) OutOfOrder
    ∷ test (some_of (unfit (heads rows)) (rows_in rows) || is_misstated rows (length values)) NotAllowed
    ∷ room_tests (sheet_of (handed rows values)) room

unfoldable pub write_refusal : List ℕ → List ℕ → List ℕ → Option Fault
write_refusal rows values room = first_row_of (write_tests rows values room)

-- ---- the answers

abbrev pub write_answer : Option Fault → ℕ → Writing
write_answer (some f) size = Err f
write_answer none size = Ok size

abbrev pub write_told : Writing → Option ℕ
write_told (Err f) = some (fault_number f)
write_told (Ok size) = none

-- ---- the contract

abbrev pub Writes : List ℕ → List ℕ → List ℕ → Writing → List ℕ → Type 0
Writes rows values room r room' =
    (r ≡ write_answer (write_refusal rows values room) (length (sheet_of (handed rows values))))
    × (room' ≡ room_after (write_refusal rows values room) (sheet_of (handed rows values)) room)

-- ---- how a sheet is laid: its records from the rows, each with the lengths before it

unfoldable pub laid_from : (ℕ → Head) → ℕ → ℕ → List ℕ
laid_from at k zero = []
laid_from at k (suc n) = record_for (at k) (lengths_to at k) ++ laid_from at (suc k) n

-- the contract of what is left where the settings are allowed
abbrev pub Lays : List ℕ → List ℕ → Writing → List ℕ → Type 0
Lays sheet room r room' =
    (r ≡ write_answer (first_row_of (room_tests sheet room)) (length sheet)) × (room' ≡ room_after (first_row_of (room_tests sheet room)) sheet room)

-- the contract of `lay_again`: header and records of a sheet, from n rows that stand where its records belong
abbrev pub LaysAgain : ℕ → List ℕ → List ℕ → Type 0
LaysAgain n room room' =
    room'
    ≡ cond (ltb (length room) (12 + 8 * n)) room (over (header_for n ++ laid_from (heads (take (8 * n) (drop 12 room))) 0 n) room)

-- Throwing settings out of a sheet, and adding one, within the buffer that the sheet stands in. 02, #114.
-- Assumes nothing.
use Rattle.std.specs.Prelude.{◌≡◌, Bool, cond, not, ◌&&◌, ◌||◌, List, [], ◌∷◌, ◌++◌, ◌⊎◌, ◌≢◌, ℕ, zero, suc, ◌≤◌, ◌<◌, eqb, leb, ltb, length, take, drop, Ok, Err}
use Rattle.std.proofs.Math.Option.{Option, some, none}
use Rattle.lent.specs.Lent.{over}
use Rattle.rows.specs.Rows.{Row, row, Test, test, first_row_of, or_later, passed_up, raised}
use Rattle.setting.specs.declared.Head.{Head}
use Rattle.setting.specs.Setting.{Setting, setting, length_of, Allowed, Some, is_above, is_allowed, some_of, fault_number as sheet_number}
use Rattle.sheet.specs.Sheet.{sheet_of, named, count_in, held, check_rows, check_refusal}
use Rattle.sheet_editor.specs.Answers.{Editing}
use Rattle.sheet_editor.specs.declared.Fault.{Fault}
use Rattle.sheet_editor.specs.Answers.{Judged}
use Rattle.sheet_editor.specs.declared.Fault.TheVariants.{Overstated, WrongSheet, NothingThere, NotAllowed, AlreadyThere, Full, NoRoom}

-- ---- the settings of the new sheet

-- "We want to remove one record": by its number, from 0 on
unfoldable pub without : ℕ → List Setting → List Setting
without k [] = []
without zero (s ∷ rest) = rest
without (suc k) (s ∷ rest) = s ∷ without k rest

-- "or all of one module"
unfoldable pub others : ℕ → List Setting → List Setting
others unit [] = []
others unit (s ∷ rest) = cond (eqb s.named.unit unit) (others unit rest) (s ∷ others unit rest)

-- "A setting can then be added, in order": ahead of the first that stands above it
unfoldable pub among : Setting → List Setting → List Setting
among new [] = new ∷ []
among new (s ∷ rest) = cond (is_above new.named s.named) (new ∷ s ∷ rest) (s ∷ among new rest)

-- ---- the rows. "The caller states the sheet's length inside the buffer.": the sheet is the buffer's first so many bytes

-- 80: "stated length over the buffer"
unfoldable pub IsOverstated : List ℕ → ℕ → Type 0
IsOverstated room size = length room < size

-- "65 to 70 for a sheet that isn't right"
unfoldable pub sheet_rows : List ℕ → ℕ → List (Row Fault)
sheet_rows room size = row (IsOverstated room size) Overstated ∷ passed_up WrongSheet (check_rows (take size room))

-- "then for removal 77 nothing to remove": no record has that number, or none is of that module
unfoldable pub HasNot : List Setting → ℕ → Type 0
HasNot settings index = length settings ≤ index

unfoldable pub HasNoneOf : List Setting → ℕ → Type 0
HasNoneOf settings unit = (k : ℕ) → k < length settings → (named settings k).unit ≢ unit

unfoldable pub remove_rows : List ℕ → ℕ → ℕ → List (Row Fault)
remove_rows room size index = sheet_rows room size ++ (row (HasNot (held (take size room)) index) NothingThere ∷ [])

unfoldable pub module_rows : List ℕ → ℕ → ℕ → List (Row Fault)
module_rows room size unit = sheet_rows room size ++ (row (HasNoneOf (held (take size room)) unit) NothingThere ∷ [])

-- "for adding 69 the new setting's module, kind, count or value length not allowed"
unfoldable pub IsUnfit : Setting → Type 0
IsUnfit new = (Allowed new.named → ⊥) ⊎ (length new.value ≢ length_of new.named)

-- "78 its module and register already there"
unfoldable pub SameKey : Head → Head → Type 0
SameKey a b = (a.unit ≡ b.unit) × (a.register ≡ b.register)

unfoldable pub IsThere : List Setting → Setting → Type 0
IsThere settings new = Some (λ k. SameKey (named settings k) new.named) (length settings)

-- "79 already 128 records"
unfoldable pub IsFull : List Setting → Type 0
IsFull settings = 128 ≤ length settings

-- "80 buffer too short for the longer sheet"
unfoldable pub IsNarrow : List ℕ → List Setting → Setting → Type 0
IsNarrow room settings new = length room < length (sheet_of (among new settings))

unfoldable pub add_rows : List ℕ → ℕ → Setting → List (Row Fault)
add_rows room size new =
    sheet_rows room size
    ++ (row (IsUnfit new) NotAllowed
    ∷ row (IsThere (held (take size room)) new) AlreadyThere
    ∷ row (IsFull (held (take size room))) Full
    ∷ row (IsNarrow room (held (take size room)) new) NoRoom
    ∷ [])

-- ---- how they are tested

abbrev pub sheet_refusal : List ℕ → ℕ → Option Fault
sheet_refusal room size = or_later (first_row_of (test (ltb (length room) size) Overstated ∷ [])) (raised WrongSheet (check_refusal (take size room)))

abbrev pub has_none_of : List Setting → ℕ → Bool
has_none_of settings unit = not (some_of (λ k. eqb (named settings k).unit unit) (length settings))

abbrev pub is_unfit : Setting → Bool
is_unfit new = not (is_allowed new.named) || not (eqb (length new.value) (length_of new.named))

abbrev pub same_key : Head → Head → Bool
same_key a b = eqb a.unit b.unit && eqb a.register b.register

abbrev pub is_there : List Setting → Setting → Bool
is_there settings new = some_of (λ k. same_key (named settings k) new.named) (length settings)

-- of a right sheet, by the settings that it holds
abbrev pub remove_tests : List Setting → ℕ → List (Test Fault)
remove_tests settings index = test (leb (length settings) index) NothingThere ∷ []

abbrev pub module_tests : List Setting → ℕ → List (Test Fault)
module_tests settings unit = test (has_none_of settings unit) NothingThere ∷ []

abbrev pub add_tests : List ℕ → List Setting → Setting → List (Test Fault)
add_tests room settings new =
    test (is_unfit new) NotAllowed
    ∷ test (is_there settings new) AlreadyThere
    ∷ test (leb 128 (length settings)) Full
    ∷ test (ltb (length room) (length (sheet_of (among new settings)))) NoRoom
    ∷ []

unfoldable pub remove_refusal : List ℕ → ℕ → ℕ → Option Fault
remove_refusal room size index = or_later (sheet_refusal room size) (first_row_of (remove_tests (held (take size room)) index))

unfoldable pub module_refusal : List ℕ → ℕ → ℕ → Option Fault
module_refusal room size unit = or_later (sheet_refusal room size) (first_row_of (module_tests (held (take size room)) unit))

unfoldable pub add_refusal : List ℕ → ℕ → Setting → Option Fault
add_refusal room size new = or_later (sheet_refusal room size) (first_row_of (add_tests room (held (take size room)) new))

-- ---- the answers

-- the paper's number of each refusal
abbrev pub fault_number : Fault → ℕ
fault_number Overstated = 80
fault_number (WrongSheet f) = sheet_number f
fault_number NothingThere = 77
fault_number NotAllowed = 69
fault_number AlreadyThere = 78
fault_number Full = 79
fault_number NoRoom = 80

abbrev pub edit_told : Editing → Option ℕ
edit_told (Err f) = some (fault_number f)
edit_told (Ok size) = none

abbrev pub edit_answer : Option Fault → ℕ → Editing
edit_answer (some f) size = Err f
edit_answer none size = Ok size

-- "what is left is byte for byte the sheet that #106 writes for the remaining settings. Bytes of the buffer past the new end stay as they
-- were.", and a refusal leaves every byte
abbrev pub edit_room : Option Fault → List ℕ → List ℕ → List ℕ
edit_room (some f) sheet room = room
edit_room none sheet room = over sheet room

-- ---- the contracts

-- a refusal, or the sheet of these settings and its length
abbrev pub Edits : Option Fault → List Setting → List ℕ → Editing → List ℕ → Type 0
Edits refusal settings room r room' = (r ≡ edit_answer refusal (length (sheet_of settings))) × (room' ≡ edit_room refusal (sheet_of settings) room)

abbrev pub Removes : List ℕ → ℕ → ℕ → Editing → List ℕ → Type 0
Removes room size index r room' = Edits (remove_refusal room size index) (without index (held (take size room))) room r room'

abbrev pub RemovesModule : List ℕ → ℕ → ℕ → Editing → List ℕ → Type 0
RemovesModule room size unit r room' = Edits (module_refusal room size unit) (others unit (held (take size room))) room r room'

abbrev pub Adds : List ℕ → ℕ → Head → List ℕ → Editing → List ℕ → Type 0
Adds room size named value r room' =
    Edits (add_refusal room size (setting named value)) (among (setting named value) (held (take size room))) room r room'

abbrev pub Numbers : Fault → ℕ → Type 0
Numbers fault r = r ≡ fault_number fault

-- the same of a right sheet
abbrev pub RemovesFrom : List Setting → List ℕ → ℕ → Editing → List ℕ → Type 0
RemovesFrom settings room index r room' = Edits (first_row_of (remove_tests settings index)) (without index settings) room r room'

abbrev pub RemovesModuleFrom : List Setting → List ℕ → ℕ → Editing → List ℕ → Type 0
RemovesModuleFrom settings room unit r room' = Edits (first_row_of (module_tests settings unit)) (others unit settings) room r room'

abbrev pub AddsTo : List Setting → List ℕ → Setting → Editing → List ℕ → Type 0
AddsTo settings room new r room' = Edits (first_row_of (add_tests room settings new)) (among new settings) room r room'

-- ---- how it is done

-- how many records a right sheet has, or why nothing is done
abbrev pub judge_answer : Option Fault → ℕ → Judged
judge_answer (some f) count = Err f
judge_answer none count = Ok count

abbrev pub judgement : List ℕ → ℕ → Judged
judgement room size = judge_answer (sheet_refusal room size) (count_in (take size room))

-- the settings before one place and those from another one on
unfoldable pub cut_out : ℕ → ℕ → List Setting → List Setting
cut_out from to settings = take from settings ++ drop to settings

-- a new one at a place
unfoldable pub put_in : ℕ → Setting → List Setting → List Setting
put_in at new settings = take at settings ++ (new ∷ drop at settings)

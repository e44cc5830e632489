-- Settings sheets: the sheet of a list of settings, what a right sheet is, and what checking and reading one answers.
-- Assumes nothing.
use Rattle.std.specs.Prelude.{◌≡◌, Bool, not, ◌||◌, List, [], ◌∷◌, ◌++◌, ◌⊎◌, ◌≢◌, ℕ, suc, ◌+◌, ◌*◌, ◌≤◌, ◌<◌, eqb, leb, ltb, length, get_or, take, drop, Ok, Err}
use Rattle.std.proofs.Math.Option.{Option, some, none}
use Rattle.lent.specs.Lent.{over}
use Rattle.rows.specs.Rows.{Row, row, NoRow, Test, test, first_row_of, or_later}
use Rattle.values.specs.Values.{natural, bytes_of}
use Rattle.setting.specs.declared.Head.{Head}
use Rattle.setting.specs.Setting.{head, Setting, setting, length_of, lengths_to, Above, Allowed, Some, Falls, Unfit, heads, tails, settings_in, falls, unfit, some_of, fault_number}
use Rattle.setting.specs.declared.Fault.{Fault}
use Rattle.setting.specs.declared.Fault.TheVariants.{ShortSheet, OtherVersion, WrongHeader, OutOfOrder, NotAllowed, WrongPlaces, NoSuchRecord, NoRoom}
use Rattle.sheet.specs.Answers.{Checked}
use Rattle.sheet.specs.declared.Record.{Record}
use Rattle.sheet.specs.Answers.{Reading}

-- ---- the sheet of a list of settings

-- "Header, 12 bytes, lowest byte first: version (2 bytes), record count (2, at most 128), offset of the records (4, always 12), offset of
-- the values (4)." "The version is 1"
unfoldable pub header_for : ℕ → List ℕ
header_for count = bytes_of 2 1 ++ (bytes_of 2 count ++ (bytes_of 4 12 ++ bytes_of 4 (12 + 8 * count)))

-- "A record is 8 bytes: module, register, kind, element count 1 to 240, value offset from the start of the value area (4)."
unfoldable pub record_for : Head → ℕ → List ℕ
record_for h offset = h.unit ∷ h.register ∷ h.kind ∷ h.count ∷ bytes_of 4 offset

-- "Values follow in record order without gaps": the first record's value stands at `offset`, each other's right behind the one before
unfoldable pub records_for : ℕ → List Setting → List ℕ
records_for offset [] = []
records_for offset (s ∷ rest) = record_for s.named offset ++ records_for (offset + length s.value) rest

unfoldable pub values_for : List Setting → List ℕ
values_for [] = []
values_for (s ∷ rest) = s.value ++ values_for rest

-- "and the sheet ends with the last one"
unfoldable pub sheet_of : List Setting → List ℕ
sheet_of settings = header_for (length settings) ++ (records_for 0 settings ++ values_for settings)

-- ---- the settings that a sheet can be written for

-- of the setting at k; where there is none, of one that is not allowed
abbrev pub nothing : Setting
nothing = setting (head 0 0 0 0) []

unfoldable pub named : List Setting → ℕ → Head
named settings k = (get_or settings k nothing).named

unfoldable pub valued : List Setting → ℕ → List ℕ
valued settings k = (get_or settings k nothing).value

pub record Writable (settings : List Setting) : Type 0 where
  pub few : length settings ≤ 128
  pub rise : (k : ℕ) → suc k < length settings → Above (named settings k) (named settings (suc k))
  pub allowed : (k : ℕ) → k < length settings → Allowed (named settings k)
  pub whole : (k : ℕ) → k < length settings → length (valued settings k) ≡ length_of (named settings k)

-- ---- what stands in a sheet

-- the number that n bytes from a place on are
unfoldable pub field_at : ℕ → ℕ → List ℕ → ℕ
field_at at n sheet = natural (take n (drop at sheet))

unfoldable pub version_in : List ℕ → ℕ
version_in sheet = field_at 0 2 sheet

unfoldable pub count_in : List ℕ → ℕ
count_in sheet = field_at 2 2 sheet

unfoldable pub records_at : List ℕ → ℕ
records_at sheet = field_at 4 4 sheet

unfoldable pub values_at : List ℕ → ℕ
values_at sheet = field_at 8 4 sheet

-- the records, and all that stands behind them
unfoldable pub records_in : List ℕ → List ℕ
records_in sheet = take (8 * count_in sheet) (drop 12 sheet)

unfoldable pub values_in : List ℕ → List ℕ
values_in sheet = drop (12 + 8 * count_in sheet) sheet

-- the settings that a sheet holds
unfoldable pub held : List ℕ → List Setting
held sheet = settings_in (count_in sheet) (records_in sheet) (values_in sheet)

-- ---- the rows, "in order over the whole sheet"

-- 65: "shorter than 12"
unfoldable pub IsShort : List ℕ → Type 0
IsShort sheet = length sheet < 12

-- 66: "version not 1"
unfoldable pub IsOther : List ℕ → Type 0
IsOther sheet = version_in sheet ≢ 1

-- 67: "count over 128, or an offset in the header wrong, or shorter than the offset of the values"
unfoldable pub IsWrongHeader : List ℕ → Type 0
IsWrongHeader sheet =
    (128 < count_in sheet)
    ⊎ ((records_at sheet ≢ 12) ⊎ ((values_at sheet ≢ 12 + 8 * count_in sheet) ⊎ (length sheet < values_at sheet)))

-- 68: "a record not above the one before"
unfoldable pub HasFall : List ℕ → Type 0
HasFall sheet = Some (Falls (heads (records_in sheet))) (count_in sheet)

-- 69: "kind, count or module (1 to 160) not allowed"
unfoldable pub HasUnfit : List ℕ → Type 0
HasUnfit sheet = Some (Unfit (heads (records_in sheet))) (count_in sheet)

-- 70: "a record's value offset wrong or the sheet not ending where its values do"
unfoldable pub Misplaced : List ℕ → ℕ → Type 0
Misplaced rows k = tails rows k ≢ lengths_to (heads rows) k

unfoldable pub HasMisplaced : List ℕ → Type 0
HasMisplaced sheet =
    Some (Misplaced (records_in sheet)) (count_in sheet)
    ⊎ (length sheet ≢ values_at sheet + lengths_to (heads (records_in sheet)) (count_in sheet))

-- 56: "no such record"; records count from 0
unfoldable pub HasNot : List ℕ → ℕ → Type 0
HasNot sheet index = count_in sheet ≤ index

-- 57: "buffer too short"
unfoldable pub IsNarrow : List ℕ → ℕ → List ℕ → Type 0
IsNarrow sheet index room = length room < length_of (heads (records_in sheet) index)

unfoldable pub check_rows : List ℕ → List (Row Fault)
check_rows sheet =
    row (IsShort sheet) ShortSheet
    ∷ row (IsOther sheet) OtherVersion
    ∷ row (IsWrongHeader sheet) WrongHeader
    ∷ row (HasFall sheet) OutOfOrder
    ∷ row (HasUnfit sheet) NotAllowed
    ∷ row (HasMisplaced sheet) WrongPlaces
    ∷ []

-- a right sheet is one that no row of these refuses
abbrev pub Right : List ℕ → Type 0
Right sheet = NoRow (check_rows sheet)

unfoldable pub read_rows : List ℕ → ℕ → List ℕ → List (Row Fault)
read_rows sheet index room = check_rows sheet ++ (row (HasNot sheet index) NoSuchRecord ∷ row (IsNarrow sheet index room) NoRoom ∷ [])

-- ---- how they are tested

abbrev pub is_wrong_header : List ℕ → Bool
is_wrong_header sheet =
    ltb 128 (count_in sheet)
    || (not (eqb (records_at sheet) 12) || (not (eqb (values_at sheet) (12 + 8 * count_in sheet)) || ltb (length sheet) (values_at sheet)))

abbrev pub misplaced : List ℕ → ℕ → Bool
misplaced rows k = not (eqb (tails rows k) (lengths_to (heads rows) k))

-- of n rows and so many bytes behind them
unfoldable pub is_misplaced : ℕ → List ℕ → ℕ → Bool
is_misplaced n rows size = some_of (misplaced rows) n || not (eqb size (lengths_to (heads rows) n))

-- of the records, then of the whole sheet
abbrev pub record_tests : List ℕ → List (Test Fault)
record_tests sheet =
    test (some_of (falls (heads (records_in sheet))) (count_in sheet)) OutOfOrder
    ∷ test (some_of (unfit (heads (records_in sheet))) (count_in sheet)) NotAllowed
    ∷ test (is_misplaced (count_in sheet) (records_in sheet) (length (values_in sheet))) WrongPlaces
    ∷ []

abbrev pub check_tests : List ℕ → List (Test Fault)
check_tests sheet =
    test (ltb (length sheet) 12) ShortSheet
    ∷ test (not (eqb (version_in sheet) 1)) OtherVersion
    ∷ test (is_wrong_header sheet) WrongHeader
    ∷ record_tests sheet

unfoldable pub check_refusal : List ℕ → Option Fault
check_refusal sheet = first_row_of (check_tests sheet)

abbrev pub read_tests : List ℕ → ℕ → List ℕ → List (Test Fault)
read_tests sheet index room =
    test (leb (count_in sheet) index) NoSuchRecord ∷ test (ltb (length room) (length_of (heads (records_in sheet) index))) NoRoom ∷ []

unfoldable pub read_refusal : List ℕ → ℕ → List ℕ → Option Fault
read_refusal sheet index room = or_later (check_refusal sheet) (first_row_of (read_tests sheet index room))

-- ---- the answers

abbrev pub check_answer : Option Fault → ℕ → Checked
check_answer (some f) count = Err f
check_answer none count = Ok count

abbrev pub check_told : Checked → Option ℕ
check_told (Err f) = some (fault_number f)
check_told (Ok count) = none

-- module, register, kind, element count, and the value's length
abbrev pub record_as : Head → Record
record_as h = record { head = h; size = length_of h }

abbrev pub read_answer : Option Fault → Head → Reading
read_answer (some f) h = Err f
read_answer none h = Ok (record_as h)

abbrev pub read_told : Reading → Option ℕ
read_told (Err f) = some (fault_number f)
read_told (Ok r) = none

-- the value that a record says: so many bytes from its offset on in the value area
unfoldable pub value_at : List ℕ → ℕ → List ℕ
value_at sheet k = take (length_of (heads (records_in sheet) k)) (drop (tails (records_in sheet) k) (values_in sheet))

-- a refusal leaves every byte of the buffer
abbrev pub room_after : Option Fault → List ℕ → List ℕ → List ℕ
room_after (some f) bytes room = room
room_after none bytes room = over bytes room

-- ---- the contracts

abbrev pub Checks : List ℕ → Checked → Type 0
Checks sheet r = r ≡ check_answer (check_refusal sheet) (count_in sheet)

abbrev pub Reads : List ℕ → ℕ → List ℕ → Reading → List ℕ → Type 0
Reads sheet index room r room' =
    (r ≡ read_answer (read_refusal sheet index room) (heads (records_in sheet) index))
    × (room' ≡ room_after (read_refusal sheet index room) (value_at sheet index) room)

-- the same where the header is right, and where the whole sheet is
abbrev pub ChecksRecords : List ℕ → Checked → Type 0
ChecksRecords sheet r = r ≡ check_answer (first_row_of (record_tests sheet)) (count_in sheet)

abbrev pub Shows : List ℕ → ℕ → List ℕ → Reading → List ℕ → Type 0
Shows sheet index room r room' =
    (r ≡ read_answer (first_row_of (read_tests sheet index room)) (heads (records_in sheet) index))
    × (room' ≡ room_after (first_row_of (read_tests sheet index room)) (value_at sheet index) room)

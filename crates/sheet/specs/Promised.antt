-- What is promised of sheets, in facts: what a right sheet is, and what an answer says of the settings that it holds.
-- Assumes nothing.
use Rattle.std.specs.Prelude.{◌≡◌, List, ◌++◌, ℕ, suc, ◌+◌, ◌*◌, ◌≤◌, ◌<◌, length, drop}
use Rattle.setting.specs.Setting.{Setting, length_of, lengths_to, Above, Allowed, heads, tails}
use Rattle.sheet.specs.Sheet.{named, valued, version_in, count_in, records_at, values_at, records_in, held, Right}
use Rattle.sheet.specs.declared.Record.{Record}

-- each value has the length that its head says
abbrev pub Sized : List Setting → Type 0
Sized settings = (k : ℕ) → k < length settings → length (valued settings k) ≡ length_of (named settings k)

-- what a right header says
pub record Headed (sheet : List ℕ) : Type 0 where
  pub few : count_in sheet ≤ 128
  pub records : records_at sheet ≡ 12
  pub values : values_at sheet ≡ 12 + 8 * count_in sheet
  pub reaches : 12 + 8 * count_in sheet ≤ length sheet

-- what a right sheet is
pub record Whole (sheet : List ℕ) : Type 0 where
  pub long : 12 ≤ length sheet
  pub version : version_in sheet ≡ 1
  pub header : Headed sheet
  pub rise : (k : ℕ) → suc k < count_in sheet → Above (heads (records_in sheet) k) (heads (records_in sheet) (suc k))
  pub allowed : (k : ℕ) → k < count_in sheet → Allowed (heads (records_in sheet) k)
  pub placed : (k : ℕ) → k < count_in sheet → tails (records_in sheet) k ≡ lengths_to (heads (records_in sheet)) k
  pub ends : length sheet ≡ 12 + 8 * count_in sheet + lengths_to (heads (records_in sheet)) (count_in sheet)

-- "then answers one record, numbered from 0, with its value bytes in a lent buffer": the setting at that place
pub record Answered (sheet : List ℕ) (index : ℕ) (room : List ℕ) (r : Record) (room' : List ℕ) : Type 0 where
  pub sheet_right : Right sheet
  pub within : index < length (held sheet)
  pub names : r.head ≡ named (held sheet) index
  pub long : r.size ≡ length (valued (held sheet) index)
  pub fits : length (valued (held sheet) index) ≤ length room
  pub bytes : room' ≡ valued (held sheet) index ++ drop (length (valued (held sheet) index)) room

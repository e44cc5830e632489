-- What the C host is answered of a settings sheet: numbers only.
-- Assumes nothing.
use Rattle.std.specs.Prelude.{List, ℕ, Ok, Err}
use Rattle.setting.specs.Setting.{fault_number, head}
use Rattle.setting.specs.declared.Head.{Head}
use Rattle.sheet.specs.Sheet.{Checks, Reads}
use Rattle.sheet.specs.Answers.{Checked, Reading}
use Rattle.sheet_editor.specs.Editor.{Removes, RemovesModule, Adds}
use Rattle.sheet_editor.specs.Answers.{Editing}
use Rattle.sheet_writer.specs.Writer.{Writes}
use Rattle.sheet_writer.specs.Answers.{Writing}
use Rattle.kamzhor.specs.Told.{Told}
use Rattle.kamzhor.specs.Values.{size_number, size_found}
use Rattle.kamzhor.specs.declared.host_sheet.CheckAnswer.{CheckAnswer}
use Rattle.kamzhor.specs.declared.host_sheet.RecordAnswer.{RecordAnswer}
use Rattle.kamzhor.specs.declared.host_values.SizeAnswer.{SizeAnswer}
use Rattle.sheet_editor.specs.Editor as editor

-- ---- writing: how long the sheet is

abbrev pub sheet_given : Writing → SizeAnswer
sheet_given (Err f) = size_number (fault_number f)
sheet_given (Ok n) = size_found n

-- ---- checking: how many records it has

abbrev pub check_given : Checked → CheckAnswer
check_given (Err f) = record { refusal = fault_number f; count = 0 }
check_given (Ok n) = record { refusal = 0; count = n }

-- ---- reading a record: what it names, and how many bytes its value has

abbrev pub record_given : Reading → RecordAnswer
record_given (Err f) = record { refusal = fault_number f; head = head 0 0 0 0; size = 0 }
record_given (Ok r) = record { refusal = 0; head = r.head; size = r.size }

-- ---- removing and adding: how long the sheet is then

abbrev pub edit_given : Editing → SizeAnswer
edit_given (Err f) = size_number (editor.fault_number f)
edit_given (Ok n) = size_found n

-- ---- the contracts

-- `kamzhor_sheet_write`
abbrev pub GivesSheet : List ℕ → List ℕ → List ℕ → SizeAnswer → List ℕ → Type 0
GivesSheet rows values room r room' = Told (λ o. Writes rows values room o room') sheet_given r

-- `kamzhor_sheet_check`
abbrev pub GivesCheck : List ℕ → CheckAnswer → Type 0
GivesCheck sheet r = Told (Checks sheet) check_given r

-- `kamzhor_sheet_read`
abbrev pub GivesRecord : List ℕ → ℕ → List ℕ → RecordAnswer → List ℕ → Type 0
GivesRecord sheet index room r room' = Told (λ o. Reads sheet index room o room') record_given r

-- `kamzhor_sheet_remove`
abbrev pub GivesRemoved : List ℕ → ℕ → ℕ → SizeAnswer → List ℕ → Type 0
GivesRemoved room size index r room' = Told (λ o. Removes room size index o room') edit_given r

-- `kamzhor_sheet_remove_module`
abbrev pub GivesModuleRemoved : List ℕ → ℕ → ℕ → SizeAnswer → List ℕ → Type 0
GivesModuleRemoved room size unit r room' = Told (λ o. RemovesModule room size unit o room') edit_given r

-- `kamzhor_sheet_add`
abbrev pub GivesAdded : List ℕ → ℕ → Head → List ℕ → SizeAnswer → List ℕ → Type 0
GivesAdded room size named value r room' = Told (λ o. Adds room size named value o room') edit_given r

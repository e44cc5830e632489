-- What the C host is answered by the telegram writer, the value writer and the catalogue: numbers only.
-- Assumes nothing.
use Rattle.std.specs.Prelude.{Bool, true, false, cond, List, ℕ, ◌-◌, eqb, Ok, Err}
use Rattle.catalogue.specs.Catalogue.{Finds}
use Rattle.catalogue.specs.Answers.{Found}
use Rattle.telegram.specs.Write.{Writes}
use Rattle.telegram.specs.Answers.{Writing as FrameWriting}
use Rattle.values.specs.Answers.{Writing as ValueWriting}
use Rattle.values.specs.declared.Value.{Value}
use Rattle.values.specs.declared.Value.TheVariants.{Natural, Negative}
use Rattle.kamzhor.specs.Told.{Told}
use Rattle.kamzhor.specs.declared.host_values.EntryAnswer.{EntryAnswer}
use Rattle.kamzhor.specs.declared.host_values.SizeAnswer.{SizeAnswer}
use Rattle.catalogue.specs.Catalogue as catalogue
use Rattle.telegram.specs.Read as telegram
use Rattle.values.specs.Values as values

-- ---- the telegram writer: how long the telegram is

abbrev pub size_number : ℕ → SizeAnswer
size_number n = record { refusal = n; size = 0 }

abbrev pub size_found : ℕ → SizeAnswer
size_found n = record { refusal = 0; size = n }

abbrev pub written_given : FrameWriting → SizeAnswer
written_given (Err f) = size_number (telegram.fault_number f)
written_given (Ok n) = size_found n

-- ---- the value writer

-- the number that a sign and a magnitude mean; minus 0 is 0
abbrev pub value_meant : ℕ → ℕ → Value
value_meant negative magnitude = cond (eqb negative 0) (Natural magnitude) (cond (eqb magnitude 0) (Natural 0) (Negative (magnitude - 1)))

abbrev pub stored_given : ValueWriting → ℕ
stored_given (Err f) = values.fault_number f
stored_given (Ok _) = 0

-- ---- the catalogue

-- 1 is yes
abbrev pub yes_told : Bool → ℕ
yes_told true = 1
yes_told false = 0

abbrev pub entry_given : Found → EntryAnswer
entry_given (Err f) = record { refusal = catalogue.fault_number f; kind = 0; writable = 0; lowest = 0; highest = 0 }
entry_given (Ok e) = record { refusal = 0; kind = e.kind; writable = yes_told e.writable; lowest = e.lowest; highest = e.highest }

-- ---- the contracts

-- `kamzhor_write_frame`
abbrev pub GivesWritten : ℕ → ℕ → ℕ → ℕ → List ℕ → List ℕ → SizeAnswer → List ℕ → Type 0
GivesWritten destination source sort register bytes room r room' =
    Told (λ w. Writes destination source sort register bytes room w room') written_given r

-- `kamzhor_write_value`: `kind`, `negative` and `magnitude` are any numbers
abbrev pub GivesStored : ℕ → ℕ → ℕ → List ℕ → ℕ → List ℕ → Type 0
GivesStored kind negative magnitude room r room' = Told (λ w. values.Writes kind (value_meant negative magnitude) room w room') stored_given r

-- `kamzhor_find_register`
abbrev pub GivesEntry : ℕ → ℕ → EntryAnswer → Type 0
GivesEntry model register r = Told (Finds model register) entry_given r

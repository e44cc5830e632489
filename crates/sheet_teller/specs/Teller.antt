-- A settings sheet told as text: a line for each setting, or a call for each of its write requests. docs/SHEETS.md.
-- Assumes nothing.
use Rattle.std.specs.Prelude.{◌≡◌, cond, not, ◌&&◌, List, [], ◌∷◌, ◌++◌, ℕ, ◌+◌, ◌*◌, ◌/◌, ◌%◌, ◌≤◌, eqb, leb, ltb, length, replicate, Ok, Err}
use Rattle.std.proofs.Math.Option.{Option, some, none}
use Rattle.lent.specs.Lent.{over}
use Rattle.rows.specs.Rows.{Row, row, Test, test, first_row_of, or_later, passed_up, raised}
use Rattle.text.specs.Text.{ascii, newline, decimal}
use Rattle.setting.specs.Setting.{Setting, fault_number as sheet_number}
use Rattle.sheet.specs.Sheet.{held, check_rows, check_refusal}
use Rattle.sheet_line.specs.Line.{line_of}
use Rattle.sheet_teller.specs.declared.Order.{Order}
use Rattle.sheet_teller.specs.declared.Form.{Form}
use Rattle.sheet_teller.specs.declared.Form.TheVariants.{Lines, Calls}
use Rattle.sheet_teller.specs.declared.Fault.{Fault}
use Rattle.sheet_teller.specs.declared.Fault.TheVariants.{WrongSheet, NoJob, WrongWait}
use Rattle.sheet_teller.specs.Answers.{Telling}

-- ---- the request that sets a register: "`desk.open JOB MODULE 5 REGISTER DATA WAIT 0 CLOCK BUF`"

-- "lower-case hex"
unfoldable pub hex_digit : ℕ → ℕ
hex_digit d = cond (ltb d 10) (48 + d) (87 + d)

unfoldable pub hex_of : List ℕ → List ℕ
hex_of [] = []
hex_of (b ∷ rest) = hex_digit (b / 16) ∷ hex_digit (b % 16) ∷ hex_of rest

-- "as many zero bytes as the longest telegram with so many data bytes could have, 14 and 2 for each data byte"; a byte is two digits
abbrev pub zeros : ℕ → List ℕ
zeros size = replicate (28 + 4 * size) 48

unfoldable pub call_of : Order → Setting → List ℕ
call_of order s =
    ascii "desk.open "
    ++ (decimal order.job
    ++ (ascii " " ++ (decimal s.named.unit
    ++ (ascii " 5 " ++ (decimal s.named.register
    ++ (ascii " " ++ (hex_of s.value
    ++ (ascii " " ++ (decimal order.wait ++ (ascii " 0 " ++ (decimal order.clock ++ (ascii " " ++ zeros (length s.value)))))))))))))

-- ---- the text of settings, "a newline ends each line"

unfoldable pub piece_of : Form → Setting → List ℕ
piece_of Lines s = line_of s ++ newline
piece_of (Calls order) s = call_of order s ++ newline

unfoldable pub pieces_of : Form → List Setting → List ℕ
pieces_of form [] = []
pieces_of form (s ∷ rest) = piece_of form s ++ pieces_of form rest

abbrev pub text_of : List Setting → List ℕ
text_of settings = pieces_of Lines settings

abbrev pub calls_of : Order → List Setting → List ℕ
calls_of order settings = pieces_of (Calls order) settings

-- ---- the rows: a sheet that is not right, and for requests 10 and 14 as the desk has them

unfoldable pub HasNoJob : Order → Type 0
HasNoJob order = order.job ≡ 0

unfoldable pub HasWrongWait : Order → Type 0
HasWrongWait order = (1 ≤ order.wait) × (order.wait ≤ 60000) → ⊥

unfoldable pub show_rows : List ℕ → List (Row Fault)
show_rows sheet = passed_up WrongSheet (check_rows sheet)

unfoldable pub ask_rows : List ℕ → Order → List (Row Fault)
ask_rows sheet order = passed_up WrongSheet (check_rows sheet) ++ (row (HasNoJob order) NoJob ∷ row (HasWrongWait order) WrongWait ∷ [])

-- ---- how they are tested

abbrev pub order_tests : Order → List (Test Fault)
order_tests order = test (eqb order.job 0) NoJob ∷ test (not (leb 1 order.wait && leb order.wait 60000)) WrongWait ∷ []

unfoldable pub show_refusal : List ℕ → Option Fault
show_refusal sheet = raised WrongSheet (check_refusal sheet)

unfoldable pub ask_refusal : List ℕ → Order → Option Fault
ask_refusal sheet order = or_later (raised WrongSheet (check_refusal sheet)) (first_row_of (order_tests order))

-- ---- the answers

-- the paper's number of each refusal
abbrev pub fault_number : Fault → ℕ
fault_number (WrongSheet f) = sheet_number f
fault_number NoJob = 10
fault_number WrongWait = 14

abbrev pub tell_told : Telling → Option ℕ
tell_told (Err f) = some (fault_number f)
tell_told (Ok size) = none

abbrev pub tell_answer : Option Fault → List ℕ → Telling
tell_answer (some f) text = Err f
tell_answer none text = Ok (length text)

-- "as much of it as there is room for"; a refusal leaves every byte
abbrev pub tell_room : Option Fault → List ℕ → List ℕ → List ℕ
tell_room (some f) text room = room
tell_room none text room = over text room

-- ---- the contracts

abbrev pub Tells : Option Fault → List ℕ → List ℕ → Telling → List ℕ → Type 0
Tells refusal text room r room' = (r ≡ tell_answer refusal text) × (room' ≡ tell_room refusal text room)

abbrev pub Shows : List ℕ → List ℕ → Telling → List ℕ → Type 0
Shows sheet room r room' = Tells (show_refusal sheet) (text_of (held sheet)) room r room'

abbrev pub Asks : List ℕ → Order → List ℕ → Telling → List ℕ → Type 0
Asks sheet order room r room' = Tells (ask_refusal sheet order) (calls_of order (held sheet)) room r room'

abbrev pub Numbers : Fault → ℕ → Type 0
Numbers fault r = r ≡ fault_number fault

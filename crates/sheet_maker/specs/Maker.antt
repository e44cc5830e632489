-- A settings sheet made of a text, one setting added by a line of text, and a record found by its module and register. docs/SHEETS.md.
-- Assumes nothing.
use Rattle.std.specs.Prelude.{◌≡◌, Bool, true, false, cond, List, [], ◌∷◌, ◌++◌, ℕ, zero, suc, ◌/◌, eqb, leb, length, get_or, take, Ok, Err, Some, None}
use Rattle.std.proofs.Math.Option.{Option, some, none}
use Rattle.first.specs.First.{first_place}
use Rattle.lent.specs.Lent.{over}
use Rattle.setting.specs.declared.Head.{Head}
use Rattle.setting.specs.declared.Fault.{Fault as SheetFault}
use Rattle.setting.specs.Setting.{head, Setting, is_above, heads}
use Rattle.sheet.specs.Sheet.{sheet_of, values_for, count_in, records_in, check_refusal}
use Rattle.sheet_writer.specs.Writer.{rows_for, write_refusal}
use Rattle.sheet_editor.specs.Editor.{sheet_refusal, add_refusal, among, same_key, edit_room}
use Rattle.sheet_editor.specs.declared.Fault.{Fault as EditFault}
use Rattle.sheet.specs.Sheet.{held}
use Rattle.sheet_line.specs.Words.{words_of}
use Rattle.sheet_line.specs.Line.{said_by, setting_in, fault_word}
use Rattle.sheet_line.specs.Answers.{Line}
use Rattle.sheet_line.specs.declared.Fault.{Fault as LineFault}
use Rattle.sheet_line.specs.declared.Fault.TheVariants.{FewWords, NoNumber, NoModule, NoRegister, NoKind, BadCount, OtherCount, NotFitting, NoRoom}
use Rattle.sheet_maker.specs.Answers.{Making, Adding}
use Rattle.sheet_maker.specs.declared.NotMade.TheVariants as not_made
use Rattle.sheet_maker.specs.declared.NotAdded.TheVariants as not_added

-- ---- "A line ends with a newline, byte 10. What stands behind the last newline is a line too."

-- one byte more in front: a newline ends an empty line there, any other byte stands first in the first line
unfoldable pub in_front : Bool → ℕ → List (List ℕ) → List (List ℕ)
in_front true b lines = [] ∷ lines
in_front false b [] = (b ∷ []) ∷ []
in_front false b (line ∷ lines) = (b ∷ line) ∷ lines

unfoldable pub lines_of : List ℕ → List (List ℕ)
lines_of [] = [] ∷ []
lines_of (b ∷ rest) = in_front (eqb b 10) b (lines_of rest)

-- what a line says; 240 bytes hold every value
abbrev pub said : List ℕ → Line
said line = said_by (words_of line) 240

-- ---- the settings of a text, in its order

abbrev pub setting_of : Line → List ℕ → List Setting
setting_of (Ok None) line = []
setting_of (Err f) line = []
setting_of (Ok (Some r)) line = setting_in (words_of line) ∷ []

unfoldable pub settings_from : List (List ℕ) → List Setting
settings_from [] = []
settings_from (line ∷ lines) = setting_of (said line) line ++ settings_from lines

unfoldable pub settings_of : List ℕ → List Setting
settings_of text = settings_from (lines_of text)

-- ---- "Every bad line is told": its number, the word and the key, three numbers for each

-- the keys in their order, from 1 on
abbrev pub key_of : LineFault → ℕ
key_of FewWords = 1
key_of (NoNumber k) = 2
key_of NoModule = 3
key_of NoRegister = 4
key_of NoKind = 5
key_of BadCount = 6
key_of OtherCount = 7
key_of (NotFitting k) = 8
key_of NoRoom = 0

-- where `many` settings stand in the lines before it, 128 at most, and the nearest of them is named `before`: `many` is "right in itself,
-- and 128 settings stand in lines before it", `order` "is not above the setting of the nearest line before it that is right in itself"
abbrev pub report_of : ℕ → ℕ → Head → Line → List ℕ
report_of number many before (Ok None) = []
report_of number many before (Err f) = number ∷ fault_word f ∷ key_of f ∷ []
report_of number many before (Ok (Some r)) =
    cond (leb 128 many) (number ∷ 0 ∷ 9 ∷ []) (cond (is_above before r.head) [] (number ∷ 0 ∷ 10 ∷ []))

abbrev pub many_after : ℕ → Line → ℕ
many_after many (Ok None) = many
many_after many (Err f) = many
many_after many (Ok (Some r)) = cond (leb 128 many) many (suc many)

abbrev pub nearest : Head → Line → Head
nearest before (Ok None) = before
nearest before (Err f) = before
nearest before (Ok (Some r)) = r.head

unfoldable pub reports_from : ℕ → ℕ → Head → List (List ℕ) → List ℕ
reports_from number many before [] = []
reports_from number many before (line ∷ lines) =
    report_of number many before (said line) ++ reports_from (suc number) (many_after many (said line)) (nearest before (said line)) lines

-- "counted from 1 over all lines"; the first setting has none before it, and every module is above 0
unfoldable pub reports_of : List ℕ → List ℕ
reports_of text = reports_from 1 0 (head 0 0 0 0) (lines_of text)

-- how many lines are bad
abbrev pub bad_in : List ℕ → ℕ
bad_in text = length (reports_of text) / 3

-- the paper's number of each key, 0 where the papers have none
abbrev pub key_numbers : List ℕ
key_numbers = 57 ∷ 0 ∷ 0 ∷ 69 ∷ 0 ∷ 69 ∷ 69 ∷ 69 ∷ 43 ∷ 79 ∷ 68 ∷ []

unfoldable pub number_of_key : ℕ → ℕ
number_of_key key = get_or key_numbers key 0

-- ---- the contracts

-- "a text with a bad line makes no sheet"; of any other it is what the writer of 02's #106 writes for its settings
abbrev pub make_answer : ℕ → Option SheetFault → ℕ → Making
make_answer zero none size = Ok size
make_answer zero (some f) size = Err (not_made.Refused f)
make_answer (suc bad) refusal size = Err (not_made.Wrong (suc bad))

abbrev pub make_room : ℕ → Option SheetFault → List ℕ → List ℕ → List ℕ
make_room zero none sheet room = over sheet room
make_room zero (some f) sheet room = room
make_room (suc bad) refusal sheet room = room

abbrev pub make_refusal : List ℕ → List ℕ → Option SheetFault
make_refusal text room = write_refusal (rows_for (settings_of text)) (values_for (settings_of text)) room

-- the list gets as many of the numbers as it has room for
abbrev pub Makes : List ℕ → List ℕ → List ℕ → Making → List ℕ → List ℕ → Type 0
Makes text list room r list' room' =
    (r ≡ make_answer (bad_in text) (make_refusal text room) (length (sheet_of (settings_of text))))
    × (list' ≡ over (reports_of text) list)
    × (room' ≡ make_room (bad_in text) (make_refusal text room) (sheet_of (settings_of text)) room)

-- a line without a word is `words` too
abbrev pub wrong_answer : Option EditFault → LineFault → Adding
wrong_answer (some f) wrong = Err (not_added.Refused f)
wrong_answer none wrong = Err (not_added.Wrong wrong)

abbrev pub added_answer : Option EditFault → ℕ → Adding
added_answer (some f) size = Err (not_added.Refused f)
added_answer none size = Ok size

-- "a sheet that is not right is told first (65 to 70), then the line's own key, then 78, 79"
abbrev pub add_answer : Line → List ℕ → List ℕ → ℕ → Adding
add_answer (Ok None) line room size = wrong_answer (sheet_refusal room size) FewWords
add_answer (Err f) line room size = wrong_answer (sheet_refusal room size) f
add_answer (Ok (Some r)) line room size =
    added_answer (add_refusal room size (setting_in (words_of line))) (length (sheet_of (among (setting_in (words_of line)) (held (take size room)))))

abbrev pub add_room : Line → List ℕ → List ℕ → ℕ → List ℕ
add_room (Ok None) line room size = room
add_room (Err f) line room size = room
add_room (Ok (Some r)) line room size =
    edit_room (add_refusal room size (setting_in (words_of line))) (sheet_of (among (setting_in (words_of line)) (held (take size room)))) room

abbrev pub AddsLine : List ℕ → ℕ → List ℕ → Adding → List ℕ → Type 0
AddsLine room size line r room' = (r ≡ add_answer (said line) line room size) × (room' ≡ add_room (said line) line room size)

-- the record of a module and register, from 0 on; as many as there are where none is, and 0 of a sheet that is not right
abbrev pub key_for : ℕ → ℕ → Head
key_for unit register = head unit register 0 0

abbrev pub is_key : ℕ → ℕ → (ℕ → Head) → ℕ → Bool
is_key unit register at k = same_key (at k) (key_for unit register)

abbrev pub index_of : Option SheetFault → ℕ → ℕ → List ℕ → ℕ
index_of (some f) unit register sheet = 0
index_of none unit register sheet = first_place (is_key unit register (heads (records_in sheet))) (count_in sheet)

abbrev pub Finds : List ℕ → ℕ → ℕ → ℕ → Type 0
Finds sheet unit register r = r ≡ index_of (check_refusal sheet) unit register sheet

abbrev pub Keys : LineFault → ℕ → Type 0
Keys fault r = r ≡ key_of fault

abbrev pub NumbersKey : ℕ → ℕ → Type 0
NumbersKey key r = r ≡ number_of_key key

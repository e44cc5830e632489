-- One line of a sheet's text: what it says, what can be wrong with it, and the line that is written for a setting. docs/SHEETS.md.
-- Assumes nothing.
use Rattle.std.specs.Prelude.{◌≡◌, Bool, true, false, cond, not, ◌&&◌, List, [], ◌∷◌, ◌++◌, ◌≢◌, ℕ, zero, suc, ◌+◌, ◌≤◌, ◌<◌, eqb, leb, ltb, length, get_or, take, drop, Ok, Err, None, Some}
use Rattle.std.proofs.Math.Option.{Option, some, none}
use Rattle.first.specs.First.{first_place}
use Rattle.lent.specs.Lent.{over}
use Rattle.rows.specs.Rows.{Row, row, Test, test, first_row_of}
use Rattle.text.specs.Text.{ascii, decimal}
use Rattle.values.specs.Values.{size_of, fits, Unfit, bytes_of, stored_at, read_value}
use Rattle.values.specs.Answers.{Reading}
use Rattle.numerals.specs.Numerals.{is_number, value_of, limited_to, spelt, is_shortest}
use Rattle.setting.specs.declared.Head.{Head}
use Rattle.setting.specs.Setting.{head, Setting, setting, length_of, Some as SomePlace, some_of, most_elements}
use Rattle.sheet.specs.Sheet.{record_as}
use Rattle.sheet_line.specs.Words.{same, words_of, joined}
use Rattle.sheet_line.specs.declared.Fault.{Fault}
use Rattle.sheet_line.specs.declared.Fault.TheVariants.{FewWords, NoNumber, NoModule, NoRegister, NoKind, BadCount, OtherCount, NotFitting, NoRoom}
use Rattle.sheet_line.specs.Answers.{Line}

-- ---- "kinds by name (U16)": by kind, from 0 on, which is none

abbrev pub kind_names : List (List ℕ)
kind_names = [] ∷ ascii "U8" ∷ ascii "I8" ∷ ascii "U16" ∷ ascii "I16" ∷ ascii "U32" ∷ ascii "I32" ∷ ascii "U64" ∷ []

-- of what is no kind a question mark
unfoldable pub name_of : ℕ → List ℕ
name_of kind = cond (leb 1 kind && leb kind 7) (get_or kind_names kind []) (ascii "?")

-- the kind that a word names, 0 where it names none
unfoldable pub kind_of : List ℕ → ℕ
kind_of word =
    cond (same word (name_of 1)) 1
    (cond (same word (name_of 2)) 2
    (cond (same word (name_of 3)) 3
    (cond (same word (name_of 4)) 4 (cond (same word (name_of 5)) 5 (cond (same word (name_of 6)) 6 (cond (same word (name_of 7)) 7 0))))))

-- ---- "`module register kind count values..`"

-- the word at a place, from 0 on
abbrev pub word_at : List (List ℕ) → ℕ → List ℕ
word_at words k = get_or words k []

-- a module, register or count, 256 where the word is no number of a byte
unfoldable pub small_at : List (List ℕ) → ℕ → ℕ
small_at words k = limited_to 255 (word_at words k)

abbrev pub kind_in : List (List ℕ) → ℕ
kind_in words = kind_of (word_at words 2)

unfoldable pub head_in : List (List ℕ) → Head
head_in words = head (small_at words 0) (small_at words 1) (kind_in words) (small_at words 3)

-- the bytes of values of a kind, one after the other
unfoldable pub bytes_in : ℕ → List (List ℕ) → List ℕ
bytes_in kind [] = []
bytes_in kind (word ∷ rest) = bytes_of (size_of kind) (stored_at (size_of kind) (value_of word)) ++ bytes_in kind rest

-- "`count` values follow"
unfoldable pub value_in : List (List ℕ) → List ℕ
value_in words = bytes_in (kind_in words) (take (small_at words 3) (drop 4 words))

unfoldable pub setting_in : List (List ℕ) → Setting
setting_in words = setting (head_in words) (value_in words)

-- ---- the rows, in order; a word is told by its place from 1 on

-- `words`: "has one to three words"
unfoldable pub AreFew : List (List ℕ) → Type 0
AreFew words = length words < 4

-- `number`: "has a word other than the third that is no number"
unfoldable pub IsNoNumber : List (List ℕ) → ℕ → Type 0
IsNoNumber words k = (k ≢ 2) × (is_number (word_at words k) ≡ false)

unfoldable pub is_no_number : List (List ℕ) → ℕ → Bool
is_no_number words k = not (eqb k 2) && not (is_number (word_at words k))

-- `module`: "has a module that is not 1 to 160"
unfoldable pub IsNoModule : List (List ℕ) → Type 0
IsNoModule words = (1 ≤ small_at words 0) × (small_at words 0 ≤ 160) → ⊥

-- `register`: "has a register that is not 0 to 255"
unfoldable pub IsNoRegister : List (List ℕ) → Type 0
IsNoRegister words = 255 < small_at words 1

-- `kind`: "has a third word that is no kind"
unfoldable pub IsNoKind : List (List ℕ) → Type 0
IsNoKind words = (k : ℕ) → 1 ≤ k → k ≤ 7 → word_at words 2 ≢ name_of k

-- `count`: "has a count that is not 1 to the most elements of its kind"
unfoldable pub IsBadCount : List (List ℕ) → Type 0
IsBadCount words = (1 ≤ small_at words 3) × (small_at words 3 ≤ get_or most_elements (kind_in words) 0) → ⊥

-- `values`: "has not as many values as its count says"
unfoldable pub AreOther : List (List ℕ) → Type 0
AreOther words = length words ≢ 4 + small_at words 3

-- `fit`: "has a value that does not fit its kind"; the value at k, from 0 on
unfoldable pub IsUnfit : List (List ℕ) → ℕ → Type 0
IsUnfit words k = Unfit (kind_in words) (value_of (word_at words (4 + k)))

unfoldable pub is_unfit : List (List ℕ) → ℕ → Bool
is_unfit words k = not (fits (kind_in words) (value_of (word_at words (4 + k))))

-- 57: "buffer too short"
unfoldable pub IsNarrow : List (List ℕ) → List ℕ → Type 0
IsNarrow words room = length room < length_of (head_in words)

-- the first word that is no number, the first value that does not fit
abbrev pub no_number_at : List (List ℕ) → ℕ
no_number_at words = first_place (is_no_number words) (length words)

abbrev pub unfit_at : List (List ℕ) → ℕ
unfit_at words = first_place (is_unfit words) (small_at words 3)

unfoldable pub line_rows : List (List ℕ) → List ℕ → List (Row Fault)
line_rows words room =
    row (AreFew words) FewWords
    ∷ row (SomePlace (IsNoNumber words) (length words)) (NoNumber (no_number_at words + 1))
    ∷ row (IsNoModule words) NoModule
    ∷ row (IsNoRegister words) NoRegister
    ∷ row (IsNoKind words) NoKind
    ∷ row (IsBadCount words) BadCount
    ∷ row (AreOther words) OtherCount
    ∷ row (SomePlace (IsUnfit words) (small_at words 3)) (NotFitting (unfit_at words + 5))
    ∷ row (IsNarrow words room) NoRoom
    ∷ []

-- ---- how they are tested

-- of the first four words and how many there are
abbrev pub head_tests : List (List ℕ) → List (Test Fault)
head_tests words =
    test (not (leb 1 (small_at words 0) && leb (small_at words 0) 160)) NoModule
    ∷ test (ltb 255 (small_at words 1)) NoRegister
    ∷ test (eqb (kind_in words) 0) NoKind
    ∷ test (not (leb 1 (small_at words 3) && leb (small_at words 3) (get_or most_elements (kind_in words) 0))) BadCount
    ∷ test (not (eqb (length words) (4 + small_at words 3))) OtherCount
    ∷ []

abbrev pub value_tests : List (List ℕ) → ℕ → List (Test Fault)
value_tests words room =
    test (some_of (is_unfit words) (small_at words 3)) (NotFitting (unfit_at words + 5)) ∷ test (ltb room (length_of (head_in words))) NoRoom ∷ []

abbrev pub line_tests : List (List ℕ) → ℕ → List (Test Fault)
line_tests words room =
    test (ltb (length words) 4) FewWords
    ∷ test (some_of (is_no_number words) (length words)) (NoNumber (no_number_at words + 1))
    ∷ (head_tests words ++ value_tests words room)

unfoldable pub line_refusal : List (List ℕ) → ℕ → Option Fault
line_refusal words room = first_row_of (line_tests words room)

-- ---- the answers

-- the paper's number of each, 0 where the papers have none for it
abbrev pub fault_number : Fault → ℕ
fault_number FewWords = 0
fault_number (NoNumber k) = 0
fault_number NoModule = 69
fault_number NoRegister = 0
fault_number NoKind = 69
fault_number BadCount = 69
fault_number OtherCount = 69
fault_number (NotFitting k) = 43
fault_number NoRoom = 57

-- the word that is told with it, 0 where it is no single one
abbrev pub fault_word : Fault → ℕ
fault_word FewWords = 0
fault_word (NoNumber k) = k
fault_word NoModule = 1
fault_word NoRegister = 2
fault_word NoKind = 3
fault_word BadCount = 4
fault_word OtherCount = 0
fault_word (NotFitting k) = k
fault_word NoRoom = 0

abbrev pub line_answer : Option Fault → Head → Line
line_answer (some f) h = Err f
line_answer none h = Ok (Some (record_as h))

-- "A line without a word says nothing."
unfoldable pub said_by : List (List ℕ) → ℕ → Line
said_by words room = cond (eqb (length words) 0) (Ok None) (line_answer (line_refusal words room) (head_in words))

-- what is wrong, and what says nothing, leaves every byte of the buffer
abbrev pub room_after : Line → List ℕ → List ℕ → List ℕ
room_after (Ok None) bytes room = room
room_after (Err f) bytes room = room
room_after (Ok (Some r)) bytes room = over bytes room

-- ---- the line of a setting

-- an element of a value; a question mark where there is none of that kind
unfoldable pub element_text : Reading → List ℕ
element_text (Ok v) = spelt v
element_text (Err f) = ascii "?"

-- the n values from element k on, a blank before each
unfoldable pub elements_from : ℕ → List ℕ → ℕ → ℕ → List ℕ
elements_from kind value k zero = []
elements_from kind value k (suc n) = 32 ∷ (element_text (read_value kind value k) ++ elements_from kind value (suc k) n)

unfoldable pub line_of : Setting → List ℕ
line_of s =
    decimal s.named.unit
    ++ (ascii " " ++ (decimal s.named.register ++ (ascii " " ++ (name_of s.named.kind ++ (ascii " " ++ (decimal s.named.count
    ++ elements_from s.named.kind s.value 0 s.named.count))))))

-- ---- a line as it is written: "one blank between two words and none elsewhere, every number is decimal with no digit too many, no remark"

pub record Canonical (text : List ℕ) : Type 0 where
  pub spaced : joined (words_of text) ≡ text
  pub short : (k : ℕ) → k < length (words_of text) → k ≢ 2 → is_shortest (word_at (words_of text) k) ≡ true

-- ---- the contracts

abbrev pub Numbers : Fault → ℕ → Type 0
Numbers fault r = r ≡ fault_number fault

abbrev pub Words : Fault → ℕ → Type 0
Words fault r = r ≡ fault_word fault

abbrev pub Reads : List ℕ → List ℕ → Line → List ℕ → Type 0
Reads text room r room' = (r ≡ said_by (words_of text) (length room)) × (room' ≡ room_after (said_by (words_of text) (length room)) (value_in (words_of text)) room)

-- "as much of it as there is room for", and how long it is
abbrev pub Writes : Head → List ℕ → List ℕ → ℕ → List ℕ → Type 0
Writes h value room r room' = (r ≡ length (line_of (setting h value))) × (room' ≡ over (line_of (setting h value)) room)

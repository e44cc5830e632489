-- The definitions that a text, an added line and a call are told by, said out: none of them can be another and all else stay.
-- Assumes nothing.
use Rattle.std.specs.Prelude.{Ok, Err, Some, None}
use mathlib.Core.Path.{◌≡◌, refl, ap, ◌∙◌}
use mathlib.Core.List.{List, [], ◌∷◌, ◌++◌}
use mathlib.Core.Option.{Option, some, none}
use Prim.Native.Nat.{ℕ, zero, suc, ◌≤◌, ◌<◌}
use native.Mathlib.Omega.{arith}
use borrow.Author.Tests.{le-leb, le-ltb, lt-ltb}
use lib.ListN.{length, take, get_or-eq_default}
use Rattle.lent.specs.Lent.{over}
use Rattle.setting.specs.declared.Head.{Head}
use Rattle.setting.specs.declared.Fault.{Fault as SheetFault}
use Rattle.setting.specs.Setting.{head, Setting}
use Rattle.sheet.specs.declared.Record.{Record}
use Rattle.sheet.specs.Sheet.{sheet_of, Right, count_in, held, check_refusal, Checks}
use Rattle.sheet.proofs.Steps.{checked_refused}
use Rattle.sheet_editor.specs.Answers.{Editing}
use Rattle.sheet_editor.specs.declared.Fault.{Fault as EditFault}
use Rattle.sheet_editor.specs.declared.Fault.TheVariants.{Overstated, WrongSheet}
use Rattle.sheet_editor.specs.Editor.{among, add_refusal, edit_answer, Adds}
use Rattle.sheet_line.specs.Words.{words_of}
use Rattle.sheet_line.specs.Line.{said_by, head_in, value_in, setting_in, Reads}
use Rattle.sheet_line.specs.Answers.{Line}
use Rattle.sheet_line.specs.declared.Fault.{Fault as LineFault}
use Rattle.sheet_line.specs.declared.Fault.TheVariants.{FewWords}
use Rattle.sheet_maker.specs.Answers.{Making, Adding}
use Rattle.sheet_maker.specs.declared.NotMade.TheVariants as not_made
use Rattle.sheet_maker.specs.declared.NotAdded.TheVariants as not_added
use Rattle.sheet_maker.specs.Maker.{lines_of, said, setting_of, settings_from, settings_of, report_of, many_after, nearest, reports_from, reports_of, bad_in, key_numbers, number_of_key}
use Rattle.sheet_maker.specs.Maker.{make_answer, make_room, make_refusal, Makes, add_answer, add_room, added_answer, AddsLine, Finds, NumbersKey}
use Rattle.sheet_texts.proofs.Reports.{three_each}
use Rattle.sheet_texts.proofs.Lines.{Plain, lines_cut, lines_last}
use Rattle.sheet_texts.proofs.Register.{none_wrong}

-- ---- what a line says is what `sheet_line` reads of it, with 240 bytes for its value

pub said_read : (line room : List ℕ) (r : Line) (room' : List ℕ) → length room ≡ 240 → Reads line room r room' → r ≡ said line
said_read line room r room' long reads = reads.0 ∙ ap (said_by (words_of line)) long

-- ---- the settings of a text: line by line, of each that says one that one

pub setting_plainly : (line : List ℕ) (f : LineFault) (r : Record)
    → (setting_of (Ok None) line ≡ []) × (setting_of (Err f) line ≡ []) × (setting_of (Ok (Some r)) line ≡ setting_in (words_of line) ∷ [])
setting_plainly line f r = (refl, refl, refl)

pub settings_cut : (line rest : List ℕ) → Plain line → settings_of (line ++ (10 ∷ rest)) ≡ setting_of (said line) line ++ settings_of rest
unfolding settings_of settings_from
settings_cut line rest plain = rw (lines_cut line rest plain) refl

pub settings_last : (line : List ℕ) → Plain line → settings_of line ≡ setting_of (said line) line ++ []
unfolding settings_of settings_from
settings_last line plain = rw (lines_last line plain) refl

-- ---- what is told of a text: line by line, the next number behind each, and what the line counts for those behind it

pub reports_plainly : (number many : ℕ) (before : Head) (line : List ℕ) (lines : List (List ℕ))
    → (reports_from number many before [] ≡ [])
    × (reports_from number many before (line ∷ lines)
    ≡ report_of number many before (said line) ++ reports_from (suc number) (many_after many (said line)) (nearest before (said line)) lines)
unfolding reports_from
reports_plainly number many before line lines = (refl, refl)

pub reports_from_lem : (text : List ℕ) → reports_of text ≡ reports_from 1 0 (head 0 0 0 0) (lines_of text)
unfolding reports_of
reports_from_lem text = refl

-- once there are 128, there are 128 for every line behind
pub full_plainly : (many : ℕ) (r : Record) → 128 ≤ many → many_after many (Ok (Some r)) ≡ many
full_plainly many r l = rw (le-leb 128 many l) refl

-- a text with a bad line makes no sheet, whatever the room is: each bad line is told
pub make_bad : (text list room : List ℕ) (r : Making) (list' room' : List ℕ) → (reports_of text ≡ [] → ⊥) → Makes text list room r list' room'
    → (r ≡ Err (not_made.Wrong (bad_in text))) × (list' ≡ over (reports_of text) list) × (room' ≡ room)
make_bad text list room r list' room' bad p =
    let d = go (bad_in text) (λ z. bad (empty (reports_of text) (omega (arith, three_each text, z)))) p.0 p.2 in
    (d.0, p.1, d.1)
  where
    empty : (l : List ℕ) → length l ≡ 0 → l ≡ []
    empty [] e = refl
    empty (x ∷ l) e = absurd (omega arith)

    go : (n : ℕ) → (n ≡ 0 → ⊥) → r ≡ make_answer n (make_refusal text room) (length (sheet_of (settings_of text)))
        → room' ≡ make_room n (make_refusal text room) (sheet_of (settings_of text)) room → (r ≡ Err (not_made.Wrong n)) × (room' ≡ room)
    go zero some_bad e q = absurd (some_bad refl)
    go (suc n) some_bad e q = (e, q)

-- ---- a line added: "a sheet that is not right is told first (65 to 70), then the line's own key, then 78, 79"

pub add_sheet_first : (room : List ℕ) (size : ℕ) (line : List ℕ) (f : SheetFault) (r : Adding) (room' : List ℕ) → size ≤ length room
    → Checks (take size room) (Err f) → AddsLine room size line r room' → (r ≡ Err (not_added.Refused (WrongSheet f))) × (room' ≡ room)
unfolding add_refusal
add_sheet_first room size line f r room' fits checks adds = go (said line) adds
  where
    so : check_refusal (take size room) ≡ some f
    so = checked_refused (check_refusal (take size room)) (count_in (take size room)) f checks

    go : (what : Line) → (r ≡ add_answer what line room size) × (room' ≡ add_room what line room size) → (r ≡ Err (not_added.Refused (WrongSheet f))) × (room' ≡ room)
    go (Ok None) p = rw (le-ltb (length room) size fits, so) at p
    go (Err g) p = rw (le-ltb (length room) size fits, so) at p
    go (Ok (Some n)) p = rw (le-ltb (length room) size fits, so) at p

-- and so is a length that is stated over the room
pub add_overstated : (room : List ℕ) (size : ℕ) (line : List ℕ) (r : Adding) (room' : List ℕ) → length room < size → AddsLine room size line r room'
    → (r ≡ Err (not_added.Refused Overstated)) × (room' ≡ room)
unfolding add_refusal
add_overstated room size line r room' over_long adds = go (said line) adds
  where
    go : (what : Line) → (r ≡ add_answer what line room size) × (room' ≡ add_room what line room size) → (r ≡ Err (not_added.Refused Overstated)) × (room' ≡ room)
    go (Ok None) p = rw (lt-ltb (length room) size over_long) at p
    go (Err g) p = rw (lt-ltb (length room) size over_long) at p
    go (Ok (Some n)) p = rw (lt-ltb (length room) size over_long) at p

pub add_line_wrong : (room : List ℕ) (size : ℕ) (line : List ℕ) (f : LineFault) (r : Adding) (room' : List ℕ) → size ≤ length room → Right (take size room)
    → said line ≡ Err f → AddsLine room size line r room' → (r ≡ Err (not_added.Wrong f)) × (room' ≡ room)
add_line_wrong room size line f r room' fits right is adds = rw (is, le-ltb (length room) size fits, none_wrong (take size room) right) at adds

-- "without a word it is `words`"
pub add_line_nothing : (room : List ℕ) (size : ℕ) (line : List ℕ) (r : Adding) (room' : List ℕ) → size ≤ length room → Right (take size room)
    → said line ≡ Ok None → AddsLine room size line r room' → (r ≡ Err (not_added.Wrong FewWords)) × (room' ≡ room)
add_line_nothing room size line r room' fits right is adds = rw (is, le-ltb (length room) size fits, none_wrong (take size room) right) at adds

-- and a line that says a setting adds it as the editor does: all of its laws hold of it
abbrev pub added : Editing → Adding
added (Ok size) = Ok size
added (Err f) = Err (not_added.Refused f)

pub add_line_is : (room : List ℕ) (size : ℕ) (line : List ℕ) (n : Record) (r : Adding) (room' : List ℕ) → said line ≡ Ok (Some n) → AddsLine room size line r room'
    → (e : Editing) × (Adds room size (head_in (words_of line)) (value_in (words_of line)) e room' × (r ≡ added e))
unfolding setting_in
add_line_is room size line n r room' is adds =
    let new : Setting = setting_in (words_of line) in
    let size' : ℕ = length (sheet_of (among new (held (take size room)))) in
    let p = rw is at adds in
    (edit_answer (add_refusal room size new) size', ((refl, p.1), p.0 ∙ told (add_refusal room size new) size'))
  where
    told : (o : Option EditFault) (k : ℕ) → added_answer o k ≡ added (edit_answer o k)
    told (some f) k = refl
    told none k = refl

-- ---- what is not told

pub key_numbered : (key r : ℕ) → NumbersKey key r → r ≡ number_of_key key
key_numbered key r p = p

pub keys_beyond : (k : ℕ) → 10 < k → number_of_key k ≡ 0
unfolding number_of_key
keys_beyond k l = get_or-eq_default key_numbers 0 {n = k} (omega (arith, l))

pub found_refused : (sheet : List ℕ) (unit register i : ℕ) (f : SheetFault) → Checks sheet (Err f) → Finds sheet unit register i → i ≡ 0
found_refused sheet unit register i f checks finds = rw (checked_refused (check_refusal sheet) (count_in sheet) f checks) at finds

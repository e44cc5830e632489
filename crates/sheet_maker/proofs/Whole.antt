-- What was gathered of all lines, and what the calls make of it.
-- Assumes nothing.
use Rattle.std.specs.Prelude.{Ok, Err, Some, None, Option as Maybe, IsErrAnd, MatchResult, MatchOption}
use Rattle.std.proofs.Common.{unwrap_or}
use Rattle.std.proofs.lemmas.Result.{err_from_is_err_and}
use mathlib.Core.Path.{◌≡◌, refl, sym, ap, ◌∙◌, subst}
use mathlib.Core.Bool.{Bool}
use mathlib.Core.List.{List, [], ◌∷◌, ◌++◌}
use mathlib.Core.Option.{Option, some, none}
use Prim.Native.Nat.{ℕ, zero, suc, ◌+◌, ◌-◌, ◌*◌, ◌≤◌, ◌<◌}
use native.Mathlib.Nat.{sub-zero}
use native.Mathlib.Omega.{arith}
use borrow.Author.Tests.{lt-ltb, le-ltb}
use lib.ListN.{length, take, drop, replicate, length-append}
use Rattle.lent.specs.Lent.{over, over_at}
use Rattle.lent.proofs.Laws.{over_at_none, take-over}
use Rattle.setting.specs.declared.Fault.{Fault as SheetFault}
use Rattle.first.specs.First.{first_place}
use Rattle.rows.proofs.Laws.{done_exactly}
use Rattle.setting.specs.declared.Head.{Head}
use Rattle.setting.specs.Setting.{Setting, length_of, rows_in, heads}
use Rattle.setting.proofs.Laws.{rows_whole}
use Rattle.sheet.specs.declared.Record.{Record}
use Rattle.sheet.specs.Promised.{Sized, Whole}
use Rattle.sheet.specs.Answers.{Checked}
use Rattle.sheet.specs.Sheet.{record_for, sheet_of, values_for, named, valued, room_after, held, count_in, records_in, check_rows, check_refusal, Checks}
use Rattle.sheet.proofs.Rowed.{length_record}
use Rattle.sheet.proofs.Right.{whole, check_ranked, records_long}
use Rattle.sheet.proofs.Steps.{checked_refused, right_told}
use Rattle.sheet_editor.specs.Answers.{Editing}
use Rattle.sheet_editor.specs.declared.Fault.{Fault as EditFault}
use Rattle.sheet_editor.specs.declared.Fault.TheVariants.{Overstated, WrongSheet}
use Rattle.sheet_editor.specs.Editor.{sheet_refusal, add_refusal, among, same_key, edit_answer, Edits, Adds}
use Rattle.sheet_writer.specs.Answers.{Writing}
use Rattle.sheet_writer.specs.Writer.{rows_for, handed, write_answer, Writes}
use Rattle.sheet_writer.proofs.Laws.{handed_back}
use Rattle.sheet_line.specs.Words.{words_of}
use Rattle.sheet_line.specs.Line.{setting_in, said_by, value_in, room_after as line_room, Reads}
use Rattle.sheet_line.specs.Answers.{Line}
use Rattle.sheet_line.specs.declared.Fault.{Fault as LineFault}
use Rattle.sheet_line.specs.declared.Fault.TheVariants.{FewWords}
use Rattle.sheet_line.proofs.Sound.{ReadFrom, read_allowed}
use Rattle.sheet_maker.specs.Maker.{lines_of, said, setting_of, settings_from, settings_of, reports_from, reports_of, bad_in, make_refusal, make_answer, make_room, Makes, wrong_answer, added_answer, AddsLine, key_for, is_key, Finds}
use Rattle.sheet_maker.specs.Gathering.{Gathered}
use Rattle.sheet_maker.specs.declared.gathering.Page.{Page}
use Rattle.sheet_maker.specs.Answers.{Making, Adding}
use Rattle.sheet_maker.specs.declared.NotMade.TheVariants as not_made
use Rattle.sheet_maker.specs.declared.NotAdded.TheVariants as not_added
use Rattle.sheet_maker.proofs.Steps.{line_said, setting_read}

-- ---- a setting that a line says

-- whatever room it was read with
pub said_so : (line : List ℕ) (r : Record) → said line ≡ Ok (Some r) → ReadFrom (words_of line) r (line_room (said line) (value_in (words_of line)) (replicate 240 0))
said_so line r is = read_allowed line (replicate 240 0) r (line_room (said line) (value_in (words_of line)) (replicate 240 0)) (sym is, refl)

said_sized : (line : List ℕ) (r : Record) → said line ≡ Ok (Some r) → length (setting_in (words_of line)).value ≡ length_of (setting_in (words_of line)).named
unfolding setting_in
said_sized line r is = let so = said_so line r is in so.many ∙ ap length_of so.named

sized_cons : (s : Setting) (rest : List Setting) → length s.value ≡ length_of s.named → Sized rest → Sized (s ∷ rest)
unfolding named valued
sized_cons s rest here each zero h = here
sized_cons s rest here each (suc k) h = each k (omega arith)

pub settings_sized : (lines : List (List ℕ)) → Sized (settings_from lines)
unfolding settings_from
settings_sized [] = λ k h. absurd (omega arith)
settings_sized (line ∷ lines) = go (said line) refl (settings_sized lines)
  where
    go : (what : Line) → said line ≡ what → Sized (settings_from lines) → Sized (setting_of what line ++ settings_from lines)
    go (Ok None) is each = each
    go (Err f) is each = each
    go (Ok (Some r)) is each = sized_cons (setting_in (words_of line)) (settings_from lines) (said_sized line r is) each

-- ---- all lines were gathered

abbrev pub Done : List ℕ → ℕ → Page → List ℕ → List ℕ → List ℕ → List ℕ → List ℕ → List ℕ → Type 0
Done text n page rows₀ rows values₀ values list₀ list = Gathered text [] n page rows₀ rows values₀ values list₀ list

-- so many lines are bad
bad_lines : (text : List ℕ) (n : ℕ) (page : Page) (rows₀ rows values₀ values list₀ list : List ℕ) → Done text n page rows₀ rows values₀ values list₀ list
    → bad_in text ≡ page.wrong
unfolding reports_from
bad_lines text n page rows₀ rows values₀ values list₀ list g = let all : 3 * page.wrong + 0 ≡ length (reports_of text) = g.wrong in omega (arith, all)

told_lines : (text : List ℕ) (n : ℕ) (page : Page) (rows₀ rows values₀ values list₀ list : List ℕ) → Done text n page rows₀ rows values₀ values list₀ list
    → list ≡ over (reports_of text) list₀
unfolding reports_from
told_lines text n page rows₀ rows values₀ values list₀ list g = sym (over_at_none page.told list) ∙ g.told

-- there are bad ones
pub made_wrong : (text : List ℕ) (n : ℕ) (page : Page) (rows₀ rows values₀ values list₀ list room : List ℕ) → Done text n page rows₀ rows values₀ values list₀ list
    → 0 < page.wrong → Makes text list₀ room (Err (not_made.Wrong page.wrong)) list room
made_wrong text n page rows₀ rows values₀ values list₀ list room g some_wrong =
    go page.wrong (bad_lines text n page rows₀ rows values₀ values list₀ list g) some_wrong
  where
    told : list ≡ over (reports_of text) list₀
    told = told_lines text n page rows₀ rows values₀ values list₀ list g

    go : (w : ℕ) → bad_in text ≡ w → 0 < w → Makes text list₀ room (Err (not_made.Wrong w)) list room
    go zero e h = absurd (omega arith)
    go (suc w) e h = (rw e refl, told, rw e refl)

-- none is bad: the rows and values are those of the text's settings
length_rows_for : (settings : List Setting) → length (rows_for settings) ≡ 8 * length settings
unfolding rows_for
length_rows_for [] = refl
length_rows_for (s ∷ rest) =
    let on : length (rows_for rest) ≡ 8 * length rest = length_rows_for rest in
    let row : length (record_for s.named (length s.value)) ≡ 8 = length_record s.named (length s.value) in
    length-append (record_for s.named (length s.value)) (rows_for rest) ∙ (rw (row, on) (omega arith))

none_left_rows : (page : Page) (rows₀ rows : List ℕ) (settings : List Setting) → over_at (8 * page.many) (rows_for (settings_from [])) rows ≡ over (rows_for settings) rows₀
    → rows ≡ over (rows_for settings) rows₀
unfolding settings_from rows_for
none_left_rows page rows₀ rows settings e = sym (over_at_none (8 * page.many) rows) ∙ e

none_left_values : (page : Page) (values₀ values : List ℕ) (settings : List Setting) → over_at page.size (values_for (settings_from [])) values ≡ over (values_for settings) values₀
    → values ≡ over (values_for settings) values₀
unfolding settings_from values_for
none_left_values page values₀ values settings e = sym (over_at_none page.size values) ∙ e

none_left_many : (page : Page) (settings : List Setting) → page.many + length (settings_from []) ≡ length settings → page.many ≡ length settings
unfolding settings_from
none_left_many page settings e = omega (arith, e)

none_left_size : (page : Page) (settings : List Setting) → page.size + length (values_for (settings_from [])) ≡ length (values_for settings) → page.size ≡ length (values_for settings)
unfolding settings_from values_for
none_left_size page settings e = omega (arith, e)

rows_are : (text : List ℕ) (n : ℕ) (page : Page) (rows₀ rows values₀ values list₀ list : List ℕ) → Done text n page rows₀ rows values₀ values list₀ list → page.wrong ≡ 0
    → length rows₀ ≡ 1024 → take (8 * page.many) rows ≡ rows_for (settings_of text)
rows_are text n page rows₀ rows values₀ values list₀ list g z long =
    let many : page.many ≡ length (settings_of text) = none_left_many page (settings_of text) (g.counted z) in
    let size : 8 * page.many ≡ length (rows_for (settings_of text)) = rw many (sym (length_rows_for (settings_of text))) in
    rw (none_left_rows page rows₀ rows (settings_of text) (g.in_rows z), size) (take-over (rows_for (settings_of text)) rows₀ (omega (arith, size, g.few, long)))

values_are : (text : List ℕ) (n : ℕ) (page : Page) (rows₀ rows values₀ values list₀ list : List ℕ) → Done text n page rows₀ rows values₀ values list₀ list → page.wrong ≡ 0
    → length values₀ ≡ 30720 → take page.size values ≡ values_for (settings_of text)
values_are text n page rows₀ rows values₀ values list₀ list g z long =
    let size : page.size ≡ length (values_for (settings_of text)) = none_left_size page (settings_of text) (g.long z) in
    rw (none_left_values page values₀ values (settings_of text) (g.in_values z), size)
    (take-over (values_for (settings_of text)) values₀ (omega (arith, size, g.few, g.short, long)))

-- what the writer answered is told
abbrev pub written : Writing → Making
written (Ok size) = Ok size
written (Err f) = Err (not_made.Refused f)

pub made_right : (text : List ℕ) (n : ℕ) (page : Page) (rows₀ rows values₀ values list₀ list room : List ℕ) (w : Writing) (room' : List ℕ)
    → Done text n page rows₀ rows values₀ values list₀ list → page.wrong ≤ 0 → length rows₀ ≡ 1024 → length values₀ ≡ 30720
    → Writes (take (8 * page.many - 0) rows) (take (page.size - 0) values) room w room' → Makes text list₀ room (written w) list room'
unfolding settings_of
made_right text n page rows₀ rows values₀ values list₀ list room w room' g few_wrong long wide writes =
    (rw (bad ∙ z, wrote.0, back) (told_answer (make_refusal text room) (length (sheet_of (settings_of text)))), told, rw (bad ∙ z, wrote.1, back) (told_room (make_refusal text room)))
  where
    z : page.wrong ≡ 0
    z = omega arith

    bad : bad_in text ≡ page.wrong
    bad = bad_lines text n page rows₀ rows values₀ values list₀ list g

    told : list ≡ over (reports_of text) list₀
    told = told_lines text n page rows₀ rows values₀ values list₀ list g

    wrote : Writes (rows_for (settings_of text)) (values_for (settings_of text)) room w room'
    wrote = rw (
      sub-zero (8 * page.many),
      sub-zero page.size,
      rows_are text n page rows₀ rows values₀ values list₀ list g z long,
      values_are text n page rows₀ rows values₀ values list₀ list g z wide,
    ) at writes

    back : handed (rows_for (settings_of text)) (values_for (settings_of text)) ≡ settings_of text
    back = handed_back (settings_of text) (all_sized text)
      where
        all_sized : (text : List ℕ) → Sized (settings_of text)
        all_sized text = settings_sized (lines_of text)

    told_answer : (o : Option SheetFault) (size : ℕ) → written (write_answer o size) ≡ make_answer 0 o size
    told_answer (some f) size = refl
    told_answer none size = refl

    told_room : (o : Option SheetFault) → room_after o (sheet_of (settings_of text)) room ≡ make_room 0 o (sheet_of (settings_of text)) room
    told_room (some f) = refl
    told_room none = refl

-- its refusal is passed on
written_told : (w : Writing) (r : Making) → MatchResult w (λ n. r ≡ Ok n) (λ f. IsErrAnd r (λ g. g ≡ not_made.Refused f)) → r ≡ written w
written_told (Ok n) r told = told
written_told (Err f) r told = let p = err_from_is_err_and r told in p.1 ∙ ap Err p.2

pub made_as : (text : List ℕ) (n : ℕ) (page : Page) (rows₀ rows values₀ values list₀ list room : List ℕ) (w : Writing) (room' : List ℕ) (r : Making)
    → Done text n page rows₀ rows values₀ values list₀ list → page.wrong ≤ 0 → length rows₀ ≡ 1024 → length values₀ ≡ 30720
    → Writes (take (8 * page.many - 0) rows) (take (page.size - 0) values) room w room'
    → MatchResult w (λ n. r ≡ Ok n) (λ f. IsErrAnd r (λ g. g ≡ not_made.Refused f)) → Makes text list₀ room r list room'
made_as text n page rows₀ rows values₀ values list₀ list room w room' r g few_wrong long wide writes told =
    subst (λ (x : Making). Makes text list₀ room x list room') (sym (written_told w r told))
    (made_right text n page rows₀ rows values₀ values list₀ list room w room' g few_wrong long wide writes)

-- where values are gathered, they are within their space
pub within_values : (text : List ℕ) (n : ℕ) (page : Page) (rows₀ rows values₀ values list₀ list : List ℕ) → Done text n page rows₀ rows values₀ values list₀ list
    → (page.many ≤ 128) × (page.size ≤ 30720)
within_values text n page rows₀ rows values₀ values list₀ list g = (g.few, omega (arith, g.few, g.short))

-- ---- a setting added

pub not_added_stated : (room : List ℕ) (size : ℕ) (wrong : LineFault) → length room < size → wrong_answer (sheet_refusal room size) wrong ≡ Err (not_added.Refused Overstated)
not_added_stated room size wrong h = rw (lt-ltb (length room) size h) refl

pub not_added_sheet : (room : List ℕ) (size : ℕ) (wrong : LineFault) (f : SheetFault) (r : Checked) → size ≤ length room → Checks (take (size - 0) room) r → r ≡ Err f
    → wrong_answer (sheet_refusal room size) wrong ≡ Err (not_added.Refused (WrongSheet f))
not_added_sheet room size wrong f r h checks is =
    let so : check_refusal (take size room) ≡ some f = rw (sub-zero size) at (checked_refused (check_refusal (take (size - 0) room)) _ f (sym is ∙ checks)) in
    rw (le-ltb (length room) size h, so) refl

pub not_added_line : (room : List ℕ) (size : ℕ) (wrong : LineFault) (n : ℕ) (r : Checked) → size ≤ length room → Checks (take (size - 0) room) r → r ≡ Ok n
    → wrong_answer (sheet_refusal room size) wrong ≡ Err (not_added.Wrong wrong)
not_added_line room size wrong n r h checks is =
    let so : check_refusal (take size room) ≡ none = rw (sub-zero size) at (right_told (check_refusal (take (size - 0) room)) _ n (sym is ∙ checks)).0 in
    rw (le-ltb (length room) size h, so) refl

pub nothing_added : (room : List ℕ) (size : ℕ) (line space : List ℕ) (answer : Line) (r : Adding) → length space ≡ 240 → answer ≡ Ok None
    → answer ≡ said_by (words_of line) (length space) → r ≡ wrong_answer (sheet_refusal room size) FewWords → AddsLine room size line r room
nothing_added room size line space answer r long is so told = rw (line_said line space answer (Ok None) long so is) (told, refl)

pub wrong_added : (room : List ℕ) (size : ℕ) (line space : List ℕ) (answer : Line) (f : LineFault) (r : Adding) → length space ≡ 240 → answer ≡ Err f
    → answer ≡ said_by (words_of line) (length space) → r ≡ wrong_answer (sheet_refusal room size) f → AddsLine room size line r room
wrong_added room size line space answer f r long is so told = rw (line_said line space answer (Err f) long so is) (told, refl)

abbrev pub edited : Editing → Adding
edited (Ok size) = Ok size
edited (Err f) = Err (not_added.Refused f)

edited_told : (e : Editing) (r : Adding) → MatchResult e (λ n. r ≡ Ok n) (λ f. IsErrAnd r (λ g. g ≡ not_added.Refused f)) → r ≡ edited e
edited_told (Ok n) r told = told
edited_told (Err f) r told = let p = err_from_is_err_and r told in p.1 ∙ ap Err p.2

pub line_added : (room : List ℕ) (size : ℕ) (line space : List ℕ) (answer : Line) (record_of : Record) (space' : List ℕ) (e : Editing) (room' : List ℕ) (a : Adding) → length space ≡ 240
    → answer ≡ Ok (Some record_of) → Reads line space answer space' → Adds room size record_of.head (take (record_of.size - 0) space') e room'
    → MatchResult e (λ n. a ≡ Ok n) (λ f. IsErrAnd a (λ g. g ≡ not_added.Refused f)) → AddsLine room size line a room'
line_added room size line space answer r space' e room' a long is reads adds passed =
    rw (line_said line space answer (Ok (Some r)) long reads.0 is) (edited_told e a passed ∙ (ap edited done.0 ∙ told refusal), done.1)
  where
    new : Setting
    new = setting_in (words_of line)

    refusal : Option EditFault
    refusal = add_refusal room size new

    done : Edits refusal (among new (held (take size room))) room e room'
    done = rw (sub-zero r.size, setting_read line space answer r space' is reads) at adds

    told : (o : Option EditFault) → edited (edit_answer o (length (sheet_of (among new (held (take size room)))))) ≡ added_answer o (length (sheet_of (among new (held (take size room)))))
    told (some f) = refl
    told none = refl

-- ---- a record found

pub key_told : (rows : List ℕ) (unit register k : ℕ) {h : Head} {t : Bool} → h ≡ heads rows k → t ≡ same_key h (key_for unit register) → is_key unit register (heads rows) k ≡ t
key_told rows unit register k e is = rw (is, e) refl

pub found_none : (sheet : List ℕ) (unit register : ℕ) (f : SheetFault) (r : Checked) → Checks sheet r → r ≡ Err f → Finds sheet unit register 0
found_none sheet unit register f r checks is = rw (checked_refused (check_refusal sheet) (count_in sheet) f (sym is ∙ checks)) refl

-- of a right sheet: its records
pub sheet_right : (sheet : List ℕ) (n : ℕ) (r : Checked) → Checks sheet r → r ≡ Ok n → (check_refusal sheet ≡ none) × (n ≡ count_in sheet)
sheet_right sheet n r checks is = right_told (check_refusal sheet) (count_in sheet) n (sym is ∙ checks)

pub sheet_within : (sheet : List ℕ) (n : ℕ) (r : Checked) → Checks sheet r → r ≡ Ok n → (n ≤ 128) × (12 + 8 * n ≤ length sheet)
sheet_within sheet n r checks is =
    let so = sheet_right sheet n r checks is in
    let w : Whole sheet = whole sheet ((done_exactly (check_rows sheet) (check_refusal sheet) (check_ranked sheet)).0 so.0) in
    rw so.1 (w.header.few, w.header.reaches)

abbrev FirstIn : (ℕ → Bool) → ℕ → Maybe ℕ → Type 0
FirstIn p m o = MatchOption o (m ≡ first_place p m) (λ k. (k ≡ first_place p m) × (k < m))

first_or_none : (p : ℕ → Bool) (m n : ℕ) (o : Maybe ℕ) → n ≡ m → FirstIn p m o → unwrap_or o n ≡ first_place p m
first_or_none p m n None same first = same ∙ first
first_or_none p m n (Some k) same first = first.0

pub found_at_lem : (sheet : List ℕ) (unit register n end i : ℕ) (o : Maybe ℕ) (r : Checked) → Checks sheet r → r ≡ Ok n → end ≡ 12 + 8 * n → i ≡ unwrap_or o n
    → FirstIn (is_key unit register (heads (take (end - 12) (drop 12 sheet)))) (rows_in (take (end - 12) (drop 12 sheet))) o → Finds sheet unit register i
unfolding records_in
found_at_lem sheet unit register n end i o r checks is ends told first =
    let so = sheet_right sheet n r checks is in
    let inside = sheet_within sheet n r checks is in
    let size : end - 12 ≡ 8 * count_in sheet = omega (arith, ends, so.1) in
    let many : rows_in (take (8 * count_in sheet) (drop 12 sheet)) ≡ count_in sheet =
    rows_whole (take (8 * count_in sheet) (drop 12 sheet)) (count_in sheet) (records_long sheet (rw so.1 at inside.1)) in
    rw so.0 (told ∙ first_or_none (is_key unit register (heads (take (8 * count_in sheet) (drop 12 sheet)))) (count_in sheet) n o so.1 (rw (size, many) at first))

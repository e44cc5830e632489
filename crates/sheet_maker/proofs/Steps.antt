-- What each line does to what was gathered, as the functions have it.
-- Assumes nothing.
use Rattle.std.specs.Prelude.{Ok, Err, Some, None}
use mathlib.Core.Path.{◌≡◌, refl, sym, ap, ◌∙◌}
use mathlib.Core.Bool.{true, false}
use mathlib.Core.List.{List, [], ◌∷◌, ◌++◌, append-nil, append_assoc}
use Prim.Native.Nat.{ℕ, zero, suc, ◌+◌, ◌-◌, ◌*◌, ◌/◌, ◌%◌, ◌≤◌, ◌<◌}
use native.Mathlib.Nat.{add-zero, zero-add, sub-zero}
use native.Mathlib.Numerals.{add-one}
use native.Mathlib.Omega.{arith}
use borrow.Author.Tests.{le-leb, lt-leb}
use lib.ListN.{length, take, set, length-append}
use Rattle.lent.specs.Lent.{over_at}
use Rattle.lent.proofs.Laws.{over_at_past, over_at_set, over_at_append, over_at_zero}
use Rattle.values.specs.Values.{bytes_of}
use Rattle.setting.specs.declared.Head.{Head}
use Rattle.setting.specs.Setting.{head, Setting, setting, is_above}
use Rattle.setting.proofs.Laws.{length_allowed}
use Rattle.sheet.specs.declared.Record.{Record}
use Rattle.sheet.specs.Sheet.{record_for, values_for}
use Rattle.sheet.proofs.Rowed.{length_record}
use Rattle.sheet_writer.specs.Writer.{rows_for}
use Rattle.sheet_line.specs.Words.{words_of}
use Rattle.sheet_line.specs.Line.{fault_word, said_by, setting_in, Reads}
use Rattle.sheet_line.proofs.Sound.{ReadFrom, read_allowed}
use Rattle.sheet_line.specs.Answers.{Line}
use Rattle.sheet_line.specs.declared.Fault.{Fault}
use Rattle.sheet_maker.specs.Maker.{lines_of, said, setting_of, settings_from, settings_of, report_of, many_after, nearest, reports_from, reports_of, key_of}
use Rattle.sheet_maker.specs.Gathering.{Tells, Reported, Put, Ready, Taken, Gathered}
use Rattle.sheet_maker.specs.declared.gathering.Page.{Page}

-- ---- numbers that are told, as far as the list goes

pub told_one : (number at : ℕ) (list list' : List ℕ) → at < length list → list' ≡ set list at number → Tells (number ∷ []) at list (at + 1) list'
told_one number at list list' h e rest = rw (e, add-one at) (over_at_set at number rest list h)

pub told_none : (number at : ℕ) (list : List ℕ) → length list ≤ at → Tells (number ∷ []) at list at list
told_none number at list h rest = over_at_past at rest list h ∙ sym (over_at_past at (number ∷ rest) list h)

-- three numbers, one after the other
pub told_three : (number word key at a b c : ℕ) (list one two three : List ℕ) → Tells (number ∷ []) at list a one → Tells (word ∷ []) a one b two
    → Tells (key ∷ []) b two c three → Tells (number ∷ word ∷ key ∷ []) at list c three
told_three number word key at a b c list one two three p q r rest = r rest ∙ (q (key ∷ rest) ∙ p (word ∷ key ∷ rest))

-- ---- a setting put behind the others

-- a length that fits a byte, in four
pub length_bytes : (n : ℕ) → n ≤ 255 → bytes_of 4 n ≡ n ∷ 0 ∷ 0 ∷ 0 ∷ []
unfolding bytes_of
length_bytes n h =
    let a : n % 256 ≡ n = omega arith in
    let b : n / 256 ≡ 0 = omega arith in
    rw (a, b) refl

pub row_laid : (h : Head) (n : ℕ) → n ≤ 255 → h.unit ∷ h.register ∷ h.kind ∷ h.count ∷ n ∷ 0 ∷ 0 ∷ 0 ∷ [] ≡ record_for h n
unfolding record_for
row_laid h n l = ap (λ (r : List ℕ). h.unit ∷ h.register ∷ h.kind ∷ h.count ∷ r) (sym (length_bytes n l))

one_row : (s : Setting) (rest : List ℕ) → rows_for (s ∷ []) ++ rest ≡ record_for s.named (length s.value) ++ rest
unfolding rows_for
one_row s rest = ap (λ (r : List ℕ). r ++ rest) (append-nil (record_for s.named (length s.value)))

one_value : (s : Setting) (rest : List ℕ) → values_for (s ∷ []) ++ rest ≡ s.value ++ rest
unfolding values_for
one_value s rest = ap (λ (r : List ℕ). r ++ rest) (append-nil s.value)

length_one_value : (s : Setting) → length (values_for (s ∷ [])) ≡ length s.value
unfolding values_for
length_one_value s = ap length (append-nil s.value)

-- ---- a line taken

-- it says nothing
pub taken_nothing : (number : ℕ) (page : Page) (rows values list : List ℕ) → Ready number page → Taken number (Ok None) [] page page rows rows values values list list
unfolding rows_for values_for
taken_nothing number page rows values list ready =
    record {
      many = refl;
      before = refl;
      few = ready.few;
      short = ready.short;
      wrong = omega arith;
      at_most = omega (arith, ready.wrong);
      told = λ rest. refl;
      in_rows = λ z rest. refl;
      in_values = λ z rest. refl;
      counted = λ z. sym (add-zero page.many);
      long = λ z. sym (add-zero page.size);
    }

-- it is wrong in itself
pub taken_wrong : (number : ℕ) (f : Fault) (page page' : Page) (rows values list list' : List ℕ) → Ready number page → Reported page page'
    → Tells (number ∷ fault_word f ∷ key_of f ∷ []) page.told list page'.told list' → Taken number (Err f) [] page page' rows rows values values list list'
unfolding rows_for values_for
taken_wrong number f page page' rows values list list' ready now told =
    record {
      many = now.many;
      before = now.before;
      few = rw now.many ready.few;
      short = rw (now.many, now.size) ready.short;
      wrong = rw now.wrong (omega arith);
      at_most = omega (arith, ready.wrong, now.wrong);
      told = told;
      in_rows = λ z. absurd (omega (arith, now.wrong));
      in_values = λ z. absurd (omega (arith, now.wrong));
      counted = λ z. absurd (omega (arith, now.wrong));
      long = λ z. absurd (omega (arith, now.wrong));
    }

-- 128 settings stand before it
many_report : (number many : ℕ) (before : Head) (r : Record) → 128 ≤ many → report_of number many before (Ok (Some r)) ≡ number ∷ 0 ∷ 9 ∷ []
many_report number many before r h = rw (le-leb 128 many h) refl

pub taken_many : (number : ℕ) (r : Record) (settings : List Setting) (page named page' : Page) (rows values list list' : List ℕ) → Ready number page → 128 ≤ page.many
    → named.many ≡ page.many → named.size ≡ page.size → named.before ≡ r.head → named.wrong ≡ page.wrong → named.told ≡ page.told → Reported named page'
    → Tells (number ∷ 0 ∷ 9 ∷ []) named.told list page'.told list' → Taken number (Ok (Some r)) settings page page' rows rows values values list list'
taken_many number r settings page named page' rows values list list' ready full m s b w t now told =
    record {
      many = rw (le-leb 128 page.many full) (now.many ∙ m);
      before = now.before ∙ b;
      few = rw (now.many, m) ready.few;
      short = rw (now.many, now.size, m, s) ready.short;
      wrong = rw (many_report number page.many page.before r full, now.wrong, w) (omega arith);
      at_most = omega (arith, ready.wrong, now.wrong, w);
      told = rw (many_report number page.many page.before r full) (rw t at told);
      in_rows = λ z. absurd (omega (arith, now.wrong));
      in_values = λ z. absurd (omega (arith, now.wrong));
      counted = λ z. absurd (omega (arith, now.wrong));
      long = λ z. absurd (omega (arith, now.wrong));
    }

put_rows : (page page' : Page) (h : Head) (value rows rows' values values' : List ℕ) → Put page page' h value rows rows' values values'
    → (rest : List ℕ) → over_at (8 * page'.many) rest rows' ≡ over_at (8 * page.many) (rows_for (setting h value ∷ []) ++ rest) rows
put_rows page page' h value rows rows' values values' p rest =
    let on : 8 * (page.many + 1) ≡ 8 * page.many + length (record_for h (length value)) = rw (length_record h (length value)) (omega arith) in
    rw (p.in_rows, p.many, on)
    (over_at_append (8 * page.many) (record_for h (length value)) rest rows ∙ ap (λ (l : List ℕ). over_at (8 * page.many) l rows) (sym (one_row (setting h value) rest)))

put_values : (page page' : Page) (h : Head) (value rows rows' values values' : List ℕ) → Put page page' h value rows rows' values values'
    → (rest : List ℕ) → over_at page'.size rest values' ≡ over_at page.size (values_for (setting h value ∷ []) ++ rest) values
put_values page page' h value rows rows' values values' p rest =
    rw (p.in_values, p.size)
    (over_at_append page.size value rest values ∙ ap (λ (l : List ℕ). over_at page.size l values) (sym (one_value (setting h value) rest)))

-- it stands above the one before
above_report : (number many : ℕ) (before : Head) (r : Record) → many < 128 → is_above before r.head ≡ true → report_of number many before (Ok (Some r)) ≡ []
above_report number many before r h e = rw (lt-leb 128 many h, e) refl

pub taken_put : (number : ℕ) (r : Record) (page page' : Page) (value rows rows' values values' list : List ℕ) → Ready number page → page.many < 128 → length value ≤ 240
    → is_above page.before r.head ≡ true → Put page page' r.head value rows rows' values values'
    → Taken number (Ok (Some r)) (setting r.head value ∷ []) page page' rows rows' values values' list list
taken_put number r page page' value rows rows' values values' list ready less fits above p =
    record {
      many = rw (lt-leb 128 page.many less) (p.many ∙ add-one page.many);
      before = p.before;
      few = omega (arith, p.many);
      short = rw (p.many, p.size) (omega (arith, ready.short));
      wrong = rw (above_report number page.many page.before r less above, p.wrong) (omega arith);
      at_most = omega (arith, ready.wrong, p.wrong);
      told = λ rest. rw (above_report number page.many page.before r less above, p.told) refl;
      in_rows = λ z. put_rows page page' r.head value rows rows' values values' p;
      in_values = λ z. put_values page page' r.head value rows rows' values values' p;
      counted = λ z. p.many;
      long = λ z. p.size ∙ ap (λ (n : ℕ). page.size + n) (sym (length_one_value (setting r.head value)));
    }

-- it does not
order_report : (number many : ℕ) (before : Head) (r : Record) → many < 128 → is_above before r.head ≡ false → report_of number many before (Ok (Some r)) ≡ number ∷ 0 ∷ 10 ∷ []
order_report number many before r h e = rw (lt-leb 128 many h, e) refl

pub taken_order : (number : ℕ) (r : Record) (page put page' : Page) (value rows rows' values values' list list' : List ℕ) → Ready number page → page.many < 128
    → length value ≤ 240 → is_above page.before r.head ≡ false → Put page put r.head value rows rows' values values' → Reported put page'
    → Tells (number ∷ 0 ∷ 10 ∷ []) put.told list page'.told list'
    → Taken number (Ok (Some r)) (setting r.head value ∷ []) page page' rows rows' values values' list list'
taken_order number r page put page' value rows rows' values values' list list' ready less fits below p now told =
    record {
      many = rw (lt-leb 128 page.many less) (now.many ∙ (p.many ∙ add-one page.many));
      before = now.before ∙ p.before;
      few = omega (arith, now.many, p.many);
      short = rw (now.many, now.size, p.many, p.size) (omega (arith, ready.short));
      wrong = rw (order_report number page.many page.before r less below, now.wrong, p.wrong) (omega arith);
      at_most = omega (arith, ready.wrong, now.wrong, p.wrong);
      told = rw (order_report number page.many page.before r less below) (rw p.told at told);
      in_rows = λ z. absurd (omega (arith, now.wrong));
      in_values = λ z. absurd (omega (arith, now.wrong));
      counted = λ z. absurd (omega (arith, now.wrong));
      long = λ z. absurd (omega (arith, now.wrong));
    }

-- ---- what a line says, where it was read with 240 bytes of room

pub line_said : (line room : List ℕ) (r what : Line) → length room ≡ 240 → r ≡ said_by (words_of line) (length room) → r ≡ what → said line ≡ what
line_said line room r what long is so = sym (ap (said_by (words_of line)) long) ∙ (sym is ∙ so)

-- what was read is a setting
read_so : (line room : List ℕ) (answer : Line) (r : Record) (room' : List ℕ) → answer ≡ Ok (Some r) → Reads line room answer room' → ReadFrom (words_of line) r room'
read_so line room answer r room' is reads = read_allowed line room r room' (sym is ∙ reads.0, reads.1)

pub setting_read : (line room : List ℕ) (answer : Line) (r : Record) (room' : List ℕ) → answer ≡ Ok (Some r) → Reads line room answer room'
    → setting r.head (take r.size room') ≡ setting_in (words_of line)
unfolding setting_in
setting_read line room answer r room' is reads =
    let so : ReadFrom (words_of line) r room' = read_so line room answer r room' is reads in
    rw (so.laid, so.named) refl

pub value_short : (line room : List ℕ) (answer : Line) (r : Record) (room' : List ℕ) → answer ≡ Ok (Some r) → Reads line room answer room' → r.size ≤ 240
value_short line room answer r room' is reads =
    let so : ReadFrom (words_of line) r room' = read_so line room answer r room' is reads in
    rw so.size (length_allowed r.head so.allowed)

-- ---- so the line was taken as it says

pub nothing_taken : (number : ℕ) (line room : List ℕ) (answer : Line) (page : Page) (rows values list : List ℕ) → length room ≡ 240 → answer ≡ Ok None
    → answer ≡ said_by (words_of line) (length room) → Ready number page → Taken number (said line) (setting_of (said line) line) page page rows rows values values list list
nothing_taken number line room answer page rows values list long is so ready =
    rw (line_said line room answer (Ok None) long so is) (taken_nothing number page rows values list ready)

pub wrong_taken : (number : ℕ) (line room : List ℕ) (answer : Line) (f : Fault) (word key : ℕ) (page page' : Page) (rows values list list' : List ℕ) → length room ≡ 240
    → answer ≡ Err f → answer ≡ said_by (words_of line) (length room) → word ≡ fault_word f → key ≡ key_of f → Ready number page → Reported page page'
    → Tells (number ∷ word ∷ key ∷ []) page.told list page'.told list'
    → Taken number (said line) (setting_of (said line) line) page page' rows rows values values list list'
wrong_taken number line room answer f word key page page' rows values list list' long is so w k ready now told =
    rw (line_said line room answer (Err f) long so is) (taken_wrong number f page page' rows values list list' ready now (rw (w, k) at told))

pub setting_taken : (number : ℕ) (line room : List ℕ) (answer : Line) (r : Record) (room' : List ℕ) (page page' : Page) (rows rows' values values' list list' : List ℕ)
    → length room ≡ 240 → answer ≡ Ok (Some r) → Reads line room answer room'
    → Taken number (Ok (Some r)) (setting r.head (take (r.size - 0) room') ∷ []) page page' rows rows' values values' list list'
    → Taken number (said line) (setting_of (said line) line) page page' rows rows' values values' list list'
setting_taken number line room answer r room' page page' rows rows' values values' list list' long is reads taken =
    rw (line_said line room answer (Ok (Some r)) long reads.0 is) (rw (sub-zero r.size, setting_read line room answer r room' is reads) at taken)

-- no more than was asked for
pub part_short : (n : ℕ) (room : List ℕ) → n ≤ 240 → length (take (n - 0) room) ≤ 240
part_short n room h = let most : length (take (n - 0) room) ≤ n - 0 = go (n - 0) room in omega (arith, most)
  where
    go : (k : ℕ) (l : List ℕ) → length (take k l) ≤ k
    go zero l = omega arith
    go (suc k) [] = omega arith
    go (suc k) (x ∷ l) = let ih : length (take k l) ≤ k = go k l in omega arith

-- ---- line by line

-- nothing was gathered yet
pub gathered_start : (text : List ℕ) (page : Page) (rows values list : List ℕ) → page.many ≡ 0 → page.size ≡ 0 → page.before ≡ head 0 0 0 0 → page.wrong ≡ 0 → page.told ≡ 0
    → Gathered text (lines_of text) 0 page rows rows values values list list
unfolding reports_of settings_of
gathered_start text page rows values list m s b w t =
    record {
      few = omega (arith, m);
      short = omega (arith, m, s);
      at_most = omega (arith, w);
      told = rw (m, b, t) (over_at_zero (reports_from 1 0 (head 0 0 0 0) (lines_of text)) list);
      wrong = rw (m, b, w) (omega arith);
      in_rows = λ z. rw m (over_at_zero (rows_for (settings_from (lines_of text))) rows);
      in_values = λ z. rw s (over_at_zero (values_for (settings_from (lines_of text))) values);
      counted = λ z. rw m (zero-add (length (settings_from (lines_of text))));
      long = λ z. rw s (zero-add (length (values_for (settings_from (lines_of text)))));
    }

rows_append : (ss ts : List Setting) → rows_for (ss ++ ts) ≡ rows_for ss ++ rows_for ts
unfolding rows_for
rows_append [] ts = refl
rows_append (s ∷ ss) ts =
    let on : rows_for (ss ++ ts) ≡ rows_for ss ++ rows_for ts = rows_append ss ts in
    rw on (sym (append_assoc (record_for s.named (length s.value)) (rows_for ss) (rows_for ts)))

values_append : (ss ts : List Setting) → values_for (ss ++ ts) ≡ values_for ss ++ values_for ts
unfolding values_for
values_append [] ts = refl
values_append (s ∷ ss) ts =
    let on : values_for (ss ++ ts) ≡ values_for ss ++ values_for ts = values_append ss ts in
    rw on (sym (append_assoc s.value (values_for ss) (values_for ts)))

-- one line more
reports_on : (number many many' : ℕ) (before before' : Head) (line : List ℕ) (lines : List (List ℕ)) → many' ≡ many_after many (said line) → before' ≡ nearest before (said line)
    → report_of number many before (said line) ++ reports_from (suc number) many' before' lines ≡ reports_from number many before (line ∷ lines)
unfolding reports_from
reports_on number many many' before before' line lines m b = rw (m, b) refl

settings_on : (line : List ℕ) (lines : List (List ℕ)) → setting_of (said line) line ++ settings_from lines ≡ settings_from (line ∷ lines)
unfolding settings_from
settings_on line lines = refl

pub gathered_on : (text line : List ℕ) (lines : List (List ℕ)) (number : ℕ) (page page' : Page) (rows₀ rows rows' values₀ values values' list₀ list list' : List ℕ)
    → Gathered text (line ∷ lines) number page rows₀ rows values₀ values list₀ list
    → Taken (number + 1) (said line) (setting_of (said line) line) page page' rows rows' values values' list list'
    → Gathered text lines (number + 1) page' rows₀ rows' values₀ values' list₀ list'
gathered_on text line lines number page page' rows₀ rows rows' values₀ values values' list₀ list list' g t =
    record {
      few = t.few;
      short = t.short;
      at_most = t.at_most;
      told = t.told (reports_from (suc (number + 1)) page'.many page'.before lines) ∙ (ap (λ (l : List ℕ). over_at page.told l list) reports ∙ g.told);
      wrong = omega (arith, t.wrong, g.wrong, counted_reports);
      in_rows = λ z. t.in_rows z (rows_for (settings_from lines)) ∙ (ap (λ (l : List ℕ). over_at (8 * page.many) l rows) some_rows ∙ g.in_rows (right z));
      in_values = λ z. t.in_values z (values_for (settings_from lines)) ∙ (ap (λ (l : List ℕ). over_at page.size l values) some_values ∙ g.in_values (right z));
      counted = λ z. omega (arith, t.counted z, g.counted (right z), many_settings);
      long = λ z. omega (arith, t.long z, g.long (right z), many_bytes);
    }
  where
    told_here : List ℕ
    told_here = report_of (number + 1) page.many page.before (said line)

    reports : told_here ++ reports_from (suc (number + 1)) page'.many page'.before lines ≡ reports_from (suc number) page.many page.before (line ∷ lines)
    reports = reports_on (number + 1) page.many page'.many page.before page'.before line lines t.many t.before
        ∙ ap (λ (n : ℕ). reports_from n page.many page.before (line ∷ lines)) (add-one number)

    counted_reports : length told_here + length (reports_from (suc (number + 1)) page'.many page'.before lines)
        ≡ length (reports_from (suc number) page.many page.before (line ∷ lines))
    counted_reports = sym (length-append told_here (reports_from (suc (number + 1)) page'.many page'.before lines)) ∙ ap length reports

    here : List Setting
    here = setting_of (said line) line

    some_rows : rows_for here ++ rows_for (settings_from lines) ≡ rows_for (settings_from (line ∷ lines))
    some_rows = sym (rows_append here (settings_from lines)) ∙ ap rows_for (settings_on line lines)

    some_values : values_for here ++ values_for (settings_from lines) ≡ values_for (settings_from (line ∷ lines))
    some_values = sym (values_append here (settings_from lines)) ∙ ap values_for (settings_on line lines)

    many_settings : length here + length (settings_from lines) ≡ length (settings_from (line ∷ lines))
    many_settings = sym (length-append here (settings_from lines)) ∙ ap length (settings_on line lines)

    many_bytes : length (values_for here) + length (values_for (settings_from lines)) ≡ length (values_for (settings_from (line ∷ lines)))
    many_bytes = sym (length-append (values_for here) (values_for (settings_from lines))) ∙ ap length some_values

    -- where nothing is wrong now, nothing was before
    right : page'.wrong ≡ 0 → page.wrong ≡ 0
    right z = omega (arith, t.wrong)

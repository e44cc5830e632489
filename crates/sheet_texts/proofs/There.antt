-- There: the text of settings reads as these settings, and no line of it is bad.
-- Assumes nothing.
use Rattle.std.specs.Prelude.{Ok, Some, None}
use mathlib.Core.Path.{◌≡◌, refl, sym, ap, ap₂, subst, ◌∙◌}
use mathlib.Core.List.{List, [], ◌∷◌, ◌++◌, append_assoc}
use mathlib.Core.Logic.{◌≢◌, inl}
use Prim.Native.Nat.{ℕ, suc, ◌+◌, ◌*◌, ◌≤◌, ◌<◌}
use native.Mathlib.Omega.{arith}
use borrow.Author.Tests.{lt-leb}
use lib.ListN.{length, get_or, drop, replicate}
use Rattle.rows.proofs.Laws.{told_true}
use Rattle.values.specs.Values.{Bytes}
use Rattle.values.proofs.Bytes.{bytes_take, bytes_drop}
use Rattle.setting.specs.declared.Head.{Head}
use Rattle.setting.specs.Setting.{head, Setting, setting, length_of, lengths_to, Above, Allowed, head_of}
use Rattle.setting.proofs.Laws.{decides_above, length_allowed}
use Rattle.setting.proofs.Lists.{head_from, setting_at}
use Rattle.sheet.proofs.Right.{bytes_records}
use Rattle.sheet.specs.declared.Record.{Record}
use Rattle.sheet.specs.Sheet.{nothing, named, valued, Writable, Right, count_in, records_in, values_in, held, record_as}
use Rattle.sheet.proofs.Written.{held_long, held_writable}
use Rattle.sheet_editor.proofs.Rising.{Each, each_by}
use Rattle.sheet_line.specs.Words.{plain, parted, with_word, words_in, words_of}
use Rattle.sheet_line.specs.Line.{said_by, setting_in, line_of, Canonical}
use Rattle.sheet_line.proofs.Joined.{Every, every_at, at_every}
use Rattle.sheet_line.proofs.Written.{line_plain}
use Rattle.sheet_line.proofs.There.{Proper, line_reads, line_value, line_canonical}
use Rattle.sheet_teller.specs.Teller.{piece_of, pieces_of, text_of}
use Rattle.sheet_maker.specs.Maker.{lines_of, said, settings_from, settings_of, reports_from, reports_of}
use Rattle.sheet_maker.proofs.Whole.{said_so}
use Rattle.sheet_texts.specs.Texts.{CanonicalText}
use Rattle.sheet_texts.proofs.Reports.{Climbs, rise_climbs}
use Rattle.sheet_texts.proofs.Lines.{lines_none, lines_cut}

-- ---- the lines of settings

abbrev pub lines_for : List Setting → List (List ℕ)
lines_for [] = []
lines_for (s ∷ rest) = line_of s ∷ lines_for rest

pub text_none : text_of [] ≡ []
unfolding pieces_of
text_none = refl

pub text-more : (s : Setting) (rest : List Setting) → text_of (s ∷ rest) ≡ line_of s ++ (10 ∷ text_of rest)
unfolding pieces_of piece_of
text-more s rest = append_assoc (line_of s) (10 ∷ []) (text_of rest)

pub text_lines : (settings : List Setting) → lines_of (text_of settings) ≡ lines_for settings ++ ([] ∷ [])
text_lines [] = ap lines_of text_none ∙ lines_none
text_lines (s ∷ rest) =
    ap lines_of (text-more s rest)
    ∙ (lines_cut (line_of s) (text_of rest) (at_every (λ (b : ℕ). b ≢ 10) (line_of s) 0 (line_plain s))
    ∙ ap (λ (l : List (List ℕ)). line_of s ∷ l) (text_lines rest))

-- ---- each says its setting, and the empty one nothing

line_says : (s : Setting) → Proper s → said (line_of s) ≡ Ok (Some (record_as s.named))
line_says s p = line_reads s p (replicate 240 0) (length_allowed s.named p.allowed)

line_back : (s : Setting) → Proper s → setting_in (words_of (line_of s)) ≡ s
unfolding setting_in
line_back s p =
    let so = said_so (line_of s) (record_as s.named) (line_says s p) in
    ap₂ (λ (h : Head) (v : List ℕ). setting h v) (sym so.named) (line_value s p)

pub said_none : said [] ≡ Ok None
unfolding said_by words_of words_in plain parted with_word
said_none = refl

settings_back : (settings : List Setting) → Each Proper settings → settings_from (lines_for settings ++ ([] ∷ [])) ≡ settings
unfolding settings_from Each
settings_back [] each = rw said_none refl
settings_back (s ∷ rest) each = rw (line_says s each.0, line_back s each.0, settings_back rest each.1) refl

no_reports : (number many : ℕ) (before : Head) (settings : List Setting) → Each Proper settings → Climbs before settings → many + length settings ≤ 128
    → reports_from number many before (lines_for settings ++ ([] ∷ [])) ≡ []
unfolding reports_from Each
no_reports number many before [] each climbs few = rw said_none refl
no_reports number many before (s ∷ rest) each climbs few =
    rw (line_says s each.0, lt-leb 128 many (omega arith), told_true (decides_above before s.named) climbs.0)
    (no_reports (suc number) (suc many) s.named rest each.1 climbs.1 (omega arith))

pub text_settings : (settings : List Setting) → Each Proper settings → settings_of (text_of settings) ≡ settings
unfolding settings_of
text_settings settings each = rw (text_lines settings) (settings_back settings each)

-- the first has none before it
pub above_none : (h : Head) → Allowed h → Above (head 0 0 0 0) h
unfolding Above Allowed
above_none h a = inl a.0.0

pub text_right : (settings : List Setting) → Writable settings → Each Proper settings → reports_of (text_of settings) ≡ []
unfolding reports_of
text_right settings w each =
    rw (text_lines settings)
    (no_reports 1 0 (head 0 0 0 0) settings each (rise_climbs (head 0 0 0 0) settings (λ l. above_none (named settings 0) (w.allowed 0 l)) w.rise) (omega (arith, w.few)))

-- ---- it is as `show` writes it

canonical_lines : (settings : List Setting) → Each Proper settings → Every Canonical (lines_for settings)
unfolding Each
canonical_lines [] each = tt
canonical_lines (s ∷ rest) each = (line_canonical s each.0, canonical_lines rest each.1)

abbrev pub Says : List ℕ → Type 0
Says line = (r : Record) × (said line ≡ Ok (Some r))

saying_lines : (settings : List Setting) → Each Proper settings → Every Says (lines_for settings)
unfolding Each
saying_lines [] each = tt
saying_lines (s ∷ rest) each = ((record_as s.named, line_says s each.0), saying_lines rest each.1)

pub text_canonical : (settings : List Setting) → Each Proper settings → CanonicalText (text_of settings)
text_canonical settings each =
    record {
      lines = lines_for settings;
      cut = text_lines settings;
      each = every_at Canonical (lines_for settings) [] (canonical_lines settings each);
      says = every_at Says (lines_for settings) [] (saying_lines settings each);
    }

-- ---- the settings of a sheet of bytes

bytes_values : (sheet : List ℕ) → Bytes sheet → Bytes (values_in sheet)
unfolding values_in
bytes_values sheet b = bytes_drop (12 + 8 * count_in sheet) sheet b

row_register : (rows : List ℕ) (k : ℕ) → Bytes rows → (head_from rows k).register < 256
unfolding head_of
row_register rows k b = bytes_drop (8 * k) rows b 1

abbrev InBytes : Setting → Type 0
InBytes s = (s.named.register < 256) × Bytes s.value

held_bytes : (sheet : List ℕ) → Bytes sheet → (k : ℕ) → k < count_in sheet → InBytes (get_or (held sheet) k nothing)
unfolding held
held_bytes sheet b k l =
    let rows = records_in sheet in
    let values = values_in sheet in
    subst InBytes (sym (setting_at (count_in sheet) rows values nothing k l)) (
      row_register rows k (bytes_records sheet b),
      bytes_take (length_of (head_from rows k)) (drop (lengths_to (head_from rows) k) values) (bytes_drop (lengths_to (head_from rows) k) values (bytes_values sheet b)),
    )

pub held_proper : (sheet : List ℕ) → Bytes sheet → Right sheet → Each Proper (held sheet)
unfolding named valued
held_proper sheet b right =
    let w = held_writable sheet right in
    each_by Proper (held sheet) (λ k l.
    let here = held_bytes sheet b k (rw (held_long sheet) at l) in
    record { allowed = w.allowed k l; register = here.0; many = w.whole k l; bytes = here.1 })

-- The sheet of settings that can be written is a right sheet, and holds these settings.
-- Assumes nothing.
use mathlib.Core.Path.{◌≡◌, refl, sym, ap, ap₂, ◌∙◌}
use mathlib.Core.List.{List, [], ◌∷◌, ◌++◌}
use Prim.Native.Nat.{ℕ, suc, ◌+◌, ◌*◌, ◌≤◌, ◌<◌}
use native.Mathlib.Omega.{arith}
use lib.ListN.{length, take, drop, length-append, length-drop}
use lib.Seq.{take_at, drop_at, drop-drop, length-take-le}
use Rattle.values.specs.Values.{Bytes, natural, bytes_of}
use Rattle.setting.specs.declared.Head.{Head}
use Rattle.setting.specs.Setting.{Setting, length_of, lengths_to, heads, tails}
use Rattle.setting.proofs.Laws.{length_allowed, lengths_le}
use Rattle.setting.proofs.Lists.{head_from, lengths_same, no_lengths, lengths_next, lengths_mono, length_settings, setting_at}
use Rattle.sheet.specs.Sheet.{header_for, record_for, records_for, values_for, sheet_of, nothing, named, valued, Writable, field_at, version_in}
use Rattle.sheet.specs.Sheet.{count_in, records_at, values_at, records_in, values_in, held, value_at, Right}
use Rattle.sheet.specs.Promised.{Sized, Headed, Whole}
use Rattle.sheet.proofs.Rowed.{length_record, sized_on, sized_first, lengths_named, heads_by, tails_by, settings_back, records_by}
use Rattle.sheet.proofs.Right.{whole, right, heads_are, lengths_are, values_long, sheet_of_held}

-- ---- lengths

pub length_header : (n : ℕ) → length (header_for n) ≡ 12
unfolding header_for bytes_of
length_header n = refl

pub length_records : (offset : ℕ) (settings : List Setting) → length (records_for offset settings) ≡ 8 * length settings
unfolding records_for
length_records offset [] = refl
length_records offset (s ∷ rest) =
    let ih : length (records_for (offset + length s.value) rest) ≡ 8 * length rest = length_records (offset + length s.value) rest in
    omega (arith, length-append (record_for s.named offset) (records_for (offset + length s.value) rest), length_record s.named offset, ih)

pub length-values : (settings : List Setting) → Sized settings → length (values_for settings) ≡ lengths_to (named settings) (length settings)
unfolding values_for
length-values [] each = no_lengths (named [])
length-values (s ∷ rest) each =
    let ih : length (values_for rest) ≡ lengths_to (named rest) (length rest) = length-values rest (sized_on s rest each) in
    omega (arith, length-append s.value (values_for rest), sized_first s rest each, ih, lengths_named s rest (length rest))

pub length_sheet : (settings : List Setting) → length (sheet_of settings) ≡ 12 + 8 * length settings + length (values_for settings)
unfolding sheet_of
length_sheet settings =
    omega (
      arith,
      length-append (header_for (length settings)) (records_for 0 settings ++ values_for settings),
      length_header (length settings),
      length-append (records_for 0 settings) (values_for settings),
      length_records 0 settings,
    )

-- ---- the header that was written is read back

header_read : (n : ℕ) (rest : List ℕ) → n ≤ 128
    → (version_in (header_for n ++ rest) ≡ 1) × (count_in (header_for n ++ rest) ≡ n) × (records_at (header_for n ++ rest) ≡ 12) × (values_at (header_for n ++ rest) ≡ 12 + 8 * n)
unfolding version_in count_in records_at values_at field_at header_for bytes_of natural
header_read n rest h = (omega arith, omega arith, omega arith, omega arith)

behind_header : (n : ℕ) (rest : List ℕ) → drop 12 (header_for n ++ rest) ≡ rest
behind_header n rest = drop_at (header_for n) rest 12 (length_header n)

behind : (settings : List Setting) → drop 12 (sheet_of settings) ≡ records_for 0 settings ++ values_for settings
unfolding sheet_of
behind settings = behind_header (length settings) (records_for 0 settings ++ values_for settings)

read_header : (settings : List Setting) → length settings ≤ 128
    → (version_in (sheet_of settings) ≡ 1) × (count_in (sheet_of settings) ≡ length settings) × (records_at (sheet_of settings) ≡ 12)
    × (values_at (sheet_of settings) ≡ 12 + 8 * length settings)
unfolding sheet_of
read_header settings few = header_read (length settings) (records_for 0 settings ++ values_for settings) few

written_count : (settings : List Setting) → length settings ≤ 128 → count_in (sheet_of settings) ≡ length settings
written_count settings few = (read_header settings few).1

written_records : (settings : List Setting) → length settings ≤ 128 → records_in (sheet_of settings) ≡ records_for 0 settings
unfolding records_in
written_records settings few = rw (written_count settings few) (ap (take (8 * length settings)) (behind settings)
    ∙ take_at (records_for 0 settings) (values_for settings) (8 * length settings) (length_records 0 settings))

written_values : (settings : List Setting) → length settings ≤ 128 → values_in (sheet_of settings) ≡ values_for settings
unfolding values_in
written_values settings few =
    rw (written_count settings few) (sym (drop-drop (8 * length settings) 12 (sheet_of settings))
    ∙ (ap (drop (8 * length settings)) (behind settings) ∙ drop_at (records_for 0 settings) (values_for settings) (8 * length settings) (length_records 0 settings)))

-- ---- so it is a right sheet, and holds what was written

heads_of : (settings : List Setting) → Sized settings → (k : ℕ) → k < length settings → heads (records_for 0 settings) k ≡ named settings k
heads_of settings each k h = rw (records_by settings each) (heads_by (lengths_to (named settings)) settings k h)

lengths_of : (settings : List Setting) → Sized settings → (k : ℕ) → k ≤ length settings → lengths_to (heads (records_for 0 settings)) k ≡ lengths_to (named settings) k
lengths_of settings each k h = lengths_same (heads (records_for 0 settings)) (named settings) k (λ j l. heads_of settings each j (omega arith))

-- 128 values of 240 bytes
pub values_most : (settings : List Setting) → Writable settings → lengths_to (named settings) (length settings) ≤ 30720
values_most settings w =
    let most : lengths_to (named settings) (length settings) ≤ 240 * length settings =
    lengths_le (named settings) (length settings) 240 (λ k h. length_allowed (named settings k) (w.allowed k h)) in
    omega (arith, most, w.few)

tails_of : (settings : List Setting) → Writable settings → (k : ℕ) → k < length settings → tails (records_for 0 settings) k ≡ lengths_to (named settings) k
tails_of settings w k h =
    let small : lengths_to (named settings) k ≤ lengths_to (named settings) (length settings) = lengths_mono (named settings) k (length settings) (omega arith) in
    rw (records_by settings w.whole) (tails_by (lengths_to (named settings)) settings k h (omega (arith, small, values_most settings w)))

pub sheet_right : (settings : List Setting) → Writable settings → Right (sheet_of settings)
sheet_right settings w =
    right (sheet_of settings)
    (record {
      long = omega (arith, length_sheet settings);
      version = header.0;
      header = record { few = rw count w.few; records = header.2; values = rw count header.3; reaches = rw count (omega (arith, length_sheet settings)) };
      rise = λ k. rw (count, rows) (λ h. rw (heads_of settings w.whole k (omega arith), heads_of settings w.whole (suc k) h) (w.rise k h));
      allowed = λ k. rw (count, rows) (λ h. rw (heads_of settings w.whole k h) (w.allowed k h));
      placed = λ k. rw (count, rows) (λ h. tails_of settings w k h ∙ sym (lengths_of settings w.whole k (omega arith)));
      ends = rw (count, rows) (rw (lengths_of settings w.whole (length settings) (omega arith), ← length-values settings w.whole) (length_sheet settings));
    })
  where
    count : count_in (sheet_of settings) ≡ length settings
    count = written_count settings w.few

    rows : records_in (sheet_of settings) ≡ records_for 0 settings
    rows = written_records settings w.few

    header : (version_in (sheet_of settings) ≡ 1) × (count_in (sheet_of settings) ≡ length settings) × (records_at (sheet_of settings) ≡ 12)
        × (values_at (sheet_of settings) ≡ 12 + 8 * length settings)
    header = read_header settings w.few

pub held_of_sheet : (settings : List Setting) → Writable settings → held (sheet_of settings) ≡ settings
unfolding held
held_of_sheet settings w =
    rw (written_count settings w.few, written_records settings w.few, written_values settings w.few, records_by settings w.whole)
    (settings_back (lengths_to (named settings)) settings w.whole)

-- the largest sheet: 12 + 8 * 128 + 240 * 128 bytes
pub sheet_most : (settings : List Setting) → Writable settings → length (sheet_of settings) ≤ 31756
sheet_most settings w = omega (arith, length_sheet settings, length-values settings w.whole, values_most settings w, w.few)

-- ---- and the settings of a right sheet can be written

pub held_named : (sheet : List ℕ) → Headed sheet → (k : ℕ) → k < count_in sheet → named (held sheet) k ≡ heads (records_in sheet) k
unfolding named held
held_named sheet h k l =
    ap (λ (s : Setting). s.named) (setting_at (count_in sheet) (records_in sheet) (values_in sheet) nothing k l) ∙ heads_are sheet h k l

pub held_valued : (sheet : List ℕ) → Whole sheet → (k : ℕ) → k < count_in sheet → valued (held sheet) k ≡ value_at sheet k
unfolding valued held value_at
held_valued sheet w k l =
    let at : head_from (records_in sheet) k ≡ heads (records_in sheet) k = heads_are sheet w.header k l in
    let from : lengths_to (head_from (records_in sheet)) k ≡ tails (records_in sheet) k = lengths_are sheet w.header k (omega arith) ∙ sym (w.placed k l) in
    ap (λ (s : Setting). s.value) (setting_at (count_in sheet) (records_in sheet) (values_in sheet) nothing k l)
    ∙ ap₂ (λ (h : Head) (i : ℕ). take (length_of h) (drop i (values_in sheet))) at from

-- the value that a record says is all there
pub value_long : (sheet : List ℕ) → Whole sheet → (k : ℕ) → k < count_in sheet
    → tails (records_in sheet) k + length_of (heads (records_in sheet) k) ≤ length (values_in sheet)
value_long sheet w k l =
    let more : lengths_to (heads (records_in sheet)) (suc k) ≤ lengths_to (heads (records_in sheet)) (count_in sheet) =
    lengths_mono (heads (records_in sheet)) (suc k) (count_in sheet) l in
    omega (arith, more, lengths_next (heads (records_in sheet)) k, w.placed k l, values_long sheet w)

pub value_sized : (sheet : List ℕ) → Whole sheet → (k : ℕ) → k < count_in sheet → length (value_at sheet k) ≡ length_of (heads (records_in sheet) k)
unfolding value_at
value_sized sheet w k l =
    length-take-le (length_of (heads (records_in sheet) k)) (drop (tails (records_in sheet) k) (values_in sheet))
    (omega (arith, value_long sheet w k l, length-drop (tails (records_in sheet) k) (values_in sheet)))

pub held_long : (sheet : List ℕ) → length (held sheet) ≡ count_in sheet
unfolding held
held_long sheet = length_settings (count_in sheet) (records_in sheet) (values_in sheet)

pub held_writable : (sheet : List ℕ) → Right sheet → Writable (held sheet)
held_writable sheet r =
    record {
      few = rw many w.header.few;
      rise = λ k. rw many (λ l. rw (held_named sheet w.header k (omega arith), held_named sheet w.header (suc k) l) (w.rise k l));
      allowed = λ k. rw many (λ l. rw (held_named sheet w.header k l) (w.allowed k l));
      whole = λ k. rw many (λ l. rw (held_named sheet w.header k l) (ap length (held_valued sheet w k l) ∙ value_sized sheet w k l));
    }
  where
    w : Whole sheet
    w = whole sheet r

    many : length (held sheet) ≡ count_in sheet
    many = held_long sheet

-- ---- "Equal settings give equal sheets and the reverse."

pub same_sheet : (a b : List Setting) → Writable a → Writable b → sheet_of a ≡ sheet_of b → a ≡ b
same_sheet a b p q e = sym (held_of_sheet a p) ∙ (ap held e ∙ held_of_sheet b q)

pub same_settings : (a b : List ℕ) → Bytes a → Bytes b → Right a → Right b → held a ≡ held b → a ≡ b
same_settings a b x y p q e = sym (sheet_of_held a x p) ∙ (ap sheet_of e ∙ sheet_of_held b y q)

-- A right sheet, condition by condition; and that it is the sheet of the settings that it holds.
-- Assumes nothing.
use mathlib.Core.Path.{◌≡◌, refl, sym, ap, ap₂, ◌∙◌}
use mathlib.Core.List.{List, [], ◌∷◌, ◌++◌, append_assoc, append-nil}
use mathlib.Core.Logic.{inl, inr, ⊎_elim, ◌≢◌}
use Prim.Native.Nat.{ℕ, zero, suc, ◌+◌, ◌*◌, ◌≤◌, ◌<◌}
use native.Mathlib.Omega.{arith}
use lib.ListN.{length, get_or, take, drop, length-drop, take-append-drop, drop_of_length-le}
use lib.Seq.{length-take-le, drop-drop}
use Rattle.lent.proofs.Laws.{drop-next}
use Rattle.rows.specs.Rows.{Ranked}
use Rattle.rows.proofs.Laws.{Decides, decides_lt, decides_eq, decides_not, decides_or, decides_as, ranked, ◌otherwise◌}
use Rattle.values.specs.Values.{Bytes, natural, bytes_of}
use Rattle.values.proofs.Bytes.{bytes_take, bytes_drop, bytes_of_natural}
use Rattle.setting.specs.declared.Head.{Head}
use Rattle.setting.specs.Setting.{length_of, lengths_to, head_of, tail_of, rows_in, heads, tails, settings_in}
use Rattle.setting.proofs.Laws.{equal, decides_some, decides_falls, decides_unfit, all_rise, none_falls, all_allowed, none_unfit, heads_at, tails-at, rows_whole}
use Rattle.setting.proofs.Lists.{head_from, row_on, lengths_same, lengths_row, length_settings}
use Rattle.sheet.specs.Sheet.{header_for, record_for, records_for, values_for, sheet_of, field_at, version_in, count_in, records_at, values_at, records_in}
use Rattle.sheet.specs.Sheet.{values_in, held, IsShort, IsOther, IsWrongHeader, HasFall, HasUnfit, Misplaced, HasMisplaced, check_rows, Right}
use Rattle.sheet.specs.Sheet.{misplaced, is_wrong_header, is_misplaced, check_tests, check_refusal}
use Rattle.sheet.specs.Promised.{Headed, Whole}

-- ---- the tests of a check decide its rows

at_most : (a b : ℕ) → (b < a → ⊥) → a ≤ b
at_most a b n = omega arith

pub headed : (sheet : List ℕ) → (IsWrongHeader sheet → ⊥) → Headed sheet
unfolding IsWrongHeader
headed sheet n =
    let at : values_at sheet ≡ 12 + 8 * count_in sheet = equal (values_at sheet) (12 + 8 * count_in sheet) (λ w. n (inr (inr (inl w)))) in
    record {
      few = at_most (count_in sheet) 128 (λ w. n (inl w));
      records = equal (records_at sheet) 12 (λ w. n (inr (inl w)));
      values = at;
      reaches = rw at at (at_most (values_at sheet) (length sheet) (λ w. n (inr (inr (inr w)))));
    }

pub not_headed : (sheet : List ℕ) → Headed sheet → IsWrongHeader sheet → ⊥
unfolding IsWrongHeader
not_headed sheet h =
    ⊎_elim (λ w. omega (arith, w, h.few)) (⊎_elim (λ w. w h.records) (⊎_elim (λ w. w h.values) (λ w. omega (arith, w, h.values, h.reaches))))

pub decides_header : (sheet : List ℕ) → Decides (is_wrong_header sheet) (IsWrongHeader sheet)
unfolding IsWrongHeader
decides_header sheet =
    decides_or (decides_lt 128 (count_in sheet)) (decides_or (decides_not (decides_eq (records_at sheet) 12))
    (decides_or (decides_not (decides_eq (values_at sheet) (12 + 8 * count_in sheet))) (decides_lt (length sheet) (values_at sheet))))

decides_misplaced : (rows : List ℕ) (k : ℕ) → Decides (misplaced rows k) (Misplaced rows k)
unfolding Misplaced
decides_misplaced rows k = decides_not (decides_eq (tails rows k) (lengths_to (heads rows) k))

-- behind a right header the sheet ends where its values do exactly when the value area is as long as they are
decides_ends : (sheet : List ℕ) → Headed sheet → Decides (is_misplaced (count_in sheet) (records_in sheet) (length (values_in sheet))) (HasMisplaced sheet)
unfolding is_misplaced HasMisplaced values_in
decides_ends sheet h =
    decides_or (decides_some (misplaced (records_in sheet)) (Misplaced (records_in sheet)) (count_in sheet) (decides_misplaced (records_in sheet)))
    (decides_as (decides_not (decides_eq (length (drop (12 + 8 * count_in sheet) sheet)) total)) there back)
  where
    total : ℕ
    total = lengths_to (heads (records_in sheet)) (count_in sheet)

    area : length (drop (12 + 8 * count_in sheet) sheet) + (12 + 8 * count_in sheet) ≡ length sheet
    area = omega (arith, length-drop (12 + 8 * count_in sheet) sheet, h.reaches)

    there : (length (drop (12 + 8 * count_in sheet) sheet) ≢ total) → length sheet ≢ values_at sheet + total
    there n e = n (omega (arith, area, e, h.values))

    back : (length sheet ≢ values_at sheet + total) → length (drop (12 + 8 * count_in sheet) sheet) ≢ total
    back n e = n (omega (arith, area, e, h.values))

pub check_ranked : (sheet : List ℕ) → Ranked (check_rows sheet) (check_refusal sheet)
unfolding check_rows check_refusal IsShort IsOther HasFall HasUnfit
check_ranked sheet =
    ranked (check_tests sheet) (check_rows sheet)
    (decides_lt (length sheet) 12 otherwise λ n₆₅.
    decides_not (decides_eq (version_in sheet) 1) otherwise λ n₆₆.
    decides_header sheet otherwise λ n₆₇.
    decides_some _ _ (count_in sheet) (decides_falls (heads (records_in sheet))) otherwise λ n₆₈.
    decides_some _ _ (count_in sheet) (decides_unfit (heads (records_in sheet))) otherwise λ n₆₉.
    decides_ends sheet (headed sheet n₆₇) otherwise λ n₇₀. tt)

-- ---- a right sheet, in facts

pub whole : (sheet : List ℕ) → Right sheet → Whole sheet
unfolding check_rows IsShort IsOther HasFall HasUnfit HasMisplaced Misplaced
whole sheet n =
    let h : Headed sheet = headed sheet n.1.1.0 in
    record {
      long = at_most 12 (length sheet) n.0;
      version = equal (version_in sheet) 1 n.1.0;
      header = h;
      rise = all_rise (heads (records_in sheet)) (count_in sheet) n.1.1.1.0;
      allowed = all_allowed (heads (records_in sheet)) (count_in sheet) n.1.1.1.1.0;
      placed = λ k l. equal (tails (records_in sheet) k) (lengths_to (heads (records_in sheet)) k) (λ w. n.1.1.1.1.1.0 (inl (k, l, w)));
      ends =
          equal (length sheet) (values_at sheet + lengths_to (heads (records_in sheet)) (count_in sheet)) (λ w. n.1.1.1.1.1.0 (inr w))
          ∙ ap (λ (v : ℕ). v + lengths_to (heads (records_in sheet)) (count_in sheet)) h.values;
    }

pub right : (sheet : List ℕ) → Whole sheet → Right sheet
unfolding check_rows IsShort IsOther HasFall HasUnfit HasMisplaced Misplaced
right sheet w =
    let total = lengths_to (heads (records_in sheet)) (count_in sheet) in (
      λ l. omega (arith, l, w.long),
      (
        λ n. n w.version,
        (
          not_headed sheet w.header,
          (
            none_falls (heads (records_in sheet)) (count_in sheet) w.rise,
            (
              none_unfit (heads (records_in sheet)) (count_in sheet) w.allowed,
              (⊎_elim (λ s. s.2 (w.placed s.0 s.1)) (λ n. n (w.ends ∙ ap (λ (v : ℕ). v + total) (sym w.header.values))), tt),
            ),
          ),
        ),
      ),
    )

-- ---- "the reverse": a right sheet is the sheet of the settings that it holds

-- a row of 8 bytes, and what follows
pub row_parts : (rows : List ℕ) → Bytes rows → 8 ≤ length rows → record_for (head_of rows) (tail_of rows) ++ drop 8 rows ≡ rows
unfolding record_for head_of tail_of
row_parts rows b h =
    let last : bytes_of 4 (natural (take 4 (drop 4 rows))) ≡ take 4 (drop 4 rows) =
    ap (λ (n : ℕ). bytes_of n (natural (take 4 (drop 4 rows)))) (sym (length-take-le 4 (drop 4 rows) (omega (arith, length-drop 4 rows))))
    ∙ bytes_of_natural (take 4 (drop 4 rows)) (bytes_take 4 (drop 4 rows) (bytes_drop 4 rows b)) in
    let rest : bytes_of 4 (natural (take 4 (drop 4 rows))) ++ drop 8 rows ≡ drop 4 rows =
    ap₂ (λ (a c : List ℕ). a ++ c) last (sym (drop-drop 4 4 rows)) ∙ take-append-drop 4 (drop 4 rows) in
    ap (λ (l : List ℕ). get_or rows 0 0 ∷ get_or rows 1 0 ∷ get_or rows 2 0 ∷ get_or rows 3 0 ∷ l) rest
    ∙ sym (drop-next rows 0 (omega arith) ∙ ap (λ (l : List ℕ). get_or rows 0 0 ∷ l) (drop-next rows 1 (omega arith)
    ∙ ap (λ (l : List ℕ). get_or rows 1 0 ∷ l) (drop-next rows 2 (omega arith) ∙ ap (λ (l : List ℕ). get_or rows 2 0 ∷ l) (drop-next rows 3 (omega arith)))))

no_more : (n : ℕ) (at : ℕ → Head) → n + lengths_to at 0 ≡ n
unfolding lengths_to
no_more n at = omega arith

none_dropped : (at : ℕ → Head) (values : List ℕ) → drop (lengths_to at 0) values ≡ values
unfolding lengths_to
none_dropped at values = refl

pub records_are : (n offset : ℕ) (rows values : List ℕ) → Bytes rows → length rows ≡ 8 * n
    → ((k : ℕ) → k < n → tail_of (drop (8 * k) rows) ≡ offset + lengths_to (head_from rows) k)
    → lengths_to (head_from rows) n ≤ length values → records_for offset (settings_in n rows values) ≡ rows
unfolding records_for settings_in
records_are zero offset rows values b e placed room = sym (nil rows e)
  where
    nil : (xs : List ℕ) → length xs ≡ 8 * 0 → xs ≡ []
    nil [] e = refl
    nil (x ∷ xs) e = absurd (omega arith)
records_are (suc n) offset rows values b e placed room =
    let first = length_of (head_of rows) in
    let all : lengths_to (head_from rows) (suc n) ≡ first + lengths_to (head_from (drop 8 rows)) n = lengths_row rows n in
    let size : length (take first values) ≡ first = length-take-le first values (omega (arith, all, room)) in
    let here : tail_of rows ≡ offset = placed 0 (omega arith) ∙ no_more offset (head_from rows) in
    let later : records_for (offset + first) (settings_in n (drop 8 rows) (drop first values)) ≡ drop 8 rows =
    records_are n (offset + first) (drop 8 rows) (drop first values) (bytes_drop 8 rows b) (omega (arith, length-drop 8 rows, e))
    (λ k l. next k (placed (suc k) (omega arith))) (omega (arith, length-drop first values, all, room)) in
    rw (size, later, ← here) (row_parts rows b (omega arith))
  where
    next : (k : ℕ) → tail_of (drop (8 * suc k) rows) ≡ offset + lengths_to (head_from rows) (suc k)
        → tail_of (drop (8 * k) (drop 8 rows)) ≡ offset + length_of (head_of rows) + lengths_to (head_from (drop 8 rows)) k
    next k p = ap tail_of (row_on rows k) ∙ (p ∙ omega (arith, lengths_row rows k))

pub values_are : (n : ℕ) (rows values : List ℕ) → values_for (settings_in n rows values) ++ drop (lengths_to (head_from rows) n) values ≡ values
unfolding values_for settings_in
values_are zero rows values = none_dropped (head_from rows) values
values_are (suc n) rows values =
    let first = length_of (head_of rows) in
    let rest = settings_in n (drop 8 rows) (drop first values) in
    let split : drop (lengths_to (head_from rows) (suc n)) values ≡ drop (lengths_to (head_from (drop 8 rows)) n) (drop first values) =
    ap (λ (i : ℕ). drop i values) (lengths_row rows n) ∙ sym (drop-drop (lengths_to (head_from (drop 8 rows)) n) first values) in
    ap (λ (l : List ℕ). take first values ++ values_for rest ++ l) split
    ∙ (append_assoc (take first values) (values_for rest) (drop (lengths_to (head_from (drop 8 rows)) n) (drop first values))
    ∙ (ap (λ (l : List ℕ). take first values ++ l) (values_are n (drop 8 rows) (drop first values)) ∙ take-append-drop first values))

-- the three parts of a sheet
parts : (n : ℕ) (sheet : List ℕ)
    → take 2 sheet ++ (take 2 (drop 2 sheet) ++ (take 4 (drop 4 sheet) ++ take 4 (drop 8 sheet))) ++ (take n (drop 12 sheet) ++ drop (12 + n) sheet) ≡ sheet
parts n sheet =
    let four = take 4 (drop 8 sheet) in
    let tail = take n (drop 12 sheet) ++ drop (12 + n) sheet in
    let t : tail ≡ drop 12 sheet = ap (λ (l : List ℕ). take n (drop 12 sheet) ++ l) (sym (drop-drop n 12 sheet)) ∙ take-append-drop n (drop 12 sheet) in
    let c : four ++ tail ≡ drop 8 sheet = ap (λ (l : List ℕ). four ++ l) (t ∙ sym (drop-drop 4 8 sheet)) ∙ take-append-drop 4 (drop 8 sheet) in
    let b : take 4 (drop 4 sheet) ++ (four ++ tail) ≡ drop 4 sheet =
    ap (λ (l : List ℕ). take 4 (drop 4 sheet) ++ l) (c ∙ sym (drop-drop 4 4 sheet)) ∙ take-append-drop 4 (drop 4 sheet) in
    let a : take 2 (drop 2 sheet) ++ (take 4 (drop 4 sheet) ++ (four ++ tail)) ≡ drop 2 sheet =
    ap (λ (l : List ℕ). take 2 (drop 2 sheet) ++ l) (b ∙ sym (drop-drop 2 2 sheet)) ∙ take-append-drop 2 (drop 2 sheet) in
    append_assoc (take 2 sheet) (take 2 (drop 2 sheet) ++ (take 4 (drop 4 sheet) ++ four)) tail
    ∙ (ap (λ (l : List ℕ). take 2 sheet ++ l) (append_assoc (take 2 (drop 2 sheet)) (take 4 (drop 4 sheet) ++ four) tail
    ∙ (ap (λ (l : List ℕ). take 2 (drop 2 sheet) ++ l) (append_assoc (take 4 (drop 4 sheet)) four tail) ∙ a)) ∙ take-append-drop 2 sheet)

-- the bytes of a field are the field's bytes
field_bytes : (at n : ℕ) (sheet : List ℕ) → Bytes sheet → at + n ≤ length sheet → bytes_of n (field_at at n sheet) ≡ take n (drop at sheet)
unfolding field_at
field_bytes at n sheet b h =
    ap (λ (m : ℕ). bytes_of m (natural (take n (drop at sheet)))) (sym (length-take-le n (drop at sheet) (omega (arith, length-drop at sheet))))
    ∙ bytes_of_natural (take n (drop at sheet)) (bytes_take n (drop at sheet) (bytes_drop at sheet b))

-- how long the records and the value area are
pub records_long : (sheet : List ℕ) → 12 + 8 * count_in sheet ≤ length sheet → length (records_in sheet) ≡ 8 * count_in sheet
unfolding records_in
records_long sheet h = length-take-le (8 * count_in sheet) (drop 12 sheet) (omega (arith, length-drop 12 sheet))

pub values_long : (sheet : List ℕ) → Whole sheet → length (values_in sheet) ≡ lengths_to (heads (records_in sheet)) (count_in sheet)
unfolding values_in
values_long sheet w = omega (arith, length-drop (12 + 8 * count_in sheet) sheet, w.ends)

-- the heads by which the settings are read are those that the rows name
pub heads_are : (sheet : List ℕ) → Headed sheet → (k : ℕ) → k < count_in sheet → head_from (records_in sheet) k ≡ heads (records_in sheet) k
heads_are sheet h k l = sym (heads_at (records_in sheet) k (rw (rows_whole (records_in sheet) (count_in sheet) (records_long sheet h.reaches)) l))

pub lengths_are : (sheet : List ℕ) → Headed sheet → (k : ℕ) → k ≤ count_in sheet
    → lengths_to (head_from (records_in sheet)) k ≡ lengths_to (heads (records_in sheet)) k
lengths_are sheet h k l = lengths_same (head_from (records_in sheet)) (heads (records_in sheet)) k (λ j m. heads_are sheet h j (omega arith))

pub bytes_records : (sheet : List ℕ) → Bytes sheet → Bytes (records_in sheet)
unfolding records_in
bytes_records sheet b = bytes_take (8 * count_in sheet) (drop 12 sheet) (bytes_drop 12 sheet b)

-- a right sheet begins with its header, its records follow, and then its values
three-parts : (sheet : List ℕ) → Bytes sheet → Whole sheet → header_for (count_in sheet) ++ (records_in sheet ++ values_in sheet) ≡ sheet
unfolding header_for version_in count_in records_at values_at records_in values_in
three-parts sheet b w =
    let one : bytes_of 2 1 ≡ take 2 sheet = ap (bytes_of 2) (sym w.version) ∙ field_bytes 0 2 sheet b (omega (arith, w.long)) in
    let two : bytes_of 2 (field_at 2 2 sheet) ≡ take 2 (drop 2 sheet) = field_bytes 2 2 sheet b (omega (arith, w.long)) in
    let three : bytes_of 4 12 ≡ take 4 (drop 4 sheet) = ap (bytes_of 4) (sym w.header.records) ∙ field_bytes 4 4 sheet b (omega (arith, w.long)) in
    let four : bytes_of 4 (12 + 8 * field_at 2 2 sheet) ≡ take 4 (drop 8 sheet) =
    ap (bytes_of 4) (sym w.header.values) ∙ field_bytes 8 4 sheet b (omega (arith, w.long)) in
    rw (one, two, three, four) (parts (8 * field_at 2 2 sheet) sheet)

pub sheet_of_held : (sheet : List ℕ) → Bytes sheet → Right sheet → sheet_of (held sheet) ≡ sheet
unfolding sheet_of held
sheet_of_held sheet b r = rw (length_settings n rows values, records, laid) (three-parts sheet b w)
  where
    w : Whole sheet
    w = whole sheet r

    n : ℕ
    n = count_in sheet

    rows : List ℕ
    rows = records_in sheet

    values : List ℕ
    values = values_in sheet

    total : lengths_to (head_from rows) n ≡ length values
    total = lengths_are sheet w.header n (omega arith) ∙ sym (values_long sheet w)

    many : rows_in rows ≡ n
    many = rows_whole rows n (records_long sheet w.header.reaches)

    placed : (k : ℕ) → k < n → tail_of (drop (8 * k) rows) ≡ 0 + lengths_to (head_from rows) k
    placed k l =
        let at : tail_of (drop (8 * k) rows) ≡ tails rows k = sym (tails-at rows k (rw many l)) in
        let same : lengths_to (head_from rows) k ≡ lengths_to (heads rows) k = lengths_are sheet w.header k (omega arith) in
        omega (arith, at, same, w.placed k l)

    records : records_for 0 (settings_in n rows values) ≡ rows
    records = records_are n 0 rows values (bytes_records sheet b) (records_long sheet w.header.reaches) placed (omega (arith, total))

    laid : values_for (settings_in n rows values) ≡ values
    laid =
        let none : drop (lengths_to (head_from rows) n) values ≡ [] = drop_of_length-le values {i = lengths_to (head_from rows) n} (omega (arith, total)) in
        sym (append-nil (values_for (settings_in n rows values)))
        ∙ (ap (λ (l : List ℕ). values_for (settings_in n rows values) ++ l) (sym none) ∙ values_are n rows values)

-- Settings as they are handed over: what the tests decide, and that a sheet laid row by row is the sheet of these settings.
-- Assumes nothing.
use mathlib.Core.Path.{◌≡◌, refl, sym, ap, ◌∙◌}
use mathlib.Core.List.{List, [], ◌∷◌, ◌++◌, append-nil}
use mathlib.Core.Logic.{inl, inr}
use Prim.Native.Nat.{ℕ, zero, suc, ◌+◌, ◌*◌, ◌≤◌, ◌<◌}
use native.Mathlib.Omega.{arith}
use lib.ListN.{length, take, drop, length-drop, drop_of_length-le}
use lib.Seq.{length-take-le, drop-drop}
use Rattle.rows.specs.Rows.{Ranked}
use Rattle.rows.proofs.Laws.{Decides, decides_lt, decides_eq, decides_not, decides_or, ranked, ◌otherwise◌}
use Rattle.values.specs.Values.{Bytes}
use Rattle.values.proofs.Bytes.{bytes_drop}
use Rattle.setting.specs.Setting.{length_of, lengths_to, head_of, tail_of, rows_in, heads, tails, settings_in}
use Rattle.setting.proofs.Laws.{equal, decides_some, decides_falls, decides_unfit, heads_at, tails-at}
use Rattle.setting.proofs.Lists.{head_from, row_on, lengths_same, lengths_next, lengths_row, lengths_mono, length_settings}
use Rattle.sheet.specs.Sheet.{header_for, record_for, records_for, values_for, sheet_of}
use Rattle.sheet.proofs.Right.{row_parts, values_are}
use Rattle.sheet.proofs.Written.{length_sheet}
use Rattle.sheet_writer.specs.Writer.{rows_for, handed, AreMany, HaveFall, Misstated, HaveWrongLength, HaveUnfit, IsNarrow, write_rows, misstated}
use Rattle.sheet_writer.specs.Writer.{is_misstated, write_tests, write_refusal, laid_from}

-- ---- the tests decide the rows

decides_misstated : (rows : List ℕ) (k : ℕ) → Decides (misstated rows k) (Misstated rows k)
unfolding Misstated
decides_misstated rows k = decides_not (decides_eq (tails rows k) (length_of (heads rows k)))

pub decides_lengths : (rows values : List ℕ) → Decides (is_misstated rows (length values)) (HaveWrongLength rows values)
unfolding is_misstated HaveWrongLength
decides_lengths rows values =
    decides_or (decides_not (decides_eq (length rows) (8 * rows_in rows)))
    (decides_or (decides_some (misstated rows) (Misstated rows) (rows_in rows) (decides_misstated rows))
    (decides_not (decides_eq (length values) (lengths_to (heads rows) (rows_in rows)))))

pub write_ranked : (rows values room : List ℕ) → Ranked (write_rows rows values room) (write_refusal rows values room)
unfolding write_rows write_refusal AreMany HaveFall HaveUnfit IsNarrow
write_ranked rows values room =
    ranked (write_tests rows values room) (write_rows rows values room)
    (decides_lt 128 (rows_in rows) otherwise λ n₇₉.
    decides_some _ _ (rows_in rows) (decides_falls (heads rows)) otherwise λ n₆₈.
    decides_or (decides_some _ _ (rows_in rows) (decides_unfit (heads rows))) (decides_lengths rows values) otherwise λ n₆₉.
    decides_lt (length room) (length (sheet_of (handed rows values))) otherwise λ n₅₇. tt)

-- ---- lengths that are what they should be

-- the rows are whole, and the values are as long as their rows say together
pub record Stated (rows values : List ℕ) : Type 0 where
  pub whole : length rows ≡ 8 * rows_in rows
  pub each : (k : ℕ) → k < rows_in rows → tails rows k ≡ length_of (heads rows k)
  pub all : length values ≡ lengths_to (heads rows) (rows_in rows)

pub stated : (rows values : List ℕ) → (HaveWrongLength rows values → ⊥) → Stated rows values
unfolding HaveWrongLength Misstated
stated rows values n =
    record {
      whole = equal (length rows) (8 * rows_in rows) (λ w. n (inl w));
      each = λ k h. equal (tails rows k) (length_of (heads rows k)) (λ w. n (inr (inl (k, h, w))));
      all = equal (length values) (lengths_to (heads rows) (rows_in rows)) (λ w. n (inr (inr w)));
    }

-- ---- then the records laid row by row are those of the settings

pub lengths_from : (rows : List ℕ) (k : ℕ) → k ≤ rows_in rows → lengths_to (head_from rows) k ≡ lengths_to (heads rows) k
lengths_from rows k h = lengths_same (head_from rows) (heads rows) k (λ j l. sym (heads_at rows j (omega arith)))

laid_from_lem : (rows values : List ℕ) (m k : ℕ) → k + m ≤ rows_in rows → lengths_to (heads rows) (rows_in rows) ≤ length values
    → records_for (lengths_to (heads rows) k) (settings_in m (drop (8 * k) rows) (drop (lengths_to (heads rows) k) values)) ≡ laid_from (heads rows) k m
unfolding records_for settings_in laid_from
laid_from_lem rows values zero k h room = refl
laid_from_lem rows values (suc m) k h room =
    let at = lengths_to (heads rows) k in
    let here : head_from rows k ≡ heads rows k = sym (heads_at rows k (omega arith)) in
    let next : lengths_to (heads rows) (suc k) ≡ at + length_of (heads rows k) = lengths_next (heads rows) k in
    let most : lengths_to (heads rows) (suc k) ≤ lengths_to (heads rows) (rows_in rows) = lengths_mono (heads rows) (suc k) (rows_in rows) (omega arith) in
    let size : length (take (length_of (heads rows k)) (drop at values)) ≡ length_of (heads rows k) =
    length-take-le (length_of (heads rows k)) (drop at values) (omega (arith, length-drop at values, next, most, room)) in
    let row : drop 8 (drop (8 * k) rows) ≡ drop (8 * suc k) rows = row_next rows k in
    let value : drop (length_of (heads rows k)) (drop at values) ≡ drop (lengths_to (heads rows) (suc k)) values =
    drop-drop (length_of (heads rows k)) at values ∙ ap (λ (i : ℕ). drop i values) (sym next) in
    rw (here, size, row, value, ← next) (ap (λ (l : List ℕ). record_for (heads rows k) at ++ l) (laid_from_lem rows values m (suc k) (omega arith) room))
  where
    row_next : (rows : List ℕ) (k : ℕ) → drop 8 (drop (8 * k) rows) ≡ drop (8 * suc k) rows
    row_next rows k =
        let e : 8 * k + 8 ≡ 8 * suc k = omega arith in
        drop-drop 8 (8 * k) rows ∙ ap (λ (i : ℕ). drop i rows) e

records_laid : (rows values : List ℕ) → length values ≡ lengths_to (heads rows) (rows_in rows) → records_for 0 (handed rows values) ≡ laid_from (heads rows) 0 (rows_in rows)
unfolding handed lengths_to
records_laid rows values all = laid_from_lem rows values (rows_in rows) 0 (omega arith) (omega (arith, all))

pub values_laid : (rows values : List ℕ) → length values ≡ lengths_to (heads rows) (rows_in rows) → values_for (handed rows values) ≡ values
unfolding handed
values_laid rows values all =
    let total : lengths_to (head_from rows) (rows_in rows) ≡ length values = lengths_from rows (rows_in rows) (omega arith) ∙ sym all in
    let none : drop (lengths_to (head_from rows) (rows_in rows)) values ≡ [] =
    drop_of_length-le values {i = lengths_to (head_from rows) (rows_in rows)} (omega (arith, total)) in
    sym (append-nil (values_for (settings_in (rows_in rows) rows values)))
    ∙ (ap (λ (l : List ℕ). values_for (settings_in (rows_in rows) rows values) ++ l) (sym none) ∙ values_are (rows_in rows) rows values)

pub many_handed : (rows values : List ℕ) → length (handed rows values) ≡ rows_in rows
unfolding handed
many_handed rows values = length_settings (rows_in rows) rows values

pub sheet_laid : (rows values : List ℕ) → length values ≡ lengths_to (heads rows) (rows_in rows)
    → sheet_of (handed rows values) ≡ header_for (rows_in rows) ++ (laid_from (heads rows) 0 (rows_in rows) ++ values)
unfolding sheet_of
sheet_laid rows values all = rw (many_handed rows values, records_laid rows values all, values_laid rows values all)

pub length_laid : (rows values : List ℕ) → length values ≡ lengths_to (heads rows) (rows_in rows) → length (sheet_of (handed rows values)) ≡ 12 + 8 * rows_in rows + length values
length_laid rows values all = rw (length_sheet (handed rows values), many_handed rows values, values_laid rows values all)

-- ---- and what is taken is all that was handed over: no byte of the rows or of the values is passed over

rows_again : (n : ℕ) (rows values : List ℕ) → Bytes rows → length rows ≡ 8 * n → ((k : ℕ) → k < n → tail_of (drop (8 * k) rows) ≡ length_of (head_from rows k))
    → lengths_to (head_from rows) n ≤ length values → rows_for (settings_in n rows values) ≡ rows
unfolding rows_for settings_in
rows_again zero rows values b e told room = sym (nil rows e)
  where
    nil : (xs : List ℕ) → length xs ≡ 8 * 0 → xs ≡ []
    nil [] e = refl
    nil (x ∷ xs) e = absurd (omega arith)
rows_again (suc n) rows values b e told room =
    let first = length_of (head_of rows) in
    let all : lengths_to (head_from rows) (suc n) ≡ first + lengths_to (head_from (drop 8 rows)) n = lengths_row rows n in
    let size : length (take first values) ≡ first = length-take-le first values (omega (arith, all, room)) in
    let here : tail_of rows ≡ first = told 0 (omega arith) in
    let later : rows_for (settings_in n (drop 8 rows) (drop first values)) ≡ drop 8 rows =
    rows_again n (drop 8 rows) (drop first values) (bytes_drop 8 rows b) (omega (arith, length-drop 8 rows, e))
    (λ k l. next k (told (suc k) (omega arith))) (omega (arith, length-drop first values, all, room)) in
    rw (size, later, ← here) (row_parts rows b (omega arith))
  where
    next : (k : ℕ) → tail_of (drop (8 * suc k) rows) ≡ length_of (head_from rows (suc k)) → tail_of (drop (8 * k) (drop 8 rows)) ≡ length_of (head_from (drop 8 rows) k)
    next k p = ap tail_of (row_on rows k) ∙ (p ∙ ap (λ (l : List ℕ). length_of (head_of l)) (sym (row_on rows k)))

pub handed_exactly : (rows values : List ℕ) → Bytes rows → Stated rows values → (rows ≡ rows_for (handed rows values)) × (values ≡ values_for (handed rows values))
unfolding handed
handed_exactly rows values b s = (sym again, sym (values_laid rows values s.all))
  where
    n : ℕ
    n = rows_in rows

    told : (k : ℕ) → k < n → tail_of (drop (8 * k) rows) ≡ length_of (head_from rows k)
    told k l = sym (tails-at rows k l) ∙ (s.each k l ∙ ap length_of (heads_at rows k l))

    total : lengths_to (head_from rows) n ≡ length values
    total = lengths_from rows n (omega arith) ∙ sym s.all

    again : rows_for (settings_in n rows values) ≡ rows
    again = rows_again n rows values b s.whole told (omega (arith, total))

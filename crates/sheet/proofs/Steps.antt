-- What the code's steps need.
-- Assumes nothing.
use Rattle.std.specs.Prelude.{Ok, Err}
use mathlib.Core.Path.{◌≡◌, refl, sym, ap, ap₂, ◌∙◌}
use mathlib.Core.Bool.{Bool, true, false, not, cond}
use mathlib.Core.List.{List}
use mathlib.Core.Logic.{◌≢◌}
use mathlib.Core.Option.{Option, some, none}
use Prim.Native.Nat.{ℕ, ◌+◌, ◌-◌, ◌*◌, ◌/◌, ◌≤◌, ◌<◌}
use native.Mathlib.Nat.{le_antisymm}
use native.Mathlib.Omega.{arith}
use borrow.Author.Tests.{lt-ltb, le-ltb, le-leb, lt-leb, eq-eqb, ne_eqb}
use lib.Dec.{eqb, ltb}
use lib.ListN.{length, take, drop, length-take, length-drop}
use lib.Seq.{take_all, drop-drop}
use Rattle.lent.specs.Lent.{over, over_at}
use Rattle.lent.proofs.Laws.{over_at_zero}
use Rattle.first.specs.First.{first_place}
use Rattle.rows.specs.Rows.{first_row_of}
use Rattle.rows.proofs.Laws.{done_exactly, clash}
use Rattle.values.specs.Values.{natural}
use Rattle.setting.specs.declared.Head.{Head}
use Rattle.setting.specs.declared.Fault.{Fault}
use Rattle.setting.specs.declared.Fault.TheVariants.{ShortSheet, OtherVersion, WrongHeader, NoSuchRecord, NoRoom, WrongPlaces}
use Rattle.setting.specs.Setting.{length_of, lengths_to, rows_in, heads, tails, some_of, falls, unfit}
use Rattle.setting.proofs.Laws.{rows_whole}
use Rattle.setting.proofs.Steps.{some_found, nothing_found, some_at, some-none}
use Rattle.sheet.specs.Sheet.{field_at, version_in, count_in, records_at, values_at, records_in, values_in, misplaced, is_wrong_header}
use Rattle.sheet.specs.Sheet.{is_misplaced, check_refusal, check_answer, read_refusal, value_at, Checks, ChecksRecords, Reads, Shows, record_tests}
use Rattle.sheet.specs.Answers.{Checked}
use Rattle.sheet.specs.Answers.{Reading}
use Rattle.sheet.specs.Promised.{Headed, Whole}
use Rattle.sheet.proofs.Right.{headed, decides_header, whole, check_ranked, records_long, values_long}
use Rattle.sheet.proofs.Written.{value_long}

-- a field as it is loaded
pub field_read : (sheet : List ℕ) (at size to : ℕ) → to ≡ at + size → size ≤ 8
    → natural (take 8 (take (to - at) (drop at sheet))) ≡ field_at at size sheet
unfolding field_at
field_read sheet at size to e h =
    let n : to - at ≡ size = omega arith in
    rw n (ap natural (take_all 8 (take size (drop at sheet)) (omega (arith, length-take size (drop at sheet)))))

-- ---- the header

pub wrong_count : (sheet : List ℕ) (n : ℕ) → n ≡ field_at 2 2 sheet → 128 < n → true ≡ is_wrong_header sheet
unfolding count_in
wrong_count sheet n e h = rw (← e, lt-ltb 128 n h)

pub wrong_records : (sheet : List ℕ) (n at : ℕ) → n ≡ field_at 2 2 sheet → n ≤ 128 → at ≡ field_at 4 4 sheet → at ≢ 12 → true ≡ is_wrong_header sheet
unfolding count_in records_at
wrong_records sheet n at e h f w = rw (← e, ← f, le-ltb 128 n h, ne_eqb at 12 w)

pub wrong_values : (sheet : List ℕ) (n at end : ℕ) → n ≡ field_at 2 2 sheet → n ≤ 128 → at ≡ field_at 4 4 sheet → at ≡ 12 → end ≡ field_at 8 4 sheet
    → end ≢ 12 + 8 * n → true ≡ is_wrong_header sheet
unfolding count_in records_at values_at
wrong_values sheet n at end e h f r g w = rw (← e, ← f, ← g, le-ltb 128 n h, eq-eqb at 12 r, ne_eqb end (12 + 8 * n) w)

pub header_told : (sheet : List ℕ) (n at end : ℕ) → n ≡ field_at 2 2 sheet → n ≤ 128 → at ≡ field_at 4 4 sheet → at ≡ 12 → end ≡ field_at 8 4 sheet
    → end ≡ 12 + 8 * n → ltb (length sheet) end ≡ is_wrong_header sheet
unfolding count_in records_at values_at
header_told sheet n at end e h f r g v = rw (← e, ← f, ← g, le-ltb 128 n h, eq-eqb at 12 r, eq-eqb end (12 + 8 * n) v)

pub counted : (sheet : List ℕ) (n : ℕ) → n ≡ field_at 2 2 sheet → n ≡ count_in sheet
unfolding count_in
counted sheet n e = e

pub header_right : (sheet : List ℕ) {t : Bool} → t ≡ is_wrong_header sheet → t ≡ false → (count_in sheet ≤ 128) × (12 + 8 * count_in sheet ≤ length sheet)
header_right sheet e f = let h : Headed sheet = headed sheet ((decides_header sheet).not_so (sym e ∙ f)) in (h.few, h.reaches)

-- ---- the whole check, row by row

pub check_short : (sheet : List ℕ) → length sheet < 12 → Checks sheet (Err ShortSheet)
unfolding check_refusal
check_short sheet h = rw (lt-ltb (length sheet) 12 h)

pub check_other : (sheet : List ℕ) (v : ℕ) → 12 ≤ length sheet → v ≡ field_at 0 2 sheet → v ≢ 1 → Checks sheet (Err OtherVersion)
unfolding check_refusal version_in
check_other sheet v h e w = rw (le-ltb (length sheet) 12 h, ← e, ne_eqb v 1 w)

pub check_header : (sheet : List ℕ) (v : ℕ) {t : Bool} → 12 ≤ length sheet → v ≡ field_at 0 2 sheet → v ≡ 1 → t ≡ is_wrong_header sheet → t ≡ true
    → Checks sheet (Err WrongHeader)
unfolding check_refusal version_in
check_header sheet v h e w f g = rw (le-ltb (length sheet) 12 h, ← e, eq-eqb v 1 w, ← f, g)

pub check_rest : (sheet : List ℕ) (v : ℕ) {t : Bool} {r : Checked} → 12 ≤ length sheet → v ≡ field_at 0 2 sheet → v ≡ 1 → t ≡ is_wrong_header sheet → t ≡ false
    → ChecksRecords sheet r → Checks sheet r
unfolding check_refusal version_in
check_rest sheet v h e w f g p = rw (le-ltb (length sheet) 12 h, ← e, eq-eqb v 1 w, ← f, g) p

-- what its answer tells of the refusal
pub checked_refused : (o : Option Fault) (n : ℕ) (f : Fault) → Err f ≡ check_answer o n → o ≡ some f
checked_refused none n f e = cc
checked_refused (some g) n f e = cc

pub right_told : (o : Option Fault) (n m : ℕ) → Ok m ≡ check_answer o n → (o ≡ none) × (m ≡ n)
right_told none n m e = (refl, cc)
right_told (some g) n m e = clash cc

-- ---- the places of the values

pub well_placed : (rows : List ℕ) (k end : ℕ) {t : ℕ} → end ≡ lengths_to (heads rows) k → t ≡ tails rows k → t ≡ end → misplaced rows k ≡ false
well_placed rows k end e p q = rw (eq-eqb (tails rows k) (lengths_to (heads rows) k) (sym p ∙ (q ∙ e)))

pub ill_placed : (rows : List ℕ) (size k end : ℕ) {t : ℕ} → k < length rows / 8 → ((j : ℕ) → j < k → misplaced rows j ≡ false)
    → end ≡ lengths_to (heads rows) k → t ≡ tails rows k → t ≢ end → true ≡ is_misplaced (rows_in rows) rows size
unfolding is_misplaced rows_in
ill_placed rows size k end h before e p q =
    let here : misplaced rows k ≡ true = rw (ne_eqb (tails rows k) (lengths_to (heads rows) k) (λ z. q (p ∙ (z ∙ sym e)))) in
    rw (some_at (misplaced rows) (length rows / 8) k h before here)

pub all_placed : (rows : List ℕ) (size k end : ℕ) → k ≤ length rows / 8 → length rows / 8 ≤ k → ((j : ℕ) → j < k → misplaced rows j ≡ false)
    → end ≡ lengths_to (heads rows) k → not (eqb size end) ≡ is_misplaced (rows_in rows) rows size
unfolding is_misplaced rows_in
all_placed rows size k end h l before e =
    let n : k ≡ length rows / 8 = le_antisymm h l in
    let none : some_of (misplaced rows) (length rows / 8) ≡ false = some-none (misplaced rows) (length rows / 8) (λ j m. before j (omega arith)) in
    rw (none, e, n)

-- ---- the records

pub rows_are : (sheet : List ℕ) (n : ℕ) → n ≡ count_in sheet → take (12 + 8 * n - 12) (drop 12 sheet) ≡ records_in sheet
unfolding records_in
rows_are sheet n e =
    let m : 12 + 8 * n - 12 ≡ 8 * n = omega arith in
    rw (m, e)

pub rows_few : (xs : List ℕ) (n : ℕ) → n ≤ 128 → length (take (12 + 8 * n - 12) xs) ≤ 1024
rows_few xs n h = omega (arith, length-take (12 + 8 * n - 12) xs)

pub rows_many : (sheet : List ℕ) → 12 + 8 * count_in sheet ≤ length sheet → rows_in (records_in sheet) ≡ count_in sheet
rows_many sheet h = rows_whole (records_in sheet) (count_in sheet) (records_long sheet h)

-- what a search over the records tells of the sheet
pub record_found : (sheet : List ℕ) (p : List ℕ → ℕ → Bool) (n r : ℕ) → n ≡ count_in sheet → 12 + 8 * count_in sheet ≤ length sheet
    → r ≡ first_place (p (take (12 + 8 * n - 12) (drop 12 sheet))) (rows_in (take (12 + 8 * n - 12) (drop 12 sheet))) → r < n
    → some_of (p (records_in sheet)) (count_in sheet) ≡ true
record_found sheet p n r e reach f l =
    some_found (p (records_in sheet)) (count_in sheet) r (rw (rows_are sheet n e, rows_many sheet reach) at f) (rw e at l)

pub no_record_found : (sheet : List ℕ) (p : List ℕ → ℕ → Bool) (n r : ℕ) → n ≡ count_in sheet → 12 + 8 * count_in sheet ≤ length sheet
    → r ≡ first_place (p (take (12 + 8 * n - 12) (drop 12 sheet))) (rows_in (take (12 + 8 * n - 12) (drop 12 sheet))) → n ≤ r
    → some_of (p (records_in sheet)) (count_in sheet) ≡ false
no_record_found sheet p n r e reach f l =
    nothing_found (p (records_in sheet)) (count_in sheet) r (rw (rows_are sheet n e, rows_many sheet reach) at f) (rw e at l)

pub misplaced_told : (sheet : List ℕ) (n : ℕ) {t : Bool} → n ≡ count_in sheet → 12 + 8 * count_in sheet ≤ length sheet
    → t ≡ is_misplaced (rows_in (take (12 + 8 * n - 12) (drop 12 sheet))) (take (12 + 8 * n - 12) (drop 12 sheet)) (length sheet - (12 + 8 * n))
    → is_misplaced (count_in sheet) (records_in sheet) (length (values_in sheet)) ≡ t
unfolding values_in
misplaced_told sheet n e reach f =
    sym (rw (rows_are sheet n e, rows_many sheet reach, e, ← length-drop (12 + 8 * count_in sheet) sheet) at f)

-- where 68 and 69 do not refuse, 70 alone is left to ask
pub past_69 : (sheet : List ℕ) (n r q : ℕ) {t : Bool} → n ≡ count_in sheet → 12 + 8 * count_in sheet ≤ length sheet
    → r ≡ first_place (falls (heads (take (12 + 8 * n - 12) (drop 12 sheet)))) (rows_in (take (12 + 8 * n - 12) (drop 12 sheet))) → n ≤ r
    → q ≡ first_place (unfit (heads (take (12 + 8 * n - 12) (drop 12 sheet)))) (rows_in (take (12 + 8 * n - 12) (drop 12 sheet))) → n ≤ q
    → t ≡ is_misplaced (rows_in (take (12 + 8 * n - 12) (drop 12 sheet))) (take (12 + 8 * n - 12) (drop 12 sheet)) (length sheet - (12 + 8 * n))
    → first_row_of (record_tests sheet) ≡ cond t (some WrongPlaces) none
past_69 sheet n r q e reach f l g m h =
    rw (
      no_record_found sheet (λ (rows : List ℕ). falls (heads rows)) n r e reach f l,
      no_record_found sheet (λ (rows : List ℕ). unfit (heads rows)) n q e reach g m,
      misplaced_told sheet n e reach h,
    )

-- ---- a record is shown

pub right_none : (sheet : List ℕ) → check_refusal sheet ≡ none → Whole sheet
right_none sheet e = whole sheet ((done_exactly _ _ (check_ranked sheet)).0 e)

-- the records, and the value that one says, lie within the sheet
pub rows_within : (sheet : List ℕ) (n : ℕ) → check_refusal sheet ≡ none → n ≡ count_in sheet → (n ≤ 128) × (12 + 8 * n ≤ length sheet)
rows_within sheet n e c = let w : Whole sheet = right_none sheet e in rw c (w.header.few, w.header.reaches)

pub value_within : (sheet : List ℕ) (n index size tail : ℕ) {h : Head} → check_refusal sheet ≡ none → n ≡ count_in sheet → index < n
    → h ≡ heads (take (12 + 8 * n - 12) (drop 12 sheet)) index → size ≡ length_of h → tail ≡ tails (take (12 + 8 * n - 12) (drop 12 sheet)) index
    → 12 + 8 * n + tail + size ≤ length sheet
value_within sheet n index size tail e c l p q t =
    let w : Whole sheet = right_none sheet e in
    let there : size ≡ length_of (heads (records_in sheet) index) = q ∙ ap length_of (rw (rows_are sheet n c) at p) in
    let placed : tail ≡ tails (records_in sheet) index = rw (rows_are sheet n c) at t in
    omega (arith, there, placed, c, value_long sheet w index (rw c at l), values_long sheet w, w.ends)

pub shown_beyond : (sheet room : List ℕ) (n index : ℕ) → n ≡ count_in sheet → n ≤ index → Shows sheet index room (Err NoSuchRecord) room
shown_beyond sheet room n index e h = rw (le-leb (count_in sheet) index (rw e at h)) (refl, refl)

pub shown_narrow : (sheet room : List ℕ) (n index size : ℕ) {h : Head} → n ≡ count_in sheet → index < n
    → h ≡ heads (take (12 + 8 * n - 12) (drop 12 sheet)) index → size ≡ length_of h → length room < size → Shows sheet index room (Err NoRoom) room
shown_narrow sheet room n index size e l p q short =
    let there : length_of (heads (records_in sheet) index) ≡ size = sym (q ∙ ap length_of (rw (rows_are sheet n e) at p)) in
    rw (lt-leb (count_in sheet) index (rw e at l), there, lt-ltb (length room) size short) (refl, refl)

pub shown : (sheet room room' : List ℕ) (n index size tail from to : ℕ) (h : Head) → n ≡ count_in sheet → index < n
    → h ≡ heads (take (12 + 8 * n - 12) (drop 12 sheet)) index → size ≡ length_of h → size ≤ length room
    → tail ≡ tails (take (12 + 8 * n - 12) (drop 12 sheet)) index → from ≡ 12 + 8 * n + tail → to ≡ from + size
    → room' ≡ over_at 0 (take (to - from) (drop from sheet)) room
    → Shows sheet index room (Ok (record { head = h; size = size })) room'
unfolding value_at values_in
shown sheet room room' n index size tail from to h e l p q wide t f g laid =
    let named : h ≡ heads (records_in sheet) index = rw (rows_are sheet n e) at p in
    let there : size ≡ length_of (heads (records_in sheet) index) = q ∙ ap length_of named in
    let placed : tail ≡ tails (records_in sheet) index = rw (rows_are sheet n e) at t in
    let many : to - from ≡ size = omega arith in
    let start : from ≡ 12 + 8 * count_in sheet + tail = rw e at f in
    let value : take (to - from) (drop from sheet) ≡ take (length_of (heads (records_in sheet) index)) (drop (tails (records_in sheet) index) (drop (12 + 8 * count_in sheet) sheet)) =
    rw (many, start, placed, ← there) (ap (take size) (sym (drop-drop (tails (records_in sheet) index) (12 + 8 * count_in sheet) sheet))) in
    rw (lt-leb (count_in sheet) index (rw e at l), ← there, le-ltb (length room) size wide) (
      ap₂ (λ (a : Head) (b : ℕ). Ok (record { head = a; size = b })) named there,
      laid ∙ (over_at_zero (take (to - from) (drop from sheet)) room ∙ ap (λ (v : List ℕ). over v room) (rw (← there) at value)),
    )

-- and reading is showing, where the sheet is right
pub read-refused : (sheet room : List ℕ) (index : ℕ) (f : Fault) → check_refusal sheet ≡ some f → Reads sheet index room (Err f) room
unfolding read_refusal
read-refused sheet room index f e = rw e (refl, refl)

pub read_shown : (sheet room room' : List ℕ) (index : ℕ) (r : Reading) → check_refusal sheet ≡ none → Shows sheet index room r room' → Reads sheet index room r room'
unfolding read_refusal
read_shown sheet room room' index r e p = rw e p

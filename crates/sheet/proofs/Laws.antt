-- What is promised of checking and reading a sheet: the laws that callers may cite. Right.antt and Written.antt say what the check is
-- worth: a right sheet is the sheet of the settings that it holds, and each sheet that is written is right and holds what was written.
-- Assumes nothing.
use Rattle.std.specs.Prelude.{Ok, Err}
use mathlib.Core.Path.{◌≡◌, refl, sym, ap, subst, ◌∙◌}
use mathlib.Core.List.{List, [], ◌∷◌, ◌++◌}
use mathlib.Core.Logic.{◌≢◌, ◌↔◌}
use mathlib.Core.Option.{Option, some, none}
use Prim.Native.Nat.{ℕ, ◌≤◌, ◌<◌}
use borrow.Author.Tests.{leb-false, ltb-false, le-ltb, lt-leb, ne_eqb}
use lib.Dec.{leb, ltb}
use lib.ListN.{length, drop}
use Rattle.lent.specs.Lent.{over}
use Rattle.lent.proofs.Laws.{over_is}
use Rattle.rows.specs.Rows.{row, test, Ranked, Numbered, first_row_of, passed_up, raised}
use Rattle.rows.proofs.Laws.{decides_lt, decides_le, ranked, ◌otherwise◌, ranked_append, done_exactly, numbered, or-none, first_false, clash}
use Rattle.rows.proofs.Settled.{settled, settled_with}
use Rattle.rows.specs.Settled.{Settled}
use Rattle.values.specs.Values.{Bytes}
use Rattle.setting.specs.declared.Head.{Head}
use Rattle.setting.specs.declared.Fault.{Fault}
use Rattle.setting.specs.declared.Fault.TheVariants.{OtherVersion, NoSuchRecord, NoRoom}
use Rattle.setting.specs.Setting.{Setting, length_of, heads, fault_number}
use Rattle.sheet.specs.Sheet.{sheet_of, named, valued, Writable, version_in, count_in, records_in, held, HasNot, IsNarrow, check_rows, Right}
use Rattle.sheet.specs.Sheet.{read_rows, read_tests, check_refusal, read_refusal, check_answer, check_told, record_as, read_answer, read_told, value_at}
use Rattle.sheet.specs.Sheet.{room_after, Checks, Reads}
use Rattle.sheet.specs.Answers.{Checked}
use Rattle.sheet.specs.declared.Record.{Record}
use Rattle.sheet.specs.Answers.{Reading}
use Rattle.sheet.specs.Promised.{Whole, Answered}
use Rattle.sheet.proofs.Right.{whole, check_ranked, sheet_of_held}
use Rattle.sheet.proofs.Written.{held_named, held_valued, value_sized, held_long, held_writable, sheet_right}

-- ---- "Refusals for a reader, in order over the whole sheet": each number exactly when its row holds and no earlier one does

check_tells : (o : Option Fault) (n : ℕ) → check_told (check_answer o n) ≡ raised fault_number o
check_tells none n = refl
check_tells (some f) n = refl

pub check_exactly : (sheet : List ℕ) (r : Checked) → Checks sheet r
    → Numbered (passed_up fault_number (check_rows sheet)) (65 ∷ 66 ∷ 67 ∷ 68 ∷ 69 ∷ 70 ∷ []) (check_told r)
unfolding check_rows
check_exactly sheet r p =
    numbered fault_number (check_rows sheet) (check_refusal sheet) (check_ranked sheet) (65 ∷ 66 ∷ 67 ∷ 68 ∷ 69 ∷ 70 ∷ []) refl refl
    (check_told r) (ap check_told p ∙ check_tells (check_refusal sheet) (count_in sheet))

pub read_ranked : (sheet : List ℕ) (index : ℕ) (room : List ℕ) → Ranked (read_rows sheet index room) (read_refusal sheet index room)
unfolding read_rows read_refusal HasNot IsNarrow
read_ranked sheet index room =
    ranked_append (check_rows sheet) (row (count_in sheet ≤ index) NoSuchRecord ∷ row (length room < length_of (heads (records_in sheet) index)) NoRoom ∷ [])
    (check_refusal sheet) (first_row_of (read_tests sheet index room)) (check_ranked sheet)
    (λ no. ranked (read_tests sheet index room) (row (count_in sheet ≤ index) NoSuchRecord ∷ row (length room < length_of (heads (records_in sheet) index)) NoRoom ∷ [])
    (decides_le (count_in sheet) index otherwise λ n₅₆. decides_lt (length room) (length_of (heads (records_in sheet) index)) otherwise λ n₅₇. tt))

read_tells : (o : Option Fault) (h : Head) → read_told (read_answer o h) ≡ raised fault_number o
read_tells none h = refl
read_tells (some f) h = refl

pub read_exactly : (sheet : List ℕ) (index : ℕ) (room : List ℕ) (r : Reading) (room' : List ℕ) → Reads sheet index room r room'
    → Numbered (passed_up fault_number (read_rows sheet index room)) (65 ∷ 66 ∷ 67 ∷ 68 ∷ 69 ∷ 70 ∷ 56 ∷ 57 ∷ []) (read_told r)
unfolding read_rows check_rows
read_exactly sheet index room r room' p =
    numbered fault_number (read_rows sheet index room) (read_refusal sheet index room) (read_ranked sheet index room)
    (65 ∷ 66 ∷ 67 ∷ 68 ∷ 69 ∷ 70 ∷ 56 ∷ 57 ∷ []) refl refl (read_told r) (ap read_told p.0 ∙ read_tells (read_refusal sheet index room) (heads (records_in sheet) index))

-- ---- what an answer tells

-- a sheet that is checked without a refusal is right, and so many settings it holds
pub checked_right : (sheet : List ℕ) (n : ℕ) → Checks sheet (Ok n) → Right sheet × (n ≡ length (held sheet))
checked_right sheet n p = by (check_refusal sheet) refl p
  where
    by : (o : Option Fault) → check_refusal sheet ≡ o → Ok n ≡ check_answer o (count_in sheet) → Right sheet × (n ≡ length (held sheet))
    by none e q = let m : n ≡ count_in sheet = cc in ((done_exactly (check_rows sheet) (check_refusal sheet) (check_ranked sheet)).0 e, m ∙ sym (held_long sheet))
    by (some f) e q = clash cc

-- what it takes that nothing refuses
pub read_none : (sheet : List ℕ) (index : ℕ) (room : List ℕ) → read_refusal sheet index room ≡ none
    → Right sheet × (index < count_in sheet) × (length_of (heads (records_in sheet) index) ≤ length room)
unfolding read_refusal
read_none sheet index room e =
    let two = or-none (check_refusal sheet) (first_row_of (read_tests sheet index room)) e in
    let later = first_false (leb (count_in sheet) index) NoSuchRecord (first_row_of (test (ltb (length room) (length_of (heads (records_in sheet) index))) NoRoom ∷ [])) two.1 in (
      (done_exactly (check_rows sheet) (check_refusal sheet) (check_ranked sheet)).0 two.0,
      leb-false (count_in sheet) index later.0,
      ltb-false (length room) (length_of (heads (records_in sheet) index))
          (first_false (ltb (length room) (length_of (heads (records_in sheet) index))) NoRoom none later.1).0,
    )

answered : (sheet : List ℕ) (index : ℕ) (room : List ℕ) → read_refusal sheet index room ≡ none
    → Answered sheet index room (record_as (heads (records_in sheet) index)) (over (value_at sheet index) room)
answered sheet index room e =
    let no = read_none sheet index room e in
    let w : Whole sheet = whole sheet no.0 in
    let value : valued (held sheet) index ≡ value_at sheet index = held_valued sheet w index no.1 in
    let size : length (value_at sheet index) ≡ length_of (heads (records_in sheet) index) = value_sized sheet w index no.1 in
    record {
      sheet_right = no.0;
      within = rw (held_long sheet) no.1;
      names = sym (held_named sheet w.header index no.1);
      long = rw (value, size);
      fits = rw (value, size) no.2;
      bytes = rw value (over_is (value_at sheet index) room (rw size no.2));
    }

pub read_answered : (sheet : List ℕ) (index : ℕ) (room : List ℕ) (r : Record) (room' : List ℕ) → Reads sheet index room (Ok r) room'
    → Answered sheet index room r room'
read_answered sheet index room r room' p = by (read_refusal sheet index room) refl p
  where
    by : (o : Option Fault) → read_refusal sheet index room ≡ o
        → (Ok r ≡ read_answer o (heads (records_in sheet) index)) × (room' ≡ room_after o (value_at sheet index) room) → Answered sheet index room r room'
    by (some f) e q = clash cc
    by none e q =
        let is : r ≡ record_as (heads (records_in sheet) index) = cc in
        rw (is, q.1) (answered sheet index room e)

-- ---- "A refusal changes no byte of a buffer we lent", and of a version other than 1 nothing is shown

pub read_refusal_keeps : (sheet : List ℕ) (index : ℕ) (room : List ℕ) (f : Fault) (room' : List ℕ) → Reads sheet index room (Err f) room' → room' ≡ room
read_refusal_keeps sheet index room f room' p = by (read_refusal sheet index room) p
  where
    by : (o : Option Fault) → (Err f ≡ read_answer o (heads (records_in sheet) index)) × (room' ≡ room_after o (value_at sheet index) room) → room' ≡ room
    by (some g) q = q.1
    by none q = clash cc

other_refused : (sheet : List ℕ) → 12 ≤ length sheet → version_in sheet ≢ 1 → check_refusal sheet ≡ some OtherVersion
unfolding check_refusal
other_refused sheet long n = rw (le-ltb (length sheet) 12 long, ne_eqb (version_in sheet) 1 n)

none_refuses : (sheet : List ℕ) (index : ℕ) (room : List ℕ) → Right sheet → index < count_in sheet → length_of (heads (records_in sheet) index) ≤ length room
    → read_refusal sheet index room ≡ none
unfolding read_refusal
none_refuses sheet index room right l wide =
    rw (
      (done_exactly (check_rows sheet) (check_refusal sheet) (check_ranked sheet)).1 right,
      lt-leb (count_in sheet) index l,
      le-ltb (length room) (length_of (heads (records_in sheet) index)) wide,
    )

pub other_version : (sheet : List ℕ) (index : ℕ) (room : List ℕ) (r : Reading) (room' : List ℕ) → 12 ≤ length sheet → version_in sheet ≢ 1
    → Reads sheet index room r room' → (read_told r ≡ some 66) × (room' ≡ room)
unfolding read_refusal
other_version sheet index room r room' long n p = let q = rw (other_refused sheet long n) at p in (ap read_told q.0, q.1)

pub other_version_checked : (sheet : List ℕ) (r : Checked) → 12 ≤ length sheet → version_in sheet ≢ 1 → Checks sheet r → check_told r ≡ some 66
other_version_checked sheet r long n p = ap check_told (rw (other_refused sheet long n) at p)

-- and the other way round: of a right sheet each record is answered where there is room for its value
pub read_of : (sheet : List ℕ) (index : ℕ) (room : List ℕ) (r : Reading) (room' : List ℕ) → Right sheet → index < length (held sheet)
    → length (valued (held sheet) index) ≤ length room → Reads sheet index room r room'
    → (r ≡ Ok (record { head = named (held sheet) index; size = length (valued (held sheet) index) }))
    × (room' ≡ valued (held sheet) index ++ drop (length (valued (held sheet) index)) room)
read_of sheet index room r room' right h wide p =
    rw (held_named sheet w.header index l, value, size) (q.0, q.1 ∙ (over_is (value_at sheet index) room fits ∙ rw size))
  where
    w : Whole sheet
    w = whole sheet right

    l : index < count_in sheet
    l = rw (held_long sheet) at h

    value : valued (held sheet) index ≡ value_at sheet index
    value = held_valued sheet w index l

    size : length (value_at sheet index) ≡ length_of (heads (records_in sheet) index)
    size = value_sized sheet w index l

    fits : length (value_at sheet index) ≤ length room
    fits = rw value at wide

    q : (r ≡ Ok (record_as (heads (records_in sheet) index))) × (room' ≡ over (value_at sheet index) room)
    q = rw (none_refuses sheet index room right l (rw size at fits)) at p

-- ---- the right sheets are the sheets of the settings that can be written, and no others

pub right_exactly : (sheet : List ℕ) → Bytes sheet → Right sheet ↔ ((settings : List Setting) × (Writable settings × (sheet ≡ sheet_of settings)))
right_exactly sheet b = (
  λ r. (held sheet, (held_writable sheet r, sym (sheet_of_held sheet b r))),
  λ s. subst Right (sym s.1.1) (sheet_right s.0 s.1.0),
)

-- ---- each call is settled

pub checks_settled : (sheet : List ℕ) → Settled (Checks sheet)
checks_settled sheet = settled _

pub reads_settled : (sheet : List ℕ) (index : ℕ) (room : List ℕ) → Settled {A = Reading × List ℕ} (λ o. Reads sheet index room o.0 o.1)
reads_settled sheet index room = settled_with _ _

-- What callers may cite of throwing settings out of a sheet and of adding one. 02, #114.
-- Assumes nothing.
use Rattle.std.specs.Prelude.{Ok, Err}
use mathlib.Core.Path.{◌≡◌, refl, sym, ap, subst, ◌∙◌}
use mathlib.Core.Bool.{Bool, true, false}
use mathlib.Core.List.{List, [], ◌∷◌, ◌++◌}
use mathlib.Core.Logic.{◌≢◌, ◌⊎◌, inl, inr, ◌↔◌}
use mathlib.Core.Option.{Option, some, none}
use Prim.Native.Nat.{ℕ, ◌≤◌, ◌<◌}
use native.Mathlib.Omega.{arith}
use borrow.Author.Tests.{leb-false, ltb-false, lt-leb, le-ltb, eq-eqb}
use lib.Dec.{eqb, leb, ltb}
use lib.ListN.{length, get_or, take, drop}
use Rattle.lent.specs.Lent.{over}
use Rattle.lent.proofs.Laws.{over_is, take-over, length_over}
use Rattle.rows.specs.Rows.{row, test, Ranked, Numbered, NoRow, First, first_row_of, passed_up, raised, numbers_of}
use Rattle.rows.proofs.Laws.{Decides, decides_lt, decides_le, decides_eq, decides_not, decides_or, decides_as, ranked, ◌otherwise◌, ranked_append, ranked_up}
use Rattle.rows.proofs.Laws.{refused_exactly, done_exactly, numbered, or-none, raised_none, first_false, told_true, told_false, clash}
use Rattle.rows.proofs.Settled.{settled, settled_with}
use Rattle.rows.specs.Settled.{Settled}
use Rattle.values.specs.Values.{Bytes}
use Rattle.setting.specs.declared.Head.{Head}
use Rattle.setting.specs.declared.Fault.{Fault as SheetFault}
use Rattle.setting.specs.Setting.{Setting, setting, length_of, Allowed, is_allowed, Numbers as SheetNumbers}
use Rattle.setting.proofs.Laws.{decides_some, decides_allowed, equal}
use Rattle.sheet.specs.Sheet.{sheet_of, nothing, named, valued, count_in, held, Writable, Right, check_rows, check_refusal}
use Rattle.sheet.proofs.Right.{check_ranked, sheet_of_held}
use Rattle.sheet.proofs.Written.{held_writable, held_of_sheet, sheet_right}
use Rattle.sheet_editor.specs.Editor.{without, others, among, IsOverstated, sheet_rows, HasNot, HasNoneOf, remove_rows, module_rows, IsUnfit, SameKey, IsThere, IsFull, IsNarrow, add_rows}
use Rattle.sheet_editor.specs.Editor.{sheet_refusal, has_none_of, is_unfit, is_there, remove_tests, module_tests, add_tests, remove_refusal, module_refusal, add_refusal}
use Rattle.sheet_editor.specs.Editor.{fault_number, edit_told, edit_answer, Edits, Removes, RemovesModule, Adds, Numbers}
use Rattle.sheet_editor.specs.Promised.{Kept}
use Rattle.sheet_editor.specs.Answers.{Editing}
use Rattle.sheet_editor.specs.declared.Fault.{Fault}
use Rattle.sheet_editor.specs.declared.Fault.TheVariants.{Overstated, WrongSheet, NothingThere, NotAllowed, AlreadyThere, Full, NoRoom}
use Rattle.sheet_editor.proofs.Chosen.{there_decided}
use Rattle.sheet_editor.proofs.Moved.{stands, stated_long}
use Rattle.sheet_editor.proofs.Rising.{Apart, each_at, each_by, parts_of, shorter_without, shorter_others, without_writable, others_writable, among_writable, added_out, out_added, out_apart, one_fewer}

-- ---- the tests decide the rows

sheet_ranked : (room : List ℕ) (size : ℕ) → Ranked (sheet_rows room size) (sheet_refusal room size)
unfolding sheet_rows IsOverstated
sheet_ranked room size =
    ranked_append (row (length room < size) Overstated ∷ []) (passed_up WrongSheet (check_rows (take size room)))
    (first_row_of (test (ltb (length room) size) Overstated ∷ [])) (raised WrongSheet (check_refusal (take size room)))
    (ranked (test (ltb (length room) size) Overstated ∷ []) (row (length room < size) Overstated ∷ []) (decides_lt (length room) size otherwise λ n₈₀. tt))
    (λ fits. ranked_up WrongSheet (check_rows (take size room)) (check_refusal (take size room)) (check_ranked (take size room)))

pub remove_ranked : (room : List ℕ) (size index : ℕ) → Ranked (remove_rows room size index) (remove_refusal room size index)
unfolding remove_rows remove_refusal HasNot
remove_ranked room size index =
    ranked_append (sheet_rows room size) (row (length (held (take size room)) ≤ index) NothingThere ∷ []) (sheet_refusal room size)
    (first_row_of (remove_tests (held (take size room)) index)) (sheet_ranked room size)
    (λ right. ranked (remove_tests (held (take size room)) index) (row (length (held (take size room)) ≤ index) NothingThere ∷ [])
    (decides_le (length (held (take size room))) index otherwise λ n₇₇. tt))

-- none is of that module
none_of : (settings : List Setting) (unit : ℕ) → Decides (has_none_of settings unit) ((k : ℕ) → k < length settings → (named settings k).unit ≢ unit)
none_of settings unit =
    decides_as
    (decides_not
    (decides_some (λ k. eqb (named settings k).unit unit) (λ k. (named settings k).unit ≡ unit) (length settings) (λ k. decides_eq (named settings k).unit unit)))
    (λ no k l e. no (k, l, e)) (λ no s. no s.0 s.1 s.2)

pub module_ranked : (room : List ℕ) (size unit : ℕ) → Ranked (module_rows room size unit) (module_refusal room size unit)
unfolding module_rows module_refusal HasNoneOf
module_ranked room size unit =
    ranked_append (sheet_rows room size) (row ((k : ℕ) → k < length (held (take size room)) → (named (held (take size room)) k).unit ≢ unit) NothingThere ∷ [])
    (sheet_refusal room size) (first_row_of (module_tests (held (take size room)) unit)) (sheet_ranked room size)
    (λ right. ranked (module_tests (held (take size room)) unit)
    (row ((k : ℕ) → k < length (held (take size room)) → (named (held (take size room)) k).unit ≢ unit) NothingThere ∷ [])
    (none_of (held (take size room)) unit otherwise λ n₇₇. tt))

pub add_ranked : (room : List ℕ) (size : ℕ) (new : Setting) → Ranked (add_rows room size new) (add_refusal room size new)
unfolding add_rows add_refusal IsUnfit IsFull IsNarrow
add_ranked room size new =
    ranked_append (sheet_rows room size)
    (row ((Allowed new.named → ⊥) ⊎ (length new.value ≢ length_of new.named)) NotAllowed
    ∷ row (IsThere (held (take size room)) new) AlreadyThere
    ∷ row (128 ≤ length (held (take size room))) Full
    ∷ row (length room < length (sheet_of (among new (held (take size room))))) NoRoom
    ∷ [])
    (sheet_refusal room size) (first_row_of (add_tests room (held (take size room)) new)) (sheet_ranked room size)
    (λ right. ranked (add_tests room (held (take size room)) new)
    (row ((Allowed new.named → ⊥) ⊎ (length new.value ≢ length_of new.named)) NotAllowed
    ∷ row (IsThere (held (take size room)) new) AlreadyThere
    ∷ row (128 ≤ length (held (take size room))) Full
    ∷ row (length room < length (sheet_of (among new (held (take size room))))) NoRoom
    ∷ [])
    (decides_or (decides_not (decides_allowed new.named)) (decides_not (decides_eq (length new.value) (length_of new.named))) otherwise λ n₆₉.
    there_decided (held (take size room)) new otherwise λ n₇₈.
    decides_le 128 (length (held (take size room))) otherwise λ n₇₉.
    decides_lt (length room) (length (sheet_of (among new (held (take size room))))) otherwise λ n₈₀. tt))

-- ---- "Refusals, in order": each number exactly when its row holds and no earlier one does

edit_tells : (o : Option Fault) (n : ℕ) → edit_told (edit_answer o n) ≡ raised fault_number o
edit_tells none n = refl
edit_tells (some f) n = refl

pub remove_exactly : (room : List ℕ) (size index : ℕ) (r : Editing) (room' : List ℕ) → Removes room size index r room'
    → Numbered (passed_up fault_number (remove_rows room size index)) (80 ∷ 65 ∷ 66 ∷ 67 ∷ 68 ∷ 69 ∷ 70 ∷ 77 ∷ []) (edit_told r)
unfolding remove_rows sheet_rows check_rows
remove_exactly room size index r room' p =
    numbered fault_number (remove_rows room size index) (remove_refusal room size index) (remove_ranked room size index)
    (80 ∷ 65 ∷ 66 ∷ 67 ∷ 68 ∷ 69 ∷ 70 ∷ 77 ∷ []) refl refl (edit_told r) (ap edit_told p.0 ∙ edit_tells (remove_refusal room size index) _)

pub module_exactly : (room : List ℕ) (size unit : ℕ) (r : Editing) (room' : List ℕ) → RemovesModule room size unit r room'
    → Numbered (passed_up fault_number (module_rows room size unit)) (80 ∷ 65 ∷ 66 ∷ 67 ∷ 68 ∷ 69 ∷ 70 ∷ 77 ∷ []) (edit_told r)
unfolding module_rows sheet_rows check_rows
module_exactly room size unit r room' p =
    numbered fault_number (module_rows room size unit) (module_refusal room size unit) (module_ranked room size unit)
    (80 ∷ 65 ∷ 66 ∷ 67 ∷ 68 ∷ 69 ∷ 70 ∷ 77 ∷ []) refl refl (edit_told r) (ap edit_told p.0 ∙ edit_tells (module_refusal room size unit) _)

-- of adding, 69 and 80 stand twice: for the sheet and for the new setting, for the stated length and for the room
pub add_exactly : (room : List ℕ) (size : ℕ) (h : Head) (value : List ℕ) (r : Editing) (room' : List ℕ) → Adds room size h value r room'
    → (numbers_of (passed_up fault_number (add_rows room size (setting h value))) ≡ 80 ∷ 65 ∷ 66 ∷ 67 ∷ 68 ∷ 69 ∷ 70 ∷ 69 ∷ 78 ∷ 79 ∷ 80 ∷ [])
    × ((n : ℕ) → (edit_told r ≡ some n) ↔ First (passed_up fault_number (add_rows room size (setting h value))) n)
    × ((edit_told r ≡ none) ↔ NoRow (passed_up fault_number (add_rows room size (setting h value))))
unfolding add_rows sheet_rows check_rows
add_exactly room size h value r room' p =
    let told : edit_told r ≡ raised fault_number (add_refusal room size (setting h value)) =
    ap edit_told p.0 ∙ edit_tells (add_refusal room size (setting h value)) (length (sheet_of (among (setting h value) (held (take size room))))) in
    let up : Ranked (passed_up fault_number (add_rows room size (setting h value))) (raised fault_number (add_refusal room size (setting h value))) =
    ranked_up fault_number (add_rows room size (setting h value)) (add_refusal room size (setting h value)) (add_ranked room size (setting h value)) in (
      refl,
      λ n. rw told (refused_exactly (passed_up fault_number (add_rows room size (setting h value))) (raised fault_number (add_refusal room size (setting h value))) up n),
      rw told (done_exactly (passed_up fault_number (add_rows room size (setting h value))) (raised fault_number (add_refusal room size (setting h value))) up),
    )

-- which of the two it is, the refusal itself says
pub add_refused : (room : List ℕ) (size : ℕ) (h : Head) (value : List ℕ) (r : Editing) (room' : List ℕ) → Adds room size h value r room'
    → (f : Fault) → (r ≡ Err f) ↔ First (add_rows room size (setting h value)) f
add_refused room size h value r room' p f =
    let exactly = refused_exactly (add_rows room size (setting h value)) (add_refusal room size (setting h value)) (add_ranked room size (setting h value)) f in (
      λ e. exactly.0 (is_refused_lem (add_refusal room size (setting h value)) _ (sym p.0 ∙ e)),
      λ first. p.0 ∙ ap (λ (o : Option Fault). edit_answer o (length (sheet_of (among (setting h value) (held (take size room)))))) (exactly.1 first),
    )
  where
    is_refused_lem : (o : Option Fault) (n : ℕ) → edit_answer o n ≡ Err f → o ≡ some f
    is_refused_lem (some g) n e = cc
    is_refused_lem none n e = clash (cc)

-- ---- "a refusal changes no byte"

keeps : (o : Option Fault) (settings : List Setting) (room : List ℕ) (f : Fault) (room' : List ℕ) → Edits o settings room (Err f) room' → room' ≡ room
keeps (some g) settings room f room' p = p.1
keeps none settings room f room' p = clash (let e = p.0 in cc)

pub remove_refusal_keeps : (room : List ℕ) (size index : ℕ) (f : Fault) (room' : List ℕ) → Removes room size index (Err f) room' → room' ≡ room
remove_refusal_keeps room size index f room' p = keeps (remove_refusal room size index) (without index (held (take size room))) room f room' p

pub module_refusal_keeps : (room : List ℕ) (size unit : ℕ) (f : Fault) (room' : List ℕ) → RemovesModule room size unit (Err f) room' → room' ≡ room
module_refusal_keeps room size unit f room' p = keeps (module_refusal room size unit) (others unit (held (take size room))) room f room' p

pub add_refusal_keeps : (room : List ℕ) (size : ℕ) (h : Head) (value : List ℕ) (f : Fault) (room' : List ℕ) → Adds room size h value (Err f) room' → room' ≡ room
add_refusal_keeps room size h value f room' p =
    keeps (add_refusal room size (setting h value)) (among (setting h value) (held (take size room))) room f room' p

-- ---- "what is left is byte for byte the sheet that #106 writes for the remaining settings. Bytes of the buffer past the new end stay as they
-- were." The new sheet is right, and holds the settings of the old one less those removed, or with the new one in its place

done : (o : Option Fault) (settings : List Setting) (room : List ℕ) (n : ℕ) (room' : List ℕ) → Edits o settings room (Ok n) room'
    → (o ≡ none) × (n ≡ length (sheet_of settings)) × (room' ≡ over (sheet_of settings) room)
done (some f) settings room n room' p = clash (let e = p.0 in cc)
done none settings room n room' p = (refl, (let e = p.0 in cc), p.1)

right_there : (room : List ℕ) (size : ℕ) → sheet_refusal room size ≡ none → (size ≤ length room) × Right (take size room)
right_there room size e =
    let two = or-none (first_row_of (test (ltb (length room) size) Overstated ∷ [])) (raised WrongSheet (check_refusal (take size room))) e in
    let within = (first_false (ltb (length room) size) Overstated none two.0).0 in
    let right = raised_none WrongSheet (check_refusal (take size room)) two.1 in
    (ltb-false (length room) size within, (done_exactly (check_rows (take size room)) (check_refusal (take size room)) (check_ranked (take size room))).0 right)

kept : (room : List ℕ) (size : ℕ) (settings : List Setting) (n : ℕ) (room' : List ℕ) → sheet_refusal room size ≡ none → Writable settings
    → length (sheet_of settings) ≤ length room → n ≡ length (sheet_of settings) → room' ≡ over (sheet_of settings) room → Kept room size settings n room'
kept room size settings n room' e w fits long bytes =
    let right = right_there room size e in
    let taken : take n room' ≡ sheet_of settings =
    ap (λ (i : ℕ). take i room') long ∙ (ap (take (length (sheet_of settings))) bytes ∙ take-over (sheet_of settings) room fits) in
    record {
      within = right.0;
      was_right = right.1;
      can = w;
      long = long;
      fits = rw long fits;
      bytes = bytes ∙ (over_is (sheet_of settings) room fits ∙ ap (λ (i : ℕ). sheet_of settings ++ drop i room) (sym long));
      is_right = rw taken (sheet_right settings w);
      holds = rw taken (held_of_sheet settings w);
    }

-- the old sheet is as long as was stated
old_long : (room : List ℕ) (size : ℕ) → sheet_refusal room size ≡ none → length (sheet_of (held (take size room))) ≡ size
old_long room size e =
    let right = right_there room size e in
    let none_wrong = (done_exactly (check_rows (take size room)) (check_refusal (take size room)) (check_ranked (take size room))).1 right.1 in
    stated_long room size (count_in (take size room)) (stands room size (count_in (take size room)) right.0 none_wrong refl)

-- ---- where nothing refuses, that is what is done
pub removes_done : (room : List ℕ) (size k : ℕ) (r : Editing) (room' : List ℕ) → size ≤ length room → Right (take size room) → k < length (held (take size room))
    → Removes room size k r room'
    → (r ≡ Ok (length (sheet_of (without k (held (take size room)))))) × (room' ≡ over (sheet_of (without k (held (take size room)))) room)
unfolding remove_refusal
removes_done room size k r room' fits right l p =
    let none_wrong = (done_exactly (check_rows (take size room)) (check_refusal (take size room)) (check_ranked (take size room))).1 right in
    rw (le-ltb (length room) size fits, none_wrong, lt-leb (length (held (take size room))) k l) at p

pub adds_done : (room : List ℕ) (size : ℕ) (h : Head) (value : List ℕ) (r : Editing) (room' : List ℕ) → size ≤ length room → Right (take size room)
    → Allowed h → length value ≡ length_of h → (IsThere (held (take size room)) (setting h value) → ⊥) → length (held (take size room)) < 128
    → length (sheet_of (among (setting h value) (held (take size room)))) ≤ length room → Adds room size h value r room'
    → (r ≡ Ok (length (sheet_of (among (setting h value) (held (take size room)))))) × (room' ≡ over (sheet_of (among (setting h value) (held (take size room)))) room)
unfolding add_refusal
adds_done room size h value r room' fits right allowed exact not_there few wide p =
    let none_wrong = (done_exactly (check_rows (take size room)) (check_refusal (take size room)) (check_ranked (take size room))).1 right in
    rw (
      le-ltb (length room) size fits,
      none_wrong,
      told_true (decides_allowed h) allowed,
      eq-eqb (length value) (length_of h) exact,
      told_false (there_decided (held (take size room)) (setting h value)) not_there,
      lt-leb 128 (length (held (take size room))) few,
      le-ltb (length room) (length (sheet_of (among (setting h value) (held (take size room))))) wide,
    ) at p

pub removes_module_done : (room : List ℕ) (size unit k : ℕ) (r : Editing) (room' : List ℕ) → size ≤ length room → Right (take size room)
    → k < length (held (take size room)) → (named (held (take size room)) k).unit ≡ unit → RemovesModule room size unit r room'
    → (r ≡ Ok (length (sheet_of (others unit (held (take size room)))))) × (room' ≡ over (sheet_of (others unit (held (take size room)))) room)
unfolding module_refusal
removes_module_done room size unit k r room' fits right l same p =
    let none_wrong = (done_exactly (check_rows (take size room)) (check_refusal (take size room)) (check_ranked (take size room))).1 right in
    rw (le-ltb (length room) size fits, none_wrong, told_false (none_of (held (take size room)) unit) (λ none_there. none_there k l same)) at p

-- none of that module and register is none there
absent : (settings : List Setting) (new : Setting) → Apart new settings → IsThere settings new → ⊥
unfolding IsThere named
absent settings new apart there = each_at (λ s. SameKey s.named new.named → ⊥) settings apart there.0 there.1 there.2

-- the sheet of the old settings, over a room of the same length, is the old sheet
back_there : (room : List ℕ) (size : ℕ) (room'' room' : List ℕ) (r : Editing) (settings : List Setting) → size ≤ length room → length room' ≡ length room
    → sheet_of settings ≡ take size room → length (sheet_of settings) ≡ size → r ≡ Ok (length (sheet_of settings)) → room'' ≡ over (sheet_of settings) room'
    → (r ≡ Ok size) × (take size room'' ≡ take size room)
back_there room size room'' room' r settings fits same sheet long answer bytes = (
  answer ∙ ap Ok long,
  ap (λ (i : ℕ). take i room'') (sym long)
      ∙ (ap (take (length (sheet_of settings))) bytes ∙ (take-over (sheet_of settings) room' (omega (arith, fits, same, long)) ∙ sheet)),
)

module _ (room : List ℕ) (size : ℕ) where
  module _ (index n : ℕ) (room' : List ℕ) (p : Removes room size index (Ok n) room') where
    d : (remove_refusal room size index ≡ none)
        × (n ≡ length (sheet_of (without index (held (take size room)))))
        × (room' ≡ over (sheet_of (without index (held (take size room)))) room)
    d = done (remove_refusal room size index) (without index (held (take size room))) room n room' p

    pub removed_there : (sheet_refusal room size ≡ none) × (index < length (held (take size room)))
    unfolding remove_refusal
    removed_there =
        let two = or-none (sheet_refusal room size) (first_row_of (remove_tests (held (take size room)) index)) d.0 in
        (two.0, leb-false (length (held (take size room))) index (first_false (leb (length (held (take size room))) index) NothingThere none two.1).0)

    pub remove_kept : Kept room size (without index (held (take size room))) n room'
    remove_kept =
        let right = right_there room size removed_there.0 in
        let fits = right.0 in
        let old = old_long room size removed_there.0 in
        let less = shorter_without index (held (take size room)) in
        kept room size (without index (held (take size room))) n room' removed_there.0
        (without_writable index (held (take size room)) (held_writable (take size room) right.1)) (omega (arith, fits, old, less)) d.1 d.2

    -- ---- "adding what was removed, too"
    pub removed_added : Bytes (take size room) → (r : Editing) (room'' : List ℕ)
        → Adds room' n (named (held (take size room)) index) (valued (held (take size room)) index) r room'' → (r ≡ Ok size) × (take size room'' ≡ take size room)
    unfolding named valued
    removed_added bytes r room'' adds =
        let right = right_there room size removed_there.0 in
        let l = removed_there.1 in
        let w = held_writable (take size room) right.1 in
        let parts = parts_of (held (take size room)) w in
        let now = remove_kept in
        let room_same : length room' ≡ length room = ap length d.2 ∙ length_over (sheet_of (without index (held (take size room)))) room in
        let out : Setting = get_or (held (take size room)) index nothing in
        let again : among out (held (take n room')) ≡ held (take size room) = ap (among out) now.holds ∙ out_added index (held (take size room)) parts.0 l in
        let old = old_long room size removed_there.0 in
        let few = w.few in
        let one = one_fewer index (held (take size room)) l in
        let many = ap length now.holds in
        let fits = right.0 in
        let stated = now.fits in
        let a = adds_done room' n out.named out.value r room'' (omega (arith, stated, room_same)) now.is_right (w.allowed index l) (w.whole index l)
        (absent (held (take n room')) out (rw now.holds (out_apart index (held (take size room)) parts.0 l))) (omega (arith, few, one, many))
        (subst (λ (x : List Setting). length (sheet_of x) ≤ length room') (sym again) (omega (arith, fits, old, room_same))) adds in
        back_there room size room'' room' r (held (take size room)) fits room_same (sheet_of_held (take size room) bytes right.1) old
        (a.0 ∙ ap (λ (x : List Setting). Ok (length (sheet_of x))) again) (a.1 ∙ ap (λ (x : List Setting). over (sheet_of x) room') again)

  module _ (unit n : ℕ) (room' : List ℕ) (p : RemovesModule room size unit (Ok n) room') where
    e : (module_refusal room size unit ≡ none)
        × (n ≡ length (sheet_of (others unit (held (take size room)))))
        × (room' ≡ over (sheet_of (others unit (held (take size room)))) room)
    e = done (module_refusal room size unit) (others unit (held (take size room))) room n room' p

    module_there : sheet_refusal room size ≡ none
    unfolding module_refusal
    module_there = (or-none (sheet_refusal room size) (first_row_of (module_tests (held (take size room)) unit)) e.0).0

    pub module_kept : Kept room size (others unit (held (take size room))) n room'
    module_kept =
        let right = right_there room size module_there in
        let fits = right.0 in
        let old = old_long room size module_there in
        let less = shorter_others unit (held (take size room)) in
        kept room size (others unit (held (take size room))) n room' module_there
        (others_writable unit (held (take size room)) (held_writable (take size room) right.1)) (omega (arith, fits, old, less)) e.1 e.2

  module _ (h : Head) (value : List ℕ) (n : ℕ) (room' : List ℕ) (p : Adds room size h value (Ok n) room') where
    f : (add_refusal room size (setting h value) ≡ none)
        × (n ≡ length (sheet_of (among (setting h value) (held (take size room)))))
        × (room' ≡ over (sheet_of (among (setting h value) (held (take size room)))) room)
    f = done (add_refusal room size (setting h value)) (among (setting h value) (held (take size room))) room n room' p

    add_there : sheet_refusal room size ≡ none
    unfolding add_refusal
    add_there = (or-none (sheet_refusal room size) (first_row_of (add_tests room (held (take size room)) (setting h value))) f.0).0

    none_holds : NoRow (add_rows room size (setting h value))
    none_holds = (done_exactly (add_rows room size (setting h value)) (add_refusal room size (setting h value)) (add_ranked room size (setting h value))).0 f.0

    -- what it takes that nothing refuses the new setting
    pub added_right : Allowed h
        × (length value ≡ length_of h)
        × ((k : ℕ) → k < length (held (take size room)) → SameKey (named (held (take size room)) k) h → ⊥)
        × (length (held (take size room)) < 128)
        × (length (sheet_of (among (setting h value) (held (take size room)))) ≤ length room)
    unfolding add_refusal IsThere
    added_right =
        let two = or-none (sheet_refusal room size) (first_row_of (add_tests room (held (take size room)) (setting h value))) f.0 in
        let unfit = first_false (is_unfit (setting h value)) NotAllowed _ two.1 in
        let there = first_false (is_there (held (take size room)) (setting h value)) AlreadyThere _ unfit.1 in
        let full = first_false (leb 128 (length (held (take size room)))) Full _ there.1 in
        let narrow = first_false (ltb (length room) (length (sheet_of (among (setting h value) (held (take size room)))))) NoRoom none full.1 in
        let few = leb-false 128 (length (held (take size room))) full.0 in (
          by_allowed (is_allowed h) refl unfit.0,
          equal (length value) (length_of h)
              (λ apart. (decides_or (decides_not (decides_allowed h)) (decides_not (decides_eq (length value) (length_of h)))).not_so unfit.0 (inr apart)),
          λ k l same. (there_decided (held (take size room)) (setting h value)).not_so there.0 (k, l, same),
          few,
          ltb-false (length room) (length (sheet_of (among (setting h value) (held (take size room))))) narrow.0,
        )
      where
        by_allowed : (b : Bool) → is_allowed h ≡ b → is_unfit (setting h value) ≡ false → Allowed h
        by_allowed true so unfit = (decides_allowed h).so so
        by_allowed false so unfit =
            absurd ((decides_or (decides_not (decides_allowed h)) (decides_not (decides_eq (length value) (length_of h)))).not_so unfit (inl ((decides_allowed h).not_so so)))

    apart : Apart (setting h value) (held (take size room))
    unfolding named
    apart = each_by (λ s. SameKey s.named h → ⊥) (held (take size room)) added_right.2

    pub add_kept : Kept room size (among (setting h value) (held (take size room))) n room'
    add_kept =
        let right = right_there room size add_there in
        kept room size (among (setting h value) (held (take size room))) n room' add_there
        (among_writable (setting h value) (held (take size room)) (added_right.0, added_right.1) apart added_right.3 (held_writable (take size room) right.1))
        added_right.4 f.1 f.2

    -- ---- "Removing what was added gives the old sheet back": whichever record has the new one's module and register
    pub added_removed : Bytes (take size room) → (k : ℕ) → k < length (held (take n room')) → SameKey (named (held (take n room')) k) h
        → (r : Editing) (room'' : List ℕ) → Removes room' n k r room'' → (r ≡ Ok size) × (take size room'' ≡ take size room)
    unfolding named
    added_removed bytes k l same r room'' removes =
        let k_is = add_kept.holds in
        let right = right_there room size add_there in
        let room_same : length room' ≡ length room = ap length f.2 ∙ length_over (sheet_of (among (setting h value) (held (take size room)))) room in
        let there = ap (without k) k_is
        ∙ added_out (setting h value) (held (take size room)) apart k (subst (λ (x : List Setting). k < length x) k_is l)
        (subst (λ (x : List Setting). SameKey (get_or x k nothing).named h) k_is same) in
        let d = removes_done room' n k r room'' (let q = add_kept.fits in omega (arith, q, room_same)) add_kept.is_right l removes in
        back_there room size room'' room' r (held (take size room)) right.0 room_same (sheet_of_held (take size room) bytes right.1) (old_long room size add_there)
        (d.0 ∙ ap (λ (x : List Setting). Ok (length (sheet_of x))) there) (d.1 ∙ ap (λ (x : List Setting). over (sheet_of x) room') there)

-- ---- what an answer tells, and that each call is settled

pub told_number : (f : Fault) (k n : ℕ) → Numbers f k → (edit_told (Err f) ≡ some k) × (edit_told (Ok n) ≡ none)
told_number f k n p = (ap some (sym p), refl)

-- the numbers of 02
pub numbers_are : (f : SheetFault) (k : ℕ) → SheetNumbers f k
    → (fault_number Overstated ≡ 80) × (fault_number (WrongSheet f) ≡ k) × (fault_number NothingThere ≡ 77) × (fault_number NotAllowed ≡ 69)
    × (fault_number AlreadyThere ≡ 78) × (fault_number Full ≡ 79) × (fault_number NoRoom ≡ 80)
numbers_are f k p = (refl, sym p, refl, refl, refl, refl, refl)

pub numbers_settled : (f : Fault) → Settled (Numbers f)
numbers_settled f = settled _

pub removes_settled : (room : List ℕ) (size index : ℕ) → Settled {A = Editing × List ℕ} (λ o. Removes room size index o.0 o.1)
removes_settled room size index = settled_with _ _

pub removes_module_settled : (room : List ℕ) (size unit : ℕ) → Settled {A = Editing × List ℕ} (λ o. RemovesModule room size unit o.0 o.1)
removes_module_settled room size unit = settled_with _ _

pub adds_settled : (room : List ℕ) (size : ℕ) (h : Head) (value : List ℕ) → Settled {A = Editing × List ℕ} (λ o. Adds room size h value o.0 o.1)
adds_settled room size h value = settled_with _ _

-- What is promised of writing a sheet: the laws that callers may cite.
-- Assumes nothing.
use Rattle.std.specs.Prelude.{Ok, Err}
use mathlib.Core.Path.{◌≡◌, refl, sym, ap, ◌∙◌}
use mathlib.Core.List.{List, [], ◌∷◌, ◌++◌}
use mathlib.Core.Bool.{Bool, true, false, not}
use mathlib.Core.Logic.{◌≢◌, ◌⊎◌, inl, inr, ⊎_elim, ◌↔◌}
use mathlib.Core.Option.{Option, some, none}
use Prim.Native.Nat.{ℕ, zero, suc, ◌+◌, ◌*◌, ◌^◌, ◌≤◌, ◌<◌}
use native.Mathlib.Omega.{arith}
use lib.Dec.{eqb}
use lib.ListN.{length, take, drop, length-drop}
use lib.Seq.{length-take-le}
use Rattle.lent.specs.Lent.{over}
use Rattle.lent.proofs.Laws.{over_is, take-over}
use Rattle.rows.specs.Rows.{NoRow, Numbered, passed_up, raised}
use Rattle.rows.proofs.Laws.{Decides, decides_eq, decides_not, done_exactly, numbered, clash}
use Rattle.rows.proofs.Settled.{settled, settled_with}
use Rattle.rows.specs.Settled.{Settled}
use Rattle.values.specs.Values.{Bytes}
use Rattle.setting.specs.declared.Fault.{Fault}
use Rattle.setting.specs.Setting.{Setting, length_of, lengths_to, rows_in, heads, tails, fault_number, Some, Falls, Unfit, some_of, Numbers}
use Rattle.setting.proofs.Laws.{decides_some, equal, all_rise, none_falls, all_allowed, none_unfit, length_allowed, heads_at}
use Rattle.setting.proofs.Lists.{head_from, lengths_same, lengths_next, lengths_mono, setting_at}
use Rattle.sheet.specs.Sheet.{record_for, values_for, sheet_of, named, valued, nothing, Writable, room_after}
use Rattle.sheet.specs.Promised.{Sized}
use Rattle.sheet.proofs.Rowed.{rows_by, length-rows, many_rows, heads_by, tails_by, settings_back}
use Rattle.sheet.proofs.Written.{length-values, sheet_right, held_of_sheet, sheet_most}
use Rattle.sheet_writer.specs.Writer.{rows_for, handed, AreMany, HaveFall, Misstated, HaveWrongLength, HaveUnfit, IsNarrow, write_rows}
use Rattle.sheet_writer.specs.Writer.{write_refusal, write_answer, write_told, Writes, LaysAgain}
use Rattle.sheet_writer.specs.Answers.{Writing}
use Rattle.sheet_writer.specs.Promised.{Written}
use Rattle.sheet_writer.proofs.Handed.{Stated, stated, handed_exactly, write_ranked, many_handed}

-- ---- "For a writer: 79 over 128 settings, 68, 69 .., 57": each exactly when its row holds and no earlier one does

write_tells : (o : Option Fault) (n : ℕ) → write_told (write_answer o n) ≡ raised fault_number o
write_tells none n = refl
write_tells (some f) n = refl

pub write_exactly : (rows values room : List ℕ) (r : Writing) (room' : List ℕ) → Writes rows values room r room'
    → Numbered (passed_up fault_number (write_rows rows values room)) (79 ∷ 68 ∷ 69 ∷ 57 ∷ []) (write_told r)
unfolding write_rows
write_exactly rows values room r room' p =
    numbered fault_number (write_rows rows values room) (write_refusal rows values room) (write_ranked rows values room) (79 ∷ 68 ∷ 69 ∷ 57 ∷ []) refl refl
    (write_told r) (ap write_told p.0 ∙ write_tells (write_refusal rows values room) (length (sheet_of (handed rows values))))

pub write_refusal_keeps : (rows values room : List ℕ) (f : Fault) (room' : List ℕ) → Writes rows values room (Err f) room' → room' ≡ room
write_refusal_keeps rows values room f room' p = by (write_refusal rows values room) p
  where
    by : (o : Option Fault)
        → (Err f ≡ write_answer o (length (sheet_of (handed rows values)))) × (room' ≡ room_after o (sheet_of (handed rows values)) room) → room' ≡ room
    by (some g) q = q.1
    by none q = clash cc

-- ---- a sheet that is written is right, and holds the settings that were handed over

named_handed : (rows values : List ℕ) (k : ℕ) → k < rows_in rows → named (handed rows values) k ≡ heads rows k
unfolding named handed
named_handed rows values k h = ap (λ (s : Setting). s.named) (setting_at (rows_in rows) rows values nothing k h) ∙ sym (heads_at rows k h)

valued_handed : (rows values : List ℕ) (k : ℕ) → Stated rows values → k < rows_in rows → length (valued (handed rows values) k) ≡ length_of (heads rows k)
unfolding valued handed
valued_handed rows values k s h =
    let here : head_from rows k ≡ heads rows k = sym (heads_at rows k h) in
    let before : lengths_to (head_from rows) k ≡ lengths_to (heads rows) k = lengths_same (head_from rows) (heads rows) k (λ j l. sym (heads_at rows j (omega arith))) in
    let next : lengths_to (heads rows) (suc k) ≡ lengths_to (heads rows) k + length_of (heads rows k) = lengths_next (heads rows) k in
    let most : lengths_to (heads rows) (suc k) ≤ lengths_to (heads rows) (rows_in rows) = lengths_mono (heads rows) (suc k) (rows_in rows) h in
    ap (λ (s : Setting). length s.value) (setting_at (rows_in rows) rows values nothing k h)
    ∙ rw (here, before) (length-take-le (length_of (heads rows k)) (drop (lengths_to (heads rows) k) values)
    (omega (arith, length-drop (lengths_to (heads rows) k) values, next, most, s.all)))

-- what it takes that 79, 68 and 69 do not refuse: "each setting's condition", of the settings themselves
pub writable : (rows values room : List ℕ) → NoRow (write_rows rows values room) → Writable (handed rows values)
unfolding write_rows AreMany HaveFall HaveUnfit
writable rows values room n =
    record {
      few = rw many (omega_few n.0);
      rise = λ k. rw many (λ l. rw (named_handed rows values k (omega arith), named_handed rows values (suc k) l)
          (all_rise (heads rows) (rows_in rows) n.1.0 k l));
      allowed = λ k. rw many (λ l. rw (named_handed rows values k l) (all_allowed (heads rows) (rows_in rows) (λ u. n.1.1.0 (inl u)) k l));
      whole = λ k. rw many (λ l. rw (named_handed rows values k l) (valued_handed rows values k (stated rows values (λ u. n.1.1.0 (inr u))) l));
    }
  where
    many : length (handed rows values) ≡ rows_in rows
    many = many_handed rows values

    omega_few : (128 < rows_in rows → ⊥) → rows_in rows ≤ 128
    omega_few n = omega arith

no_rows : (rows values room : List ℕ) → write_refusal rows values room ≡ none → NoRow (write_rows rows values room)
no_rows rows values room e = (done_exactly (write_rows rows values room) (write_refusal rows values room) (write_ranked rows values room)).0 e

roomy : (rows values room : List ℕ) → NoRow (write_rows rows values room) → length (sheet_of (handed rows values)) ≤ length room
unfolding write_rows IsNarrow
roomy rows values room n = let short : length room < length (sheet_of (handed rows values)) → ⊥ = n.1.1.1.0 in omega arith

lengths_asked : (rows values room : List ℕ) → NoRow (write_rows rows values room) → HaveWrongLength rows values → ⊥
unfolding write_rows HaveUnfit
lengths_asked rows values room n w = n.1.1.0 (inr w)

written_as : (rows values room : List ℕ) → write_refusal rows values room ≡ none
    → Written rows values room (length (sheet_of (handed rows values))) (over (sheet_of (handed rows values)) room)
written_as rows values room e =
    let n : NoRow (write_rows rows values room) = no_rows rows values room e in
    let w : Writable (handed rows values) = writable rows values room n in
    let room_for : length (sheet_of (handed rows values)) ≤ length room = roomy rows values room n in
    let taken : take (length (sheet_of (handed rows values))) (over (sheet_of (handed rows values)) room) ≡ sheet_of (handed rows values) =
    take-over (sheet_of (handed rows values)) room room_for in
    record {
      can = w;
      long = refl;
      most = sheet_most (handed rows values) w;
      fits = room_for;
      bytes = over_is (sheet_of (handed rows values)) room room_for;
      is_right = rw taken (sheet_right (handed rows values) w);
      holds = rw taken (held_of_sheet (handed rows values) w);
    }

pub write_answered : (rows values room : List ℕ) (size : ℕ) (room' : List ℕ) → Writes rows values room (Ok size) room'
    → Written rows values room size room'
write_answered rows values room size room' p = by (write_refusal rows values room) refl p
  where
    by : (o : Option Fault) → write_refusal rows values room ≡ o
        → (Ok size ≡ write_answer o (length (sheet_of (handed rows values)))) × (room' ≡ room_after o (sheet_of (handed rows values)) room)
        → Written rows values room size room'
    by (some f) e q = clash cc
    by none e q =
        let is : size ≡ length (sheet_of (handed rows values)) = cc in
        rw (is, q.1) (written_as rows values room e)

-- of what was taken, every byte of the rows and of the values stands in the sheet
pub all_taken : (rows values room : List ℕ) (size : ℕ) (room' : List ℕ) → Bytes rows → Writes rows values room (Ok size) room'
    → (rows ≡ rows_for (handed rows values)) × (values ≡ values_for (handed rows values))
all_taken rows values room size room' b p = by (write_refusal rows values room) refl p
  where
    right_rows : NoRow (write_rows rows values room) → HaveWrongLength rows values → ⊥
    right_rows n w = lengths_asked rows values room n w

    by : (o : Option Fault) → write_refusal rows values room ≡ o
        → (Ok size ≡ write_answer o (length (sheet_of (handed rows values)))) × (room' ≡ room_after o (sheet_of (handed rows values)) room)
        → (rows ≡ rows_for (handed rows values)) × (values ≡ values_for (handed rows values))
    by (some f) e q = clash cc
    by none e q = handed_exactly rows values b (stated rows values (right_rows (no_rows rows values room e)))

-- ---- every list of settings that can be written can be handed over, and is then written

rows_by_lem : (settings : List Setting) → rows_for settings ≡ rows_by (λ k. length (valued settings k)) settings
unfolding rows_for rows_by valued
rows_by_lem [] = refl
rows_by_lem (s ∷ rest) = ap (λ (l : List ℕ). record_for s.named (length s.value) ++ l) (rows_by_lem rest)

pub handed_back : (settings : List Setting) → Sized settings → handed (rows_for settings) (values_for settings) ≡ settings
unfolding handed
handed_back settings each =
    rw (rows_by_lem settings, many_rows (λ k. length (valued settings k)) settings) (settings_back (λ k. length (valued settings k)) settings each)

pub none_refused : (settings : List Setting) (room : List ℕ) → Writable settings → length (sheet_of settings) ≤ length room
    → NoRow (write_rows (rows_for settings) (values_for settings) room)
unfolding write_rows AreMany HaveFall HaveUnfit HaveWrongLength Misstated IsNarrow
none_refused settings room w wide = (
  λ l. omega (arith, l, many, w.few),
  (
    rw many (none_falls (heads rows) (length settings) (λ k l. rw (at k (omega arith), at (suc k) l) (w.rise k l))),
    (
      ⊎_elim (rw many (none_unfit (heads rows) (length settings) (λ k l. rw (at k l) (w.allowed k l))))
          (⊎_elim (λ b. b (rw many long))
          (⊎_elim (λ s. s.2 (said s.0 (rw many at s.1))) (λ b. b (rw many total)))),
      (λ l. omega (arith, l, wide, ap (λ (ss : List Setting). length (sheet_of ss)) (handed_back settings w.whole)), tt),
    ),
  ),
)
  where
    number : ℕ → ℕ
    number = λ k. length (valued settings k)

    rows : List ℕ
    rows = rows_for settings

    many : rows_in rows ≡ length settings
    many = rw (rows_by_lem settings) (many_rows number settings)

    long : length rows ≡ 8 * length settings
    long = rw (rows_by_lem settings) (length-rows number settings)

    at : (k : ℕ) → k < length settings → heads rows k ≡ named settings k
    at k l = rw (rows_by_lem settings) (heads_by number settings k l)

    said : (k : ℕ) → k < length settings → tails rows k ≡ length_of (heads rows k)
    said k l =
        let size : length (valued settings k) ≡ length_of (named settings k) = w.whole k l in
        let small : length_of (named settings k) ≤ 240 = length_allowed (named settings k) (w.allowed k l) in
        let tail : tails rows k ≡ length (valued settings k) = rw (rows_by_lem settings) (tails_by number settings k l (omega arith)) in
        tail ∙ (size ∙ ap length_of (sym (at k l)))

    total : length (values_for settings) ≡ lengths_to (heads rows) (length settings)
    total = length-values settings w.whole ∙ lengths_same (named settings) (heads rows) (length settings) (λ k l. sym (at k l))

pub write_of : (settings : List Setting) (room : List ℕ) (r : Writing) (room' : List ℕ) → Writable settings → length (sheet_of settings) ≤ length room
    → Writes (rows_for settings) (values_for settings) room r room'
    → (r ≡ Ok (length (sheet_of settings))) × (room' ≡ sheet_of settings ++ drop (length (sheet_of settings)) room)
write_of settings room r room' w wide p =
    let none_refuses : write_refusal (rows_for settings) (values_for settings) room ≡ none =
    (done_exactly (write_rows (rows_for settings) (values_for settings) room) (write_refusal (rows_for settings) (values_for settings) room)
    (write_ranked (rows_for settings) (values_for settings) room)).1 (none_refused settings room w wide) in
    let q = rw (none_refuses, handed_back settings w.whole) at p in
    (q.0, q.1 ∙ over_is (sheet_of settings) room wide)

-- ---- the rows in the settings' own words, of settings that need not be right

module _ (settings : List Setting) where
  number : ℕ → ℕ
  number = λ k. length (valued settings k)

  many : rows_in (rows_for settings) ≡ length settings
  unfolding number
  many = rw (rows_by_lem settings) (many_rows number settings)

  at : (k : ℕ) → k < length settings → heads (rows_for settings) k ≡ named settings k
  unfolding number
  at k l = rw (rows_by_lem settings) (heads_by number settings k l)

  pub many_plainly : AreMany (rows_for settings) ↔ (128 < length settings)
  unfolding AreMany
  many_plainly = rw many (λ p. p, λ p. p)

  pub fall_plainly : HaveFall (rows_for settings) ↔ Some (Falls (named settings)) (length settings)
  unfolding HaveFall Falls
  fall_plainly = rw many (λ s. (s.0, s.1, there s.0 s.1 s.2), λ s. (s.0, s.1, back s.0 s.1 s.2))
    where
      there : (k : ℕ) → k < length settings → Falls (heads (rows_for settings)) k → Falls (named settings) k
      there zero l f = f
      there (suc k) l f = rw (at k (omega arith), at (suc k) l) at f

      back : (k : ℕ) → k < length settings → Falls (named settings) k → Falls (heads (rows_for settings)) k
      back zero l f = f
      back (suc k) l f = rw (at k (omega arith), at (suc k) l) f

  -- "69 (also where the value's length isn't count times size)"
  pub unfit_plainly : ((k : ℕ) → k < length settings → length (valued settings k) < 2 ^ 32)
      → HaveUnfit (rows_for settings) (values_for settings)
      ↔ (Some (Unfit (named settings)) (length settings) ⊎ Some (λ k. length (valued settings k) ≢ length_of (named settings k)) (length settings))
  unfolding HaveUnfit HaveWrongLength Misstated Unfit number
  unfit_plainly small = rw many (
    ⊎_elim (λ s. inl (s.0, s.1, rw (at s.0 s.1) at s.2))
        (⊎_elim (λ b. absurd (b long))
        (⊎_elim (λ s. inr (s.0, s.1, rw (at s.0 s.1, tail s.0 s.1) at s.2)) (λ b. inr (uneven b)))),
    ⊎_elim (λ s. inl (s.0, s.1, rw (at s.0 s.1) s.2))
        (λ s. inr (inr (inl (s.0, s.1, rw (at s.0 s.1, tail s.0 s.1) s.2)))),
  )
    where
      long : length (rows_for settings) ≡ 8 * length settings
      long = rw (rows_by_lem settings) (length-rows (λ k. length (valued settings k)) settings)

      tail : (k : ℕ) → k < length settings → tails (rows_for settings) k ≡ length (valued settings k)
      tail k l = rw (rows_by_lem settings) (tails_by (λ k. length (valued settings k)) settings k l (small k l))

      test_of : ℕ → Bool
      test_of = λ k. not (eqb (length (valued settings k)) (length_of (named settings k)))

      decided : Decides (some_of test_of (length settings)) (Some (λ k. length (valued settings k) ≢ length_of (named settings k)) (length settings))
      decided =
          decides_some test_of (λ k. length (valued settings k) ≢ length_of (named settings k)) (length settings)
          (λ k. decides_not (decides_eq (length (valued settings k)) (length_of (named settings k))))

      uneven : (length (values_for settings) ≢ lengths_to (heads (rows_for settings)) (length settings))
          → Some (λ k. length (valued settings k) ≢ length_of (named settings k)) (length settings)
      uneven b = by (some_of test_of (length settings)) refl
        where
          by : (t : Bool) → some_of test_of (length settings) ≡ t → Some (λ k. length (valued settings k) ≢ length_of (named settings k)) (length settings)
          by true e = decided.so e
          by false e =
              let each : Sized settings = (λ k l. equal (length (valued settings k)) (length_of (named settings k)) (λ w. decided.not_so e (k, l, w))) in
              absurd (b (length-values settings each ∙ lengths_same (named settings) (heads (rows_for settings)) (length settings) (λ k l. sym (at k l))))

-- what an answer tells is the number of its fault
pub told_number : (f : Fault) (k n : ℕ) → Numbers f k → (write_told (Err f) ≡ some k) × (write_told (Ok n) ≡ none)
told_number f k n p = (ap some (sym p), refl)

-- ---- each call is settled

pub writes_settled : (rows values room : List ℕ) → Settled {A = Writing × List ℕ} (λ o. Writes rows values room o.0 o.1)
writes_settled rows values room = settled_with _ _

pub lays_again_settled : (n : ℕ) (room : List ℕ) → Settled (LaysAgain n room)
lays_again_settled n room = settled _

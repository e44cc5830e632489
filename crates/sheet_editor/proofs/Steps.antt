-- What the code's steps need.
-- Assumes nothing.
use Rattle.std.specs.Prelude.{Ok, Err, IsErrAnd, MatchResult}
use Rattle.std.proofs.lemmas.Result.{err_from_is_err_and}
use mathlib.Core.Path.{◌≡◌, refl, sym, ap, ◌∙◌}
use mathlib.Core.Bool.{Bool, true, false, cond, not, ◌&&◌}
use mathlib.Core.List.{List, [], ◌∷◌}
use mathlib.Core.Logic.{◌≢◌}
use mathlib.Core.Option.{Option, some, none}
use Prim.Native.Nat.{ℕ, ◌+◌, ◌-◌, ◌*◌, ◌≤◌, ◌<◌}
use native.Mathlib.Omega.{arith}
use borrow.Author.Tests.{lt-ltb, le-ltb, ltb-true, ltb-false, le-leb, lt-leb, eq-eqb, ne_eqb}
use lib.Dec.{eqb, ltb}
use lib.ListN.{length, take, drop}
use Rattle.rows.specs.Rows.{first_row_of, or_later, raised}
use Rattle.rows.proofs.Laws.{clash}
use Rattle.first.specs.First.{first_place}
use Rattle.lent.specs.Lent.{Lays, Moves}
use Rattle.values.specs.Values.{bytes_of}
use Rattle.setting.specs.declared.Head.{Head}
use Rattle.setting.specs.declared.Fault.{Fault as SheetFault}
use Rattle.setting.specs.Setting.{Setting, setting, head, length_of, Allowed, rows_in, heads, tails, not_below, is_allowed}
use Rattle.setting.proofs.Lists.{head_from, lengths_mono}
use Rattle.setting.proofs.Steps.{some-none}
use Rattle.sheet.specs.Sheet.{record_for, sheet_of, named, count_in, held, check_refusal, check_answer}
use Rattle.sheet.specs.Answers.{Checked}
use Rattle.sheet_writer.specs.Writer.{LaysAgain}
use Rattle.sheet_writer.proofs.Steps.{rows_again}
use Rattle.sheet_editor.specs.Editor.{among, sheet_refusal, has_none_of, same_key, is_there, add_tests, remove_refusal, module_refusal, add_refusal}
use Rattle.sheet_editor.specs.Editor.{judge_answer, judgement, cut_out, put_in, Edits, Removes, RemovesModule, Adds, RemovesFrom, RemovesModuleFrom, AddsTo}
use Rattle.sheet_editor.proofs.Chosen.{without_cut, first_of_lem, first_within, module_cut, module_none, module_some, place_of, place-within, there_told, among_put}
use Rattle.sheet_editor.proofs.Moved.{rows_of, Stands, stands, start_of, starts_within, place_among, stated_long, longer, cut_room, cut_long, put_room, put_long}
use Rattle.sheet_editor.specs.Answers.{Editing, Judged}
use Rattle.sheet_editor.specs.declared.Fault.{Fault}
use Rattle.sheet_editor.specs.declared.Fault.TheVariants.{Overstated, WrongSheet, NothingThere, NotAllowed, AlreadyThere, Full, NoRoom}

-- ---- the sheet is judged

module _ (room : List ℕ) (size : ℕ) where
  pub judge_over : length room < size → Err Overstated ≡ judgement room size
  judge_over h = rw (lt-ltb (length room) size h) refl

  told_wrong : (o : Option SheetFault) (n : ℕ) (f : SheetFault) → check_answer o n ≡ Err f → o ≡ some f
  told_wrong (some g) n f e = cc
  told_wrong none n f e = clash (cc)

  told_right : (o : Option SheetFault) (n m : ℕ) → check_answer o n ≡ Ok m → (o ≡ none) × (n ≡ m)
  told_right (some g) n m e = clash (cc)
  told_right none n m e = (refl, cc)

  whole_part : take (size - 0) room ≡ take size room
  whole_part = let e : size - 0 ≡ size = omega arith in ap (λ (i : ℕ). take i room) e

  judge_wrong : (c : Checked) (f : SheetFault) → size ≤ length room
      → c ≡ check_answer (check_refusal (take (size - 0) room)) (count_in (take (size - 0) room)) → c ≡ Err f
      → Err (WrongSheet f) ≡ judgement room size
  judge_wrong c f h is told =
      let o = told_wrong (check_refusal (take size room)) (count_in (take size room)) f
      (ap (λ (x : List ℕ). check_answer (check_refusal x) (count_in x)) (sym whole_part) ∙ (sym is ∙ told)) in
      rw (le-ltb (length room) size h, o) refl

  judge_right : (c : Checked) (n : ℕ) → size ≤ length room
      → c ≡ check_answer (check_refusal (take (size - 0) room)) (count_in (take (size - 0) room)) → c ≡ Ok n
      → Ok n ≡ judgement room size
  judge_right c n h is told =
      let o = told_right (check_refusal (take size room)) (count_in (take size room)) n
      (ap (λ (x : List ℕ). check_answer (check_refusal x) (count_in x)) (sym whole_part) ∙ (sym is ∙ told)) in
      rw (le-ltb (length room) size h, o.0, o.1) refl

  -- the check's answer, its refusal raised
  pub judge_told : (c : Checked) (r : Judged) → size ≤ length room
      → c ≡ check_answer (check_refusal (take (size - 0) room)) (count_in (take (size - 0) room))
      → MatchResult c (λ n. r ≡ Ok n) (λ f. IsErrAnd r (λ g. g ≡ WrongSheet f)) → r ≡ judgement room size
  judge_told (Ok n) r h is told = told ∙ judge_right (Ok n) n h is refl
  judge_told (Err f) r h is told =
      let p = err_from_is_err_and r told in
      p.1 ∙ (ap Err p.2 ∙ judge_wrong (Err f) f h is refl)

  -- what a judgement says
  wrong_is : (o : Option Fault) (n : ℕ) (f : Fault) → judge_answer o n ≡ Err f → o ≡ some f
  wrong_is (some g) n f e = cc
  wrong_is none n f e = clash (cc)

  right_is : (o : Option Fault) (n m : ℕ) → judge_answer o n ≡ Ok m → (o ≡ none) × (m ≡ n)
  right_is (some g) n m e = clash (cc)
  right_is none n m e = (refl, cc)

  by_over : (b : Bool) (o : Option SheetFault) → or_later (cond b (some Overstated) none) (raised WrongSheet o) ≡ none → (b ≡ false) × (o ≡ none)
  by_over true o e = clash (cc)
  by_over false (some f) e = clash (cc)
  by_over false none e = (refl, refl)

  pub right_sheet : (n : ℕ) → Ok n ≡ judgement room size
      → (size ≤ length room) × (check_refusal (take size room) ≡ none) × (n ≡ count_in (take size room))
  right_sheet n e =
      let o = right_is (sheet_refusal room size) (count_in (take size room)) n (sym e) in
      let p = by_over (ltb (length room) size) (check_refusal (take size room)) o.0 in
      (ltb-false (length room) size p.0, p.1, o.1)

  pub wrong_sheet : (f : Fault) → Err f ≡ judgement room size → sheet_refusal room size ≡ some f
  wrong_sheet f e = wrong_is (sheet_refusal room size) (count_in (take size room)) f (sym e)

  pub no_refusal : (n : ℕ) → Ok n ≡ judgement room size → sheet_refusal room size ≡ none
  no_refusal n e = (right_is (sheet_refusal room size) (count_in (take size room)) n (sym e)).0

-- ---- the rows of n records

rows_part : (n : ℕ) → 12 + 8 * n - 12 ≡ 8 * n
rows_part n = omega arith

pub place_found : (room : List ℕ) (n : ℕ) (h : Head) (r : ℕ) → 12 + 8 * n ≤ length room
    → r ≡ first_place (not_below h (heads (take (12 + 8 * n - 12) (drop 12 room)))) (rows_in (take (12 + 8 * n - 12) (drop 12 room)))
    → r ≡ first_place (not_below h (heads (take (8 * n) (drop 12 room)))) n
unfolding rows_in
place_found room n h r fits e =
    let t = (rows_again room n fits).1 in
    e ∙ (ap (λ (i : ℕ). first_place (not_below h (heads (take i (drop 12 room)))) (rows_in (take i (drop 12 room)))) (rows_part n)
    ∙ ap (first_place (not_below h (heads (take (8 * n) (drop 12 room))))) t)

pub none_at : (room : List ℕ) (n at : ℕ) (h : Head) → n ≤ at → false ≡ (ltb at n && same_key (heads (take (8 * n) (drop 12 room)) at) h)
none_at room n at h p = rw (le-ltb at n p) refl

module _ (room : List ℕ) (n at : ℕ) (a h : Head) (within : at < n) (is : a ≡ heads (take (12 + 8 * n - 12) (drop 12 room)) at) where
  there : a ≡ heads (take (8 * n) (drop 12 room)) at
  there = is ∙ ap (λ (i : ℕ). heads (take i (drop 12 room)) at) (rows_part n)

  pub other_module : a.unit ≢ h.unit → false ≡ (ltb at n && same_key (heads (take (8 * n) (drop 12 room)) at) h)
  other_module apart = rw (lt-ltb at n within, ← there, ne_eqb a.unit h.unit apart) refl

  pub same_module : a.unit ≡ h.unit → eqb a.register h.register ≡ (ltb at n && same_key (heads (take (8 * n) (drop 12 room)) at) h)
  same_module same = rw (lt-ltb at n within, ← there, eq-eqb a.unit h.unit same) refl

module _ (room : List ℕ) (size n k : ℕ) where
  pub start_tail : (r : ℕ) → k < n → r ≡ tails (take (12 + 8 * n - 12) (drop 12 room)) k → r ≡ cond (ltb k n) (tails (take (8 * n) (drop 12 room)) k) (size - (12 + 8 * n))
  start_tail r l e = rw (lt-ltb k n l) (e ∙ ap (λ (i : ℕ). tails (take i (drop 12 room)) k) (rows_part n))

  pub start_end : n ≤ k → size - (12 + 8 * n) ≡ cond (ltb k n) (tails (take (8 * n) (drop 12 room)) k) (size - (12 + 8 * n))
  start_end l = rw (le-ltb k n l) refl

-- ---- a call is that of a right sheet, or refused as the sheet is

module _ (room : List ℕ) (size : ℕ) where
  pub remove_wrong : (index : ℕ) (f : Fault) → sheet_refusal room size ≡ some f → Removes room size index (Err f) room
  unfolding remove_refusal
  remove_wrong index f e = rw e (refl, refl)

  pub remove_right : (index : ℕ) (r : Editing) (room' : List ℕ) → sheet_refusal room size ≡ none → RemovesFrom (held (take size room)) room index r room' → Removes room size index r room'
  unfolding remove_refusal
  remove_right index r room' e p = rw e p

  pub module_wrong : (unit : ℕ) (f : Fault) → sheet_refusal room size ≡ some f → RemovesModule room size unit (Err f) room
  unfolding module_refusal
  module_wrong unit f e = rw e (refl, refl)

  pub module_right : (unit : ℕ) (r : Editing) (room' : List ℕ) → sheet_refusal room size ≡ none → RemovesModuleFrom (held (take size room)) room unit r room'
      → RemovesModule room size unit r room'
  unfolding module_refusal
  module_right unit r room' e p = rw e p

  pub add_wrong : (h : Head) (value : List ℕ) (f : Fault) → sheet_refusal room size ≡ some f → Adds room size h value (Err f) room
  unfolding add_refusal
  add_wrong h value f e = rw e (refl, refl)

  pub add_right : (h : Head) (value : List ℕ) (r : Editing) (room' : List ℕ) → sheet_refusal room size ≡ none
      → AddsTo (held (take size room)) room (setting h value) r room' → Adds room size h value r room'
  unfolding add_refusal
  add_right h value r room' e p = rw e p

-- the row of a new setting, before its offset is known
row_bytes : (h : Head) → record_for h 0 ≡ h.unit ∷ h.register ∷ h.kind ∷ h.count ∷ 0 ∷ 0 ∷ 0 ∷ 0 ∷ []
unfolding record_for bytes_of
row_bytes h = refl

-- ---- a cut

-- what the code knows of a right sheet
abbrev Given : List ℕ → ℕ → ℕ → Type 0
Given room size n = (size ≤ length room) × (check_refusal (take size room) ≡ none) × (n ≡ count_in (take size room))

-- and what it found: where the values of a record begin
abbrev Start : List ℕ → ℕ → ℕ → ℕ → ℕ → Type 0
Start room size n k first = first ≡ cond (ltb k n) (tails (take (8 * n) (drop 12 room)) k) (size - (12 + 8 * n))

module _ (room : List ℕ) (size n : ℕ) (right : Given room size n) where
  s : Stands room size n
  s = stands room size n right.0 right.1 right.2

  pub few : (n ≤ 128) × (12 + 8 * n ≤ size) × (size ≤ length room) × (12 + 8 * n ≤ length room)
  few =
      let r = s.reaches in
      let w = s.within in
      (s.few, r, w, omega (arith, r, w))

  pub start_numbers : (k first : ℕ) → k ≤ n → Start room size n k first → first ≤ size - (12 + 8 * n)
  start_numbers k first within e = rw (start_of room size n s k first within e) (starts_within room size n s k within)

  module _ (from to first last : ℕ) (rise : from ≤ to) (within : to ≤ n) (e : Start room size n from first) (f : Start room size n to last) where
    under : from ≤ n
    under = omega (arith, rise, within)

    pub cut_numbers : (n ≤ 128) × (12 + 8 * n ≤ size) × (size ≤ length room) × (first ≤ last) × (last ≤ size - (12 + 8 * n)) × (from ≤ to) × (to ≤ n)
    cut_numbers = (
      s.few,
      s.reaches,
      s.within,
      rw (start_of room size n s from first under e, start_of room size n s to last within f) (lengths_mono (head_from (rows_of room n)) from to rise),
      start_numbers to last within f,
      rise,
      within,
    )

    pub cut_done : (one two three : List ℕ) → Moves room (12 + 8 * to) (12 + 8 * from) (8 * (n - to) + first) one
        → Moves one (12 + 8 * n + last) (12 + 8 * (n - (to - from)) + first) (size - (12 + 8 * n + last)) two → LaysAgain (n - (to - from)) two three
        → Edits none (cut_out from to (held (take size room))) room (Ok (12 + 8 * (n - (to - from)) + first + (size - (12 + 8 * n + last)))) three
    cut_done one two three p q again =
        let a = start_of room size n s from first under e in
        let b = start_of room size n s to last within f in
        let p' = rw a at p in
        let q' = rw (a, b) at q in
        (rw (a, b) (ap Ok (sym (cut_long room size n s from to rise within one two three p' q' again))), cut_room room size n s from to rise within one two three p' q' again)

  -- ---- a setting put in

  module _ (at first : ℕ) (within : at ≤ n) (e : Start room size n at first) (h : Head) (value : List ℕ) (exact : length value ≡ length_of h)
      (fits : size + (8 + length value) ≤ length room) where
    pub put_numbers : (n ≤ 128) × (12 + 8 * n ≤ size) × (size ≤ length room) × (first ≤ size - (12 + 8 * n)) × (at ≤ n) × (size + (8 + length value) ≤ length room)
    put_numbers = (s.few, s.reaches, s.within, start_numbers at first within e, within, fits)

    pub put_done : (one two three four five : List ℕ)
        → Moves room (12 + 8 * n + first) (12 + 8 * n + first + 8 + length value) (size - (12 + 8 * n + first)) one
        → Moves one (12 + 8 * at) (12 + 8 * at + 8) (12 + 8 * n + first - (12 + 8 * at)) two
        → Lays (h.unit ∷ h.register ∷ h.kind ∷ h.count ∷ 0 ∷ 0 ∷ 0 ∷ 0 ∷ []) (12 + 8 * at) two three
        → Lays value (12 + 8 * n + first + 8) three four → LaysAgain (n + 1) four five
        → Edits none (put_in at (setting h value) (held (take size room))) room (Ok (size + 8 + length value)) five
    put_done one two three four five p q r t again =
        let a = start_of room size n s at first within e in
        let p' = rw a at p in
        let q' = rw a at q in
        let t' = rw a at t in
        let r' = rw (← row_bytes h) at r in (
          ap Ok (sym (put_long room size n s at within h value exact fits one two three four five p' q' r' t' again)),
          put_room room size n s at within h value exact fits one two three four five p' q' r' t' again,
        )

  -- ---- the calls on a right sheet

  pub remove_beyond : (index : ℕ) → n ≤ index → RemovesFrom (held (take size room)) room index (Err NothingThere) room
  remove_beyond index l = let m = s.many in rw (le-leb (length (held (take size room))) index (omega (arith, l, m))) (refl, refl)

  pub remove_one : (index : ℕ) (r : Editing) (room' : List ℕ) → index < n → Edits none (cut_out index (index + 1) (held (take size room))) room r room'
      → RemovesFrom (held (take size room)) room index r room'
  remove_one index r room' l p =
      let m = s.many in
      rw (lt-leb (length (held (take size room))) index (omega (arith, l, m)), without_cut index (held (take size room))) p

  -- a module past the last address has no record
  pub module_beyond : (unit : ℕ) → 160 < unit → RemovesModuleFrom (held (take size room)) room unit (Err NothingThere) room
  unfolding Allowed
  module_beyond unit past =
      let none_there : has_none_of (held (take size room)) unit ≡ true =
      ap not
      (some-none (λ k. eqb (named (held (take size room)) k).unit unit) (length (held (take size room)))
      (λ j l. let a = (s.can.allowed j l).0.1 in ne_eqb (named (held (take size room)) j).unit unit (λ e. absurd (omega (arith, a, e, past))))) in
      rw none_there (refl, refl)

  module _ (unit from to : ℕ) (e : from ≡ first_place (not_below (head unit 0 0 0) (heads (take (8 * n) (drop 12 room)))) n)
      (f : to ≡ first_place (not_below (head (unit + 1) 0 0 0) (heads (take (8 * n) (drop 12 room)))) n) where
    from_is : from ≡ first_of_lem (held (take size room)) s.can.rise unit
    unfolding first_of_lem
    from_is = place_among room size n s (head unit 0 0 0) from e

    to_is : to ≡ first_of_lem (held (take size room)) s.can.rise (unit + 1)
    unfolding first_of_lem
    to_is = place_among room size n s (head (unit + 1) 0 0 0) to f

    pub module_within : to ≤ n
    module_within = let w = first_within (held (take size room)) s.can.rise (unit + 1) in let m = s.many in let t = to_is in omega (arith, w, m, t)

    pub module_absent : to ≤ from → RemovesModuleFrom (held (take size room)) room unit (Err NothingThere) room
    module_absent l =
        let a = from_is in
        let b = to_is in
        let none_there = module_none (held (take size room)) s.can.rise unit (omega (arith, l, a, b)) in
        rw none_there (refl, refl)

    pub module_gone : (r : Editing) (room' : List ℕ) → from < to → Edits none (cut_out from to (held (take size room))) room r room'
        → RemovesModuleFrom (held (take size room)) room unit r room'
    module_gone r room' l p =
        let a = from_is in
        let b = to_is in
        let some_there = module_some (held (take size room)) s.can.rise unit (omega (arith, l, a, b)) in
        rw (some_there, module_cut (held (take size room)) s.can.rise unit, ← a, ← b) p

  module _ (h : Head) (value : List ℕ) where
    pub unfit_head : (t : Bool) → t ≡ is_allowed h → not t ≡ true → AddsTo (held (take size room)) room (setting h value) (Err NotAllowed) room
    unfit_head t e f = rw (← e, f) (refl, refl)

    module _ (t : Bool) (allowed : t ≡ is_allowed h) (so : not t ≡ false) (m : ℕ) (measured : m ≡ length_of h) where
      pub unfit_value : length value ≢ m → AddsTo (held (take size room)) room (setting h value) (Err NotAllowed) room
      unfit_value apart = rw (← allowed, so, ne_eqb (length value) (length_of h) (λ e. apart (e ∙ sym measured))) (refl, refl)

      module _ (exact : length value ≡ m) (at : ℕ) (found : at ≡ first_place (not_below h (heads (take (8 * n) (drop 12 room)))) n) where
        at-is : at ≡ place_of (held (take size room)) s.can.rise (setting h value)
        unfolding place_of
        at-is = place_among room size n s h at found

        pub add_within : at ≤ n
        add_within = let w = place-within (held (take size room)) s.can.rise (setting h value) in let k = s.many in let a = at-is in omega (arith, w, k, a)

        -- whether it is there already
        module _ (there : Bool) (looked : there ≡ (ltb at n && same_key (heads (take (8 * n) (drop 12 room)) at) h)) where
          told : is_there (held (take size room)) (setting h value) ≡ there
          told = there_told (held (take size room)) s.can.rise (setting h value) there (looked ∙ by_place)
            where
              same_there : (b : Bool) → ltb at n ≡ b → (b && same_key (heads (take (8 * n) (drop 12 room)) at) h) ≡ (b && same_key (named (held (take size room)) at) h)
              same_there true l = ap (λ (x : Head). same_key x h) (s.names at (ltb-true at n l))
              same_there false l = refl

              by_place : (ltb at n && same_key (heads (take (8 * n) (drop 12 room)) at) h)
                  ≡ (ltb (place_of (held (take size room)) s.can.rise (setting h value)) (length (held (take size room)))
                  && same_key (named (held (take size room)) (place_of (held (take size room)) s.can.rise (setting h value))) h)
              by_place = rw (← at-is, s.many) (same_there (ltb at n) refl)

          pub already : there ≡ true → AddsTo (held (take size room)) room (setting h value) (Err AlreadyThere) room
          already it_is = rw (← allowed, so, eq-eqb (length value) (length_of h) (exact ∙ measured), told, it_is) (refl, refl)

          module _ (absent : there ≡ false) where
            pub full : 128 ≤ n → AddsTo (held (take size room)) room (setting h value) (Err Full) room
            full most =
                let k = s.many in
                rw (← allowed, so, eq-eqb (length value) (length_of h) (exact ∙ measured), told, absent, le-leb 128 (length (held (take size room))) (omega (arith, k, most)))
                (refl, refl)

            among_is : among (setting h value) (held (take size room)) ≡ put_in at (setting h value) (held (take size room))
            among_is = rw at-is (among_put (held (take size room)) s.can.rise (setting h value) (told ∙ absent))

            then_long : length (sheet_of (among (setting h value) (held (take size room)))) ≡ size + 8 + length value
            then_long =
                let k = s.many in
                let w = add_within in
                let l = stated_long room size n s in
                ap (λ (x : List Setting). length (sheet_of x)) among_is
                ∙ (longer at (setting h value) (held (take size room)) (omega (arith, k, w)) ∙ ap (λ (x : ℕ). x + 8 + length value) l)

            -- with one record more to spare, the room alone decides
            by_room : n < 128 → first_row_of (add_tests room (held (take size room)) (setting h value)) ≡ cond (ltb (length room) (size + 8 + length value)) (some NoRoom) none
            by_room some_left =
                let k = s.many in
                let l = then_long in
                rw (
                  ← allowed,
                  so,
                  eq-eqb (length value) (length_of h) (exact ∙ measured),
                  told,
                  absent,
                  lt-leb 128 (length (held (take size room))) (omega (arith, k, some_left)),
                  l,
                ) refl

            pub no_room : n < 128 → length room - size < 8 + length value → AddsTo (held (take size room)) room (setting h value) (Err NoRoom) room
            no_room some_left short =
                let w = s.within in
                rw (by_room some_left, lt-ltb (length room) (size + 8 + length value) (omega (arith, short, w))) (refl, refl)

            pub added : (r : Editing) (room' : List ℕ) → n < 128 → 8 + length value ≤ length room - size
                → Edits none (put_in at (setting h value) (held (take size room))) room r room' → AddsTo (held (take size room)) room (setting h value) r room'
            added r room' some_left wide p =
                let w = s.within in
                rw (by_room some_left, le-ltb (length room) (size + 8 + length value) (omega (arith, wide, w)), among_is) p

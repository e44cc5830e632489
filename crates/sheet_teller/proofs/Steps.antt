-- What the loop over a sheet's settings needs, and the returns of the calls that tell a sheet.
-- Assumes nothing.
use Rattle.std.specs.Prelude.{Ok, Err, IsErrAnd, MatchResult}
use Rattle.std.proofs.lemmas.Result.{err_from_is_err_and}
use mathlib.Core.Path.{◌≡◌, refl, sym, ap, ap₂, ◌∙◌}
use mathlib.Core.List.{List, [], ◌∷◌, ◌++◌}
use mathlib.Core.Logic.{◌≢◌}
use mathlib.Core.Option.{some, none}
use Prim.Native.Nat.{ℕ, suc, ◌+◌, ◌-◌, ◌*◌, ◌≤◌, ◌<◌}
use native.Mathlib.Nat.{zero-add}
use native.Mathlib.Numerals.{add-one}
use native.Mathlib.Omega.{arith}
use borrow.Author.Tests.{eq-eqb, ne_eqb, lt-leb, le-leb}
use lib.ListN.{length, get_or, take, drop, length-take, length-append, drop_of_length-le}
use lib.Seq.{drop-cons, drop-drop}
use Rattle.rows.proofs.Laws.{clash}
use Rattle.lent.specs.Lent.{over, over_at}
use Rattle.lent.proofs.Laws.{over_at_zero, length-over_at}
use Rattle.setting.specs.declared.Head.{Head}
use Rattle.setting.specs.declared.Fault.{Fault as SheetFault}
use Rattle.setting.specs.Setting.{Setting, setting, length_of, lengths_to, heads}
use Rattle.setting.proofs.Laws.{length_allowed}
use Rattle.setting.proofs.Lists.{head_from, no_lengths, lengths_next, lengths_mono, setting_at}
use Rattle.sheet.specs.Sheet.{count_in, records_in, values_in, held, nothing, check_refusal, Checks}
use Rattle.sheet.specs.Answers.{Checked}
use Rattle.sheet.specs.Promised.{Whole}
use Rattle.sheet.proofs.Right.{heads_are, lengths_are}
use Rattle.sheet.proofs.Written.{held_long}
use Rattle.sheet.proofs.Steps.{right_none, rows_are, checked_refused, right_told}
use Rattle.sheet_teller.specs.Answers.{Telling}
use Rattle.sheet_teller.specs.declared.Order.{Order}
use Rattle.sheet_teller.specs.declared.Form.{Form}
use Rattle.sheet_teller.specs.declared.Form.TheVariants.{Lines, Calls}
use Rattle.sheet_teller.specs.declared.Fault.{Fault}
use Rattle.sheet_teller.specs.declared.Fault.TheVariants.{WrongSheet, NoJob, WrongWait}
use Rattle.text.specs.Text.{Puts}
use Rattle.sheet_teller.specs.Teller.{Shows, Asks, piece_of, pieces_of, show_refusal, ask_refusal}
use Rattle.sheet_teller.proofs.Put.{lay_on, lay_end}

-- ---- one setting of a right sheet

-- its head, its value's first byte and length as the loop has them
pub record Turn (sheet : List ℕ) (n k from size : ℕ) (h : Head) : Type 0 where
  pub within : from + size ≤ length sheet
  pub short : length (take (from + size - from) (drop from sheet)) ≤ 240
  pub next_from : from + size ≡ 12 + 8 * n + lengths_to (heads (records_in sheet)) (k + 1)
  pub holds : drop k (held sheet) ≡ setting h (take (from + size - from) (drop from sheet)) ∷ drop (k + 1) (held sheet)

held_at : (sheet : List ℕ) (k : ℕ) → k < count_in sheet
    → get_or (held sheet) k nothing
    ≡ setting (head_from (records_in sheet) k) (take (length_of (head_from (records_in sheet) k)) (drop (lengths_to (head_from (records_in sheet)) k) (values_in sheet)))
unfolding held
held_at sheet k l = setting_at (count_in sheet) (records_in sheet) (values_in sheet) nothing k l

-- the setting at k, and those behind it
held_next : (sheet : List ℕ) → Whole sheet → (k : ℕ) → k < count_in sheet
    → drop k (held sheet)
    ≡ setting (heads (records_in sheet) k) (take (length_of (heads (records_in sheet) k)) (drop (lengths_to (heads (records_in sheet)) k) (values_in sheet)))
    ∷ drop (k + 1) (held sheet)
held_next sheet w k l =
    rw (add-one k)
    (drop-cons (held sheet) k nothing (rw (held_long sheet) l) ∙ ap (λ (s : Setting). s ∷ drop (suc k) (held sheet)) here)
  where
    here : get_or (held sheet) k nothing
        ≡ setting (heads (records_in sheet) k) (take (length_of (heads (records_in sheet) k)) (drop (lengths_to (heads (records_in sheet)) k) (values_in sheet)))
    here =
        held_at sheet k l
        ∙ ap₂ (λ (h : Head) (m : ℕ). setting h (take (length_of h) (drop m (values_in sheet)))) (heads_are sheet w.header k l)
        (lengths_are sheet w.header k (omega arith))

-- where its value stands in the sheet
value_from : (sheet : List ℕ) (n from m : ℕ) → n ≡ count_in sheet → from ≡ 12 + 8 * n + m → drop m (values_in sheet) ≡ drop from sheet
unfolding values_in
value_from sheet n from m e f = drop-drop m (12 + 8 * count_in sheet) sheet ∙ ap (λ (i : ℕ). drop i sheet) (sym (rw e at f))

pub turn : (sheet : List ℕ) (n k from size : ℕ) (h : Head) → check_refusal sheet ≡ none → n ≡ count_in sheet → k < n
    → from ≡ 12 + 8 * n + lengths_to (heads (records_in sheet)) k → h ≡ heads (take (12 + 8 * n - 12) (drop 12 sheet)) k → size ≡ length_of h → Turn sheet n k from size h
turn sheet n k from size h ok many under start named sized =
    record {
      within = within;
      short = omega (arith, long, length-take (from + size - from) (drop from sheet));
      next_from = on;
      holds = held_next sheet w k l ∙ ap (λ (s : Setting). s ∷ drop (k + 1) (held sheet)) same;
    }
  where
    w : Whole sheet
    w = right_none sheet ok

    l : k < count_in sheet
    l = rw many at under

    is : h ≡ heads (records_in sheet) k
    is = rw (rows_are sheet n many) at named

    measured : size ≡ length_of (heads (records_in sheet) k)
    measured = sized ∙ ap length_of is

    long : size ≤ 240
    long = rw measured (length_allowed (heads (records_in sheet) k) (w.allowed k l))

    on : from + size ≡ 12 + 8 * n + lengths_to (heads (records_in sheet)) (k + 1)
    on = rw (add-one k, lengths_next (heads (records_in sheet)) k, ← measured) (omega (arith, start))

    within : from + size ≤ length sheet
    within =
        let mono : lengths_to (heads (records_in sheet)) (k + 1) ≤ lengths_to (heads (records_in sheet)) (count_in sheet) =
        lengths_mono (heads (records_in sheet)) (k + 1) (count_in sheet) (omega (arith, l)) in
        omega (arith, on, mono, many, w.ends)

    same : setting (heads (records_in sheet) k) (take (length_of (heads (records_in sheet) k)) (drop (lengths_to (heads (records_in sheet)) k) (values_in sheet)))
        ≡ setting h (take (from + size - from) (drop from sheet))
    same =
        let many_bytes : length_of (heads (records_in sheet) k) ≡ from + size - from = omega (arith, measured) in
        ap₂ (λ (m : ℕ) (v : List ℕ). setting (heads (records_in sheet) k) (take m v)) many_bytes (value_from sheet n from (lengths_to (heads (records_in sheet)) k) many start)
        ∙ ap (λ (g : Head). setting g (take (from + size - from) (drop from sheet))) (sym is)

-- ---- the loop: what is laid and what is still to lay is the whole

pieces_next : (form : Form) (s : Setting) (rest : List Setting) → pieces_of form (s ∷ rest) ≡ piece_of form s ++ pieces_of form rest
unfolding pieces_of
pieces_next form s rest = refl

pieces_none : (form : Form) → pieces_of form [] ≡ []
unfolding pieces_of
pieces_none form = refl

-- of n settings, k of which are told
pub record Going (sheet : List ℕ) (n : ℕ) (form : Form) (room₀ room : List ℕ) (from to k : ℕ) : Type 0 where
  pub in_sheet : k ≤ n
  pub from_is : from ≡ 12 + 8 * n + lengths_to (heads (records_in sheet)) k
  pub short : to ≤ 6000 * k
  pub room_long : length room ≡ length room₀
  pub size_is : to + length (pieces_of form (drop k (held sheet))) ≡ length (pieces_of form (held sheet))
  pub room_is : over_at to (pieces_of form (drop k (held sheet))) room ≡ over (pieces_of form (held sheet)) room₀

pub going_starts : (sheet : List ℕ) (n : ℕ) (form : Form) (room : List ℕ) → Going sheet n form room room (12 + 8 * n) 0 0
going_starts sheet n form room =
    record {
      in_sheet = omega arith;
      from_is = omega (arith, no_lengths (heads (records_in sheet)));
      short = omega arith;
      room_long = refl;
      size_is = zero-add (length (pieces_of form (held sheet)));
      room_is = over_at_zero (pieces_of form (held sheet)) room;
    }

module _ {sheet : List ℕ} {n : ℕ} {form : Form} {room₀ room : List ℕ} {from to k : ℕ} (g : Going sheet n form room₀ room from to k) where
  pub going_on : (size to' : ℕ) (h : Head) (room' : List ℕ) → k < n → Turn sheet n k from size h
      → Puts (piece_of form (setting h (take (from + size - from) (drop from sheet)))) to room to' room' × (to' ≤ to + 6000)
      → Going sheet n form room₀ room' (from + size) to' (k + 1)
  going_on size to' h room' under t laid =
      record {
        in_sheet = omega arith;
        from_is = t.next_from;
        short = omega (arith, g.short, laid.1);
        room_long = ap length laid.0.1 ∙ (length-over_at to piece room ∙ g.room_long);
        size_is = omega (arith, g.size_is, laid.0.0, ap length split, length-append piece rest);
        room_is = lay_on piece rest to to' room room' laid.0 (ap (λ (l : List ℕ). over_at to l room) (sym split) ∙ g.room_is);
      }
    where
      piece : List ℕ
      piece = piece_of form (setting h (take (from + size - from) (drop from sheet)))

      rest : List ℕ
      rest = pieces_of form (drop (k + 1) (held sheet))

      split : pieces_of form (drop k (held sheet)) ≡ piece ++ rest
      split = ap (pieces_of form) t.holds ∙ pieces_next form (setting h (take (from + size - from) (drop from sheet))) (drop (k + 1) (held sheet))

  pub going_ends : n ≡ count_in sheet → n ≤ k → (to ≡ length (pieces_of form (held sheet))) × (room ≡ over (pieces_of form (held sheet)) room₀)
  going_ends many all = (omega (arith, g.size_is, ap length none_left), lay_end (pieces_of form (drop k (held sheet))) to room none_left g.room_is)
    where
      none_left : pieces_of form (drop k (held sheet)) ≡ []
      none_left = ap (pieces_of form) (drop_of_length-le (held sheet) {i = k} (omega (arith, held_long sheet, many, all))) ∙ pieces_none form

-- ---- the returns

-- a telling that is the check's answer, its refusal raised
abbrev pub Raised : Checked → Telling → Type 0
Raised answer told = MatchResult answer (λ n. told ≡ Ok n) (λ f. IsErrAnd told (λ g. g ≡ WrongSheet f))

raised_right : (answer : Checked) (told : Telling) → Raised answer told → (n : ℕ) → told ≡ Ok n → answer ≡ Ok n
raised_right (Ok m) told r n e =
    let right : told ≡ Ok m = r in
    let same : m ≡ n = cc in
    ap Ok same
raised_right (Err f) told r n e =
    let p = err_from_is_err_and told r in
    let wrong : told ≡ Err p.0 = p.1 in
    clash (cc)

raised_wrong : (answer : Checked) (told : Telling) → Raised answer told → (g : Fault) → told ≡ Err g → (f : SheetFault) × (answer ≡ Err f) × (g ≡ WrongSheet f)
raised_wrong (Ok m) told r g e = let right : told ≡ Ok m = r in clash (cc)
raised_wrong (Err f) told r g e =
    let p = err_from_is_err_and told r in
    let wrong : told ≡ Err p.0 = p.1 in
    let same : g ≡ p.0 = cc in
    (f, refl, same ∙ p.2)

-- what the check tells of the sheet
module _ (sheet : List ℕ) {answer : Checked} (p : Checks sheet answer) where
  told_wrong : (f : SheetFault) → answer ≡ Err f → check_refusal sheet ≡ some f
  told_wrong f e = checked_refused (check_refusal sheet) (count_in sheet) f (sym e ∙ p)

  told_right : (n : ℕ) → answer ≡ Ok n → (check_refusal sheet ≡ none) × (n ≡ count_in sheet)
  told_right n e = right_told (check_refusal sheet) (count_in sheet) n (sym e ∙ p)

  module _ {told : Telling} (r : Raised answer told) where
    pub still_right : (n : ℕ) → told ≡ Ok n → (check_refusal sheet ≡ none) × (n ≡ count_in sheet)
    still_right n e = told_right n (raised_right answer told r n e)

    pub still_wrong : (g : Fault) → told ≡ Err g → (f : SheetFault) × (check_refusal sheet ≡ some f) × (g ≡ WrongSheet f)
    still_wrong g e = let w = raised_wrong answer told r g e in (w.0, told_wrong w.0 w.1, w.2)

module _ (sheet room : List ℕ) where
  pub show_wrong : (f : SheetFault) → check_refusal sheet ≡ some f → Shows sheet room (Err (WrongSheet f)) room
  unfolding show_refusal
  show_wrong f e = rw e (refl, refl)

  pub show_told : (r : ℕ) (room' : List ℕ) → check_refusal sheet ≡ none
      → (r ≡ length (pieces_of Lines (held sheet))) × (room' ≡ over (pieces_of Lines (held sheet)) room) → Shows sheet room (Ok r) room'
  unfolding show_refusal
  show_told r room' e p = rw e (ap Ok p.0, p.1)

  module _ (order : Order) where
    pub ask_wrong : (f : SheetFault) → check_refusal sheet ≡ some f → Asks sheet order room (Err (WrongSheet f)) room
    unfolding ask_refusal
    ask_wrong f e = rw e (refl, refl)

    pub ask_no_job : check_refusal sheet ≡ none → order.job ≡ 0 → Asks sheet order room (Err NoJob) room
    unfolding ask_refusal
    ask_no_job e z = rw (e, eq-eqb order.job 0 z) (refl, refl)

    pub ask_no_wait : check_refusal sheet ≡ none → order.job ≢ 0 → order.wait < 1 → Asks sheet order room (Err WrongWait) room
    unfolding ask_refusal
    ask_no_wait e z l = rw (e, ne_eqb order.job 0 z, lt-leb 1 order.wait l) (refl, refl)

    pub ask_long_wait : check_refusal sheet ≡ none → order.job ≢ 0 → 1 ≤ order.wait → 60000 < order.wait → Asks sheet order room (Err WrongWait) room
    unfolding ask_refusal
    ask_long_wait e z l m = rw (e, ne_eqb order.job 0 z, le-leb 1 order.wait l, lt-leb order.wait 60000 m) (refl, refl)

    pub ask_told_lem : (r : ℕ) (room' : List ℕ) → check_refusal sheet ≡ none → order.job ≢ 0 → 1 ≤ order.wait → order.wait ≤ 60000
        → (r ≡ length (pieces_of (Calls order) (held sheet))) × (room' ≡ over (pieces_of (Calls order) (held sheet)) room) → Asks sheet order room (Ok r) room'
    unfolding ask_refusal
    ask_told_lem r room' e z l m p = rw (e, ne_eqb order.job 0 z, le-leb 1 order.wait l, le-leb order.wait 60000 m) (ap Ok p.0, p.1)

-- What each return of a step by value asks, over receivers and bytes.
-- Assumes nothing.
use Rattle.std.specs.Prelude.{Ok, Err, Some, None}
use mathlib.Core.Path.{◌≡◌, refl, sym, ap, ◌∙◌}
use mathlib.Core.Bool.{Bool, true, false, cond}
use mathlib.Core.List.{List}
use mathlib.Core.Option.{Option, some, none}
use Prim.Native.Nat.{ℕ, ◌+◌, ◌≤◌, ◌<◌}
use native.Mathlib.Omega.{arith}
use borrow.Author.Tests.{le-ltb, ltb-true, ltb-false, eq-eqb, ne_eqb}
use lib.Dec.{ltb, eqb}
use lib.ListN.{length}
use Rattle.rows.proofs.Laws.{clash}
use Rattle.lines.specs.declared.Event.{Event}
use Rattle.lines.specs.declared.Placed.{Placed}
use Rattle.receiver.specs.Receiver.{is_past, step_from, step_of, Steps, stepped as ran}
use Rattle.receiver.specs.Receiver.{step_refusal as place_refusal}
use Rattle.receiver.specs.Answers.{Answer as Ended}
use Rattle.receiver.specs.declared.Fault.{Fault as Unplaced}
use Rattle.receiver.specs.declared.Fault.TheVariants.{PastLargest}
use Rattle.receiver.specs.declared.Receiver.{Receiver}
use Rattle.receiver.specs.declared.Stepped.{Stepped as Ran}
use Rattle.tally.specs.declared.Counted.{Counted}
use Rattle.tally.specs.declared.Fault.{Fault}
use Rattle.tally.specs.declared.Fault.TheVariants.{TallyFull, NotPlaced}
use Rattle.tally.specs.declared.Tally.{Tally}
use Rattle.tally.specs.Tally.{most, number_for, is_full, full_at, step_refusal, stepped_by, tally_by, Counts, placed_at, counted, done_with, line_counted, refused_by}
use Rattle.tally.proofs.Ahead.{never_refused, full_anywhere}

-- ---- a number that is full

pub full_at_most : (n : ℕ) → n ≤ most → eqb n most ≡ ltb most (n + 1)
full_at_most n h = go (ltb most (n + 1)) refl
  where
    go : (t : Bool) → ltb most (n + 1) ≡ t → eqb n most ≡ t
    go true e = let l : most < n + 1 = ltb-true most (n + 1) e in eq-eqb n most (omega arith)
    go false e = let l : n + 1 ≤ most = ltb-false most (n + 1) e in ne_eqb n most (λ w. absurd (omega arith))

pub room_for : (event : Event) (tally : Tally) → is_full event tally ≡ false → (n : ℕ) → number_for event tally ≡ n → n + 1 ≤ most
room_for event tally e n is = let l : number_for event tally + 1 ≤ most = ltb-false most (number_for event tally + 1) e in rw (← is) l

-- ---- the receiver's own refusal

pub not_past : (r : Receiver) (chunk : List ℕ) → is_past r.place chunk ≡ false → step_of r chunk ≡ step_from r chunk
unfolding step_of place_refusal
not_past r chunk e = rw e refl

pub is_past_lem : (r : Receiver) (chunk : List ℕ) → is_past r.place chunk ≡ true → step_of r chunk ≡ ran r 0 (Err PastLargest)
unfolding step_of place_refusal
is_past_lem r chunk e = rw e refl

module _ (tally : Tally) (r : Receiver) (chunk : List ℕ) where
  pub refusal_is : (full past : Bool) → full_at (step_from r chunk).answer tally ≡ full → is_past r.place chunk ≡ past
      → step_refusal tally r chunk ≡ cond full (some TallyFull) (cond past (some (NotPlaced PastLargest)) none)
  unfolding step_refusal
  refusal_is full past e f = rw (e, f) refl

  -- a step's outcome by its refusal
  counts_by : (c : Counted) (o : Option Fault) → step_refusal tally r chunk ≡ o → c ≡ counted (tally_by o tally r chunk) (stepped_by o r chunk) → Counts tally r chunk c
  counts_by c o e is = rw e (ap (λ (c : Counted). c.stepped) is, ap (λ (c : Counted). c.tally) is)

  -- a step that the receiver does, and one that it refuses
  module _ (s : Ran) (steps : Steps r chunk s) where
    done_by : (a : Ended) → s.answer ≡ a → ((f : Unplaced) → a ≡ Err f → ⊥) → (is_past r.place chunk ≡ false) × (s ≡ step_from r chunk)
    done_by a e n = go (is_past r.place chunk) refl
      where
        go : (t : Bool) → is_past r.place chunk ≡ t → (is_past r.place chunk ≡ false) × (s ≡ step_from r chunk)
        go true p = absurd (n PastLargest (sym e ∙ ap (λ (s : Ran). s.answer) (steps ∙ is_past_lem r chunk p)))
        go false p = (p, steps ∙ not_past r chunk p)

    refused_past : (f : Unplaced) → s.answer ≡ Err f → (is_past r.place chunk ≡ true) × (f ≡ PastLargest)
    refused_past f e = go (is_past r.place chunk) refl
      where
        only : (f : Unplaced) → f ≡ PastLargest
        only PastLargest = refl

        go : (t : Bool) → is_past r.place chunk ≡ t → (is_past r.place chunk ≡ true) × (f ≡ PastLargest)
        go true p = (p, only f)
        go false p = absurd (never_refused r chunk f (sym (ap (λ (s : Ran). s.answer) (steps ∙ not_past r chunk p)) ∙ e))

    pub counts_nothing : s.answer ≡ Ok None → (c : Counted) → c ≡ done_with tally s (Ok None) → Counts tally r chunk c
    unfolding stepped_by tally_by
    counts_nothing e c is =
        let d = done_by (Ok None) e (λ f w. clash (cc)) in
        let a : (step_from r chunk).answer ≡ (Ok None) = sym (ap (λ (s : Ran). s.answer) d.1) ∙ e in
        counts_by c none (refusal_is false false (rw a refl) d.0) (is ∙ rw (d.1, a) refl)

    pub counts_line : (line : Placed) → s.answer ≡ Ok (Some line) → (c : Counted) → c ≡ line_counted tally r s line → Counts tally r chunk c
    unfolding stepped_by tally_by
    counts_line line e c is = go (is_full line.event tally) refl
      where
        d : (is_past r.place chunk ≡ false) × (s ≡ step_from r chunk)
        d = done_by (Ok (Some line)) e (λ f w. clash (cc))

        a : (step_from r chunk).answer ≡ Ok (Some line)
        a = sym (ap (λ (s : Ran). s.answer) d.1) ∙ e

        go : (t : Bool) → is_full line.event tally ≡ t → Counts tally r chunk c
        go true t = counts_by c (some TallyFull) (refusal_is true false (rw a t) d.0) (is ∙ rw t refl)
        go false t = counts_by c none (refusal_is false false (rw a t) d.0) (is ∙ rw (t, d.1, a) refl)

    pub counts_refused : (f : Unplaced) → s.answer ≡ Err f → length chunk ≤ 18446744073709551615 → (ahead : Ran) → Steps (placed_at r 0) chunk ahead
        → (c : Counted) → c ≡ refused_by tally r ahead.answer f → Counts tally r chunk c
    unfolding stepped_by tally_by
    counts_refused f e short ahead steps₀ c is = go (full_at (step_from r chunk).answer tally) refl
      where
        d : (is_past r.place chunk ≡ true) × (f ≡ PastLargest)
        d = refused_past f e

        same : full_at ahead.answer tally ≡ full_at (step_from r chunk).answer tally
        same = ap (λ (s : Ran). full_at s.answer tally) (steps₀ ∙ not_past (placed_at r 0) chunk (le-ltb 18446744073709551615 (0 + length chunk) (omega arith))) ∙ full_anywhere tally r 0 chunk

        go : (t : Bool) → full_at (step_from r chunk).answer tally ≡ t → Counts tally r chunk c
        go true t = counts_by c (some TallyFull) (refusal_is true true t d.0) (is ∙ rw (same ∙ t) refl)
        go false t = counts_by c (some (NotPlaced PastLargest)) (refusal_is false true t d.0) (is ∙ rw (same ∙ t, d.1) refl)

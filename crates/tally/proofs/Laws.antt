-- What is promised of the line tally, each law under the sentence that it keeps.
-- Assumes nothing.
use Rattle.std.specs.Prelude.{Ok, Err, Some, None}
use mathlib.Core.Path.{◌≡◌, refl, sym, ap, ap₂, ◌∙◌}
use mathlib.Core.Bool.{Bool, true, false, true≢false}
use mathlib.Core.List.{List, [], ◌∷◌}
use mathlib.Core.Logic.{inl, inr, ⊎_elim, ◌↔◌}
use mathlib.Core.Option.{Option, some, none}
use Prim.Native.Nat.{ℕ, ◌+◌, ◌≤◌, ◌<◌}
use native.Mathlib.Nat.{add-zero}
use native.Mathlib.Omega.{arith}
use borrow.Author.Tests.{ltb-true, ltb-false}
use lib.ListN.{length}
use Rattle.rows.specs.Rows.{Ranked, Numbered, row, passed_up, raised}
use Rattle.rows.specs.Settled.{Settled}
use Rattle.rows.proofs.Laws.{Decides, ranked, ◌otherwise◌, numbered, clash, told_true, told_false}
use Rattle.rows.proofs.Settled.{settled, settled_with}
use Rattle.lines.specs.declared.Event.{Event}
use Rattle.lines.specs.declared.Event.TheVariants as event
use Rattle.lines.specs.declared.Placed.{Placed}
use Rattle.listing.specs.Events.{total, is_ok, is_refused, is_dropped}
use Rattle.listing.proofs.Events.{one_total}
use Rattle.receiver.specs.Receiver.{CarriesPast, is_past, step_from, Steps}
use Rattle.receiver.specs.Answers.{Answer as Ended}
use Rattle.receiver.specs.declared.Receiver.{Receiver}
use Rattle.receiver.specs.declared.Stepped.{Stepped as Ran}
use Rattle.receiver.proofs.Laws.{tests_right}
use Rattle.tally.specs.declared.Counted.{Counted}
use Rattle.tally.specs.declared.Fault.{Fault}
use Rattle.tally.specs.declared.Fault.TheVariants.{TallyFull}
use Rattle.tally.specs.declared.Stepped.{Stepped}
use Rattle.tally.specs.declared.Tally.{Tally}
use Rattle.tally.specs.Tally.{number_for, most, IsTallyFull, step_rows, full_at, step_tests, step_refusal, fault_number, told, stepped, stepped_by, with_line, with_end, tally_by, step_told, counted}
use Rattle.tally.specs.Tally.{Clears, Numbers, CountsWhere, Counts}
use Rattle.tally.specs.Count.{passed_on, line_told, Adds}
use Rattle.tally.proofs.Ahead.{never_refused}
use Rattle.tally.proofs.Returns.{not_past, is_past_lem, refusal_is}

-- ---- "76 a tally number would pass 4294967295, ahead of everything, 60 too"

-- the number of what a step ends with
abbrev number_at : Ended → Tally → ℕ
number_at (Ok (Some line)) t = number_for line.event t
number_at (Ok None) t = 0
number_at (Err f) t = 0

pub decides_full : (t : Tally) (r : Receiver) (chunk : List ℕ) → Decides (full_at (step_from r chunk).answer t) (IsTallyFull t r chunk)
unfolding IsTallyFull
decides_full t r chunk = go (step_from r chunk).answer refl
  where
    go : (a : Ended) → (step_from r chunk).answer ≡ a → Decides (full_at a t) ((line : Placed) × ((step_from r chunk).answer ≡ Ok (Some line)) × (most < number_for line.event t + 1))
    go (Ok (Some line)) e =
        record {
          so = λ f. (line, e, ltb-true most (number_for line.event t + 1) f);
          not_so = λ f full.
              let l : number_for line.event t + 1 ≤ most = ltb-false most (number_for line.event t + 1) f in
              let same : number_for line.event t ≡ number_for full.0.event t = ap (λ (a : Ended). number_at a t) (sym e ∙ full.1) in
              let over : most < number_for full.0.event t + 1 = full.2 in
              omega arith;
        }
    go (Ok None) e = record { so = λ f. absurd (true≢false (sym f)); not_so = λ f full. let line : (Ok None) ≡ Ok (Some full.0) = sym e ∙ full.1 in clash (cc) }
    go (Err g) e = record { so = λ f. absurd (true≢false (sym f)); not_so = λ f full. never_refused r chunk g e }

pub step_ranked : (t : Tally) (r : Receiver) (chunk : List ℕ) → Ranked (step_rows t r chunk) (step_refusal t r chunk)
unfolding step_rows step_refusal
step_ranked t r chunk = ranked (step_tests t r chunk) (step_rows t r chunk) (decides_full t r chunk otherwise λ n₇₆. tests_right r chunk refl otherwise λ n₆₀. tt)

-- a step that is done tells no number
no_number : (r : Receiver) (chunk : List ℕ) → step_told (told (step_from r chunk).answer) ≡ none
no_number r chunk = go (step_from r chunk).answer refl
  where
    go : (a : Ended) → (step_from r chunk).answer ≡ a → step_told (told a) ≡ none
    go (Ok (Some line)) e = refl
    go (Ok None) e = refl
    go (Err f) e = absurd (never_refused r chunk f e)

tells : (r : Receiver) (chunk : List ℕ) (o : Option Fault) → step_told (stepped_by o r chunk).answer ≡ raised fault_number o
unfolding stepped_by
tells r chunk (some f) = refl
tells r chunk none = no_number r chunk

-- "only 60 and 76 refuse a step": each exactly where its condition holds and no earlier one does, and none exactly where neither holds
pub step_exactly : (t : Tally) (r : Receiver) (chunk : List ℕ) {s : Stepped} {t' : Tally} → CountsWhere t r chunk s t'
    → Numbered (passed_up fault_number (step_rows t r chunk)) (76 ∷ 60 ∷ []) (step_told s.answer)
unfolding step_rows
step_exactly t r chunk c =
    numbered fault_number (step_rows t r chunk) (step_refusal t r chunk) (step_ranked t r chunk) (76 ∷ 60 ∷ []) refl refl _
    (ap (λ (s : Stepped). step_told s.answer) c.0 ∙ tells r chunk (step_refusal t r chunk))

-- the rows written out, each with its number: the line that the bytes would end, wherever they lie
pub step_plainly : (t : Tally) (r : Receiver) (chunk : List ℕ) {s : Stepped} {t' : Tally} → CountsWhere t r chunk s t'
    → Numbered
    (row ((line : Placed) × ((step_from r chunk).answer ≡ Ok (Some line)) × (4294967295 < number_for line.event t + 1)) 76
    ∷ row (18446744073709551615 < r.place + length chunk) 60 ∷ [])
    (76 ∷ 60 ∷ []) (step_told s.answer)
unfolding step_rows IsTallyFull CarriesPast
step_plainly t r chunk c = step_exactly t r chunk c

-- so 76 exactly where the tally is full, 60 exactly where the place is past the largest and the tally is not full, and none exactly where neither is
module _ (t : Tally) (r : Receiver) (chunk : List ℕ) {s : Stepped} {t' : Tally} (c : CountsWhere t r chunk s t') where
  pub told_76 : (step_told s.answer ≡ some 76) ↔ IsTallyFull t r chunk
  unfolding step_rows
  told_76 =
      let n = step_exactly t r chunk c in
      ((λ e. ⊎_elim (λ a. a.0) (λ a. ⊎_elim (λ b. let z : 76 ≡ 60 = b.1 in absurd (omega arith)) (λ b. absurd b.1) a.1) ((n.each 76).0 e)), (λ full. (n.each 76).1 (inl (full, refl))))

  pub told_60 : (step_told s.answer ≡ some 60) ↔ (CarriesPast r chunk × (IsTallyFull t r chunk → ⊥))
  unfolding step_rows
  told_60 =
      let n = step_exactly t r chunk c in (
        (λ e. ⊎_elim (λ a. let z : 60 ≡ 76 = a.1 in absurd (omega arith)) (λ a. ⊎_elim (λ b. (b.0, a.0)) (λ b. absurd b.1) a.1) ((n.each 60).0 e)),
        (λ p. (n.each 60).1 (inr (p.1, inl (p.0, refl)))),
      )

  pub told_none : (step_told s.answer ≡ none) ↔ ((IsTallyFull t r chunk → ⊥) × (CarriesPast r chunk → ⊥))
  unfolding step_rows
  told_none = let n = step_exactly t r chunk c in ((λ e. let no = n.done.0 e in (no.0, no.1.0)), (λ p. n.done.1 (p.0, (p.1, tt))))

-- the same of a step with the tally by value
pub count_exactly : (t : Tally) (r : Receiver) (chunk : List ℕ) {c : Counted} → Counts t r chunk c
    → Numbered (passed_up fault_number (step_rows t r chunk)) (76 ∷ 60 ∷ []) (step_told c.stepped.answer)
count_exactly t r chunk p = step_exactly t r chunk p

-- the number that each kind of line is counted in; an open frame's in none
pub number_for_lem : (t : Tally) → ((f : _) → number_for (event.Read f) t ≡ t.read) × ((f : _) → number_for (event.Refused f) t ≡ t.refused) × (number_for event.Dropped t ≡ t.dropped) × (number_for event.Open t ≡ 0)
number_for_lem t = ((λ f. refl), (λ f. refl), refl, refl)

-- ---- "and leave the tally as it was", "the step isn't done"

full_first : (t : Tally) (r : Receiver) (chunk : List ℕ) → IsTallyFull t r chunk → step_refusal t r chunk ≡ some TallyFull
full_first t r chunk full = refusal_is t r chunk true (is_past r.place chunk) (told_true (decides_full t r chunk) full) refl

-- 76, whatever the place
pub full_undone : (t : Tally) (r : Receiver) (chunk : List ℕ) {s : Stepped} {t' : Tally} → CountsWhere t r chunk s t' → IsTallyFull t r chunk
    → (s ≡ stepped r 0 (Err TallyFull)) × (t' ≡ t)
unfolding stepped_by tally_by
full_undone t r chunk c full =
    let first = full_first t r chunk full in
    (c.0 ∙ ap (λ (o : Option Fault). stepped_by o r chunk) first, c.1 ∙ ap (λ (o : Option Fault). tally_by o t r chunk) first)

-- whatever refuses
pub refusal_keeps : (t : Tally) (r : Receiver) (chunk : List ℕ) (s : Stepped) (t' : Tally) (f : Fault) → CountsWhere t r chunk s t' → s.answer ≡ Err f
    → (t' ≡ t) × (s.receiver ≡ r) × (s.taken ≡ 0)
unfolding stepped_by tally_by
refusal_keeps t r chunk s t' f c refused = by (step_refusal t r chunk) c.0 c.1
  where
    by : (o : Option Fault) → s ≡ stepped_by o r chunk → t' ≡ tally_by o t r chunk → (t' ≡ t) × (s.receiver ≡ r) × (s.taken ≡ 0)
    by (some g) p q = (q, ap (λ (s : Stepped). s.receiver) p, ap (λ (s : Stepped). s.taken) p)
    by none p q =
        let silent : step_told s.answer ≡ none = ap (λ (s : Stepped). step_told s.answer) p ∙ no_number r chunk in
        let number : step_told s.answer ≡ some (fault_number f) = ap step_told refused in
        clash (cc)

-- ---- but for 76 a step is the receiver's own, and where the receiver refuses it that refusal is passed up

pub receivers_own : (t : Tally) (r : Receiver) (chunk : List ℕ) {s : Stepped} {t' : Tally} {ran : Ran} → (IsTallyFull t r chunk → ⊥)
    → CountsWhere t r chunk s t' → Steps r chunk ran → s ≡ passed_on ran
unfolding stepped_by
receivers_own t r chunk {s} {ran = ran} n c steps = go (is_past r.place chunk) refl
  where
    full : full_at (step_from r chunk).answer t ≡ false
    full = told_false (decides_full t r chunk) n

    go : (past : Bool) → is_past r.place chunk ≡ past → s ≡ passed_on ran
    go true p = c.0 ∙ rw (refusal_is t r chunk false true full p, steps, is_past_lem r chunk p) refl
    go false p = c.0 ∙ rw (refusal_is t r chunk false false full p, steps, not_past r chunk p) refl

-- ---- a step without a line changes no tally number and is never 76

pub no_line_no_76 : (t : Tally) (r : Receiver) (chunk : List ℕ) → (step_from r chunk).answer ≡ Ok None → IsTallyFull t r chunk → ⊥
unfolding IsTallyFull
no_line_no_76 t r chunk e full = let line : (Ok None) ≡ Ok (Some full.0) = sym e ∙ full.1 in clash (cc)

-- ---- each number is the one before, and one more exactly where the step's line is of its kind

adds_none : (t : Tally) → Adds t [] t
unfolding total
adds_none t = (sym (add-zero t.read), sym (add-zero t.refused), sym (add-zero t.dropped))

adds_line : (line : Placed) (t : Tally) → Adds t (line ∷ []) (with_line line.event t)
unfolding total
adds_line line t = go line.event
  where
    go : (e : Event)
        → ((with_line e t).read ≡ t.read + (is_ok e + 0)) × ((with_line e t).refused ≡ t.refused + (is_refused e + 0)) × ((with_line e t).dropped ≡ t.dropped + (is_dropped e + 0))
    go (event.Read f) = (refl, omega arith, omega arith)
    go (event.Refused f) = (omega arith, refl, omega arith)
    go event.Dropped = (omega arith, omega arith, refl)
    go event.Open = (omega arith, omega arith, omega arith)

pub step_adds : (t : Tally) (r : Receiver) (chunk : List ℕ) {s : Stepped} {t' : Tally} → CountsWhere t r chunk s t' → Adds t (line_told s.answer) t'
unfolding stepped_by tally_by
step_adds t r chunk {s} {t'} c = by (step_refusal t r chunk) c.0 c.1
  where
    ends : (a : Ended) → Adds t (line_told (told a)) (with_end a t)
    ends (Ok (Some line)) = adds_line line t
    ends (Ok None) = adds_none t
    ends (Err f) = adds_none t

    by : (o : Option Fault) → s ≡ stepped_by o r chunk → t' ≡ tally_by o t r chunk → Adds t (line_told s.answer) t'
    by (some f) p q = rw (p, q) (adds_none t)
    by none p q = rw (p, q) (ends (step_from r chunk).answer)

-- said out: of a step that told a line
pub line_counted_lem : (t : Tally) (r : Receiver) (chunk : List ℕ) {s : Stepped} {t' : Tally} (line : Placed) → CountsWhere t r chunk s t' → s.answer ≡ Ok (Some line)
    → (t'.read ≡ t.read + is_ok line.event) × (t'.refused ≡ t.refused + is_refused line.event) × (t'.dropped ≡ t.dropped + is_dropped line.event)
line_counted_lem t r chunk {s} {t'} line c told_Line = (on is_ok t.read added.0, on is_refused t.refused added.1, on is_dropped t.dropped added.2)
  where
    added : Adds t (line ∷ []) t'
    added = rw (ap line_told told_Line) at (step_adds t r chunk c)

    on : (counts : Event → ℕ) (m : ℕ) {n : ℕ} → n ≡ m + total counts (line ∷ []) → n ≡ m + counts line.event
    on counts m e = e ∙ ap (λ (k : ℕ). m + k) (one_total counts line)

-- a step that tells no line keeps the tally
pub silent_keeps : (t : Tally) (r : Receiver) (chunk : List ℕ) {s : Stepped} {t' : Tally} → CountsWhere t r chunk s t' → s.answer ≡ Ok None → t' ≡ t
unfolding stepped_by tally_by
silent_keeps t r chunk {s} {t'} c silent = by (step_refusal t r chunk) c.0 c.1
  where
    ends : (a : Ended) → told a ≡ Ok None → with_end a t ≡ t
    ends (Ok (Some line)) e = clash (cc)
    ends (Ok None) e = refl
    ends (Err f) e = refl

    by : (o : Option Fault) → s ≡ stepped_by o r chunk → t' ≡ tally_by o t r chunk → t' ≡ t
    by (some f) p q = q
    by none p q = q ∙ ends (step_from r chunk).answer (sym (ap (λ (s : Stepped). s.answer) p) ∙ silent)

-- ---- "Show that any two outcomes allowed by it are equal."

-- a cleared tally has counted nothing
pub clears_plainly : {t : Tally} → Clears t → (t.read ≡ 0) × (t.refused ≡ 0) × (t.dropped ≡ 0)
clears_plainly c = rw c (refl, refl, refl)

pub clears_settled : Settled Clears
clears_settled = settled _

-- the call `number` gives the number that the laws tell
pub number_is : (f : Fault) (r : ℕ) → Numbers f r → r ≡ fault_number f
number_is f r p = p

pub numbers_settled : (fault : Fault) → Settled (Numbers fault)
numbers_settled fault = settled _

pub counts_where_settled : (t : Tally) (r : Receiver) (chunk : List ℕ) → Settled {A = Stepped × Tally} (λ o. CountsWhere t r chunk o.0 o.1)
counts_where_settled t r chunk = settled_with _ _

pub counts_settled : (t : Tally) (r : Receiver) (chunk : List ℕ) → Settled (Counts t r chunk)
counts_settled t r chunk =
    record {
      outcome = counted (tally_by (step_refusal t r chunk) t r chunk) (stepped_by (step_refusal t r chunk) r chunk);
      is_allowed_lem = (refl, refl);
      only = λ other p. ap₂ counted p.1 p.0;
    }

-- What the C capture host may count on at each step, whatever receiver, tally and chunk it hands over.
-- Assumes nothing.
use Rattle.std.specs.Prelude.{Ok, Err, Some, None}
use mathlib.Core.Path.{◌≡◌, refl, sym, ap, ◌∙◌, subst}
use mathlib.Core.Bool.{Bool, true, false, cond}
use mathlib.Core.List.{List, [], ◌∷◌, ◌++◌}
use mathlib.Core.Logic.{◌≢◌}
use mathlib.Core.Option.{Option, some, none}
use Prim.Native.Nat.{ℕ, ◌+◌, ◌≤◌, ◌<◌}
use native.Mathlib.Nat.{add-zero}
use native.Mathlib.Omega.{arith}
use lib.Dec.{eqb, ltb}
use lib.ListN.{length}
use Rattle.rows.specs.Rows.{row, passed_up, raised, Numbered}
use Rattle.rows.proofs.Laws.{numbered}
use Rattle.telegram.specs.Read.{read_frame}
use Rattle.telegram.specs.Read as telegram
use Rattle.telegram.specs.declared.Fault.{Fault as Unreadable}
use Rattle.telegram.specs.declared.Fields.{Fields}
use Rattle.telegram.specs.declared.Fault.TheVariants.{LongMessage}
use Rattle.telegram.specs.Answers.{Reading}
use Rattle.lines.specs.declared.Event.{Event}
use Rattle.lines.specs.declared.Event.TheVariants as event
use Rattle.lines.specs.declared.Placed.{Placed}
use Rattle.listing.specs.Events.{placed, read_event, frame_event, is_ok, is_refused, is_dropped}
use Rattle.receiver.specs.Receiver.{CarriesPast, is_inside, ran_away, kept, closing, next, end_or, step_from, Steps}
use Rattle.receiver.specs.Receiver as receiver
use Rattle.receiver.specs.declared.Receiver.{Receiver}
use Rattle.receiver.specs.declared.Fault.TheVariants.{PastLargest}
use Rattle.receiver.specs.Answers.{Answer as Ended}
use Rattle.receiver.specs.declared.Stepped.{Stepped as Ran}
use Rattle.receiver.proofs.Goes.{step_goes, step_takes}
use Rattle.tally.specs.Tally.{IsTallyFull, number_for, fault_number, step_rows, step_refusal, stepped_by, tally_by, with_end}
use Rattle.tally.specs.Tally as tally
use Rattle.tally.specs.Count.{passed_on, step_with, tally_with}
use Rattle.tally.specs.Answers.{Answer}
use Rattle.tally.specs.declared.Fault.{Fault}
use Rattle.tally.specs.declared.Fault.TheVariants.{TallyFull, NotPlaced}
use Rattle.tally.specs.declared.Tally.{Tally}
use Rattle.tally.proofs.Laws.{step_ranked, line_counted_lem, silent_keeps, refusal_keeps, receivers_own}
use Rattle.kamzhor.specs.Host.{GivesStep, told, line_kind, one_if, no_line, answer_given, step_given}
use Rattle.kamzhor.specs.declared.StepAnswer.{StepAnswer}

-- ---- a step that goes on is not refused on its way, and its line's frame was read, refused or dropped

abbrev Plain : Ended → Type 0
Plain (Ok None) = Unit {0}
Plain (Err f) = ⊥
Plain (Ok (Some e)) = line_kind e.event ≤ 3

plain_long : (long : Bool) (e : Event) → line_kind e ≤ 3 → line_kind (cond long (event.Refused LongMessage) e) ≤ 3
plain_long true e h = omega arith
plain_long false e h = h

plain_read : (q : Reading) → line_kind (read_event q) ≤ 3
plain_read (Ok t) = omega arith
plain_read (Err f) = omega arith

plain_closed : (r : Receiver) → line_kind (closing r) ≤ 3
unfolding closing frame_event
plain_closed r =
    let frame : List ℕ = kept r ++ (10 ∷ []) in
    plain_long (ran_away r) (frame_event frame) (plain_long (ltb 494 (length frame)) (read_event (read_frame frame 240)) (plain_read (read_frame frame 240)))

plain_told : (r : Receiver) (b : ℕ) → Plain (receiver.told r b)
unfolding receiver.told
plain_told r b = go (is_inside r) (eqb b 13) (eqb b 10)
  where
    go : (inside start end : Bool)
        → Plain (cond inside (cond start (Ok (Some (placed r.start event.Dropped))) (cond end (Ok (Some (placed r.start (closing r)))) (Ok None))) (Ok None))
    go false start end = tt
    go true true end = omega arith
    go true false true = plain_closed r
    go true false false = tt

plain_end : (a : Ended) (r : Receiver) (later : Ran) → Plain a → Plain later.answer → Plain (end_or a r later).answer
plain_end (Ok (Some e)) r later p q = p
plain_end (Ok None) r later p q = q
plain_end (Err f) r later p q = absurd p

plain_step : (r : Receiver) (chunk : List ℕ) → Plain (step_from r chunk).answer
unfolding step_from
plain_step r [] = tt
plain_step r (b ∷ rest) = plain_end (receiver.told r b) (next r b) (step_from (next r b) rest) (plain_told r b) (plain_step (next r b) rest)

plain_line : (r : Receiver) (taken : ℕ) (a : Ended) → Plain a → ((answer_given r taken (tally.told a)).refusal ≡ 0) × ((answer_given r taken (tally.told a)).line ≤ 3)
plain_line r taken (Ok None) p = (refl, omega arith)
plain_line r taken (Err f) p = absurd p
plain_line r taken (Ok (Some e)) p = (refl, p)

plain_given : (r : Receiver) (chunk : List ℕ) → ((step_given (passed_on (step_from r chunk))).refusal ≡ 0) × ((step_given (passed_on (step_from r chunk))).line ≤ 3)
plain_given r chunk = let s = step_from r chunk in plain_line s.receiver s.taken s.answer (plain_step r chunk)

-- how much was taken, and the receiver, are told as they are
as_they_are : (r : Receiver) (taken : ℕ) (a : Answer) → ((answer_given r taken a).taken ≡ taken) × ((answer_given r taken a).receiver ≡ r)
as_they_are r taken (Ok None) = (refl, refl)
as_they_are r taken (Err f) = (refl, refl)
as_they_are r taken (Ok (Some e)) = (refl, refl)

-- what holds of a refused step and the tally as it was, and of one that is done and the tally with its line, holds of every step
each_step : (P : StepAnswer → Tally → Type 0) (r : Receiver) (t : Tally) (chunk : List ℕ) → ((f : Fault) → P (no_line r 0 (fault_number f)) t)
    → P (step_given (passed_on (step_from r chunk))) (with_end (step_from r chunk).answer t)
    → {a : StepAnswer} {t' : Tally} → GivesStep r t chunk a t' → P a t'
unfolding stepped_by tally_by
each_step P r t chunk refused done {a} {t'} g = subst (P a) (sym g.1) (subst (λ (x : StepAnswer). P x (tally_by (step_refusal t r chunk) t r chunk)) (sym g.0) (by (step_refusal t r chunk)))
  where
    by : (o : Option Fault) → P (step_given (stepped_by o r chunk)) (tally_by o t r chunk)
    by (some f) = refused f
    by none = done

-- ---- the laws

-- 76 ahead of 60, each exactly then: the rows of a step, by their numbers
pub step_exactly : (r : Receiver) (t : Tally) (chunk : List ℕ) {a : StepAnswer} {t' : Tally} → GivesStep r t chunk a t'
    → Numbered (passed_up fault_number (step_rows t r chunk)) (76 ∷ 60 ∷ []) (told a.refusal)
unfolding step_rows stepped_by
step_exactly r t chunk gives =
    numbered fault_number (step_rows t r chunk) (step_refusal t r chunk) (step_ranked t r chunk) (76 ∷ 60 ∷ []) refl refl _
    (ap (λ (a : StepAnswer). told a.refusal) gives.0 ∙ by (step_refusal t r chunk))
  where
    by : (o : Option Fault) → told (step_given (stepped_by o r chunk)).refusal ≡ raised fault_number o
    by (some TallyFull) = refl
    by (some (NotPlaced PastLargest)) = refl
    by none = ap told (plain_given r chunk).0

-- the rows written out: the line that the bytes would end, wherever they lie, and where its number is full
pub step_plainly : (r : Receiver) (t : Tally) (chunk : List ℕ) {a : StepAnswer} {t' : Tally} → GivesStep r t chunk a t'
    → Numbered
    (row ((line : Placed) × ((step_from r chunk).answer ≡ Ok (Some line)) × (4294967295 < number_for line.event t + 1)) 76
    ∷ row (18446744073709551615 < r.place + length chunk) 60 ∷ [])
    (76 ∷ 60 ∷ []) (told a.refusal)
unfolding step_rows IsTallyFull CarriesPast
step_plainly r t chunk gives = step_exactly r t chunk gives

-- no line, or one of three kinds
pub step_line : (r : Receiver) (t : Tally) (chunk : List ℕ) {a : StepAnswer} {t' : Tally} → GivesStep r t chunk a t' → a.line ≤ 3
step_line r t chunk = each_step (λ a t'. a.line ≤ 3) r t chunk (λ f. omega arith) (plain_given r chunk).1

-- "the step isn't done", "none of it is taken": the number only, the receiver and the tally as before
pub step_refused : (r : Receiver) (t : Tally) (chunk : List ℕ) {a : StepAnswer} {t' : Tally} → GivesStep r t chunk a t' → a.refusal ≢ 0
    → (a
    ≡ record {
      refusal = a.refusal;
      line = 0;
      taken = 0;
      place = 0;
      frame = record { refusal = 0; destination = 0; source = 0; sort = 0; register = 0; size = 0; place = 0 };
      receiver = r;
    })
    × (t' ≡ t)
step_refused r t chunk =
    each_step (λ a t'. a.refusal ≢ 0 → (a ≡ no_line r 0 a.refusal) × (t' ≡ t)) r t chunk (λ f n. (refl, refl)) (λ n. absurd (n (plain_given r chunk).0))

-- no more is taken than was lent, and the place goes on by so much
pub step_within : (r : Receiver) (t : Tally) (chunk : List ℕ) {a : StepAnswer} {t' : Tally} → GivesStep r t chunk a t'
    → (a.taken ≤ length chunk) × (a.receiver.place ≡ r.place + a.taken)
step_within r t chunk =
    let s = passed_on (step_from r chunk) in
    let same = as_they_are s.receiver s.taken s.answer in
    each_step (λ a t'. (a.taken ≤ length chunk) × (a.receiver.place ≡ r.place + a.taken)) r t chunk (λ f. (omega arith, sym (add-zero r.place)))
    (rw (same.0, same.1) (step_goes r chunk))

-- so a host's loop over a chunk comes to its end
pub step_moves : (r : Receiver) (t : Tally) (chunk : List ℕ) {a : StepAnswer} {t' : Tally} → GivesStep r t chunk a t' → 0 < length chunk → a.refusal ≡ 0
    → 0 < a.taken
step_moves r t chunk g any =
    let s = passed_on (step_from r chunk) in
    each_step (λ a t'. a.refusal ≡ 0 → 0 < a.taken) r t chunk never (λ e. rw (as_they_are s.receiver s.taken s.answer).0 (step_takes r chunk any)) g
  where
    never : (f : Fault) → fault_number f ≡ 0 → 0 < 0
    never TallyFull e = absurd (omega arith)
    never (NotPlaced PastLargest) e = absurd (omega arith)

-- but for 76 it is the receiver's own step, 60 too, told in numbers
pub step_own : (r : Receiver) (t : Tally) (chunk : List ℕ) {a : StepAnswer} {t' : Tally} {ran : Ran} → (IsTallyFull t r chunk → ⊥) → GivesStep r t chunk a t'
    → Steps r chunk ran → a ≡ step_given (passed_on ran)
step_own r t chunk n g steps = g.0 ∙ ap step_given (receivers_own t r chunk {s = step_with t r chunk} {t' = tally_with t r chunk} n (refl, refl) steps)

-- ---- "each number equal to the count of such lines": one more in the number of the line that is told, and no other is changed

abbrev CountsLine : ℕ → Tally → Tally → Type 0
CountsLine line t t' = (t'.read ≡ t.read + one_if line 1) × (t'.refused ≡ t.refused + one_if line 2) × (t'.dropped ≡ t.dropped + one_if line 3)

counts_none : (t : Tally) → CountsLine 0 t t
counts_none t = (sym (add-zero t.read), sym (add-zero t.refused), sym (add-zero t.dropped))

counts_event : (e : Event) (t : Tally) → CountsLine (line_kind e) t (tally.with_line e t)
counts_event (event.Read f) t = (refl, sym (add-zero t.refused), sym (add-zero t.dropped))
counts_event (event.Refused f) t = (sym (add-zero t.read), refl, sym (add-zero t.dropped))
counts_event event.Dropped t = (sym (add-zero t.read), sym (add-zero t.refused), refl)
counts_event event.Open t = counts_none t

counts_end : (r : Receiver) (taken : ℕ) (a : Ended) (t : Tally) → CountsLine (answer_given r taken (tally.told a)).line t (with_end a t)
counts_end r taken (Ok None) t = counts_none t
counts_end r taken (Err f) t = counts_none t
counts_end r taken (Ok (Some e)) t = counts_event e.event t

pub step_counts : (r : Receiver) (t : Tally) (chunk : List ℕ) {a : StepAnswer} {t' : Tally} → GivesStep r t chunk a t'
    → (t'.read ≡ t.read + one_if a.line 1) × (t'.refused ≡ t.refused + one_if a.line 2) × (t'.dropped ≡ t.dropped + one_if a.line 3)
step_counts r t chunk =
    let s = step_from r chunk in
    each_step (λ a t'. CountsLine a.line t t') r t chunk (λ f. counts_none t) (counts_end s.receiver s.taken s.answer t)

-- ---- what each answer says: nothing, a telegram, a refused frame, a dropped one, or a refusal; and the tally's numbers with it

module _ (r : Receiver) (t : Tally) (chunk : List ℕ) {a : StepAnswer} {t' : Tally} (gives : GivesStep r t chunk a t') where
  given : {what : Answer} → (step_with t r chunk).answer ≡ what → a ≡ answer_given (step_with t r chunk).receiver (step_with t r chunk).taken what
  given e = gives.0 ∙ ap (answer_given (step_with t r chunk).receiver (step_with t r chunk).taken) e

  pub line_none : (step_with t r chunk).answer ≡ Ok None → (a.refusal ≡ 0) × (a.line ≡ 0) × (a.place ≡ 0)
      × (a.frame ≡ record { refusal = 0; destination = 0; source = 0; sort = 0; register = 0; size = 0; place = 0 })
  line_none e = rw (given e) (refl, refl, refl, refl)

  pub line_read : (place : ℕ) (f : Fields) → (step_with t r chunk).answer ≡ Ok (Some (placed place (event.Read f))) → (a.refusal ≡ 0) × (a.line ≡ 1) × (a.place ≡ place)
      × (a.frame ≡ record { refusal = 0; destination = f.destination; source = f.source; sort = f.sort; register = f.register; size = f.size; place = 0 })
  line_read place f e = rw (given e) (refl, refl, refl, refl)

  pub line_refused : (place : ℕ) (f : Unreadable) → (step_with t r chunk).answer ≡ Ok (Some (placed place (event.Refused f)))
      → (a.refusal ≡ 0) × (a.line ≡ 2) × (a.place ≡ place)
      × (a.frame ≡ record { refusal = telegram.fault_number f; destination = 0; source = 0; sort = 0; register = 0; size = 0; place = telegram.fault_place f })
  line_refused place f e = rw (given e) (refl, refl, refl, refl)

  pub line_dropped : (place : ℕ) → (step_with t r chunk).answer ≡ Ok (Some (placed place event.Dropped))
      → (a.refusal ≡ 0) × (a.line ≡ 3) × (a.place ≡ place)
      × (a.frame ≡ record { refusal = 0; destination = 0; source = 0; sort = 0; register = 0; size = 0; place = 0 })
  line_dropped place e = rw (given e) (refl, refl, refl, refl)

  -- the tally with each
  pub none_keeps : (step_with t r chunk).answer ≡ Ok None → t' ≡ t
  none_keeps e = silent_keeps t r chunk {s = step_with t r chunk} (refl, gives.1) e

  pub refused_keeps : (f : Fault) → (step_with t r chunk).answer ≡ Err f → (a.refusal ≡ fault_number f) × (t' ≡ t) × (a.receiver ≡ r) × (a.taken ≡ 0)
  refused_keeps f e =
      let keeps = refusal_keeps t r chunk (step_with t r chunk) t' f (refl, gives.1) e in
      let is = given e in (
        ap (λ (a : StepAnswer). a.refusal) is,
        keeps.0,
        ap (λ (a : StepAnswer). a.receiver) is ∙ keeps.1,
        ap (λ (a : StepAnswer). a.taken) is ∙ keeps.2,
      )

  pub line_adds : (line : Placed) → (step_with t r chunk).answer ≡ Ok (Some line)
      → (t'.read ≡ t.read + is_ok line.event) × (t'.refused ≡ t.refused + is_refused line.event) × (t'.dropped ≡ t.dropped + is_dropped line.event)
  line_adds line e = line_counted_lem t r chunk {s = step_with t r chunk} line (refl, gives.1) e

-- how much was taken, and the receiver behind it, are told as they are
pub step_told_whole : (r : Receiver) (t : Tally) (chunk : List ℕ) {a : StepAnswer} {t' : Tally} → GivesStep r t chunk a t'
    → (a.taken ≡ (step_with t r chunk).taken) × (a.receiver ≡ (step_with t r chunk).receiver)
step_told_whole r t chunk g =
    let s = step_with t r chunk in
    rw g.0 (as_they_are s.receiver s.taken s.answer)

pub step_receiver : (r : Receiver) (t : Tally) (chunk : List ℕ) {a : StepAnswer} {t' : Tally} {ran : Ran} → (IsTallyFull t r chunk → ⊥) → GivesStep r t chunk a t'
    → Steps r chunk ran → (a.taken ≡ ran.taken) × (a.receiver ≡ ran.receiver)
step_receiver r t chunk {ran = ran} n g steps = rw (step_own r t chunk n g steps) (as_they_are ran.receiver ran.taken (tally.told ran.answer))

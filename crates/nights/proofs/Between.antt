-- One address, one ticket, and one folder, one job, over any calls from a fresh desk: what lies between two openings.
-- Assumes nothing.
use mathlib.Core.Path.{◌≡◌, refl, sym, ap, subst, ◌∙◌}
use mathlib.Core.Bool.{Bool, true, false, cond}
use mathlib.Core.List.{List, [], ◌∷◌, ◌++◌}
use mathlib.Core.Logic.{◌≢◌, ◌⊎◌, ◌↔◌, inl, inr, ⊎_elim}
use mathlib.Core.Option.{none, some}
use Prim.Native.Nat.{ℕ}
use borrow.Author.Tests.{eq-eqb, eqb-true}
use lib.Dec.{eqb}
use Rattle.request.specs.Request.{ask_refusal}
use Rattle.request.specs.declared.Request.{Request}
use Rattle.ticket.specs.declared.Ticket.{Ticket}
use Rattle.desk.proofs.Folder.{held_on, held_exactly}
use Rattle.desk.specs.Desk.{fresh_desk, ticket_on}
use Rattle.desk.specs.Open.{open_told, Opens}
use Rattle.desk.specs.declared.AfterOpen.{AfterOpen}
use Rattle.desk.specs.declared.Desk.{Desk}
use Rattle.nights.proofs.Laws.{any_night, night_on, step, open_last}
use Rattle.nights.proofs.Plainly.{Within, among_plainly}
use Rattle.nights.specs.Between.{Closes, ClosedIn}
use Rattle.nights.specs.Night.{Call, Event, after, event_of, after_all, answered_all, Last, last_on, MayBeGiven, Right, kept, Kept, Night}
use Rattle.nights.specs.Night.{opened, booked, withdrawn, nothing, stands, answered, given_up}
use Rattle.nights.specs.Round.{Among}

-- ---- a ticket stands until it is closed

module _ (a : ℕ) (asked : Request) (clock : ℕ) where
  by_event : (past : List Event) → last_on past a ≡ stands asked clock → (e : Event) → Right (e ∷ past) → Closes a e ⊎ (last_on (e ∷ past) a ≡ stands asked clock)
  unfolding Right last_on
  by_event past is nothing right = inr is
  by_event past is (opened address other at) right = go (eqb a address) refl
    where
      go : (s : Bool) → eqb a address ≡ s → ⊥ ⊎ (cond s (stands other at) (last_on past a) ≡ stands asked clock)
      go true e = absurd (subst (λ (l : Last). MayBeGiven l at) (ap (last_on past) (sym (eqb-true a address e)) ∙ is) right.0)
      go false e = inr is
  by_event past is (booked job address source sort register folder) right = go (eqb a address) refl
    where
      go : (s : Bool) → eqb a address ≡ s → (address ≡ a) ⊎ (cond s answered (last_on past a) ≡ stands asked clock)
      go true e = inl (sym (eqb-true a address e))
      go false e = inr is
  by_event past is (withdrawn job address folder at) right = go (eqb a address) refl
    where
      go : (s : Bool) → eqb a address ≡ s → (address ≡ a) ⊎ (cond s (given_up at) (last_on past a) ≡ stands asked clock)
      go true e = inl (sym (eqb-true a address e))
      go false e = inr is

  closed_or_stands : (calls : List Call) (desk : Desk) (past : List Event) → Night desk past → last_on past a ≡ stands asked clock
      → ClosedIn desk calls a ⊎ (last_on (answered_all desk past calls) a ≡ stands asked clock)
  unfolding Among answered_all
  closed_or_stands [] desk past n is = inr is
  closed_or_stands (c ∷ cs) desk past n is =
      ⊎_elim (λ here. inl (inl here))
      (λ still.
      ⊎_elim (λ later. inl (inr later)) (λ end. inr end)
      (closed_or_stands cs (after desk c) (event_of desk c ∷ past) (step desk past n c) still))
      (by_event past is (event_of desk c) (step desk past n c).right)

-- ---- an opening, any calls, and another opening

module _ (before : List Call) (first : Call) (between : List Call) (second : Call) (a b : ℕ) (asked theirs : Request) (clock clock' : ℕ)
    (gave : event_of (after_all fresh_desk before) first ≡ opened a asked clock)
    (gives : event_of (after_all (after (after_all fresh_desk before) first) between) second ≡ opened b theirs clock') where
  abbrev desk_then : Desk
  desk_then = after (after_all fresh_desk before) first

  past_then : List Event
  past_then = event_of (after_all fresh_desk before) first ∷ answered_all fresh_desk [] before

  night_then : Night desk_then past_then
  unfolding past_then
  night_then = step (after_all fresh_desk before) (answered_all fresh_desk [] before) (any_night before) first

  stood : last_on past_then a ≡ stands asked clock
  unfolding past_then last_on
  stood = rw (gave, eq-eqb a a refl)

  right_now : Right (opened b theirs clock' ∷ answered_all desk_then past_then between)
  right_now =
      subst (λ (e : Event). Right (e ∷ answered_all desk_then past_then between)) gives
      (step (after_all desk_then between) (answered_all desk_then past_then between) (night_on between desk_then past_then night_then) second).right

  closed_or : ClosedIn desk_then between a ⊎ (last_on (answered_all desk_then past_then between) a ≡ stands asked clock)
  closed_or = closed_or_stands a asked clock between desk_then past_then night_then stood

  -- "both had used the same host address": between two openings that give one address its ticket was closed
  pub closed_before_again : a ≡ b → ClosedIn (after (after_all fresh_desk before) first) between a
  unfolding Right
  closed_before_again same =
      ⊎_elim (λ closed. closed)
      (λ still. absurd (subst (λ (l : Last). MayBeGiven l clock') (ap (last_on (answered_all desk_then past_then between)) (sym same) ∙ still) right_now.0)) closed_or

  -- "two jobs were handed the same folder": between an opening of a job on a folder and one of another job on it that ticket was closed
  pub closed_before_other : asked.folder ≢ 0 → theirs.folder ≡ asked.folder → theirs.job ≢ asked.job
      → ClosedIn (after (after_all fresh_desk before) first) between a
  unfolding Right
  closed_before_other used same other =
      ⊎_elim (λ closed. closed)
      (λ still. absurd (right_now.1 a asked clock still (λ e. other (sym e)) (λ e. used (sym same ∙ e)) (sym same))) closed_or

-- ---- after any calls

-- "No two open tickets of different jobs may hold the same folder other than 0, from a fresh desk on and after any calls."
pub folders_apart : (calls : List Call) (a b : ℕ) → (ticket_on (after_all fresh_desk calls) a).live ≡ true → (ticket_on (after_all fresh_desk calls) b).live ≡ true
    → (ticket_on (after_all fresh_desk calls) a).asked.job ≢ (ticket_on (after_all fresh_desk calls) b).asked.job
    → (ticket_on (after_all fresh_desk calls) a).asked.folder ≢ 0
    → (ticket_on (after_all fresh_desk calls) a).asked.folder ≡ (ticket_on (after_all fresh_desk calls) b).asked.folder → ⊥
folders_apart calls = (any_night calls).apart

-- 75 exactly where 10 to 14 do not apply and a ticket that stands, by what the callers saw, is another job's on that folder
pub held_then : (calls : List Call) (asked : Request) (bytes : List ℕ) (clock : ℕ) (room : List ℕ) (r : AfterOpen) (room' : List ℕ)
    → Opens (after_all fresh_desk calls) asked bytes clock room r room'
    → (open_told r.answer ≡ some 75)
    ↔ ((ask_refusal asked bytes ≡ none)
    × (asked.folder ≢ 0)
    × ((address : ℕ)
    × (theirs : Request)
    × (opening : ℕ)
    × (last_on (answered_all fresh_desk [] calls) address ≡ stands theirs opening)
    × (theirs.folder ≡ asked.folder)
    × (theirs.job ≢ asked.job)))
unfolding Kept
held_then calls asked bytes clock room r room' opens =
    let desk : Desk = after_all fresh_desk calls in
    let past : List Event = answered_all fresh_desk [] calls in
    let night = any_night calls in
    let exactly = held_exactly (after_all fresh_desk calls) asked bytes clock room r room' opens in
    let on = held_on (after_all fresh_desk calls) asked night.sound.places in (
      λ e.
          let p = exactly.0 e in
          let h = on.0 p.1 in
          let address = h.1.0 in
          let s = open_last (last_on past address) (ap (λ (t : Ticket). t.live) (sym (night.kept address)) ∙ h.1.1) in
          let is : ticket_on desk address ≡ kept (stands s.0 s.1) = night.kept address ∙ ap kept s.2 in
          (p.0, h.0, (address, s.0, s.1, s.2, sym (ap (λ (t : Ticket). t.asked.folder) is) ∙ h.1.2, λ e. h.1.3 (ap (λ (t : Ticket). t.asked.job) is ∙ e))),
      λ p.
          let address = p.2.0 in
          let is : ticket_on desk address ≡ kept (stands p.2.1 p.2.2) = night.kept address ∙ ap kept p.2.3 in
          exactly.1 (
            p.0,
            on.1 (
              p.1,
              (address, ap (λ (t : Ticket). t.live) is, ap (λ (t : Ticket). t.asked.folder) is ∙ p.2.4, λ e. p.2.5 (sym (ap (λ (t : Ticket). t.asked.job) is) ∙ e)),
            ),
          ),
    )

-- ---- what `Closes` says, said out

pub closes_plainly : (a job address source sort register folder clock : ℕ) (asked : Request)
    → (Closes a (opened address asked clock) → ⊥)
    × (Closes a (booked job address source sort register folder) ↔ (address ≡ a))
    × (Closes a (withdrawn job address folder clock) ↔ (address ≡ a))
    × (Closes a nothing → ⊥)
closes_plainly a job address source sort register folder clock asked = (λ e. e, (λ e. e, λ e. e), (λ e. e, λ e. e), λ e. e)

module _ (a : ℕ) where
  abbrev SawClosed : Event → Type 0
  SawClosed e = ((job : ℕ) × (source : ℕ) × (sort : ℕ) × (register : ℕ) × (folder : ℕ) × (e ≡ booked job a source sort register folder))
      ⊎ ((job : ℕ) × (folder : ℕ) × (clock : ℕ) × (e ≡ withdrawn job a folder clock))

  closes_saw : (e : Event) → Closes a e → SawClosed e
  closes_saw (opened address asked clock) c = absurd c
  closes_saw (booked job address source sort register folder) c =
      inl (job, source, sort, register, folder, ap (λ (x : ℕ). booked job x source sort register folder) c)
  closes_saw (withdrawn job address folder clock) c = inr (job, folder, clock, ap (λ (x : ℕ). withdrawn job x folder clock) c)
  closes_saw nothing c = absurd c

  saw_closes : (e : Event) → SawClosed e → Closes a e
  saw_closes e s =
      ⊎_elim (λ b. subst (Closes a) (sym b.5) refl) (λ w. subst (Closes a) (sym w.3) refl) s

  -- among the calls there is one, on the desk that those before it left, by which its caller was answered that very address, with a reply or as
  -- given up
  pub closed_in_plainly : (desk : Desk) (calls : List Call)
      → ClosedIn desk calls a
      ↔ ((before : List Call)
      × (call : Call)
      × (later : List Call)
      × (calls ≡ before ++ (call ∷ later))
      × (((job : ℕ) × (source : ℕ) × (sort : ℕ) × (register : ℕ) × (folder : ℕ) × (event_of (after_all desk before) call ≡ booked job a source sort register folder))
      ⊎ ((job : ℕ) × (folder : ℕ) × (clock : ℕ) × (event_of (after_all desk before) call ≡ withdrawn job a folder clock))))
  closed_in_plainly desk calls =
      let plainly = among_plainly (λ d c. Closes a (event_of d c)) calls desk in (
        λ closed.
            let q = plainly.0 closed in
            (q.0, q.1, q.2.later, q.2.parted, closes_saw (event_of (after_all desk q.0) q.1) q.3),
        λ p. plainly.1 (p.0, p.1, record { later = p.2; parted = p.3 }, saw_closes (event_of (after_all desk p.0) p.1) p.4),
      )

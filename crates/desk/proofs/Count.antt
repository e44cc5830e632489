-- What is promised of the count: 02, #108, "How far did it look".
-- Assumes nothing.
use Rattle.desk.specs.Answers.{opening}
use Rattle.std.specs.Prelude.{Err}
use mathlib.Core.Path.{◌≡◌, refl, sym, ◌∙◌}
use mathlib.Core.Bool.{Bool, true, false}
use mathlib.Core.List.{List, [], ◌∷◌}
use mathlib.Core.Logic.{◌⊎◌}
use mathlib.Core.Option.{Option, some, none}
use Prim.Native.Nat.{ℕ, zero, suc, ◌+◌, ◌%◌, ◌≤◌, ◌<◌}
use native.Mathlib.Decide.{dec_lt}
use native.Mathlib.Omega.{arith}
use borrow.Author.Tests.{eq-eqb, ne_eqb, leb-false, ltb-true}
use lib.Dec.{leb, ltb}
use lib.ListN.{length}
use Rattle.request.specs.Request.{ask_refusal}
use Rattle.request.specs.Request.{fault_number as ask_number}
use Rattle.request.specs.declared.Fault.{Fault as Asked}
use Rattle.request.specs.declared.Fault.TheVariants as asked
use Rattle.request.specs.declared.Request.{Request}
use Rattle.rows.specs.Rows.{first_row_of, or_later, raised, test}
use Rattle.telegram.specs.Write.{telegram_for}
use Rattle.ticket.proofs.Laws.{decides_free}
use Rattle.ticket.specs.Due.{age}
use Rattle.desk.proofs.Answers.{open_refused_lem}
use Rattle.desk.proofs.Laws.{on_host, opened_fit, fit_to_open}
use Rattle.desk.proofs.Ranking.{search_ended, search_passed}
use Rattle.desk.specs.Desk.{ticket_at, ticket_on}
use Rattle.desk.specs.Folder.{is_folder_held}
use Rattle.desk.specs.Open.{place_from, distance_of, given_place, request_at, open_refusal, open_answer, open_told, open_count, Opens}
use Rattle.desk.specs.Outcome.{steps_up, Considered}
use Rattle.desk.specs.declared.Desk.{Desk}
use Rattle.desk.specs.declared.Fault.{Fault}
use Rattle.desk.specs.declared.Fault.TheVariants.{Denied, FolderHeld, NoneFree, NoRoom}
use Rattle.desk.specs.declared.AfterOpen.{AfterOpen}

never : {A : Type 0} → ◌≡◌ {A = ℕ} 0 1 → A
never z = absurd (omega arith)

-- ---- "those from the turn up to and including the one given"

-- going up from the turn, after 255 from 161 on, comes to the places that the search looks at
pub steps_up_lem : (k turn : ℕ) → turn < 95 → steps_up k (161 + turn) ≡ 161 + (turn + k) % 95
unfolding steps_up
steps_up_lem zero turn h = omega arith
steps_up_lem (suc k) turn h = elim (dec_lt ((turn + k) % 95) 94) [
  | yes low ↦ rw (steps_up_lem k turn h, ne_eqb (161 + (turn + k) % 95) 255 (λ e. omega arith)) (omega arith)
  | no high ↦ rw (steps_up_lem k turn h, eq-eqb (161 + (turn + k) % 95) 255 (omega arith)) (omega arith)
]

-- what the search comes to
found : (desk : Desk) (clock : ℕ) → desk.turn < 95 → distance_of desk clock < 95
    → Considered desk clock (161 + given_place desk clock) (distance_of desk clock + 1)
unfolding given_place
found desk clock turn near =
    let place : ℕ = place_from desk.turn (distance_of desk clock) in
    record {
      steps = distance_of desk clock;
      counted = refl;
      at_most = omega arith;
      last = sym (steps_up_lem (distance_of desk clock) desk.turn turn);
      free = rw (on_host desk place) ((decides_free clock (ticket_at desk place)).so ((search_ended desk clock).there near));
      passed = λ k h. rw (steps_up_lem k desk.turn turn, on_host desk (place_from desk.turn k)) (search_passed desk clock k h);
    }

-- ---- what refuses an opening, by whether what is asked may be sent, whether its folder is held, whether no address is free and whether the
-- room is short

abbrev pub refusal_of : Option Asked → Bool → Bool → Bool → Option Fault
refusal_of o held far short = or_later (raised Denied o) (first_row_of (test held FolderHeld ∷ test far NoneFree ∷ test short NoRoom ∷ []))

lacks_room : (o : Option Asked) (held far short : Bool) → refusal_of o held far short ≡ some NoRoom → (far ≡ false) × (short ≡ true)
lacks_room (some f) held far short e = never (cc)
lacks_room none true far short e = never (cc)
lacks_room none false true short e = never (cc)
lacks_room none false false true e = (refl, refl)
lacks_room none false false false e = never (cc)

pub no_more_than_14 : (f : Asked) → ask_number f ≤ 14
no_more_than_14 asked.NoJob = omega arith
no_more_than_14 asked.NotAModule = omega arith
no_more_than_14 asked.NotARequest = omega arith
no_more_than_14 asked.WrongData = omega arith
no_more_than_14 asked.WrongWait = omega arith

counts : (o : Option Asked) (held far short : Bool) (address length distance n : ℕ)
    → open_told (open_answer (refusal_of o held far short) address length) ≡ some n
    → (n ≤ 14 → open_count (refusal_of o held far short) distance ≡ 0)
    × (n ≡ 15 → open_count (refusal_of o held far short) distance ≡ 95)
    × (n ≡ 16 → open_count (refusal_of o held far short) distance ≡ distance + 1)
    × (n ≡ 75 → open_count (refusal_of o held far short) distance ≡ 0)
counts (some f) held far short address length distance n e =
    let is : ask_number f ≡ n = cc in
    (λ h. refl, λ h. absurd (omega (arith, is, no_more_than_14 f)), λ h. absurd (omega (arith, is, no_more_than_14 f)), λ h. refl)
counts none true far short address length distance n e =
    let is : 75 ≡ n = cc in
    (λ h. absurd (omega arith), λ h. absurd (omega arith), λ h. absurd (omega arith), λ h. refl)
counts none false true short address length distance n e =
    let is : 15 ≡ n = cc in
    (λ h. absurd (omega arith), λ h. refl, λ h. absurd (omega arith), λ h. absurd (omega arith))
counts none false false true address length distance n e =
    let is : 16 ≡ n = cc in
    (λ h. absurd (omega arith), λ h. absurd (omega arith), λ h. refl, λ h. absurd (omega arith))
counts none false false false address length distance n e = never (cc)

-- ---- of what opening answers, by its contract

module _ (desk : Desk) (asked : Request) (bytes : List ℕ) (clock : ℕ) (room : List ℕ) (r : AfterOpen) (room' : List ℕ)
    (opens : Opens desk asked bytes clock room r room') where
  -- "the count equals the definition's distance from the turn to the address given", and one for that address itself
  pub opened_count : (address n : ℕ) → r.answer ≡ opening address n → r.count ≡ distance_of desk clock + 1
  opened_count address n e = opens.3 ∙ rw (opened_fit desk asked bytes clock room r room' opens address n e).0

  pub opened_considered : (address n : ℕ) → desk.turn < 95 → r.answer ≡ opening address n → Considered desk clock address r.count
  opened_considered address n turn e =
      let fit = opened_fit desk asked bytes clock room r room' opens address n e in
      rw (fit.1, opened_count address n e) (found desk clock turn (fit_to_open desk asked bytes clock (length room) fit.0).1)

  -- "95 with 15, 0 with 10 to 14", and 0 with 75: by the number that is told
  pub refused_count_lem : (n : ℕ) → open_told r.answer ≡ some n
      → (n ≤ 14 → r.count ≡ 0) × (n ≡ 15 → r.count ≡ 95) × (n ≡ 16 → r.count ≡ distance_of desk clock + 1) × (n ≡ 75 → r.count ≡ 0)
  unfolding open_refusal
  refused_count_lem n e =
      let told =
      counts (ask_refusal asked bytes) (is_folder_held desk asked) (leb 95 (distance_of desk clock)) (ltb (length room) (length (request_at (given_place desk clock) asked bytes)))
      (161 + given_place desk clock) (length (request_at (given_place desk clock) asked bytes)) (distance_of desk clock) n (rw opens.0 at e) in
      (λ h. opens.3 ∙ told.0 h, λ h. opens.3 ∙ told.1 h, λ h. opens.3 ∙ told.2 h, λ h. opens.3 ∙ told.3 h)

  -- "and with 16 the count up to the address that would have been given": the one whose telegram does not fit
  pub no_room_considered : desk.turn < 95 → r.answer ≡ Err NoRoom
      → (address : ℕ)
      × Considered desk clock address r.count
      × (length room < length (telegram_for asked.unit address asked.sort asked.register bytes))
  unfolding open_refusal
  no_room_considered turn e =
      let refused = open_refused_lem (open_refusal desk asked bytes clock (length room)) _ _ NoRoom (sym e ∙ opens.0) in
      let lacks =
      lacks_room (ask_refusal asked bytes) (is_folder_held desk asked) (leb 95 (distance_of desk clock)) (ltb (length room) (length (request_at (given_place desk clock) asked bytes))) refused in
      let count : r.count ≡ distance_of desk clock + 1 = opens.3 ∙ rw refused in
      (161 + given_place desk clock, rw count (found desk clock turn (leb-false _ _ lacks.0)), ltb-true _ _ lacks.1)

-- the address that would have been given is the one that is given with more room
pub same_with_room : (desk : Desk) (asked : Request) (bytes : List ℕ) (clock : ℕ) (room more : List ℕ) (r s : AfterOpen) (room' more' : List ℕ)
    → Opens desk asked bytes clock room r room' → Opens desk asked bytes clock more s more'
    → (address n : ℕ) → r.answer ≡ Err NoRoom → s.answer ≡ opening address n → r.count ≡ s.count
same_with_room desk asked bytes clock room more r s room' more' short wide address n e f =
    let refused = open_refused_lem (open_refusal desk asked bytes clock (length room)) _ _ NoRoom (sym e ∙ short.0) in
    short.3 ∙ rw refused (sym (opened_count desk asked bytes clock more s more' wide address n f))

-- ---- what `Considered` says, said out

pub considered_plainly : {desk : Desk} {clock address count : ℕ} → Considered desk clock address count
    → (steps : ℕ)
    × (count ≡ steps + 1)
    × (count ≤ 95)
    × (address ≡ steps_up steps (161 + desk.turn))
    × ((ticket_on desk address).live ≡ false)
    × (((ticket_on desk address).withdrawn ≡ true) × (age clock (ticket_on desk address).closed < 1000) → ⊥)
    × ((k : ℕ) → k < steps
    → ((ticket_on desk (steps_up k (161 + desk.turn))).live ≡ true)
    ⊎ (((ticket_on desk (steps_up k (161 + desk.turn))).withdrawn ≡ true) × (age clock (ticket_on desk (steps_up k (161 + desk.turn))).closed < 1000)))
considered_plainly c = (c.steps, c.counted, c.at_most, c.last, c.free.0, c.free.1, c.passed)

-- "after 255 from 161 on"
pub one_up : (steps_up 1 254 ≡ 255) × (steps_up 1 255 ≡ 161) × (steps_up 95 161 ≡ 161)
unfolding steps_up
one_up = (refl, refl, refl)

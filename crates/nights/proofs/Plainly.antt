-- What the definitions of nights and rounds mean, said out: each is used in the laws of the files beside this one.
-- Assumes nothing.
use mathlib.Core.Path.{◌≡◌, refl, sym, ap, ◌∙◌}
use mathlib.Core.Bool.{Bool, true, false, cond, not, ◌&&◌}
use mathlib.Core.List.{List, [], ◌∷◌, ◌++◌}
use mathlib.Core.Logic.{◌≢◌, ◌⊎◌, ◌↔◌, inl, inr, ⊎_elim}
use Prim.Native.Nat.{ℕ, suc, ◌+◌, ◌%◌, ◌<◌}
use native.Mathlib.Omega.{arith}
use borrow.Author.Tests.{eq-eqb, ne_eqb}
use lib.Dec.{eqb}
use Rattle.request.specs.declared.Request.{Request}
use Rattle.ticket.specs.Due.{age}
use Rattle.ticket.specs.Ticket.{no_ticket, withdrawn_at}
use Rattle.desk.specs.Desk.{ticket_at, ticket_on}
use Rattle.desk.specs.Open.{distance_of, given_place}
use Rattle.desk.specs.declared.Desk.{Desk}
use Rattle.nights.proofs.Fair.{gives_opening, opens_or_stays}
use Rattle.nights.specs.Night.{Call, Event, after, event_of, after_all, last_on, Right, kept, Kept, SoundDesk, Night}
use Rattle.nights.specs.Night.{opened, booked, withdrawn, nothing, never, stands, answered, given_up}
use Rattle.nights.specs.Round.{GivesAt, Gives, PassesOver, Among, Each, one_opening, count_of, is_clear, others_free}

-- ---- of one of the calls, of each of them

-- a call among others, with those before it
pub record Within (calls : List Call) (call : Call) (before : List Call) : Type 0 where
  pub later : List Call
  pub parted : calls ≡ before ++ (call ∷ later)

module _ (holds : Desk → Call → Type 0) where
  among_there : (calls : List Call) (desk : Desk) → Among holds desk calls
      → (before : List Call) × (call : Call) × Within calls call before × holds (after_all desk before) call
  unfolding Among after_all
  among_there [] desk p = absurd p
  among_there (c ∷ cs) desk p =
      ⊎_elim (λ here. ([], c, record { later = cs; parted = refl }, here))
      (λ later.
      let q = among_there cs (after desk c) later in
      (c ∷ q.0, q.1, record { later = q.2.later; parted = ap (λ (l : List Call). c ∷ l) q.2.parted }, q.3))
      p

  there_among : (before : List Call) (call : Call) (later : List Call) (desk : Desk) → holds (after_all desk before) call → Among holds desk (before ++ (call ∷ later))
  unfolding Among after_all
  there_among [] call later desk h = inl h
  there_among (c ∷ cs) call later desk h = inr (there_among cs call later (after desk c) h)

  -- something holds among the calls exactly where it holds of one of them, on the desk that those before it left
  pub among_plainly : (calls : List Call) (desk : Desk)
      → Among holds desk calls ↔ ((before : List Call) × (call : Call) × Within calls call before × holds (after_all desk before) call)
  among_plainly calls desk =
      (among_there calls desk, λ p. rw p.2.parted (there_among p.0 p.1 p.2.later desk p.3))

  each_there : (before : List Call) (call : Call) (later : List Call) (desk : Desk) → Each holds desk (before ++ (call ∷ later)) → holds (after_all desk before) call
  unfolding Each after_all
  each_there [] call later desk e = e.0
  each_there (c ∷ cs) call later desk e = each_there cs call later (after desk c) e.1

  there_each : (calls : List Call) (desk : Desk)
      → ((before : List Call) (call : Call) → Within calls call before → holds (after_all desk before) call) → Each holds desk calls
  unfolding Each after_all
  there_each [] desk all = tt
  there_each (c ∷ cs) desk all = (
    all [] c (record { later = cs; parted = refl }),
    there_each cs (after desk c)
        (λ before call w. all (c ∷ before) call (record { later = w.later; parted = ap (λ (l : List Call). c ∷ l) w.parted })),
  )

  -- and of each exactly where it holds of every one
  pub each_plainly : (calls : List Call) (desk : Desk)
      → Each holds desk calls ↔ ((before : List Call) (call : Call) → Within calls call before → holds (after_all desk before) call)
  each_plainly calls desk =
      (λ e before call w. each_there before call w.later desk (rw w.parted at e), there_each calls desk)

-- ---- passed over: another place is given, at the call's clock, and this one lies before it from the turn on, open or resting

pub passed_plainly : (desk : Desk) (call : Call) (place : ℕ) → PassesOver desk call place
    → (clock : ℕ) × (given : ℕ) × (asked : Request)
    × (event_of desk call ≡ opened (161 + given) asked clock)
    × (given ≢ place)
    × ((k : ℕ) × (d : ℕ) × (k < d) × (d < 95) × (place ≡ (desk.turn + k) % 95) × (given ≡ (desk.turn + d) % 95))
    × (((ticket_at desk place).live ≡ true) ⊎ (((ticket_at desk place).withdrawn ≡ true) × (age clock (ticket_at desk place).closed < 1000)))
unfolding PassesOver GivesAt given_place
passed_plainly desk call place p =
    let o = gives_opening desk call (given_place desk p.0) p.0 p.1 in
    let k = p.2 in (
      p.0,
      given_place desk p.0,
      p.1.0,
      p.1.1,
      λ same. apart desk.turn k.0 (distance_of desk p.0) k.1 o.0.near (sym k.2 ∙ sym same),
      (k.0, distance_of desk p.0, k.1, o.0.near, k.2, refl),
      p.3,
    )
  where
    apart : (turn a b : ℕ) → a < b → b < 95 → (turn + a) % 95 ≡ (turn + b) % 95 → ⊥
    apart turn a b less near e = omega arith

-- ---- a call counts as one opening exactly where it gives a place

pub counted_one : (desk : Desk) (call : Call) (place : ℕ) → Gives desk call place → one_opening (event_of desk call) ≡ 1
unfolding GivesAt
counted_one desk call place g = rw g.1.1

pub counted_none : (desk : Desk) (call : Call) → ((place : ℕ) → Gives desk call place → ⊥) → one_opening (event_of desk call) ≡ 0
counted_none desk call none_given =
    ⊎_elim (λ o. absurd (none_given (given_place desk o.0) (o.0, o.1.gives))) (λ stays. stays.counts_none) (opens_or_stays desk call)

-- ---- how many of n places fit, and which places are counted

pub count_plainly : (fits : ℕ → Bool) (n : ℕ) → (count_of fits 0 ≡ 0) × (count_of fits (suc n) ≡ cond (fits n) 1 0 + count_of fits n)
unfolding count_of
count_plainly fits n = (refl, refl)

pub others_are : (desk : Desk) (place : ℕ) → others_free desk place ≡ count_of (λ other. is_clear (ticket_at desk other) && not (eqb other place)) 95
unfolding others_free
others_are desk place = refl

-- ---- what became of the last ticket on an address: the last opening or closing there decides, and what happens elsewhere does not

pub last_there : (past : List Event) (asked : Request) (clock job source sort register folder a : ℕ)
    → (last_on (opened a asked clock ∷ past) a ≡ stands asked clock)
    × (last_on (booked job a source sort register folder ∷ past) a ≡ answered)
    × (last_on (withdrawn job a folder clock ∷ past) a ≡ given_up clock)
    × (last_on (nothing ∷ past) a ≡ last_on past a)
unfolding last_on
last_there past asked clock job source sort register folder a =
    let same : eqb a a ≡ true = eq-eqb a a refl in
    (rw same, rw same, rw same, refl)

pub last_elsewhere : (past : List Event) (asked : Request) (clock job source sort register folder address a : ℕ) → a ≢ address
    → (last_on (opened address asked clock ∷ past) a ≡ last_on past a)
    × (last_on (booked job address source sort register folder ∷ past) a ≡ last_on past a)
    × (last_on (withdrawn job address folder clock ∷ past) a ≡ last_on past a)
unfolding last_on
last_elsewhere past asked clock job source sort register folder address a other =
    let differ = ne_eqb a address other in
    (rw differ, rw differ, rw differ)

-- ---- what a night so far is

pub night_plainly : {desk : Desk} {past : List Event} → Night desk past
    → SoundDesk desk
    × ((a b : ℕ) → (ticket_on desk a).live ≡ true → (ticket_on desk b).live ≡ true → (ticket_on desk a).asked.job ≢ (ticket_on desk b).asked.job
    → (ticket_on desk a).asked.folder ≢ 0 → (ticket_on desk a).asked.folder ≢ (ticket_on desk b).asked.folder)
    × ((address : ℕ) → ticket_on desk address ≡ kept (last_on past address))
    × Right past
unfolding Kept
night_plainly n = (n.sound, n.apart, n.kept, n.right)

pub kept_plainly : (asked : Request) (clock : ℕ)
    → (kept never ≡ no_ticket)
    × (kept (stands asked clock) ≡ record { live = true; asked = asked; opened = clock; withdrawn = false; closed = 0 })
    × (kept answered ≡ no_ticket)
    × (kept (given_up clock) ≡ withdrawn_at clock)
kept_plainly asked clock = (refl, refl, refl, refl)

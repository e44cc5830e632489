-- Evenings at a filter box: any calls of the box and at the desk, in any order, the box made at any time of any night, and every answer of
-- the desk told to the box, whoever made the call. 02, #104.
-- Assumes nothing.
use Rattle.std.specs.Prelude.{◌≡◌, List, [], ◌∷◌, ◌≢◌, ◌⊎◌, ◌↔◌, ℕ, ◌<◌, Ok, Err, Some}
use Rattle.desk.specs.Close.{Cancels, Expires}
use Rattle.desk.specs.Desk.{fresh_desk, ticket_on}
use Rattle.desk.specs.Open.{Opens}
use Rattle.desk.specs.Reply.{Replies}
use Rattle.desk.specs.declared.AfterClose.{AfterClose}
use Rattle.desk.specs.declared.AfterOpen.{AfterOpen}
use Rattle.desk.specs.declared.AfterReply.{AfterReply}
use Rattle.desk.specs.Answers.{Booking}
use Rattle.desk.specs.Answers.{Closing}
use Rattle.desk.specs.declared.Desk.{Desk}
use Rattle.desk.specs.Answers.{Opening}
use Rattle.nights.specs.Night.{Call, after_all}
use Rattle.request.specs.declared.Request.{Request}
use Rattle.ticket.specs.Ticket.{new_ticket}
use Rattle.varia.specs.Ask.{SetsEdge, Attenuates, ReadsMonitor, ReadsStatus}
use Rattle.varia.specs.Box.{fresh_box, edge_of, edge_register, HearsReply, HearsClosing}
use Rattle.varia.specs.declared.AfterAsk.{AfterAsk}
use Rattle.varia.specs.Answers.{Asking, sent}
use Rattle.varia.specs.declared.FilterBox.{FilterBox}
use Rattle.varia.specs.declared.Pass.{Pass}
use Rattle.varia.specs.declared.Pass.TheVariants.{Short, Long}

-- ---- what was answered since the box was made

-- a request of the box to set an edge went out under an address, or any other request did; a reply of a type was booked on an address; the
-- ticket on an address was cancelled or expired; or a call was refused
pub data Event : Type 0 where
  asked : (pass : Pass) (tenths address : ℕ) → Event
  opened : (address : ℕ) → Event
  booked : (address sort : ℕ) → Event
  withdrawn : (address : ℕ) → Event
  nothing : Event

abbrev pub of_edge : Pass → ℕ → Asking → Event
of_edge pass tenths (Ok told) = asked pass tenths told.address
of_edge pass tenths (Err f) = nothing

abbrev pub of_asking : Asking → Event
of_asking (Ok told) = opened told.address
of_asking (Err f) = nothing

abbrev pub of_opening : Opening → Event
of_opening (Ok told) = opened told.address
of_opening (Err f) = nothing

abbrev pub of_booking : Booking → Event
of_booking (Ok told) = booked told.address told.sort
of_booking (Err f) = nothing

abbrev pub of_closing : Closing → Event
of_closing (Ok closed) = withdrawn closed.address
of_closing (Err f) = nothing

-- the box, the desk and all that was answered, the latest first, after any calls as their contracts allow them
pub data Evening (job unit : ℕ) : FilterBox → Desk → List Event → Type 0 where
  begins : (calls : List Call) → Evening job unit (fresh_box job unit) (after_all fresh_desk calls) []
  sets : {box : FilterBox} {desk : Desk} {past : List Event} → Evening job unit box desk past
      → (pass : Pass) (tenths wait clock : ℕ) (room : List ℕ) (r : AfterAsk) (room' : List ℕ)
      → SetsEdge pass box desk tenths wait clock room r room'
      → Evening job unit r.filters r.desk (of_edge pass tenths r.answer ∷ past)
  attenuates : {box : FilterBox} {desk : Desk} {past : List Event} → Evening job unit box desk past
      → (permille wait clock : ℕ) (room : List ℕ) (r : AfterAsk) (room' : List ℕ)
      → Attenuates box desk permille wait clock room r room'
      → Evening job unit r.filters r.desk (of_asking r.answer ∷ past)
  reads_monitor : {box : FilterBox} {desk : Desk} {past : List Event} → Evening job unit box desk past
      → (wait clock : ℕ) (room : List ℕ) (r : AfterAsk) (room' : List ℕ)
      → ReadsMonitor box desk wait clock room r room'
      → Evening job unit r.filters r.desk (of_asking r.answer ∷ past)
  reads_status : {box : FilterBox} {desk : Desk} {past : List Event} → Evening job unit box desk past
      → (wait clock : ℕ) (room : List ℕ) (r : AfterAsk) (room' : List ℕ)
      → ReadsStatus box desk wait clock room r room'
      → Evening job unit r.filters r.desk (of_asking r.answer ∷ past)
  opens : {box : FilterBox} {desk : Desk} {past : List Event} → Evening job unit box desk past
      → (what : Request) (bytes : List ℕ) (clock : ℕ) (room : List ℕ) (r : AfterOpen) (room' : List ℕ)
      → Opens desk what bytes clock room r room'
      → Evening job unit box r.desk (of_opening r.answer ∷ past)
  replies : {box : FilterBox} {desk : Desk} {past : List Event} → Evening job unit box desk past
      → (frame room : List ℕ) (r : AfterReply) (room' : List ℕ) (box' : FilterBox)
      → Replies desk frame room r room' → HearsReply box r.answer box'
      → Evening job unit box' r.desk (of_booking r.answer ∷ past)
  cancels : {box : FilterBox} {desk : Desk} {past : List Event} → Evening job unit box desk past
      → (theirs address clock : ℕ) (r : AfterClose) (box' : FilterBox)
      → Cancels desk theirs address clock r → HearsClosing box r.answer box'
      → Evening job unit box' r.desk (of_closing r.answer ∷ past)
  expires : {box : FilterBox} {desk : Desk} {past : List Event} → Evening job unit box desk past
      → (clock : ℕ) (r : AfterClose) (box' : FilterBox)
      → Expires desk clock r → HearsClosing box r.answer box'
      → Evening job unit box' r.desk (of_closing r.answer ∷ past)

-- ---- what is out and what is known, by what was answered alone

-- a request for an edge is out under an address: it was the last to go out there, and nothing was booked or given up there since
unfoldable pub OutOn : List Event → ℕ → Pass → ℕ → Type 0
OutOn [] a p v = ⊥
OutOn (asked pass tenths address ∷ past) a p v = ((a ≡ address) × (p ≡ pass) × (v ≡ tenths)) ⊎ ((a ≢ address) × OutOn past a p v)
OutOn (opened address ∷ past) a p v = (a ≢ address) × OutOn past a p v
OutOn (booked address sort ∷ past) a p v = (a ≢ address) × OutOn past a p v
OutOn (withdrawn address ∷ past) a p v = (a ≢ address) × OutOn past a p v
OutOn (nothing ∷ past) a p v = OutOn past a p v

-- "an edge request with v was acknowledged": type 3 was booked on its address
unfoldable pub Acknowledged : Event → List Event → Pass → ℕ → Type 0
Acknowledged (asked pass tenths address) past p v = ⊥
Acknowledged (opened address) past p v = ⊥
Acknowledged (booked address sort) past p v = (sort ≡ 3) × OutOn past address p v
Acknowledged (withdrawn address) past p v = ⊥
Acknowledged nothing past p v = ⊥

-- a "request of that edge expired or was cancelled"
unfoldable pub GivenUp : Event → List Event → Pass → Type 0
GivenUp (asked pass tenths address) past p = ⊥
GivenUp (opened address) past p = ⊥
GivenUp (booked address sort) past p = ⊥
GivenUp (withdrawn address) past p = (v : ℕ) × OutOn past address p v
GivenUp nothing past p = ⊥

-- "an edge request with v was acknowledged and no later request of that edge expired or was cancelled since, later acks replacing it"
unfoldable pub KnownAs : List Event → Pass → ℕ → Type 0
KnownAs [] p v = ⊥
KnownAs (e ∷ past) p v =
    Acknowledged e past p v ⊎ (((w : ℕ) → Acknowledged e past p w → ⊥) × (GivenUp e past p → ⊥) × KnownAs past p v)

-- ---- what is promised of every evening

pub record Promised (job unit : ℕ) (box : FilterBox) (desk : Desk) (past : List Event) : Type 0 where
  -- an edge is known with v exactly if that was acknowledged last, and not given up since
  pub known : (p : Pass) (v : ℕ) → (edge_of box p ≡ Some v) ↔ KnownAs past p v
  -- the box has that request out which is out, and its ticket stands open on its address: of the box's job, at its module, a write to that
  -- edge's register
  pub is_out_lem : (a : ℕ) (p : Pass) (v : ℕ) → (box.out ≡ sent a p v) ↔ OutOn past a p v
  pub stands : (a : ℕ) (p : Pass) (v : ℕ) → OutOn past a p v
      → (wait : ℕ) × (clock : ℕ)
      × (ticket_on desk a ≡ new_ticket (record { job = job; unit = unit; sort = 5; register = edge_register p; wait = wait; folder = 0 }) clock)
  -- at most one request for an edge is out
  pub one_out : (a b : ℕ) (p q : Pass) (v w : ℕ) → OutOn past a p v → OutOn past b q w → (a ≡ b) × (p ≡ q) × (v ≡ w)
  -- the house rule, whenever both edges are known
  pub in_order : (s l : ℕ) → KnownAs past Short s → KnownAs past Long l → l < s

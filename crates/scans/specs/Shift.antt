-- Shifts with a scan: any steps of it and any openings, replies, cancels and expiries at the desk, in any order, the scan made at any time of
-- any night, and every answer of the desk told to the scan, whoever made the call. 02, #113.
-- Assumes nothing.
use Rattle.std.specs.Prelude.{◌≡◌, List, [], ◌∷◌, ◌++◌, ◌≢◌, ◌⊎◌, ◌↔◌, ℕ, ◌+◌, ◌-◌, ◌≤◌, get_or, Ok, Err}
use Rattle.desk.specs.Close.{Cancels, Expires}
use Rattle.desk.specs.Desk.{fresh_desk, ticket_on}
use Rattle.desk.specs.Open.{Opens}
use Rattle.desk.specs.Reply.{Replies}
use Rattle.desk.specs.declared.AfterClose.{AfterClose}
use Rattle.desk.specs.declared.AfterOpen.{AfterOpen}
use Rattle.desk.specs.declared.AfterReply.{AfterReply}
use Rattle.desk.specs.Answers.{Booking, closing}
use Rattle.desk.specs.Answers.{Closing}
use Rattle.desk.specs.declared.Desk.{Desk}
use Rattle.desk.specs.Answers.{Opening}
use Rattle.nights.specs.Night.{Call, after_all}
use Rattle.request.specs.declared.Request.{Request}
use Rattle.scan.specs.Scan.{fresh_scan, heard_closing, Steps, HearsReply, HearsClosing}
use Rattle.scan.specs.declared.AfterStep.{AfterStep}
use Rattle.scan.specs.declared.Scan.{Scan}
use Rattle.scan.specs.Answers.{Stepping}
use Rattle.scan.specs.declared.Stage.TheVariants.{Asked, Waiting, Done}
use Rattle.ticket.specs.Ticket.{new_ticket}

-- ---- what was answered since the scan was made

-- a step of the scan asked a module under an address, or any other request went out; a reply of a type was booked on an address; the ticket on
-- an address was cancelled or expired; or nothing came of a call: it was refused, or the step waits or is done
pub data Event : Type 0 where
  asked : (unit address : ℕ) → Event
  opened : (address : ℕ) → Event
  booked : (address sort : ℕ) → Event
  withdrawn : (address : ℕ) → Event
  nothing : Event

abbrev pub of_step : Stepping → Event
of_step (Ok (Asked address unit n)) = asked unit address
of_step (Ok (Waiting address)) = nothing
of_step (Ok Done) = nothing
of_step (Err f) = nothing

abbrev pub of_opening : Opening → Event
of_opening (Ok told) = opened told.address
of_opening (Err f) = nothing

abbrev pub of_booking : Booking → Event
of_booking (Ok told) = booked told.address told.sort
of_booking (Err f) = nothing

abbrev pub of_closing : Closing → Event
of_closing (Ok closed) = withdrawn closed.address
of_closing (Err f) = nothing

-- the scan, the desk and all that was answered, the latest first, after any calls as their contracts allow them
pub data Shift (job : ℕ) : Scan → Desk → List Event → Type 0 where
  begins : (calls : List Call) → Shift job (fresh_scan job) (after_all fresh_desk calls) []
  steps : {scan : Scan} {desk : Desk} {past : List Event} → Shift job scan desk past
      → (clock : ℕ) (room : List ℕ) (r : AfterStep) (room' : List ℕ)
      → Steps scan desk clock room r room'
      → Shift job r.scan r.desk (of_step r.answer ∷ past)
  opens : {scan : Scan} {desk : Desk} {past : List Event} → Shift job scan desk past
      → (what : Request) (bytes : List ℕ) (clock : ℕ) (room : List ℕ) (r : AfterOpen) (room' : List ℕ)
      → Opens desk what bytes clock room r room'
      → Shift job scan r.desk (of_opening r.answer ∷ past)
  replies : {scan : Scan} {desk : Desk} {past : List Event} → Shift job scan desk past
      → (frame room : List ℕ) (r : AfterReply) (room' : List ℕ) (scan' : Scan)
      → Replies desk frame room r room' → HearsReply scan r.answer scan'
      → Shift job scan' r.desk (of_booking r.answer ∷ past)
  cancels : {scan : Scan} {desk : Desk} {past : List Event} → Shift job scan desk past
      → (theirs address clock : ℕ) (r : AfterClose) (scan' : Scan)
      → Cancels desk theirs address clock r → HearsClosing scan r.answer scan'
      → Shift job scan' r.desk (of_closing r.answer ∷ past)
  expires : {scan : Scan} {desk : Desk} {past : List Event} → Shift job scan desk past
      → (clock : ℕ) (r : AfterClose) (scan' : Scan)
      → Expires desk clock r → HearsClosing scan r.answer scan'
      → Shift job scan' r.desk (of_closing r.answer ∷ past)

-- 02, #107's sweep: its list has job, address and folder of each ticket that it closed, and each is told to the scan, in that order

unfoldable pub told_all : Scan → List ℕ → Scan
told_all scan (job ∷ address ∷ folder ∷ rest) = told_all (heard_closing scan (closing job address folder)) rest
told_all scan (job ∷ address ∷ []) = scan
told_all scan (job ∷ []) = scan
told_all scan [] = scan

unfoldable pub swept_all : List ℕ → List Event → List Event
swept_all (job ∷ address ∷ folder ∷ rest) past = swept_all rest (withdrawn address ∷ past)
swept_all (job ∷ address ∷ []) past = past
swept_all (job ∷ []) past = past
swept_all [] past = past

-- ---- what is out, what is over and what became of it, by what was answered alone

-- a module's ticket is out under an address: it was the last to go out there, and nothing was booked or given up there since
unfoldable pub OutOn : List Event → ℕ → ℕ → Type 0
OutOn [] n a = ⊥
OutOn (asked unit address ∷ past) n a = ((n ≡ unit) × (a ≡ address)) ⊎ ((a ≢ address) × OutOn past n a)
OutOn (opened address ∷ past) n a = (a ≢ address) × OutOn past n a
OutOn (booked address sort ∷ past) n a = (a ≢ address) × OutOn past n a
OutOn (withdrawn address ∷ past) n a = (a ≢ address) × OutOn past n a
OutOn (nothing ∷ past) n a = OutOn past n a

-- a module's ticket came to its end: "1 for a datagram, 2 for nack, check error or busy"; "A cancelled scan ticket counts as absent", and so
-- does one that expires: 0
unfoldable pub Ends : Event → List Event → ℕ → ℕ → Type 0
Ends (asked unit address) past n r = ⊥
Ends (opened address) past n r = ⊥
Ends (booked address sort) past n r = OutOn past n address × (((sort ≡ 8) × (r ≡ 1)) ⊎ ((sort ≢ 8) × (r ≡ 2)))
Ends (withdrawn address) past n r = OutOn past n address × (r ≡ 0)
Ends nothing past n r = ⊥

-- what became of a module's ticket, at some time
unfoldable pub Became : List Event → ℕ → ℕ → Type 0
Became [] n r = ⊥
Became (e ∷ past) n r = Ends e past n r ⊎ Became past n r

-- so many tickets of the scan came to their end
unfoldable pub Ended : List Event → ℕ → Type 0
Ended [] k = k ≡ 0
Ended (e ∷ past) k =
    (((n : ℕ) × (r : ℕ) × Ends e past n r) × ((j : ℕ) × (k ≡ j + 1) × Ended past j)) ⊎ (((n r : ℕ) → Ends e past n r → ⊥) × Ended past k)

-- what is right of an event, by what was answered before it: a step asked with nothing of the scan's out, the module after those whose turns
-- were over, 160 at most; no other request was given the address of a ticket of the scan that was out; and a reply that was booked on one was a
-- datagram, type 8, or a nack, a check error or a busy, 0 to 2
unfoldable pub Right : Event → List Event → Type 0
Right (asked unit address) past = ((k : ℕ) × Ended past k × (unit ≡ k + 1) × (unit ≤ 160)) × ((n a : ℕ) → OutOn past n a → ⊥)
Right (opened address) past = (n : ℕ) → OutOn past n address → ⊥
Right (booked address sort) past = (n : ℕ) → OutOn past n address → (sort ≡ 8) ⊎ (sort ≤ 2)
Right (withdrawn address) past = Unit {0}
Right nothing past = Unit {0}

-- ---- what is promised of every shift

pub record Promised (job : ℕ) (scan : Scan) (desk : Desk) (past : List Event) : Type 0 where
  -- the scan has that ticket out which is out, and it is that of the module after those whose turns are over
  pub is_out_lem : (n a : ℕ) → OutOn past n a ↔ ((scan.out ≡ a) × (a ≢ 0) × (n ≡ scan.turns + 1))
  -- it stands open on its address, as it was asked
  pub stands : (n a : ℕ) → OutOn past n a
      → (clock : ℕ) × (ticket_on desk a ≡ new_ticket (record { job = job; unit = n; sort = 4; register = 97; wait = 100; folder = 0 }) clock)
  -- at most one ticket of the scan is out
  pub one_out : (n m a b : ℕ) → OutOn past n a → OutOn past m b → (n ≡ m) × (a ≡ b)
  -- a turn is over for each of its tickets that came to its end, and there are at most 160
  pub counted : Ended past scan.turns
  pub at_most : scan.turns ≤ 160
  -- of each module whose turn is over, and of no other, the result is what became of its ticket
  pub results : (n r : ℕ) → Became past n r ↔ ((1 ≤ n) × (n ≤ scan.turns) × (get_or scan.results (n - 1) 0 ≡ r))
  -- and of those to come it has none
  pub to_come : (i : ℕ) → scan.turns ≤ i → get_or scan.results i 0 ≡ 0
  -- and each event was right, by what was answered before it
  pub always : (later : List Event) (e : Event) (earlier : List Event) → past ≡ later ++ (e ∷ earlier) → Right e earlier

-- What a call that was not refused did to the desk, in the papers' sentences: for the laws that callers cite.
-- Assumes nothing.
use Rattle.std.specs.Prelude.{◌≡◌, true, false, cond, List, ◌≢◌, ◌⊎◌, ℕ, zero, suc, ◌+◌, ◌-◌, ◌%◌, ◌≤◌, ◌<◌, eqb, Ok}
use Rattle.request.specs.declared.Request.{Request}
use Rattle.telegram.specs.Read.{read_frame}
use Rattle.telegram.specs.declared.Fields.{Fields}
use Rattle.ticket.specs.Due.{IsDue}
use Rattle.ticket.specs.Fit.{KindFits, RegisterFits}
use Rattle.ticket.specs.Rest.{Rests, Free}
use Rattle.ticket.specs.Ticket.{Open, no_ticket, withdrawn_at}
use Rattle.ticket.specs.declared.Ticket.{Ticket}
use Rattle.desk.specs.Desk.{ticket_on, OpenOn}
use Rattle.desk.specs.Open.{distance_of}
use Rattle.desk.specs.declared.Desk.{Desk}

-- "The address given is the first one without a ticket, from the turn upwards and after 255 from 161 on. The turn then moves to the address
-- after it, again with 161 after 255." 02, #102: one that rests at the call's clock "is not given out". The ticket stands there as it was
-- asked, and every other address is as before.
pub record Given (desk : Desk) (asked : Request) (clock address : ℕ) (desk' : Desk) : Type 0 where
  pub host : 161 ≤ address
  pub last : address ≤ 255
  pub free : Free clock (ticket_on desk address)
  pub found : address ≡ 161 + (desk.turn + distance_of desk clock) % 95
  pub near : distance_of desk clock < 95
  pub passed : (k : ℕ) → k < distance_of desk clock
      → Open (ticket_on desk (161 + (desk.turn + k) % 95)) ⊎ Rests clock (ticket_on desk (161 + (desk.turn + k) % 95))
  pub stands : ticket_on desk' address ≡ record { live = true; asked = asked; opened = clock; withdrawn = false; closed = 0 }
  pub others : (other : ℕ) → other ≢ address → ticket_on desk' other ≡ ticket_on desk other
  pub turn_after : desk'.turn ≡ (address - 161 + 1) % 95

-- the address after one, "after 255 from 161 on", and so many after it
abbrev pub one_up : ℕ → ℕ
one_up address = cond (eqb address 255) 161 (address + 1)

unfoldable pub steps_up : ℕ → ℕ → ℕ
steps_up zero address = address
steps_up (suc k) address = one_up (steps_up k address)

-- 02, #108: "how many addresses it considered: those from the turn up to and including the one given". So many steps up from the turn is the
-- address given, which was free; each before it was open or resting at the call's clock.
pub record Considered (desk : Desk) (clock address count : ℕ) : Type 0 where
  pub steps : ℕ
  pub counted : count ≡ steps + 1
  pub at_most : count ≤ 95
  pub last : address ≡ steps_up steps (161 + desk.turn)
  pub free : Free clock (ticket_on desk address)
  pub passed : (k : ℕ) → k < steps → Open (ticket_on desk (steps_up k (161 + desk.turn))) ⊎ Rests clock (ticket_on desk (steps_up k (161 + desk.turn)))

-- "closes the ticket": this one alone, with something left in its place, and the turn stays
pub record ClosedAlone (desk : Desk) (address : ℕ) (left : Ticket) (desk' : Desk) : Type 0 where
  pub was_open : OpenOn desk address
  pub closed : ticket_on desk' address ≡ left
  pub others : (other : ℕ) → other ≢ address → ticket_on desk' other ≡ ticket_on desk other
  pub turn_kept : desk'.turn ≡ desk.turn

-- "A reply is first read as a telegram [..]. A read is answered by type 8, 0, 1 or 2, a write of any sort by 3, 0, 1 or 2. A datagram's
-- register must equal the ticket's. [..] A booked reply closes the ticket, answers its job, address, type and data, and frees the address."
-- 02, #110: "Replies, cancels and expiries answer the folder as well".
pub record Books (desk : Desk) (frame : List ℕ) (room : ℕ) (t : Fields) (job address sort n folder : ℕ) (desk' : Desk) : Type 0 where
  pub was_read : read_frame frame room ≡ Ok t
  pub for_address : address ≡ t.destination
  pub theirs : job ≡ (ticket_on desk address).asked.job
  pub from_module : t.source ≡ (ticket_on desk address).asked.unit
  pub kind_fits : KindFits (ticket_on desk address).asked.sort t.sort
  pub register_fits_lem : RegisterFits (ticket_on desk address).asked.register t.sort t.register
  pub type_answered : sort ≡ t.sort
  pub size_answered : n ≡ t.size
  pub folder_answered : folder ≡ (ticket_on desk address).asked.folder
  pub closes : ClosedAlone desk address no_ticket desk'

-- "Expire closes one ticket, the due one with the lowest address, and answers job and address", and its folder. It rests from the call's clock
-- on.
pub record Expired (desk : Desk) (clock job address folder : ℕ) (desk' : Desk) : Type 0 where
  pub due : IsDue clock (ticket_on desk address)
  pub lowest : (other : ℕ) → 161 ≤ other → other < address → IsDue clock (ticket_on desk other) → ⊥
  pub last : address ≤ 255
  pub theirs : job ≡ (ticket_on desk address).asked.job
  pub folder_answered : folder ≡ (ticket_on desk address).asked.folder
  pub closes : ClosedAlone desk address (withdrawn_at clock) desk'

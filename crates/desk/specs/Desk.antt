-- The desk: what stands on each host address, 161 to 255, and the turn. A place is an address less 161, and so is the turn. 02, #112: "Keep
-- beside them one bit for each address, set while it holds a ticket".
-- Assumes nothing.
use Rattle.std.specs.Prelude.{◌≡◌, Bool, false, true, cond, List, [], ◌∷◌, ℕ, suc, ◌-◌, leb, ltb, get_or, replicate, set, Option, Some, None}
use Rattle.marks.specs.Marks.{no_marks, is_marked, with_mark}
use Rattle.marks.specs.declared.Marks.{Marks}
use Rattle.request.specs.Request.{fault_number as ask_number}
use Rattle.telegram.specs.Read.{fault_number as read_number, fault_place as read_place}
use Rattle.ticket.specs.Fit.{fault_number as fit_number}
use Rattle.ticket.specs.Ticket.{Open, no_ticket}
use Rattle.ticket.specs.declared.Ticket.{Ticket}
use Rattle.desk.specs.declared.Desk.{Desk}
use Rattle.desk.specs.declared.Fault.{Fault}
use Rattle.desk.specs.declared.Fault.TheVariants.{Denied, FolderHeld, NoneFree, NoRoom, Unread, Misfit, NotTheirs, NothingDue}
use Rattle.desk.specs.declared.Seen.{Seen}
use Rattle.desk.specs.declared.Seen.TheVariants as seen

-- "A fresh desk has no tickets and its next turn at 161."
abbrev pub fresh_desk : Desk
fresh_desk = record { turn = 0; tickets = replicate 95 no_ticket; marks = no_marks }

-- a ticket that is open exactly where its place is marked
abbrev pub live_as : Bool → Ticket → Ticket
live_as marked ticket =
    record { live = marked; asked = ticket.asked; opened = ticket.opened; withdrawn = ticket.withdrawn; closed = ticket.closed }

-- what stands at the places from one on: the mark says whether a ticket is open there
unfoldable pub standing_from : ℕ → Marks → List Ticket → List Ticket
standing_from place marks [] = []
standing_from place marks (ticket ∷ tickets) = live_as (is_marked marks place) ticket ∷ standing_from (suc place) marks tickets

abbrev pub standing : Desk → List Ticket
standing desk = standing_from 0 desk.marks desk.tickets

-- what stands at a place, of some tickets and of a desk's
abbrev pub place_in : List Ticket → ℕ → Ticket
place_in tickets place = get_or tickets place no_ticket

abbrev pub ticket_at : Desk → ℕ → Ticket
ticket_at desk place = place_in (standing desk) place

-- what stands on an address; under 161 there is nothing
abbrev pub address_in : List Ticket → ℕ → Ticket
address_in tickets address = cond (leb 161 address) (place_in tickets (address - 161)) no_ticket

abbrev pub ticket_on : Desk → ℕ → Ticket
ticket_on desk address = address_in (standing desk) address

-- a ticket is open on the address
abbrev pub OpenOn : Desk → ℕ → Type 0
OpenOn desk address = Open (ticket_on desk address)

-- a number below the most, and none from there on
unfoldable pub under : ℕ → ℕ → Option ℕ
under most n = cond (ltb n most) (Some n) None

-- the desk with something else at a place, with this turn and these marks
abbrev pub stored_at : Desk → ℕ → ℕ → Ticket → Marks → Desk
stored_at desk turn place ticket marks = record { turn = turn; tickets = set desk.tickets place ticket; marks = marks }

-- the place is marked while what stands there is open; the turn stays
abbrev pub put_at : Desk → ℕ → Ticket → Desk
put_at desk place ticket = stored_at desk desk.turn place ticket (with_mark desk.marks place ticket.live)

-- the paper's number of each refusal; 10 to 14, 61, 17 to 20 and the reader's are told where they are judged
abbrev pub fault_number : Fault → ℕ
fault_number (Denied f) = ask_number f
fault_number FolderHeld = 75
fault_number NoneFree = 15
fault_number NoRoom = 16
fault_number (Unread f) = read_number f
fault_number (Misfit f) = fit_number f
fault_number NotTheirs = 21
fault_number NothingDue = 22

-- the place that comes with the reader's 3; 0 with all else
abbrev pub fault_place : Fault → ℕ
fault_place (Denied f) = 0
fault_place FolderHeld = 0
fault_place NoneFree = 0
fault_place NoRoom = 0
fault_place (Unread f) = read_place f
fault_place (Misfit f) = 0
fault_place NotTheirs = 0
fault_place NothingDue = 0

-- what looking at an address shows, by whether a ticket is open there and whether its last one was cancelled or expired
abbrev pub shown : Ticket → Bool → Bool → Seen
shown ticket true withdrawn = seen.Open ticket
shown ticket false true = seen.Withdrawn ticket.closed
shown ticket false false = seen.Nothing

-- ---- the contracts

abbrev pub Fresh : Desk → Type 0
Fresh desk = desk ≡ fresh_desk

-- `ticket_on`
abbrev pub Stands : Desk → ℕ → Ticket → Type 0
Stands desk address r = r ≡ ticket_on desk address

abbrev pub Looks : Desk → ℕ → Seen → Type 0
Looks desk address r = r ≡ shown (ticket_on desk address) (ticket_on desk address).live (ticket_on desk address).withdrawn

abbrev pub Numbers : Fault → ℕ → Type 0
Numbers fault r = r ≡ fault_number fault

-- `place`
abbrev pub Places : Fault → ℕ → Type 0
Places fault r = r ≡ fault_place fault

-- A reply: "first read as a telegram; a refusal there ends the call", then rows 61 and 17 to 20.
-- Assumes nothing.
use Rattle.std.specs.Prelude.{◌≡◌, List, ◌++◌, ℕ, ◌-◌, length, Ok, Err}
use Rattle.std.proofs.Math.Option.{Option, some, none}
use Rattle.lent.specs.Lent.{over}
use Rattle.rows.specs.Rows.{Row, or_later, passed_up, raised}
use Rattle.telegram.specs.Read.{read_refusal, read_rows, fields_in, data_in}
use Rattle.telegram.specs.declared.Fields.{Fields}
use Rattle.desk.specs.Desk.{ticket_on, put_at, fault_number, fault_place}
use Rattle.ticket.specs.Fit.{fit_rows, fit_refusal}
use Rattle.ticket.specs.Ticket.{no_ticket}
use Rattle.ticket.specs.declared.Ticket.{Ticket}
use Rattle.desk.specs.declared.Desk.{Desk}
use Rattle.desk.specs.declared.Fault.{Fault}
use Rattle.desk.specs.declared.Fault.TheVariants.{Unread, Misfit}
use Rattle.desk.specs.Answers.{Booking, booking}
use Rattle.desk.specs.declared.AfterReply.{AfterReply}

-- ---- the rows: the reader's, and then those of what stands on the destination

unfoldable pub book_rows : Desk → Fields → List (Row Fault)
book_rows desk t = passed_up Misfit (fit_rows (ticket_on desk t.destination) t)

unfoldable pub reply_rows : Desk → List ℕ → ℕ → List (Row Fault)
reply_rows desk frame room = passed_up Unread (read_rows frame room) ++ book_rows desk (fields_in frame)

-- ---- how they are tested

unfoldable pub book_refusal : Desk → Fields → Option Fault
book_refusal desk t = raised Misfit (fit_refusal (ticket_on desk t.destination) t)

abbrev pub unread_or : List ℕ → ℕ → Option Fault → Option Fault
unread_or frame room booking = or_later (raised Unread (read_refusal frame room)) booking

unfoldable pub reply_refusal : Desk → List ℕ → ℕ → Option Fault
reply_refusal desk frame room = unread_or frame room (book_refusal desk (fields_in frame))

-- ---- "A booked reply closes the ticket, answers its job, address, type and data, and frees the address." 02, #110: "Replies, cancels and
-- expiries answer the folder as well".

abbrev pub book_answer : Option Fault → Ticket → Fields → Booking
book_answer (some f) ticket t = Err f
book_answer none ticket t = booking ticket.asked.job t.destination t.sort t.size ticket.asked.folder

-- the number that an answer tells
abbrev pub book_told : Booking → Option ℕ
book_told (Err f) = some (fault_number f)
book_told (Ok booked) = none

-- the place that an answer tells, with the reader's 3; 0 for none
abbrev pub book_place : Booking → ℕ
book_place (Err f) = fault_place f
book_place (Ok booked) = 0

-- the desk without the ticket that was answered. 02, #102: "Booked replies still free the address at once."
abbrev pub answered_on : Desk → ℕ → Desk
answered_on desk address = put_at desk (address - 161) no_ticket

abbrev pub book_desk : Option Fault → Desk → Fields → Desk
book_desk (some f) desk t = desk
book_desk none desk t = answered_on desk t.destination

abbrev pub book_room : Option Fault → List ℕ → List ℕ → List ℕ
book_room (some f) bytes room = room
book_room none bytes room = over bytes room

-- the contract of `reply`
abbrev pub Replies : Desk → List ℕ → List ℕ → AfterReply → List ℕ → Type 0
Replies desk frame room r room' =
    (r.answer ≡ book_answer (reply_refusal desk frame (length room)) (ticket_on desk (fields_in frame).destination) (fields_in frame))
    × (r.desk ≡ book_desk (reply_refusal desk frame (length room)) desk (fields_in frame))
    × (room' ≡ book_room (reply_refusal desk frame (length room)) (data_in frame) room)

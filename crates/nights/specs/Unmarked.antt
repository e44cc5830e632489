-- The desk without marks, of tickets and the turn alone, and what it answers. 02, #112: "Show that from a fresh desk any calls give the same
-- answers and tickets as before, the count of #108 included."
-- Assumes nothing.
use Rattle.std.specs.Prelude.{◌≡◌, Bool, false, List, [], ◌∷◌, ℕ, ◌+◌, ◌-◌, ◌%◌, ◌≤◌, ◌<◌, length, replicate, set}
use Rattle.std.proofs.Math.Option.{Option, some, none}
use Rattle.marks.specs.Marks.{is_marked}
use Rattle.desk.specs.Close.{cancel_refusal, cancel_tests, due_in, due_place, expire_refusal, expire_tests, close_answer}
use Rattle.desk.specs.Desk.{place_in, address_in, ticket_on}
use Rattle.desk.specs.Folder.{holder_in, held_by, is_folder_held}
use Rattle.desk.specs.Open.{place_from, distance_in, distance_of, given_place, request_at, refusal_by, open_refusal, open_answer, open_count, open_room}
use Rattle.desk.specs.Reply.{unread_or, reply_refusal, book_answer, book_room}
use Rattle.desk.specs.Answers.{Booking}
use Rattle.desk.specs.Answers.{Closing}
use Rattle.desk.specs.declared.Desk.{Desk}
use Rattle.desk.specs.declared.Fault.{Fault}
use Rattle.desk.specs.declared.Fault.TheVariants.{Misfit}
use Rattle.desk.specs.Answers.{Opening}
use Rattle.request.specs.declared.Request.{Request}
use Rattle.rows.specs.Rows.{raised, first_row_of}
use Rattle.telegram.specs.Read.{fields_in, data_in}
use Rattle.ticket.specs.Fit.{fit_refusal}
use Rattle.ticket.specs.Ticket.{no_ticket, new_ticket, withdrawn_at}
use Rattle.ticket.specs.declared.Ticket.{Ticket}
use Rattle.nights.specs.Night.{Call, asks, brings, cancels, expires}

-- all that a call answers, and the lent buffer after it
pub data Told : Type 0 where
  opening : (answer : Opening) (count : ℕ) (room : List ℕ) → Told
  booking : (answer : Booking) (room : List ℕ) → Told
  closing : (answer : Closing) → Told

-- an opening, by what refuses it and how far from the turn its place is
abbrev pub opens : Option Fault → ℕ → ℕ → Request → List ℕ → List ℕ → Told
opens refusal distance place asked bytes room =
    opening (open_answer refusal (161 + place) (length (request_at place asked bytes))) (open_count refusal distance)
    (open_room refusal (request_at place asked bytes) room)

-- a reply, by what refuses it and what stands on its destination
abbrev pub books : Option Fault → Ticket → List ℕ → List ℕ → Told
books refusal ticket frame room = booking (book_answer refusal ticket (fields_in frame)) (book_room refusal (data_in frame) room)

-- what the desk tells, as the contracts of its calls say
unfoldable pub tells : Desk → Call → Told
tells desk (asks asked bytes clock room) =
    opens (open_refusal desk asked bytes clock (length room)) (distance_of desk clock) (given_place desk clock) asked bytes room
tells desk (brings frame room) = books (reply_refusal desk frame (length room)) (ticket_on desk (fields_in frame).destination) frame room
tells desk (cancels job address clock) = closing (close_answer (cancel_refusal desk job address) (ticket_on desk address) address)
tells desk (expires clock) =
    closing (close_answer (expire_refusal desk clock) (ticket_on desk (161 + due_place desk clock)) (161 + due_place desk clock))

-- ---- the desk without marks

pub record Unmarked : Type 0 where
  pub turn : ℕ
  pub tickets : List Ticket

-- "A fresh desk has no tickets and its next turn at 161."
abbrev pub fresh_unmarked : Unmarked
fresh_unmarked = record { turn = 0; tickets = replicate 95 no_ticket }

-- how far from the turn the place is that an opening finds, that place, and what refuses it, by the tickets alone
abbrev pub distance_at : Unmarked → ℕ → ℕ
distance_at desk clock = distance_in desk.tickets desk.turn clock

abbrev pub place_at : Unmarked → ℕ → ℕ
place_at desk clock = place_from desk.turn (distance_at desk clock)

abbrev pub open_refused : Unmarked → Request → List ℕ → ℕ → ℕ → Option Fault
open_refused desk asked bytes clock room =
    refusal_by (held_by (holder_in desk.tickets asked.job asked.folder) asked) (distance_at desk clock) (place_at desk clock) asked bytes room

-- what refuses a reply, a cancel and an expiry
abbrev pub reply_refused : Unmarked → List ℕ → ℕ → Option Fault
reply_refused desk frame room =
    unread_or frame room (raised Misfit (fit_refusal (address_in desk.tickets (fields_in frame).destination) (fields_in frame)))

abbrev pub cancel_refused : Unmarked → ℕ → ℕ → Option Fault
cancel_refused desk job address = first_row_of (cancel_tests (address_in desk.tickets address) job)

abbrev pub expire_refused : Unmarked → ℕ → Option Fault
expire_refused desk clock = first_row_of (expire_tests (due_in desk.tickets clock))

-- what each call answers
unfoldable pub unmarked_tells : Unmarked → Call → Told
unmarked_tells desk (asks asked bytes clock room) =
    opens (open_refused desk asked bytes clock (length room)) (distance_at desk clock) (place_at desk clock) asked bytes room
unmarked_tells desk (brings frame room) =
    books (reply_refused desk frame (length room)) (address_in desk.tickets (fields_in frame).destination) frame room
unmarked_tells desk (cancels job address clock) =
    closing (close_answer (cancel_refused desk job address) (address_in desk.tickets address) address)
unmarked_tells desk (expires clock) =
    closing
    (close_answer (expire_refused desk clock) (address_in desk.tickets (161 + due_in desk.tickets clock)) (161 + due_in desk.tickets clock))

-- and what it leaves: all as it was where it is refused; else something at a place, and the turn
abbrev pub leaves : Option Fault → Unmarked → ℕ → ℕ → Ticket → Unmarked
leaves (some f) desk turn place ticket = desk
leaves none desk turn place ticket = record { turn = turn; tickets = set desk.tickets place ticket }

unfoldable pub unmarked_after : Unmarked → Call → Unmarked
unmarked_after desk (asks asked bytes clock room) =
    leaves (open_refused desk asked bytes clock (length room)) desk ((place_at desk clock + 1) % 95) (place_at desk clock) (new_ticket asked clock)
unmarked_after desk (brings frame room) =
    leaves (reply_refused desk frame (length room)) desk desk.turn ((fields_in frame).destination - 161) no_ticket
unmarked_after desk (cancels job address clock) = leaves (cancel_refused desk job address) desk desk.turn (address - 161) (withdrawn_at clock)
unmarked_after desk (expires clock) =
    leaves (expire_refused desk clock) desk desk.turn (161 + due_in desk.tickets clock - 161) (withdrawn_at clock)

-- ---- over any calls: all that was told, in order, and what is left

unfoldable pub all_told : {D : Type 0} → (D → Call → Told) → (D → Call → D) → D → List Call → List Told
all_told told next desk [] = []
all_told told next desk (c ∷ cs) = told desk c ∷ all_told told next (next desk c) cs

unfoldable pub unmarked_all : Unmarked → List Call → Unmarked
unmarked_all desk [] = desk
unmarked_all desk (c ∷ cs) = unmarked_all (unmarked_after desk c) cs

-- the relation that every call keeps: turn and tickets are the same, a place is marked exactly where it holds a ticket, and no other bit is set
pub record Same (desk : Desk) (without : Unmarked) : Type 0 where
  pub turn_same : desk.turn ≡ without.turn
  pub tickets_same : desk.tickets ≡ without.tickets
  pub marked : (place : ℕ) → place < 95 → is_marked desk.marks place ≡ (place_in without.tickets place).live
  pub beyond : (place : ℕ) → 95 ≤ place → is_marked desk.marks place ≡ false
  pub places : length without.tickets ≡ 95

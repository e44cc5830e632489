-- Cancelling and expiring: rows 21 and 22.
-- Assumes nothing.
use Rattle.std.specs.Prelude.{◌≡◌, Bool, not, ◌&&◌, List, [], ◌∷◌, ℕ, ◌+◌, ◌-◌, ◌<◌, eqb, leb, Ok, Err}
use Rattle.std.proofs.Math.Option.{Option, some, none}
use Rattle.rows.specs.Rows.{Row, row, test, first_row_of, Test}
use Rattle.first.specs.First.{first_place}
use Rattle.desk.specs.Desk.{standing, place_in, ticket_at, ticket_on, OpenOn, put_at, fault_number}
use Rattle.ticket.specs.Due.{IsDue, is_due}
use Rattle.ticket.specs.Ticket.{withdrawn_at}
use Rattle.ticket.specs.declared.Ticket.{Ticket}
use Rattle.desk.specs.declared.Desk.{Desk}
use Rattle.desk.specs.declared.Fault.{Fault}
use Rattle.desk.specs.declared.Fault.TheVariants.{NotTheirs, NothingDue}
use Rattle.desk.specs.Answers.{Closing, closing}
use Rattle.desk.specs.declared.AfterClose.{AfterClose}

-- ---- "Cancel closes the ticket that is open on the address for that job now"

-- 21: "that job has no ticket on that address"
unfoldable pub IsNotTheirs : Desk → ℕ → ℕ → Type 0
IsNotTheirs desk job address = OpenOn desk address × ((ticket_on desk address).asked.job ≡ job) → ⊥

unfoldable pub cancel_rows : Desk → ℕ → ℕ → List (Row Fault)
cancel_rows desk job address = row (IsNotTheirs desk job address) NotTheirs ∷ []

abbrev pub is_theirs : Ticket → ℕ → Bool
is_theirs ticket job = ticket.live && eqb ticket.asked.job job

abbrev pub cancel_tests : Ticket → ℕ → List (Test Fault)
cancel_tests ticket job = test (not (is_theirs ticket job)) NotTheirs ∷ []

unfoldable pub cancel_refusal : Desk → ℕ → ℕ → Option Fault
cancel_refusal desk job address = first_row_of (cancel_tests (ticket_on desk address) job)

-- ---- "Expire closes one ticket, the due one with the lowest address"

-- 22: "nothing due"
unfoldable pub IsNothingDue : Desk → ℕ → Type 0
IsNothingDue desk clock = (place : ℕ) → place < 95 → IsDue clock (ticket_at desk place) → ⊥

unfoldable pub expire_rows : Desk → ℕ → List (Row Fault)
expire_rows desk clock = row (IsNothingDue desk clock) NothingDue ∷ []

-- the lowest place with a due ticket; 95 where there is none
abbrev pub due_in : List Ticket → ℕ → ℕ
due_in tickets clock = first_place (λ place. is_due clock (place_in tickets place)) 95

unfoldable pub due_place : Desk → ℕ → ℕ
due_place desk clock = due_in (standing desk) clock

abbrev pub expire_tests : ℕ → List (Test Fault)
expire_tests place = test (leb 95 place) NothingDue ∷ []

unfoldable pub expire_refusal : Desk → ℕ → Option Fault
expire_refusal desk clock = first_row_of (expire_tests (due_place desk clock))

-- ---- both answer job and address, and by 02, #110, the folder

abbrev pub close_answer : Option Fault → Ticket → ℕ → Closing
close_answer (some f) ticket address = Err f
close_answer none ticket address = closing ticket.asked.job address ticket.asked.folder

-- the number that an answer tells
abbrev pub close_told : Closing → Option ℕ
close_told (Err f) = some (fault_number f)
close_told (Ok closed) = none

-- the desk without the ticket that was cancelled or expired at a clock. 02, #102: "an address closed by cancel or expiry rests" from then
abbrev pub withdrawn_on : Desk → ℕ → ℕ → Desk
withdrawn_on desk address clock = put_at desk (address - 161) (withdrawn_at clock)

abbrev pub close_desk : Option Fault → Desk → ℕ → ℕ → Desk
close_desk (some f) desk address clock = desk
close_desk none desk address clock = withdrawn_on desk address clock

-- ---- the contracts

-- `cancel`. 02, #102: "Cancel takes a clock reading."
abbrev pub Cancels : Desk → ℕ → ℕ → ℕ → AfterClose → Type 0
Cancels desk job address clock r =
    (r.answer ≡ close_answer (cancel_refusal desk job address) (ticket_on desk address) address)
    × (r.desk ≡ close_desk (cancel_refusal desk job address) desk address clock)

-- `expire`
abbrev pub Expires : Desk → ℕ → AfterClose → Type 0
Expires desk clock r =
    (r.answer ≡ close_answer (expire_refusal desk clock) (ticket_on desk (161 + due_place desk clock)) (161 + due_place desk clock))
    × (r.desk ≡ close_desk (expire_refusal desk clock) desk (161 + due_place desk clock) clock)

-- `withdraw`: the ticket on the address is closed without a reply, at a clock
abbrev pub Withdraws : Desk → ℕ → ℕ → AfterClose → Type 0
Withdraws desk address clock r = (r.answer ≡ close_answer none (ticket_on desk address) address) × (r.desk ≡ close_desk none desk address clock)

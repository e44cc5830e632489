-- What the C host is answered by the desk: numbers only. Each answer is what the desk's own call answers, told in numbers.
-- Assumes nothing.
use Rattle.std.specs.Prelude.{◌≡◌, cond, List, ℕ, eqb, Ok, Err}
use Rattle.desk.specs.Close.{Cancels, Expires}
use Rattle.desk.specs.Desk.{fresh_desk, Looks, fault_number, fault_place}
use Rattle.desk.specs.Open.{Opens}
use Rattle.desk.specs.Reply.{Replies}
use Rattle.desk.specs.declared.AfterClose.{AfterClose}
use Rattle.desk.specs.declared.AfterOpen.{AfterOpen}
use Rattle.desk.specs.declared.AfterReply.{AfterReply}
use Rattle.desk.specs.Answers.{Opening, Booking, booking, Closing, closing}
use Rattle.desk.specs.declared.Desk.{Desk}
use Rattle.desk.specs.declared.Fault.TheVariants.{NothingDue}
use Rattle.desk.specs.declared.Seen.{Seen}
use Rattle.desk.specs.declared.Seen.TheVariants as seen
use Rattle.overdue.specs.Overdue.{ExpiresAll}
use Rattle.overdue.specs.declared.Swept.{Swept}
use Rattle.request.specs.declared.Request.{Request}
use Rattle.ticket.specs.Ticket.{no_ticket}
use Rattle.kamzhor.specs.Told.{Told}
use Rattle.kamzhor.specs.declared.host_desk.OpenAnswer.{OpenAnswer}
use Rattle.kamzhor.specs.declared.host_desk.ReplyAnswer.{ReplyAnswer}
use Rattle.kamzhor.specs.declared.host_desk.CloseAnswer.{CloseAnswer}
use Rattle.kamzhor.specs.declared.host_desk.SeenAnswer.{SeenAnswer}
use Rattle.kamzhor.specs.declared.host_desk.AfterDeskOpen.{AfterDeskOpen}
use Rattle.kamzhor.specs.declared.host_desk.AfterDeskReply.{AfterDeskReply}
use Rattle.kamzhor.specs.declared.host_desk.AfterDeskClose.{AfterDeskClose}
use Rattle.kamzhor.specs.declared.host_desk.AfterDeskSweep.{AfterDeskSweep}

-- ---- an opening

-- a number, and by 02, #108, the count of addresses: every other field is 0
abbrev pub open_number : ℕ → ℕ → OpenAnswer
open_number n considered = record { refusal = n; address = 0; considered = considered; size = 0 }

abbrev pub open_given : Opening → ℕ → OpenAnswer
open_given (Err f) considered = open_number (fault_number f) considered
open_given (Ok opened) considered = record { refusal = 0; address = opened.address; considered = considered; size = opened.size }

abbrev pub open_told : AfterOpen → AfterDeskOpen
open_told o = record { desk = o.desk; answer = open_given o.answer o.count }

-- ---- a reply

-- a number, and with 3 the place in the frame (02, #105): every other field is 0
abbrev pub reply_number : ℕ → ℕ → ReplyAnswer
reply_number n place = record { refusal = n; job = 0; folder = 0; address = 0; sort = 0; size = 0; place = place }

abbrev pub reply_given : Booking → ReplyAnswer
reply_given (Err f) = reply_number (fault_number f) (fault_place f)
reply_given (Ok booked) =
    record { refusal = 0; job = booked.job; folder = booked.folder; address = booked.address; sort = booked.sort; size = booked.size; place = 0 }

abbrev pub reply_told : AfterReply → AfterDeskReply
reply_told o = record { desk = o.desk; answer = reply_given o.answer }

-- ---- a cancel or an expiry

abbrev pub close_number : ℕ → CloseAnswer
close_number n = record { refusal = n; job = 0; folder = 0; address = 0 }

abbrev pub close_given : Closing → CloseAnswer
close_given (Err f) = close_number (fault_number f)
close_given (Ok closed) = record { refusal = 0; job = closed.job; folder = closed.folder; address = closed.address }

abbrev pub close_told : AfterClose → AfterDeskClose
close_told o = record { desk = o.desk; answer = close_given o.answer }

-- ---- everything that is due

abbrev pub sweep_told : Swept → AfterDeskSweep
sweep_told o = record { desk = o.desk; count = o.count }

-- ---- what stands on an address: 1 an open ticket, 2 one that was cancelled or expired, 0 neither. What is not said is 0

abbrev pub not_open : ℕ → ℕ → SeenAnswer
not_open state closed = record { state = state; asked = no_ticket.asked; opened = 0; closed = closed }

abbrev pub seen_given : Seen → SeenAnswer
seen_given seen.Nothing = not_open 0 0
seen_given (seen.Open ticket) = record { state = 1; asked = ticket.asked; opened = ticket.opened; closed = 0 }
seen_given (seen.Withdrawn clock) = not_open 2 clock

-- ---- the desk's answers, handed back in numbers to those who asked: which refusal it was is not kept

abbrev pub booking_meant : ReplyAnswer → Booking
booking_meant a = cond (eqb a.refusal 0) (booking a.job a.address a.sort a.size a.folder) (Err NothingDue)

abbrev pub closing_meant : CloseAnswer → Closing
closing_meant a = cond (eqb a.refusal 0) (closing a.job a.address a.folder) (Err NothingDue)

-- ---- the contracts

-- `kamzhor_desk_fresh`
abbrev pub GivesDesk : Desk → Type 0
GivesDesk r = r ≡ fresh_desk

-- `kamzhor_after_desk_open`
abbrev pub GivesOpen : Desk → Request → List ℕ → ℕ → List ℕ → AfterDeskOpen → List ℕ → Type 0
GivesOpen desk asked bytes clock room r room' = Told (λ o. Opens desk asked bytes clock room o room') open_told r

-- `kamzhor_after_desk_reply`
abbrev pub GivesReply : Desk → List ℕ → List ℕ → AfterDeskReply → List ℕ → Type 0
GivesReply desk frame room r room' = Told (λ o. Replies desk frame room o room') reply_told r

-- `kamzhor_after_desk_cancel`
abbrev pub GivesCancel : Desk → ℕ → ℕ → ℕ → AfterDeskClose → Type 0
GivesCancel desk job address clock r = Told (Cancels desk job address clock) close_told r

-- `kamzhor_after_desk_expire`
abbrev pub GivesExpire : Desk → ℕ → AfterDeskClose → Type 0
GivesExpire desk clock r = Told (Expires desk clock) close_told r

-- `kamzhor_after_desk_expire_all`
abbrev pub GivesSweep : Desk → ℕ → List ℕ → AfterDeskSweep → List ℕ → Type 0
GivesSweep desk clock list r list' = Told (λ o. ExpiresAll desk clock list o list') sweep_told r

-- `kamzhor_look_at_desk`
abbrev pub GivesSeen : Desk → ℕ → SeenAnswer → Type 0
GivesSeen desk address r = Told (Looks desk address) seen_given r

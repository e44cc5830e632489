-- Nights at the desk: any calls, in any order, from a fresh desk on.
-- Assumes nothing.
use Rattle.std.specs.Prelude.{◌≡◌, cond, List, [], ◌∷◌, ◌≢◌, ◌⊎◌, ℕ, ◌+◌, ◌≤◌, ◌<◌, eqb, length, Ok, Err}
use Rattle.desk.specs.Close.{cancel_refusal, due_place, expire_refusal, close_answer, close_desk}
use Rattle.desk.specs.Desk.{ticket_at, ticket_on, OpenOn}
use Rattle.desk.specs.Open.{given_place, request_at, open_refusal, open_answer, open_desk}
use Rattle.desk.specs.Reply.{reply_refusal, book_answer, book_desk}
use Rattle.desk.specs.declared.Desk.{Desk}
use Rattle.desk.specs.Answers.{Opening}
use Rattle.desk.specs.Answers.{Booking}
use Rattle.desk.specs.Answers.{Closing}
use Rattle.request.specs.declared.Request.{Request}
use Rattle.telegram.specs.Read.{fields_in}
use Rattle.ticket.specs.Due.{age}
use Rattle.ticket.specs.Fit.{KindFits, RegisterFits}
use Rattle.ticket.specs.Ticket.{Open, no_ticket, new_ticket, withdrawn_at}
use Rattle.ticket.specs.declared.Ticket.{Ticket}

-- a call, with what it was given; `room` is the lent buffer
pub data Call : Type 0 where
  asks : (asked : Request) (bytes : List ℕ) (clock : ℕ) (room : List ℕ) → Call
  brings : (frame room : List ℕ) → Call
  cancels : (job address clock : ℕ) → Call
  expires : (clock : ℕ) → Call

-- what the caller saw: the address that was answered, with the whole request that was asked and the clock; the job, address and folder that
-- were answered with what came, its source, type and register; or the job, address and folder of a ticket that was cancelled or expired, and
-- the clock
pub data Event : Type 0 where
  opened : (address : ℕ) (asked : Request) (clock : ℕ) → Event
  booked : (job address source sort register folder : ℕ) → Event
  withdrawn : (job address folder clock : ℕ) → Event
  nothing : Event

-- the desk after a call, and what was answered, as the contracts of `open`, `reply`, `cancel` and `expire` say
unfoldable pub after : Desk → Call → Desk
after desk (asks asked bytes clock room) =
    open_desk (open_refusal desk asked bytes clock (length room)) desk (given_place desk clock) (new_ticket asked clock)
after desk (brings frame room) = book_desk (reply_refusal desk frame (length room)) desk (fields_in frame)
after desk (cancels job address clock) = close_desk (cancel_refusal desk job address) desk address clock
after desk (expires clock) = close_desk (expire_refusal desk clock) desk (161 + due_place desk clock) clock

abbrev pub of_opening : Opening → Request → ℕ → Event
of_opening (Ok told) asked clock = opened told.address asked clock
of_opening (Err f) asked clock = nothing

abbrev pub of_booking : Booking → List ℕ → Event
of_booking (Ok told) frame = booked told.job told.address (fields_in frame).source told.sort (fields_in frame).register told.folder
of_booking (Err f) frame = nothing

abbrev pub of_closing : Closing → ℕ → Event
of_closing (Ok closed) clock = withdrawn closed.job closed.address closed.folder clock
of_closing (Err f) clock = nothing

unfoldable pub event_of : Desk → Call → Event
event_of desk (asks asked bytes clock room) =
    of_opening
    (open_answer (open_refusal desk asked bytes clock (length room)) (161 + given_place desk clock) (length (request_at (given_place desk clock) asked bytes)))
    asked clock
event_of desk (brings frame room) =
    of_booking (book_answer (reply_refusal desk frame (length room)) (ticket_on desk (fields_in frame).destination) (fields_in frame)) frame
event_of desk (cancels job address clock) = of_closing (close_answer (cancel_refusal desk job address) (ticket_on desk address) address) clock
event_of desk (expires clock) =
    of_closing (close_answer (expire_refusal desk clock) (ticket_on desk (161 + due_place desk clock)) (161 + due_place desk clock)) clock

-- the desk after a sequence of calls, and all that was answered, the latest first
unfoldable pub after_all : Desk → List Call → Desk
after_all desk [] = desk
after_all desk (c ∷ cs) = after_all (after desk c) cs

unfoldable pub answered_all : Desk → List Event → List Call → List Event
answered_all desk past [] = past
answered_all desk past (c ∷ cs) = answered_all (after desk c) (event_of desk c ∷ past) cs

-- ---- the accident, and late answers: what became of the last ticket on an address, by what the callers saw alone

-- there never was one; it stands open, with its request and the clock of its opening; its reply was booked; it was cancelled or expired at a
-- clock
pub data Last : Type 0 where
  never : Last
  stands : (asked : Request) (clock : ℕ) → Last
  answered : Last
  given_up : (clock : ℕ) → Last

-- by the last opening or closing there
unfoldable pub last_on : List Event → ℕ → Last
last_on [] a = never
last_on (opened address asked clock ∷ past) a = cond (eqb a address) (stands asked clock) (last_on past a)
last_on (booked job address source sort register folder ∷ past) a = cond (eqb a address) answered (last_on past a)
last_on (withdrawn job address folder clock ∷ past) a = cond (eqb a address) (given_up clock) (last_on past a)
last_on (nothing ∷ past) a = last_on past a

-- the address may be given at a clock: no ticket stands there, and it does not rest
abbrev pub MayBeGiven : Last → ℕ → Type 0
MayBeGiven never clock = Unit {0}
MayBeGiven (stands asked opening) clock = ⊥
MayBeGiven answered clock = Unit {0}
MayBeGiven (given_up closing) clock = 1000 ≤ age clock closing

-- 02, #110: no other job has a ticket that stands on the folder that is asked for
abbrev pub FolderFree : List Event → Request → Type 0
FolderFree past asked = (address : ℕ) (theirs : Request) (clock : ℕ) → last_on past address ≡ stands theirs clock
    → theirs.job ≢ asked.job → asked.folder ≢ 0 → theirs.folder ≢ asked.folder

-- what came fits the opening that stands there, and its job and folder were answered
pub record Fitting (there : Last) (job source sort register folder : ℕ) : Type 0 where
  pub asked : Request
  pub opening : ℕ
  pub is_open : there ≡ stands asked opening
  pub theirs : job ≡ asked.job
  pub from_module : source ≡ asked.unit
  pub kind_fits : KindFits asked.sort sort
  pub register_fits_lem : RegisterFits asked.register sort register
  pub in_folder : folder ≡ asked.folder

-- the job and the folder of the opening that stands there were answered
pub record Theirs (there : Last) (job folder : ℕ) : Type 0 where
  pub asked : Request
  pub opening : ℕ
  pub is_open : there ≡ stands asked opening
  pub theirs : job ≡ asked.job
  pub in_folder : folder ≡ asked.folder

-- an address is given only where no ticket stands and where it does not rest, and on no folder that another job has a ticket on; every booking
-- fits that opening's module, kind and register and answers its job and folder; every cancel and expiry answers that opening's job, address and
-- folder
unfoldable pub Right : List Event → Type 0
Right [] = Unit {0}
Right (opened address asked clock ∷ past) = MayBeGiven (last_on past address) clock × FolderFree past asked × Right past
Right (booked job address source sort register folder ∷ past) = Fitting (last_on past address) job source sort register folder × Right past
Right (withdrawn job address folder clock ∷ past) = Theirs (last_on past address) job folder × Right past
Right (nothing ∷ past) = Right past

-- what the desk keeps of it
abbrev pub kept : Last → Ticket
kept never = no_ticket
kept (stands asked clock) = new_ticket asked clock
kept answered = no_ticket
kept (given_up clock) = withdrawn_at clock

-- what stands on each address is exactly that
unfoldable pub Kept : Desk → List Event → Type 0
Kept desk past = (address : ℕ) → ticket_on desk address ≡ kept (last_on past address)

-- ---- what every desk keeps to

-- every open ticket has a job other than 0, a module of 1 to 160, a type of 4, 5, 6, 7 or 9, a wait of 1 to 60000
pub record SoundRequest (asked : Request) : Type 0 where
  pub has_job : asked.job ≢ 0
  pub has_module : (1 ≤ asked.unit) × (asked.unit ≤ 160)
  pub has_request : (asked.sort ≡ 4) ⊎ ((asked.sort ≡ 5) ⊎ ((asked.sort ≡ 6) ⊎ ((asked.sort ≡ 7) ⊎ (asked.sort ≡ 9))))
  pub has_wait : (1 ≤ asked.wait) × (asked.wait ≤ 60000)

-- the turn is 161 to 255; at most one ticket to an address and at most 95 in all
pub record SoundDesk (desk : Desk) : Type 0 where
  pub turn_within : desk.turn < 95
  pub places : length desk.tickets ≡ 95
  pub sound : (place : ℕ) → Open (ticket_at desk place) → SoundRequest (ticket_at desk place).asked

-- 02, #110: "No two open tickets of different jobs may hold the same folder other than 0"
abbrev pub FoldersApart : Desk → Type 0
FoldersApart desk = (a b : ℕ) → OpenOn desk a → OpenOn desk b → (ticket_on desk a).asked.job ≢ (ticket_on desk b).asked.job
    → (ticket_on desk a).asked.folder ≢ 0 → (ticket_on desk a).asked.folder ≢ (ticket_on desk b).asked.folder

-- a night so far
pub record Night (desk : Desk) (past : List Event) : Type 0 where
  pub sound : SoundDesk desk
  pub apart : FoldersApart desk
  pub kept : Kept desk past
  pub right : Right past

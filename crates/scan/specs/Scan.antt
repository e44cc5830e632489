-- Who is on the line. 02, #113: "It takes module addresses 1 to 160 in turn, asks each for register 61h through the desk with a wait of 100 ms,
-- and moves on when that ticket is booked, expires or is cancelled."
-- Assumes nothing.
use Rattle.std.specs.Prelude.{◌≡◌, Bool, true, false, cond, not, ◌&&◌, List, [], ℕ, ◌+◌, ◌-◌, eqb, leb, get_or, replicate, set, Ok, Err}
use Rattle.std.proofs.Math.Option.{Option, some, none}
use Rattle.request.specs.declared.Request.{Request}
use Rattle.desk.specs.Desk.{fault_number as desk_number}
use Rattle.desk.specs.Open.{Opens}
use Rattle.desk.specs.declared.AfterOpen.{AfterOpen}
use Rattle.desk.specs.Answers.{Booking}
use Rattle.desk.specs.Answers.{Closing}
use Rattle.desk.specs.declared.Desk.{Desk}
use Rattle.desk.specs.Answers.{Opening}
use Rattle.scan.specs.declared.AfterStep.{AfterStep}
use Rattle.scan.specs.declared.Found.{Found}
use Rattle.scan.specs.declared.Found.TheVariants.{NotYet, Absent, Present}
use Rattle.scan.specs.declared.Scan.{Scan}
use Rattle.scan.specs.Answers.{Stepping}
use Rattle.scan.specs.declared.Stage.TheVariants.{Asked, Waiting, Done}

abbrev pub fresh_scan : ℕ → Scan
fresh_scan job = record { job = job; turns = 0; out = 0; results = replicate 160 0 }

-- ---- a step

-- "asks each for register 61h through the desk with a wait of 100 ms", "The scan has one job number and folder 0": a read, type 4
abbrev pub request : Scan → Request
request scan = record { job = scan.job; unit = scan.turns + 1; sort = 4; register = 97; wait = 100; folder = 0 }

-- "It ends after exactly 160 turns"
abbrev pub is_done : Scan → Bool
is_done scan = leb 160 scan.turns

-- a ticket is out
abbrev pub is_out : Scan → Bool
is_out scan = not (eqb scan.out 0)

abbrev pub now_out : Scan → ℕ → Scan
now_out scan address = record { job = scan.job; turns = scan.turns; out = address; results = scan.results }

-- the scan once the desk has answered: "A turn whose opening is refused, whatever the number, is tried again at the next call and isn't one of
-- the 160."
abbrev pub after_opening : Scan → Opening → Scan
after_opening scan (Ok opened) = now_out scan opened.address
after_opening scan (Err f) = scan

-- the desk's answer passed on, with the module that was asked
abbrev pub from_desk : ℕ → Opening → Stepping
from_desk unit (Ok opened) = Ok (Asked opened.address unit opened.size)
from_desk unit (Err f) = Err f

-- the number that an answer tells, or none
abbrev pub step_told : Stepping → Option ℕ
step_told (Err f) = some (desk_number f)
step_told (Ok (Asked address unit n)) = none
step_told (Ok (Waiting address)) = none
step_told (Ok Done) = none

-- nothing was asked
abbrev pub Stays : Scan → Desk → Stepping → AfterStep → Type 0
Stays scan desk answer r = (r.answer ≡ answer) × (r.scan ≡ scan) × (r.desk ≡ desk) × (r.count ≡ 0)

-- what the desk did, asked for that module, with its count
abbrev pub Passes : Scan → ℕ → AfterOpen → AfterStep → Type 0
Passes scan unit o r =
    (r.answer ≡ from_desk unit o.answer) × (r.scan ≡ after_opening scan o.answer) × (r.desk ≡ o.desk) × (r.count ≡ o.count)

-- a step: done after 160 turns, waiting while a ticket is out, else the next module is asked by the desk's own `open`
abbrev pub StepsBy : Bool → Bool → Scan → Desk → ℕ → List ℕ → AfterStep → List ℕ → Type 0
StepsBy true out scan desk clock room r room' = Stays scan desk (Ok Done) r × (room' ≡ room)
StepsBy false true scan desk clock room r room' = Stays scan desk (Ok (Waiting scan.out)) r × (room' ≡ room)
StepsBy false false scan desk clock room r room' = (o : AfterOpen) × Opens desk (request scan) [] clock room o room' × Passes scan (scan.turns + 1) o r

-- ---- what the desk answers is told to the scan: "moves on when that ticket is booked, expires or is cancelled"

-- the ticket on the address is the one that is out
abbrev pub is_its_own : Scan → ℕ → Bool
is_its_own scan address = is_out scan && eqb scan.out address

-- "for each address, absent or a number: 1 for a datagram, 2 for nack, check error or busy": absent is 0
abbrev pub answer_of : ℕ → ℕ
answer_of sort = cond (eqb sort 8) 1 2

-- the turn is over, with a result; nothing is out any more
abbrev pub turn_over : Scan → ℕ → Scan
turn_over scan result =
    cond (is_done scan) scan
    (record { job = scan.job; turns = scan.turns + 1; out = 0; results = set scan.results scan.turns result })

abbrev pub heard_reply : Scan → Booking → Scan
heard_reply scan (Ok booked) = cond (is_its_own scan booked.address) (turn_over scan (answer_of booked.sort)) scan
heard_reply scan (Err f) = scan

-- "A cancelled scan ticket counts as absent", and so does one that expires
abbrev pub heard_closing : Scan → Closing → Scan
heard_closing scan (Ok closed) = cond (is_its_own scan closed.address) (turn_over scan 0) scan
heard_closing scan (Err f) = scan

-- ---- what was found at a module address

abbrev pub found : ℕ → Found
found result = cond (eqb result 0) Absent (Present result)

abbrev pub is_over : Scan → ℕ → Bool
is_over scan unit = leb 1 unit && (leb unit scan.turns && leb unit 160)

-- ---- the contracts

abbrev pub Makes : ℕ → Scan → Type 0
Makes job r = r ≡ fresh_scan job

-- `step`
abbrev pub Steps : Scan → Desk → ℕ → List ℕ → AfterStep → List ℕ → Type 0
Steps scan desk clock room r room' = StepsBy (is_done scan) (is_out scan) scan desk clock room r room'

abbrev pub HearsReply : Scan → Booking → Scan → Type 0
HearsReply scan answer r = r ≡ heard_reply scan answer

abbrev pub HearsClosing : Scan → Closing → Scan → Type 0
HearsClosing scan answer r = r ≡ heard_closing scan answer

-- `look`
abbrev pub Looks : Scan → ℕ → Found → Type 0
Looks scan unit r = r ≡ cond (is_over scan unit) (found (get_or scan.results (unit - 1) 0)) NotYet

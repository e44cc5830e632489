-- Opening a ticket: rows 10 to 14, 75, 15 and 16, the address that is given, the next turn, and the request telegram.
-- Assumes nothing.
use Rattle.std.specs.Prelude.{◌≡◌, Bool, true, false, List, [], ◌∷◌, ◌++◌, ◌⊎◌, ℕ, ◌+◌, ◌%◌, ◌≤◌, ◌<◌, leb, ltb, length, Ok, Err}
use Rattle.std.proofs.Math.Option.{Option, some, none}
use Rattle.lent.specs.Lent.{over}
use Rattle.rows.specs.Rows.{Row, row, Test, test, first_row_of, or_later, passed_up, raised}
use Rattle.marks.specs.Marks.{is_marked, with_mark}
use Rattle.marks.specs.declared.Marks.{Marks}
use Rattle.request.specs.Request.{ask_rows, ask_refusal}
use Rattle.request.specs.declared.Request.{Request}
use Rattle.first.specs.First.{first_place}
use Rattle.telegram.specs.Write.{telegram_for}
use Rattle.ticket.specs.Rest.{Rests, is_resting, is_free}
use Rattle.ticket.specs.Ticket.{Open, new_ticket}
use Rattle.ticket.specs.declared.Ticket.{Ticket}
use Rattle.desk.specs.Desk.{standing, place_in, ticket_at, stored_at, fault_number}
use Rattle.desk.specs.Folder.{IsFolderHeld, is_folder_held}
use Rattle.desk.specs.declared.Desk.{Desk}
use Rattle.desk.specs.declared.Fault.{Fault}
use Rattle.desk.specs.declared.Fault.TheVariants.{Denied, FolderHeld, NoneFree, NoRoom, Unread, Misfit, NotTheirs, NothingDue}
use Rattle.desk.specs.Answers.{Opening, opening}
use Rattle.desk.specs.declared.AfterOpen.{AfterOpen}

-- ---- "The address given is the first one without a ticket, from the turn upwards and after 255 from 161 on." 02, #102: one that rests at the
-- call's clock "is not given out".

-- the place at a distance from the turn
abbrev pub place_from : ℕ → ℕ → ℕ
place_from turn distance = (turn + distance) % 95

-- how far from the turn the first place is that is free at a clock; 95 where there is none
abbrev pub distance_in : List Ticket → ℕ → ℕ → ℕ
distance_in tickets turn clock = first_place (λ k. is_free clock (place_in tickets (place_from turn k))) 95

unfoldable pub distance_of : Desk → ℕ → ℕ
distance_of desk clock = distance_in (standing desk) desk.turn clock

unfoldable pub given_place : Desk → ℕ → ℕ
given_place desk clock = place_from desk.turn (distance_of desk clock)

-- "The request telegram is written with that address as source": the telegram of a request at a place
abbrev pub request_at : ℕ → Request → List ℕ → List ℕ
request_at place asked bytes = telegram_for asked.unit (161 + place) asked.sort asked.register bytes

-- ---- rows 15 and 16

-- 15, by 02, #102: "every address is open or resting at the call's clock"
unfoldable pub IsNoneFree : Desk → ℕ → Type 0
IsNoneFree desk clock = (place : ℕ) → place < 95 → Open (ticket_at desk place) ⊎ Rests clock (ticket_at desk place)

-- 16: "buffer shorter than the telegram"
unfoldable pub IsNoRoom : List ℕ → ℕ → Type 0
IsNoRoom telegram room = room < length telegram

unfoldable pub place_rows : Desk → ℕ → List ℕ → ℕ → List (Row Fault)
place_rows desk clock telegram room = row (IsNoneFree desk clock) NoneFree ∷ row (IsNoRoom telegram room) NoRoom ∷ []

abbrev pub place_tests : ℕ → List ℕ → ℕ → List (Test Fault)
place_tests distance telegram room = test (leb 95 distance) NoneFree ∷ test (ltb room (length telegram)) NoRoom ∷ []

-- what refuses an opening, in the order 10 to 14, 75, 15, 16: "75 folder held by another job, after 14 and before 15"
abbrev pub refusal_by : Bool → ℕ → ℕ → Request → List ℕ → ℕ → Option Fault
refusal_by held distance place asked bytes room =
    or_later (raised Denied (ask_refusal asked bytes))
    (first_row_of (test held FolderHeld ∷ place_tests distance (request_at place asked bytes) room))

unfoldable pub open_refusal : Desk → Request → List ℕ → ℕ → ℕ → Option Fault
open_refusal desk asked bytes clock room =
    refusal_by (is_folder_held desk asked) (distance_of desk clock) (given_place desk clock) asked bytes room

unfoldable pub open_rows : Desk → Request → List ℕ → ℕ → ℕ → List (Row Fault)
open_rows desk asked bytes clock room =
    passed_up Denied (ask_rows asked bytes)
    ++ (row (IsFolderHeld desk asked) FolderHeld ∷ place_rows desk clock (request_at (given_place desk clock) asked bytes) room)

-- ---- the answer, the desk and the buffer, each from the refusal

abbrev pub open_answer : Option Fault → ℕ → ℕ → Opening
open_answer (some f) address n = Err f
open_answer none address n = opening address n

-- the number that an answer tells
abbrev pub open_told : Opening → Option ℕ
open_told (Err f) = some (fault_number f)
open_told (Ok opened) = none

-- the ticket stands at the place that was given, and "the turn then moves to the address after it, again with 161 after 255"
abbrev pub with_ticket : Desk → ℕ → Ticket → Desk
with_ticket desk place ticket = stored_at desk ((place + 1) % 95) place ticket (with_mark desk.marks place ticket.live)

abbrev pub open_desk : Option Fault → Desk → ℕ → Ticket → Desk
open_desk (some f) desk place ticket = desk
open_desk none desk place ticket = with_ticket desk place ticket

-- 02, #108: "Opening reports how many addresses it considered: those from the turn up to and including the one given. Refusals carry it
-- too: 95 with 15, 0 with 10 to 14, and with 16 the count up to the address that would have been given." #110, of 75: "#108's count is 0 with
-- it."
abbrev pub refused_count : Fault → ℕ → ℕ
refused_count (Denied f) distance = 0
refused_count FolderHeld distance = 0
refused_count NoneFree distance = 95
refused_count NoRoom distance = distance + 1
refused_count (Unread f) distance = 0
refused_count (Misfit f) distance = 0
refused_count NotTheirs distance = 0
refused_count NothingDue distance = 0

abbrev pub open_count : Option Fault → ℕ → ℕ
open_count (some f) distance = refused_count f distance
open_count none distance = distance + 1

abbrev pub open_room : Option Fault → List ℕ → List ℕ → List ℕ
open_room (some f) telegram room = room
open_room none telegram room = over telegram room

-- an opening at a place, so far from the turn, unless it is refused
abbrev pub OpensAt : Option Fault → Desk → ℕ → ℕ → Request → List ℕ → ℕ → List ℕ → AfterOpen → List ℕ → Type 0
OpensAt refusal desk place distance asked bytes clock room r room' =
    (r.answer ≡ open_answer refusal (161 + place) (length (request_at place asked bytes)))
    × (r.desk ≡ open_desk refusal desk place (new_ticket asked clock))
    × (room' ≡ open_room refusal (request_at place asked bytes) room)
    × (r.count ≡ open_count refusal distance)

-- ---- the contracts

-- `open`
abbrev pub Opens : Desk → Request → List ℕ → ℕ → List ℕ → AfterOpen → List ℕ → Type 0
Opens desk asked bytes clock room r room' =
    OpensAt (open_refusal desk asked bytes clock (length room)) desk (given_place desk clock) (distance_of desk clock) asked bytes clock room r room'

-- `passed_by`: so many places from one on, where this ticket is, are not free at a clock: each is marked, or it is this one and rests. None
-- where it is free
abbrev pub PassesBy : Marks → Ticket → ℕ → ℕ → ℕ → Type 0
PassesBy marks ticket place clock r =
    (place + r ≤ 95)
    × (r ≡ 0 → (is_marked marks place ≡ false) × (is_resting clock ticket ≡ false))
    × ((k : ℕ) → k < r → (is_marked marks (place + k) ≡ true) ⊎ ((k ≡ 0) × (is_resting clock ticket ≡ true)))

-- rows 15 and 16 and the opening, at any distance from the turn. `open_at` is called at one under 95 alone: 15 was told before
abbrev pub PlacesAt : Desk → ℕ → Request → List ℕ → ℕ → List ℕ → AfterOpen → List ℕ → Type 0
PlacesAt desk distance asked bytes clock room r room' =
    OpensAt (first_row_of (place_tests distance (request_at (place_from desk.turn distance) asked bytes) (length room))) desk
    (place_from desk.turn distance) distance asked bytes clock room r room'

-- A grant: it "serves the first lane with something waiting after the lane last served (at first the 16th), going round, opens its oldest
-- request and answers its job too". 02, #109.
-- Assumes nothing.
use Rattle.std.specs.Prelude.{◌≡◌, Bool, true, false, cond, not, List, [], ◌∷◌, ℕ, ◌+◌, ◌%◌, ◌<◌, leb, ltb, length, set, take, Ok, Err}
use Rattle.std.proofs.Math.Option.{Option, some, none}
use Rattle.first.specs.First.{first_place}
use Rattle.rows.specs.Rows.{Row, row, Test, test, first_row_of}
use Rattle.request.specs.declared.Request.{Request}
use Rattle.desk.specs.Open.{Opens}
use Rattle.desk.specs.declared.AfterOpen.{AfterOpen}
use Rattle.desk.specs.declared.Desk.{Desk}
use Rattle.desk.specs.declared.Fault.{Fault as DeskFault}
use Rattle.desk.specs.declared.Fault.TheVariants as desk
use Rattle.desk.specs.Answers.{Opening}
use Rattle.lanes.specs.Lanes.{Empty, is_empty, lane_at, waiting_at, data_of, without, fault_number}
use Rattle.lanes.specs.declared.AfterGrant.{AfterGrant}
use Rattle.lanes.specs.declared.Fault.{Fault}
use Rattle.lanes.specs.declared.Fault.TheVariants.{ShortBuffer, NothingWaiting, AtDesk}
use Rattle.lanes.specs.Answers.{Granting}
use Rattle.lanes.specs.declared.Turn.TheVariants.{Granted, TakenOut}
use Rattle.lanes.specs.declared.Lane.{Lane}
use Rattle.lanes.specs.declared.Lanes.{Lanes}
use Rattle.lanes.specs.declared.Waiting.{Waiting}

-- ---- "for a grant, 73 buffer under 494, then 74 nothing waiting"

unfoldable pub IsShortBuffer : ℕ → Type 0
IsShortBuffer room = room < 494

unfoldable pub IsNothingWaiting : Lanes → Type 0
IsNothingWaiting lanes = (place : ℕ) → place < 16 → Empty (lane_at lanes place)

unfoldable pub grant_rows : Lanes → ℕ → List (Row Fault)
grant_rows lanes room = row (IsShortBuffer room) ShortBuffer ∷ row (IsNothingWaiting lanes) NothingWaiting ∷ []

-- ---- "the first lane with something waiting after the lane last served [..], going round"

-- the place so far behind the lane last served
abbrev pub place_after : ℕ → ℕ → ℕ
place_after last distance = (last + 1 + distance) % 16

-- how far behind it the first one is in which something waits; 16 where nothing does
unfoldable pub next_distance : Lanes → ℕ
next_distance lanes = first_place (λ k. not (is_empty (lane_at lanes (place_after lanes.last k)))) 16

unfoldable pub next_place : Lanes → ℕ
next_place lanes = place_after lanes.last (next_distance lanes)

abbrev pub grant_tests : Lanes → ℕ → List (Test Fault)
grant_tests lanes room = test (ltb room 494) ShortBuffer ∷ test (leb 16 (next_distance lanes)) NothingWaiting ∷ []

unfoldable pub grant_refusal : Lanes → ℕ → Option Fault
grant_refusal lanes room = first_row_of (grant_tests lanes room)

-- ---- the desk's answer, and what the lanes make of it

-- 02, #110: "A waiting request whose folder another job holds at its grant is taken out"
abbrev pub takes_out : DeskFault → Bool
takes_out desk.FolderHeld = true
takes_out (desk.Denied f) = false
takes_out desk.NoneFree = false
takes_out desk.NoRoom = false
takes_out (desk.Unread f) = false
takes_out (desk.Misfit f) = false
takes_out desk.NotTheirs = false
takes_out desk.NothingDue = false

-- the turn was used: a ticket was opened, or the request is taken out: "that grant, though refused, counts for #109 as one that opened
-- something and moves on the lane last served". "A grant answered 15 changes nothing and doesn't count."
abbrev pub moves_on : Opening → Bool
moves_on (Ok opened) = true
moves_on (Err f) = takes_out f

-- its oldest request is out of the lane, and it is the lane last served
abbrev pub served_from : Lanes → ℕ → Lane → Bool → Lanes
served_from lanes place lane true = record { last = place; lanes = set lanes.lanes place (without lane 0) }
served_from lanes place lane false = lanes

-- it "answers its job too"; one that is taken out is "reported with 75 and its job"
abbrev pub from_desk : ℕ → Opening → Granting
from_desk job (Ok opened) = Ok (Granted job opened.address opened.size)
from_desk job (Err f) = cond (takes_out f) (Ok (TakenOut job)) (Err (AtDesk f))

abbrev pub grant_told : Granting → Option ℕ
grant_told (Err f) = some (fault_number f)
grant_told (Ok (TakenOut job)) = some 75
grant_told (Ok (Granted job address n)) = none

-- ---- the contracts

-- `open_with` and `open_waiting`: the desk opens what waited, "with data", at the grant's clock
abbrev pub OpensWith : Desk → Request → List ℕ → ℕ → ℕ → List ℕ → AfterOpen → List ℕ → Type 0
OpensWith desk asked bytes n clock room o room' = Opens desk asked (take n bytes) clock room o room'

abbrev pub OpensWaiting : Desk → Waiting → ℕ → List ℕ → AfterOpen → List ℕ → Type 0
OpensWaiting desk waiting clock room o room' = Opens desk waiting.asked (data_of waiting) clock room o room'

-- what comes of the desk's answer
abbrev pub ServedBy : Lanes → ℕ → AfterOpen → AfterGrant → Type 0
ServedBy lanes place o r =
    (r.answer ≡ from_desk (waiting_at (lane_at lanes place) 0).asked.job o.answer)
    × (r.lanes ≡ served_from lanes place (lane_at lanes place) (moves_on o.answer))
    × (r.desk ≡ o.desk)
    × (r.count ≡ o.count)

-- `serve`: the lane at a place has its turn
abbrev pub Serves : Lanes → Desk → ℕ → ℕ → List ℕ → AfterGrant → List ℕ → Type 0
Serves lanes desk place clock room r room' =
    (o : AfterOpen) × OpensWaiting desk (waiting_at (lane_at lanes place) 0) clock room o room' × ServedBy lanes place o r

-- refused before the desk is asked: nothing changes, and no address was considered
abbrev pub NotGranted : Fault → Lanes → Desk → AfterGrant → Type 0
NotGranted f lanes desk r = (r.answer ≡ Err f) × (r.lanes ≡ lanes) × (r.desk ≡ desk) × (r.count ≡ 0)

abbrev pub GrantsBy : Option Fault → Lanes → Desk → ℕ → List ℕ → AfterGrant → List ℕ → Type 0
GrantsBy (some f) lanes desk clock room r room' = NotGranted f lanes desk r × (room' ≡ room)
GrantsBy none lanes desk clock room r room' = Serves lanes desk (next_place lanes) clock room r room'

-- `grant`
abbrev pub Grants : Lanes → Desk → ℕ → List ℕ → AfterGrant → List ℕ → Type 0
Grants lanes desk clock room r room' = GrantsBy (grant_refusal lanes (length room)) lanes desk clock room r room'

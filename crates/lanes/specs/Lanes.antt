-- Sixteen lanes in front of the desk, "each for one job number, holding up to 4 requests with data in order of arrival". 02, #109.
-- Assumes nothing.
use Rattle.std.specs.Prelude.{◌≡◌, Bool, true, false, Option, Some, None, cond, not, ◌&&◌, List, [], ◌∷◌, ℕ, ◌+◌, ◌-◌, ◌%◌, ◌<◌, eqb, ltb, length, get_or, set, take, replicate}
use Rattle.lent.specs.Lent.{over}
use Rattle.first.specs.First.{first_place}
use Rattle.request.specs.Request.{fault_number as ask_number}
use Rattle.request.specs.declared.Request.{Request}
use Rattle.desk.specs.Desk.{fault_number as desk_number}
use Rattle.lanes.specs.declared.Fault.{Fault}
use Rattle.lanes.specs.declared.Fault.TheVariants.{Denied, NoLaneFree, LaneFull, ShortBuffer, NothingWaiting, NoSuchRequest, AtDesk}
use Rattle.lanes.specs.declared.Waiting.{Waiting}
use Rattle.lanes.specs.declared.Lane.{Lane}
use Rattle.lanes.specs.declared.Lanes.{Lanes}

-- ---- what waits

abbrev pub no_request : Request
no_request = record { job = 0; unit = 0; sort = 0; register = 0; wait = 0; folder = 0 }

-- a place where nothing waits
abbrev pub nobody : Waiting
nobody = record { asked = no_request; size = 0; bytes = replicate 240 0 }

-- a request with its data, and the data of one that waits; calls make none of over 240 bytes, and a greater size counts round
abbrev pub waiting_with : Request → List ℕ → Waiting
waiting_with asked bytes = record { asked = asked; size = length bytes; bytes = over bytes (replicate 240 0) }

abbrev pub data_of : Waiting → List ℕ
data_of waiting = take (waiting.size % 241) waiting.bytes

-- ---- a lane, and the lanes

-- the request at a place of a lane, from 0; past its four places there is none
abbrev pub waiting_at : Lane → ℕ → Waiting
waiting_at lane place = get_or lane.waiting place (record { asked = no_request; size = 0; bytes = [] })

-- the lane at a place, from 0; past the sixteen there is none
abbrev pub lane_at : Lanes → ℕ → Lane
lane_at lanes place = get_or lanes.lanes place (record { size = 0; waiting = [] })

-- the requests that wait in a lane, the oldest first
abbrev pub queue_in : Lane → List Waiting
queue_in lane = take lane.size lane.waiting

-- "(at first the 16th)"
abbrev pub fresh_lanes : Lanes
fresh_lanes = record { last = 15; lanes = replicate 16 (record { size = 0; waiting = replicate 4 nobody }) }

-- "an emptied lane belongs to nobody"; a lane is that of the job whose requests wait in it
abbrev pub Empty : Lane → Type 0
Empty lane = lane.size ≡ 0

abbrev pub Belongs : Lane → ℕ → Type 0
Belongs lane job = (Empty lane → ⊥) × ((waiting_at lane 0).asked.job ≡ job)

-- the place of the job's lane. Where calls made the lanes a job has no second one.
pub record TheirLane (lanes : Lanes) (job place : ℕ) : Type 0 where
  pub within : place < 16
  pub theirs : Belongs (lane_at lanes place) job
  pub lowest : (other : ℕ) → other < place → Belongs (lane_at lanes other) job → ⊥

abbrev pub is_empty : Lane → Bool
is_empty lane = eqb lane.size 0

abbrev pub is_theirs : Lane → ℕ → Bool
is_theirs lane job = not (eqb lane.size 0) && eqb (waiting_at lane 0).asked.job job

-- a search over all sixteen, going round, told by what a test said of each: the first of which it holds, or none
unfoldable pub FirstOf16 : (ℕ → Bool → Type 0) → Option ℕ → Type 0
FirstOf16 Said (Some n) = (n < 16) × ((k : ℕ) → k < n → Said k false) × Said n true
FirstOf16 Said None = (k : ℕ) → k < 16 → Said k false

-- where it stands; 16 for none
unfoldable pub own_lane : Lanes → ℕ → ℕ
own_lane lanes job = first_place (λ k. is_theirs (lane_at lanes k) job) 16

-- "the lowest empty lane"; 16 for none
unfoldable pub empty_lane : Lanes → ℕ
empty_lane lanes = first_place (λ k. is_empty (lane_at lanes k)) 16

-- ---- what a call leaves

abbrev pub with_lane : Lanes → ℕ → Lane → Lanes
with_lane lanes place lane = record { last = lanes.last; lanes = set lanes.lanes place lane }

-- one more, behind the others: "in order of arrival"
abbrev pub with_last : Lane → Waiting → Lane
with_last lane newest = record { size = lane.size + 1; waiting = set lane.waiting lane.size newest }

-- one less: "later ones move up"
abbrev pub next_at : Lane → ℕ → ℕ → Waiting
next_at lane gone place = cond (ltb place gone) (waiting_at lane place) (cond (ltb place 3) (waiting_at lane (place + 1)) nobody)

abbrev pub without : Lane → ℕ → Lane
without lane gone =
    record { size = lane.size - 1; waiting = next_at lane gone 0 ∷ next_at lane gone 1 ∷ next_at lane gone 2 ∷ next_at lane gone 3 ∷ [] }

-- ---- the paper's number of each refusal; 10 to 14 and the desk's are told where they are judged
abbrev pub fault_number : Fault → ℕ
fault_number (Denied f) = ask_number f
fault_number NoLaneFree = 71
fault_number LaneFull = 72
fault_number ShortBuffer = 73
fault_number NothingWaiting = 74
fault_number NoSuchRequest = 55
fault_number (AtDesk f) = desk_number f

-- ---- the contracts of `fresh` and `number`

abbrev pub Fresh : Lanes → Type 0
Fresh lanes = lanes ≡ fresh_lanes

abbrev pub Numbers : Fault → ℕ → Type 0
Numbers fault r = r ≡ fault_number fault

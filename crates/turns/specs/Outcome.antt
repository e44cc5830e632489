-- What a call on the lanes that was not refused did, in the request's sentences: for the laws that callers cite. 02, #109.
-- Assumes nothing.
use Rattle.desk.specs.Answers.{opening}
use Rattle.std.specs.Prelude.{◌≡◌, List, [], ◌∷◌, ◌++◌, ◌≢◌, ◌⊎◌, ℕ, ◌+◌, ◌-◌, ◌%◌, ◌≤◌, ◌<◌, length}
use Rattle.request.specs.declared.Request.{Request}
use Rattle.desk.specs.Folder.{IsFolderHeld}
use Rattle.desk.specs.Open.{Opens}
use Rattle.desk.specs.declared.AfterOpen.{AfterOpen}
use Rattle.desk.specs.declared.Desk.{Desk}
use Rattle.lanes.specs.Lanes.{Empty, Belongs, TheirLane, lane_at, waiting_with, data_of, queue_in}
use Rattle.lanes.specs.declared.AfterGrant.{AfterGrant}
use Rattle.lanes.specs.declared.Lanes.{Lanes}
use Rattle.lanes.specs.declared.Waiting.{Waiting}
use Rattle.turns.specs.Queue.{less}

-- it stands behind those that wait in the job's lane, or in "the lowest empty lane" where the job has none; lane and place count from 1
pub record JoinedAt (lanes : Lanes) (asked : Request) (bytes : List ℕ) (lane at : ℕ) (lanes' : Lanes) : Type 0 where
  pub place : ℕ
  pub within : place < 16
  pub lane_is : lane ≡ place + 1
  pub at-is : at ≡ length (queue_in (lane_at lanes place)) + 1
  pub which : TheirLane lanes asked.job place
      ⊎ (((m : ℕ) → m < 16 → Belongs (lane_at lanes m) asked.job → ⊥) × Empty (lane_at lanes place) × ((m : ℕ) → m < place → Empty (lane_at lanes m) → ⊥))
  pub longer_by_it : queue_in (lane_at lanes' place) ≡ queue_in (lane_at lanes place) ++ (waiting_with asked bytes ∷ [])
  pub others : (m : ℕ) → m ≢ place → lane_at lanes' m ≡ lane_at lanes m
  pub turn_kept : lanes'.last ≡ lanes.last

-- "the first lane with something waiting after the lane last served [..], going round", had its turn: this request, its oldest, left the
-- lane, and that is the one last served now
pub record TurnAt (lanes : Lanes) (request : Waiting) (r : AfterGrant) : Type 0 where
  pub distance : ℕ
  pub near : distance < 16
  pub passed : (j : ℕ) → j < distance → Empty (lane_at lanes ((lanes.last + 1 + j) % 16))
  pub waited : Empty (lane_at lanes ((lanes.last + 1 + distance) % 16)) → ⊥
  pub later : List Waiting
  pub was : queue_in (lane_at lanes ((lanes.last + 1 + distance) % 16)) ≡ request ∷ later
  pub left : queue_in (lane_at r.lanes ((lanes.last + 1 + distance) % 16)) ≡ later
  pub others : (m : ℕ) → m ≢ (lanes.last + 1 + distance) % 16 → lane_at r.lanes m ≡ lane_at lanes m
  pub turn : r.lanes.last ≡ (lanes.last + 1 + distance) % 16

-- a request of the job was opened at the desk, at the grant's clock and with its data
pub record GrantedAt (lanes : Lanes) (desk : Desk) (clock : ℕ) (room : List ℕ) (job address n : ℕ) (r : AfterGrant) (room' : List ℕ) : Type 0 where
  pub request : Waiting
  pub turn : TurnAt lanes request r
  pub job_is : job ≡ request.asked.job
  pub at_desk_lem : AfterOpen
  pub opens : Opens desk request.asked (data_of request) clock room at_desk_lem room'
  pub answered : at_desk_lem.answer ≡ opening address n
  pub desk_next : r.desk ≡ at_desk_lem.desk

-- 02, #110: or it was taken out, because an open ticket of another job held its folder; the desk and the buffer are as before
pub record TakenOutAt (lanes : Lanes) (desk : Desk) (room : List ℕ) (job : ℕ) (r : AfterGrant) (room' : List ℕ) : Type 0 where
  pub request : Waiting
  pub turn : TurnAt lanes request r
  pub job_is : job ≡ request.asked.job
  pub held : IsFolderHeld desk request.asked
  pub considered_none : r.count ≡ 0
  pub desk_kept : r.desk ≡ desk
  pub room_kept : room' ≡ room

-- the request at that place, from 1, left the job's lane, and "later ones move up"
pub record WithdrawnAt (lanes : Lanes) (job at : ℕ) (lanes' : Lanes) : Type 0 where
  pub place : ℕ
  pub theirs : TheirLane lanes job place
  pub from_1 : 1 ≤ at
  pub within : at ≤ length (queue_in (lane_at lanes place))
  pub left : queue_in (lane_at lanes' place) ≡ less (at - 1) (queue_in (lane_at lanes place))
  pub others : (m : ℕ) → m ≢ place → lane_at lanes' m ≡ lane_at lanes m
  pub turn_kept : lanes'.last ≡ lanes.last

-- Joining a lane: "Requests are checked for 10 to 14 when they join. A job's first request takes the lowest empty lane". 02, #109.
-- Assumes nothing.
use Rattle.std.specs.Prelude.{◌≡◌, cond, List, [], ◌∷◌, ◌++◌, ℕ, ◌+◌, ◌≤◌, ◌<◌, leb, ltb, Ok, Err}
use Rattle.std.proofs.Math.Option.{Option, some, none}
use Rattle.rows.specs.Rows.{Row, row, Test, test, first_row_of, or_later, passed_up, raised}
use Rattle.request.specs.Request.{ask_rows, ask_refusal}
use Rattle.request.specs.declared.Request.{Request}
use Rattle.lanes.specs.Lanes.{Empty, Belongs, TheirLane, lane_at, own_lane, empty_lane, waiting_with, with_last, with_lane, fault_number}
use Rattle.lanes.specs.declared.AfterJoin.{AfterJoin}
use Rattle.lanes.specs.declared.Fault.{Fault}
use Rattle.lanes.specs.declared.Fault.TheVariants.{Denied, NoLaneFree, LaneFull}
use Rattle.lanes.specs.Answers.{Joining, joining}
use Rattle.lanes.specs.declared.Lanes.{Lanes}

-- 71: "no lane free": the job has none, and none is empty
unfoldable pub IsNoLaneFree : Lanes → ℕ → Type 0
IsNoLaneFree lanes job = (place : ℕ) → place < 16 → (Belongs (lane_at lanes place) job → ⊥) × (Empty (lane_at lanes place) → ⊥)

-- 72: "lane full": the job's lane holds 4 already
unfoldable pub IsLaneFull : Lanes → ℕ → Type 0
IsLaneFull lanes job = (place : ℕ) × TheirLane lanes job place × (4 ≤ (lane_at lanes place).size)

-- "both after 14"
unfoldable pub join_rows : Lanes → Request → List ℕ → List (Row Fault)
join_rows lanes asked bytes =
    passed_up Denied (ask_rows asked bytes)
    ++ (row (IsNoLaneFree lanes asked.job) NoLaneFree ∷ row (IsLaneFull lanes asked.job) LaneFull ∷ [])

-- ---- how they are tested

-- the place of the lane that a request of the job goes to, its own or "the lowest empty lane"; 16 for none
unfoldable pub lane_for : Lanes → ℕ → ℕ
lane_for lanes job = cond (ltb (own_lane lanes job) 16) (own_lane lanes job) (empty_lane lanes)

abbrev pub lane_tests : Lanes → ℕ → List (Test Fault)
lane_tests lanes place = test (leb 16 place) NoLaneFree ∷ test (leb 4 (lane_at lanes place).size) LaneFull ∷ []

unfoldable pub join_refusal : Lanes → Request → List ℕ → Option Fault
join_refusal lanes asked bytes = or_later (raised Denied (ask_refusal asked bytes)) (first_row_of (lane_tests lanes (lane_for lanes asked.job)))

-- ---- the answer and the lanes, each from the refusal

-- lane and place, both from 1
abbrev pub join_answer : Option Fault → Lanes → ℕ → Joining
join_answer (some f) lanes place = Err f
join_answer none lanes place = joining (place + 1) ((lane_at lanes place).size + 1)

abbrev pub join_told : Joining → Option ℕ
join_told (Err f) = some (fault_number f)
join_told (Ok joined) = none

abbrev pub join_lanes : Option Fault → Lanes → ℕ → Request → List ℕ → Lanes
join_lanes (some f) lanes place asked bytes = lanes
join_lanes none lanes place asked bytes = with_lane lanes place (with_last (lane_at lanes place) (waiting_with asked bytes))

abbrev pub JoinsBy : Option Fault → Lanes → ℕ → Request → List ℕ → AfterJoin → Type 0
JoinsBy refusal lanes place asked bytes r =
    (r.answer ≡ join_answer refusal lanes place) × (r.lanes ≡ join_lanes refusal lanes place asked bytes)

-- ---- the contracts

-- `join`
abbrev pub Joins : Lanes → Request → List ℕ → AfterJoin → Type 0
Joins lanes asked bytes r = JoinsBy (join_refusal lanes asked bytes) lanes (lane_for lanes asked.job) asked bytes r

-- rows 71 and 72 and the joining, at any place
abbrev pub JoinsAt : Lanes → ℕ → Request → List ℕ → AfterJoin → Type 0
JoinsAt lanes place asked bytes r = JoinsBy (first_row_of (lane_tests lanes place)) lanes place asked bytes r

-- refused: nothing changes
abbrev pub NotJoined : Fault → Lanes → AfterJoin → Type 0
NotJoined f lanes r = (r.answer ≡ Err f) × (r.lanes ≡ lanes)

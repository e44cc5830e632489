-- Withdrawing: "A job may withdraw a waiting request by its place in the lane, from 1; later ones move up". 02, #109.
-- Assumes nothing.
use Rattle.std.specs.Prelude.{◌≡◌, Bool, ◌||◌, List, [], ◌∷◌, ℕ, ◌-◌, ◌≤◌, eqb, leb, ltb, Ok, Err}
use Rattle.std.proofs.Math.Option.{Option, some, none}
use Rattle.rows.specs.Rows.{Row, row, test, first_row_of}
use Rattle.lanes.specs.Lanes.{TheirLane, lane_at, own_lane, without, with_lane, fault_number}
use Rattle.lanes.specs.declared.AfterWithdraw.{AfterWithdraw}
use Rattle.lanes.specs.declared.Fault.{Fault}
use Rattle.lanes.specs.declared.Fault.TheVariants.{NoSuchRequest}
use Rattle.lanes.specs.declared.Lanes.{Lanes}
use Rattle.lanes.specs.Answers.{Withdrawing}

-- 55: "no such request": none of the job's waits at that place of its lane
unfoldable pub IsNoSuchRequest : Lanes → ℕ → ℕ → Type 0
IsNoSuchRequest lanes job at = (place : ℕ) × TheirLane lanes job place × (1 ≤ at) × (at ≤ (lane_at lanes place).size) → ⊥

unfoldable pub withdraw_rows : Lanes → ℕ → ℕ → List (Row Fault)
withdraw_rows lanes job at = row (IsNoSuchRequest lanes job at) NoSuchRequest ∷ []

-- ---- how it is tested

abbrev pub is_no_such : Lanes → ℕ → ℕ → Bool
is_no_such lanes place at = leb 16 place || (eqb at 0 || ltb (lane_at lanes place).size at)

unfoldable pub withdraw_refusal : Lanes → ℕ → ℕ → Option Fault
withdraw_refusal lanes job at = first_row_of (test (is_no_such lanes (own_lane lanes job) at) NoSuchRequest ∷ [])

-- ---- the answer and the lanes, each from the refusal; the lane last served stays

abbrev pub withdraw_answer : Option Fault → Withdrawing
withdraw_answer (some f) = Err f
withdraw_answer none = Ok tt

abbrev pub withdraw_told : Withdrawing → Option ℕ
withdraw_told (Err f) = some (fault_number f)
withdraw_told (Ok _) = none

abbrev pub withdraw_lanes : Option Fault → Lanes → ℕ → ℕ → Lanes
withdraw_lanes (some f) lanes place at = lanes
withdraw_lanes none lanes place at = with_lane lanes place (without (lane_at lanes place) (at - 1))

-- ---- the contracts

-- `withdraw`
abbrev pub Withdraws : Lanes → ℕ → ℕ → AfterWithdraw → Type 0
Withdraws lanes job at r =
    (r.answer ≡ withdraw_answer (withdraw_refusal lanes job at))
    × (r.lanes ≡ withdraw_lanes (withdraw_refusal lanes job at) lanes (own_lane lanes job) at)

-- refused: nothing changes
abbrev pub NotWithdrawn : Lanes → AfterWithdraw → Type 0
NotWithdrawn lanes r = (r.answer ≡ Err NoSuchRequest) × (r.lanes ≡ lanes)

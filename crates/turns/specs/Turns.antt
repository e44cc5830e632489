-- Any calls on the lanes and at the desk behind them, in any order. 02, #109.
-- Assumes nothing.
use Rattle.std.specs.Prelude.{◌≡◌, List, [], ◌∷◌, ◌++◌, ℕ, ◌+◌, ◌-◌, ◌≤◌, ◌<◌, length}
use Rattle.std.proofs.Math.Option.{Option, some, none}
use Rattle.request.specs.Request.{ask_refusal}
use Rattle.request.specs.declared.Request.{Request}
use Rattle.desk.specs.Open.{given_place, request_at, open_refusal, open_answer}
use Rattle.desk.specs.declared.Desk.{Desk}
use Rattle.desk.specs.Answers.{Opening}
use Rattle.nights.specs.Night.{asks}
use Rattle.nights.specs.Night.{Call as DeskCall, after as desk_after}
use Rattle.lanes.specs.Lanes.{Empty, lane_at, waiting_at, waiting_with, data_of, own_lane}
use Rattle.lanes.specs.Join.{join_refusal, join_lanes, lane_for}
use Rattle.lanes.specs.Grant.{grant_refusal, next_place, moves_on, served_from}
use Rattle.lanes.specs.Withdraw.{withdraw_refusal, withdraw_lanes}
use Rattle.lanes.specs.declared.Fault.{Fault}
use Rattle.lanes.specs.declared.Lanes.{Lanes}
use Rattle.lanes.specs.declared.Waiting.{Waiting}

-- the lanes and the desk behind them
pub record Hall : Type 0 where
  pub lanes : Lanes
  pub desk : Desk

-- a call, with what it was given; `at_desk` is any call at the desk itself, "direct openings" among them
pub data Call : Type 0 where
  joins : (asked : Request) (bytes : List ℕ) → Call
  grants : (clock : ℕ) (room : List ℕ) → Call
  withdraws : (job at : ℕ) → Call
  at_desk : (call : DeskCall) → Call

-- ---- the lanes and the desk after a call, as the contracts say

-- the request that a grant would open
abbrev pub oldest : Lanes → Waiting
oldest lanes = waiting_at (lane_at lanes (next_place lanes)) 0

-- that opening, as a call at the desk, and the desk's answer to it
abbrev pub opening : Lanes → ℕ → List ℕ → DeskCall
opening lanes clock room = asks (oldest lanes).asked (data_of (oldest lanes)) clock room

abbrev pub opened_with : Desk → Waiting → ℕ → List ℕ → Opening
opened_with desk w clock room =
    open_answer (open_refusal desk w.asked (data_of w) clock (length room)) (161 + given_place desk clock)
    (length (request_at (given_place desk clock) w.asked (data_of w)))

abbrev pub granted : Option Fault → Hall → ℕ → List ℕ → Hall
granted (some f) hall clock room = hall
granted none hall clock room =
    record {
      lanes = served_from hall.lanes (next_place hall.lanes) (lane_at hall.lanes (next_place hall.lanes))
          (moves_on (opened_with hall.desk (oldest hall.lanes) clock room));
      desk = desk_after hall.desk (opening hall.lanes clock room);
    }

unfoldable pub after : Hall → Call → Hall
after hall (joins asked bytes) =
    record {
      lanes = join_lanes (join_refusal hall.lanes asked bytes) hall.lanes (lane_for hall.lanes asked.job) asked bytes;
      desk = hall.desk;
    }
after hall (grants clock room) = granted (grant_refusal hall.lanes (length room)) hall clock room
after hall (withdraws job at) =
    record {
      lanes = withdraw_lanes (withdraw_refusal hall.lanes job at) hall.lanes (own_lane hall.lanes job) at;
      desk = hall.desk;
    }
after hall (at_desk call) = record { lanes = hall.lanes; desk = desk_after hall.desk call }

unfoldable pub all_after : Hall → List Call → Hall
all_after hall [] = hall
all_after hall (c ∷ cs) = all_after (after hall c) cs

-- ---- "the lanes' calls are desk calls": those that reach the desk, in their order

abbrev pub grant_reaches : Option Fault → Lanes → ℕ → List ℕ → List DeskCall
grant_reaches (some f) lanes clock room = []
grant_reaches none lanes clock room = opening lanes clock room ∷ []

unfoldable pub reaches : Hall → Call → List DeskCall
reaches hall (joins asked bytes) = []
reaches hall (grants clock room) = grant_reaches (grant_refusal hall.lanes (length room)) hall.lanes clock room
reaches hall (withdraws job at) = []
reaches hall (at_desk call) = call ∷ []

unfoldable pub all_reach : Hall → List Call → List DeskCall
all_reach hall [] = []
all_reach hall (c ∷ cs) = reaches hall c ++ all_reach (after hall c) cs

-- ---- what every call keeps to

-- "each for one job number, holding up to 4 requests": a job has at most one lane and a lane one job, and each request that waits passed
-- "10 to 14 when they join"
pub record Orderly (lanes : Lanes) : Type 0 where
  pub last_within : lanes.last < 16
  pub sixteen : length lanes.lanes ≡ 16
  pub four : (k : ℕ) → k < 16 → length (lane_at lanes k).waiting ≡ 4
  pub at_most : (k : ℕ) → k < 16 → (lane_at lanes k).size ≤ 4
  pub allowed : (k p : ℕ) → k < 16 → p < (lane_at lanes k).size → ask_refusal (waiting_at (lane_at lanes k) p).asked (data_of (waiting_at (lane_at lanes k) p)) ≡ none
  pub as_laid : (k p : ℕ) → k < 16 → p < (lane_at lanes k).size
      → waiting_at (lane_at lanes k) p ≡ waiting_with (waiting_at (lane_at lanes k) p).asked (data_of (waiting_at (lane_at lanes k) p))
  pub one_job : (k p : ℕ) → k < 16 → p < (lane_at lanes k).size → (waiting_at (lane_at lanes k) p).asked.job ≡ (waiting_at (lane_at lanes k) 0).asked.job
  pub one_lane : (j k : ℕ) → j < 16 → k < 16 → (Empty (lane_at lanes j) → ⊥) → (Empty (lane_at lanes k) → ⊥)
      → (waiting_at (lane_at lanes j) 0).asked.job ≡ (waiting_at (lane_at lanes k) 0).asked.job → j ≡ k

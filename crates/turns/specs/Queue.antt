-- What waits, by what the callers saw: "in order of arrival", "each is opened at most once, as it was asked, data included". 02, #109.
-- Assumes nothing.
use Rattle.std.specs.Prelude.{◌≡◌, Bool, false, cond, List, [], ◌∷◌, ◌++◌, ℕ, zero, suc, ◌-◌, ◌≤◌, eqb, length, Ok, Err}
use Rattle.std.proofs.Math.Option.{Option, some, none}
use Rattle.desk.specs.Answers.{Opening}
use Rattle.request.specs.Request.{ask_refusal}
use Rattle.request.specs.declared.Request.{Request}
use Rattle.lanes.specs.Lanes.{lane_at, waiting_with, data_of, queue_in, own_lane}
use Rattle.lanes.specs.Join.{join_refusal}
use Rattle.lanes.specs.Grant.{grant_refusal, takes_out}
use Rattle.lanes.specs.Withdraw.{withdraw_refusal}
use Rattle.lanes.specs.declared.Fault.{Fault}
use Rattle.lanes.specs.Answers.{Granting}
use Rattle.lanes.specs.declared.Turn.TheVariants.{Granted, TakenOut}
use Rattle.lanes.specs.Answers.{Joining}
use Rattle.lanes.specs.declared.Lanes.{Lanes}
use Rattle.lanes.specs.declared.Waiting.{Waiting}
use Rattle.lanes.specs.Answers.{Withdrawing}
use Rattle.turns.specs.Turns.{Hall, Call, joins, grants, withdraws, at_desk, after, oldest, opened_with, Orderly}

-- what the callers saw: a request that joined, with its data; that a grant opened one of a job's under an address, or took it out; or that a
-- job withdrew the one at a place, from 1. With what was opened or taken out stands the whole request; its caller is told the job, and `Right`
-- says which it was.
pub data Event : Type 0 where
  joined : (asked : Request) (bytes : List ℕ) → Event
  opened : (asked : Request) (bytes : List ℕ) (address clock : ℕ) → Event
  taken_out : (asked : Request) (bytes : List ℕ) → Event
  withdrew : (job at : ℕ) → Event
  nothing : Event

abbrev pub of_join : Option Fault → Request → List ℕ → Event
of_join (some f) asked bytes = nothing
of_join none asked bytes = joined asked bytes

abbrev pub of_opening : Opening → Waiting → ℕ → Event
of_opening (Ok told) w clock = opened w.asked (data_of w) told.address clock
of_opening (Err f) w clock = cond (takes_out f) (taken_out w.asked (data_of w)) nothing

abbrev pub of_grant : Option Fault → Hall → ℕ → List ℕ → Event
of_grant (some f) hall clock room = nothing
of_grant none hall clock room = of_opening (opened_with hall.desk (oldest hall.lanes) clock room) (oldest hall.lanes) clock

abbrev pub of_withdrawal : Option Fault → ℕ → ℕ → Event
of_withdrawal (some f) job at = nothing
of_withdrawal none job at = withdrew job at

unfoldable pub event_of : Hall → Call → Event
event_of hall (joins asked bytes) = of_join (join_refusal hall.lanes asked bytes) asked bytes
event_of hall (grants clock room) = of_grant (grant_refusal hall.lanes (length room)) hall clock room
event_of hall (withdraws job at) = of_withdrawal (withdraw_refusal hall.lanes job at) job at
event_of hall (at_desk call) = nothing

-- the same by what the calls answer
abbrev pub saw_joining : Joining → Request → List ℕ → Event
saw_joining (Ok told) asked bytes = joined asked bytes
saw_joining (Err f) asked bytes = nothing

abbrev pub saw_granting : Granting → Waiting → ℕ → Event
saw_granting (Ok (Granted job address n)) w clock = opened w.asked (data_of w) address clock
saw_granting (Ok (TakenOut job)) w clock = taken_out w.asked (data_of w)
saw_granting (Err f) w clock = nothing

abbrev pub saw_withdrawing : Withdrawing → ℕ → ℕ → Event
saw_withdrawing (Ok _) job at = withdrew job at
saw_withdrawing (Err f) job at = nothing

-- the latest first
unfoldable pub all_answered : Hall → List Event → List Call → List Event
all_answered hall past [] = past
all_answered hall past (c ∷ cs) = all_answered (after hall c) (event_of hall c ∷ past) cs

-- a list without the one at a place
unfoldable pub less : ℕ → List Waiting → List Waiting
less i [] = []
less zero (w ∷ ws) = ws
less (suc i) (w ∷ ws) = w ∷ less i ws

-- what waits of a job's, the oldest first: what it joined, less what was opened or taken out, from the front, and what it withdrew
unfoldable pub waiting_of : List Event → ℕ → List Waiting
waiting_of [] job = []
waiting_of (joined asked bytes ∷ past) job = cond (eqb asked.job job) (waiting_of past job ++ (waiting_with asked bytes ∷ [])) (waiting_of past job)
waiting_of (opened asked bytes address clock ∷ past) job = cond (eqb asked.job job) (less 0 (waiting_of past job)) (waiting_of past job)
waiting_of (taken_out asked bytes ∷ past) job = cond (eqb asked.job job) (less 0 (waiting_of past job)) (waiting_of past job)
waiting_of (withdrew owner at ∷ past) job = cond (eqb owner job) (less (at - 1) (waiting_of past job)) (waiting_of past job)
waiting_of (nothing ∷ past) job = waiting_of past job

-- a job's lane holds exactly that
unfoldable pub Kept : Lanes → List Event → Type 0
Kept lanes past = (job : ℕ) → queue_in (lane_at lanes (own_lane lanes job)) ≡ waiting_of past job

-- every request that was opened or taken out was the oldest that its job had waiting, with its data
pub record Oldest (waiting : List Waiting) (asked : Request) (bytes : List ℕ) : Type 0 where
  pub later : List Waiting
  pub was_oldest : waiting ≡ waiting_with asked bytes ∷ later

-- what joined passed 10 to 14, and what was withdrawn waited
unfoldable pub Right : List Event → Type 0
Right [] = Unit {0}
Right (joined asked bytes ∷ past) = (ask_refusal asked bytes ≡ none) × Right past
Right (opened asked bytes address clock ∷ past) = Oldest (waiting_of past asked.job) asked bytes × Right past
Right (taken_out asked bytes ∷ past) = Oldest (waiting_of past asked.job) asked bytes × Right past
Right (withdrew job at ∷ past) = (1 ≤ at) × (at ≤ length (waiting_of past job)) × Right past
Right (nothing ∷ past) = Right past

-- lanes and desk after any calls, by what the callers saw
pub record InTurn (hall : Hall) (past : List Event) : Type 0 where
  pub orderly : Orderly hall.lanes
  pub kept : Kept hall.lanes past
  pub right : Right past

-- ---- how many requests of a job joined, were opened, were taken out and were withdrawn

unfoldable pub number_of : (Event → Bool) → List Event → ℕ
number_of is [] = 0
number_of is (e ∷ past) = cond (is e) (suc (number_of is past)) (number_of is past)

abbrev pub joined_by : ℕ → Event → Bool
joined_by job (joined asked bytes) = eqb asked.job job
joined_by job (opened asked bytes address clock) = false
joined_by job (taken_out asked bytes) = false
joined_by job (withdrew owner at) = false
joined_by job nothing = false

abbrev pub opened_for : ℕ → Event → Bool
opened_for job (joined asked bytes) = false
opened_for job (opened asked bytes address clock) = eqb asked.job job
opened_for job (taken_out asked bytes) = false
opened_for job (withdrew owner at) = false
opened_for job nothing = false

abbrev pub taken_from : ℕ → Event → Bool
taken_from job (joined asked bytes) = false
taken_from job (opened asked bytes address clock) = false
taken_from job (taken_out asked bytes) = eqb asked.job job
taken_from job (withdrew owner at) = false
taken_from job nothing = false

abbrev pub withdrawn_by : ℕ → Event → Bool
withdrawn_by job (joined asked bytes) = false
withdrawn_by job (opened asked bytes address clock) = false
withdrawn_by job (taken_out asked bytes) = false
withdrawn_by job (withdrew owner at) = eqb owner job
withdrawn_by job nothing = false

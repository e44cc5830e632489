-- "A request that is p-th in its lane, and isn't withdrawn, must be opened within 16 times p grants that open something, whatever other lanes
-- do." 02, #109; "#109's promise now reads "opened or taken out"": #110.
-- Assumes nothing.
use Rattle.desk.specs.Answers.{opening}
use Rattle.std.specs.Prelude.{◌≡◌, Bool, false, cond, List, [], ◌∷◌, ◌++◌, ℕ, zero, suc, ◌+◌, ◌-◌, eqb, ltb, length, Ok}
use Rattle.std.proofs.Math.Option.{Option, some, none}
use Rattle.desk.specs.Folder.{IsFolderHeld}
use Rattle.desk.specs.Open.{Opens}
use Rattle.desk.specs.declared.AfterOpen.{AfterOpen}
use Rattle.desk.specs.declared.Desk.{Desk}
use Rattle.lanes.specs.Lanes.{data_of, own_lane}
use Rattle.lanes.specs.Grant.{grant_refusal, next_place, moves_on}
use Rattle.lanes.specs.Withdraw.{withdraw_refusal}
use Rattle.lanes.specs.declared.AfterGrant.{AfterGrant}
use Rattle.lanes.specs.declared.Fault.{Fault}
use Rattle.lanes.specs.declared.Turn.TheVariants.{Granted, TakenOut}
use Rattle.lanes.specs.declared.Waiting.{Waiting}
use Rattle.turns.specs.Turns.{Hall, Call, joins, grants, withdraws, at_desk, after, all_after, oldest, opened_with}

-- whether a call is a grant that used its turn: it "open[ed] something", or took a request out, which "counts for #109 as one that opened
-- something"
abbrev pub turn_used : Option Fault → Hall → ℕ → List ℕ → Bool
turn_used (some f) hall clock room = false
turn_used none hall clock room = moves_on (opened_with hall.desk (oldest hall.lanes) clock room)

unfoldable pub counts : Hall → Call → Bool
counts hall (joins asked bytes) = false
counts hall (grants clock room) = turn_used (grant_refusal hall.lanes (length room)) hall clock room
counts hall (withdraws job at) = false
counts hall (at_desk call) = false

-- how many of the calls do
unfoldable pub counted : Hall → List Call → ℕ
counted hall [] = 0
counted hall (c ∷ cs) = cond (counts hall c) 1 0 + counted (after hall c) cs

-- ---- what becomes of one request, that at a place, from 0, of a lane's place: it waits, it was opened or taken out, or it was withdrawn

pub data Fate : Type 0 where
  waits : (place : ℕ) → Fate
  had_turn : Fate
  withdrawn : Fate

-- one step nearer to the front; from the front it has its turn
abbrev pub nearer : ℕ → Fate
nearer zero = had_turn
nearer (suc place) = waits place

-- another of its lane is taken out, or it is itself
abbrev pub taken_at : ℕ → ℕ → Fate
taken_at gone place = cond (eqb gone place) withdrawn (cond (ltb gone place) (waits (place - 1)) (waits place))

abbrev pub at_grant : Bool → Bool → ℕ → Fate
at_grant used own place = cond used (cond own (nearer place) (waits place)) (waits place)

abbrev pub at_withdrawal : Option Fault → Bool → ℕ → ℕ → Fate
at_withdrawal (some f) own gone place = waits place
at_withdrawal none own gone place = cond own (taken_at gone place) (waits place)

-- by one call
unfoldable pub fate_by : Hall → Call → ℕ → ℕ → Fate
fate_by hall (joins asked bytes) lane place = waits place
fate_by hall (grants clock room) lane place = at_grant (counts hall (grants clock room)) (eqb (next_place hall.lanes) lane) place
fate_by hall (withdraws job at) lane place = at_withdrawal (withdraw_refusal hall.lanes job at) (eqb (own_lane hall.lanes job) lane) (at - 1) place
fate_by hall (at_desk call) lane place = waits place

-- by all of them
unfoldable pub fate : Hall → List Call → ℕ → Fate → Fate
fate hall [] lane f = f
fate hall (c ∷ cs) lane (waits place) = fate (after hall c) cs lane (fate_by hall c lane place)
fate hall (c ∷ cs) lane had_turn = had_turn
fate hall (c ∷ cs) lane withdrawn = withdrawn

-- ---- what "opened", "taken out" and "withdrawn" mean

-- a grant opened this request, with its data, at the desk, and answered its job
pub record OpenedBy (desk : Desk) (clock : ℕ) (room : List ℕ) (w : Waiting) (r : AfterGrant) (room' : List ℕ) : Type 0 where
  pub address : ℕ
  pub n : ℕ
  pub told : r.answer ≡ Ok (Granted w.asked.job address n)
  pub at_desk_lem : AfterOpen
  pub opens : Opens desk w.asked (data_of w) clock room at_desk_lem room'
  pub answered : at_desk_lem.answer ≡ opening address n
  pub next : r.desk ≡ at_desk_lem.desk

-- a grant took this request out, because an open ticket of another job held its folder, and answered its job; desk and buffer are as before
pub record TakenOutBy (desk : Desk) (room : List ℕ) (w : Waiting) (r : AfterGrant) (room' : List ℕ) : Type 0 where
  pub told : r.answer ≡ Ok (TakenOut w.asked.job)
  pub held : IsFolderHeld desk w.asked
  pub considered_none : r.count ≡ 0
  pub desk_kept : r.desk ≡ desk
  pub room_kept : room' ≡ room

-- the first of the calls that a request did not go on waiting by: those before it, at which place it then was, that call, and those after it
pub record Ended (hall : Hall) (calls : List Call) (lane place : ℕ) (end : Fate) : Type 0 where
  pub before : List Call
  pub call : Call
  pub rest : List Call
  pub all : calls ≡ before ++ (call ∷ rest)
  pub last : ℕ
  pub waited : fate hall before lane (waits place) ≡ waits last
  pub ends : fate_by (all_after hall before) call lane last ≡ end

-- What the C host is answered by the lanes: numbers only.
-- Assumes nothing.
use Rattle.std.specs.Prelude.{◌≡◌, List, ℕ, Ok, Err}
use Rattle.desk.specs.declared.Desk.{Desk}
use Rattle.lanes.specs.Grant.{Grants}
use Rattle.lanes.specs.Join.{Joins}
use Rattle.lanes.specs.Lanes.{fresh_lanes, fault_number}
use Rattle.lanes.specs.Withdraw.{Withdraws}
use Rattle.lanes.specs.declared.AfterGrant.{AfterGrant}
use Rattle.lanes.specs.declared.AfterJoin.{AfterJoin}
use Rattle.lanes.specs.declared.AfterWithdraw.{AfterWithdraw}
use Rattle.lanes.specs.Answers.{Granting}
use Rattle.lanes.specs.declared.Turn.TheVariants as granting
use Rattle.lanes.specs.Answers.{Joining, Withdrawing}
use Rattle.lanes.specs.declared.Lanes.{Lanes}
use Rattle.request.specs.declared.Request.{Request}
use Rattle.kamzhor.specs.Told.{Told}
use Rattle.kamzhor.specs.declared.host_lanes.AfterLanesGrant.{AfterLanesGrant}
use Rattle.kamzhor.specs.declared.host_lanes.AfterLanesJoin.{AfterLanesJoin}
use Rattle.kamzhor.specs.declared.host_lanes.AfterLanesWithdraw.{AfterLanesWithdraw}
use Rattle.kamzhor.specs.declared.host_lanes.GrantAnswer.{GrantAnswer}
use Rattle.kamzhor.specs.declared.host_lanes.JoinAnswer.{JoinAnswer}

-- ---- joining

abbrev pub join_number : ℕ → JoinAnswer
join_number n = record { refusal = n; lane = 0; place = 0 }

abbrev pub join_given : Joining → JoinAnswer
join_given (Err f) = join_number (fault_number f)
join_given (Ok joined) = record { refusal = 0; lane = joined.lane; place = joined.place }

abbrev pub join_told : AfterJoin → AfterLanesJoin
join_told o = record { lanes = o.lanes; answer = join_given o.answer }

-- ---- a grant

-- a number, with 75 the job whose request was taken out, and the count of addresses: every other field is 0
abbrev pub grant_number : ℕ → ℕ → ℕ → GrantAnswer
grant_number n job considered = record { refusal = n; job = job; address = 0; considered = considered; size = 0 }

abbrev pub grant_given : Granting → ℕ → GrantAnswer
grant_given (Err f) considered = grant_number (fault_number f) 0 considered
grant_given (Ok (granting.TakenOut job)) considered = grant_number 75 job considered
grant_given (Ok (granting.Granted job address n)) considered =
    record { refusal = 0; job = job; address = address; considered = considered; size = n }

abbrev pub grant_told : AfterGrant → AfterLanesGrant
grant_told o = record { lanes = o.lanes; desk = o.desk; answer = grant_given o.answer o.count }

-- ---- a withdrawal

abbrev pub withdraw_given : Withdrawing → ℕ
withdraw_given (Err f) = fault_number f
withdraw_given (Ok _) = 0

abbrev pub withdraw_told : AfterWithdraw → AfterLanesWithdraw
withdraw_told o = record { lanes = o.lanes; refusal = withdraw_given o.answer }

-- ---- the contracts

-- `kamzhor_lanes_fresh`
abbrev pub GivesLanes : Lanes → Type 0
GivesLanes r = r ≡ fresh_lanes

-- `kamzhor_after_lanes_join`
abbrev pub GivesJoin : Lanes → Request → List ℕ → AfterLanesJoin → Type 0
GivesJoin lanes asked bytes r = Told (Joins lanes asked bytes) join_told r

-- `kamzhor_after_lanes_grant`
abbrev pub GivesGrant : Lanes → Desk → ℕ → List ℕ → AfterLanesGrant → List ℕ → Type 0
GivesGrant lanes desk clock room r room' = Told (λ o. Grants lanes desk clock room o room') grant_told r

-- `kamzhor_after_lanes_withdraw`
abbrev pub GivesWithdraw : Lanes → ℕ → ℕ → AfterLanesWithdraw → Type 0
GivesWithdraw lanes job at r = Told (Withdraws lanes job at) withdraw_told r

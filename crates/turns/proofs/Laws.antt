-- What holds of the lanes and the desk behind them over any calls: the laws that callers may cite, each under the sentence that it keeps. How
-- soon a request is opened is in Fair.antt.
-- Assumes nothing.
use Rattle.std.specs.Prelude.{Ok, Err}
use mathlib.Core.Path.{◌≡◌, refl, sym, ap, subst, ◌∙◌}
use mathlib.Core.Bool.{Bool, true, false, cond}
use mathlib.Core.List.{List, [], ◌∷◌, ◌++◌}
use mathlib.Core.Logic.{◌≢◌}
use mathlib.Core.Option.{Option, some, none}
use Prim.Native.Nat.{ℕ, suc, ◌+◌, ◌-◌, ◌≤◌, ◌<◌}
use native.Mathlib.Omega.{arith}
use borrow.Author.Tests.{le-ltb, eqb-true}
use lib.Dec.{eqb, leb}
use lib.ListN.{length, length-append}
use Rattle.rows.proofs.Laws.{ranked, ◌otherwise◌, ranked_append, numbered}
use Rattle.rows.specs.Rows.{Row, row, Ranked, Numbered, Test, test, first_row_of, or_later, raised}
use Rattle.request.proofs.Laws.{allowed_writable}
use Rattle.request.specs.Request.{ask_refusal}
use Rattle.request.specs.declared.Request.{Request}
use Rattle.telegram.proofs.Send.{telegram_long, length-message_for}
use Rattle.telegram.specs.Write.{message_for}
use Rattle.desk.proofs.Ranking.{decides_none_free, decides_folder_held}
use Rattle.desk.specs.Desk.{fresh_desk, ticket_on}
use Rattle.desk.specs.Folder.{IsFolderHeld, is_folder_held}
use Rattle.desk.specs.Open.{distance_of, given_place, request_at, open_refusal, open_answer, IsNoneFree}
use Rattle.desk.specs.declared.Desk.{Desk}
use Rattle.desk.specs.declared.Fault.{Fault as DeskFault}
use Rattle.desk.specs.declared.Fault.TheVariants.{FolderHeld, NoneFree}
use Rattle.desk.specs.Answers.{Opening}
use Rattle.nights.proofs.Laws.{any_night, opens_after, then_all}
use Rattle.nights.specs.Night.{Night, after_all, answered_all}
use Rattle.lanes.proofs.Ranking.{grant_ranked}
use Rattle.lanes.specs.Lanes.{fresh_lanes, lane_at, waiting_at, waiting_with, data_of, fault_number}
use Rattle.lanes.specs.Join.{join_refusal, join_answer, lane_for, Joins}
use Rattle.lanes.specs.Grant.{IsShortBuffer, IsNothingWaiting, grant_rows, grant_refusal, next_place, takes_out, moves_on, from_desk, grant_told, Grants, GrantsBy}
use Rattle.lanes.specs.Withdraw.{withdraw_refusal, withdraw_answer, Withdraws}
use Rattle.lanes.specs.declared.AfterGrant.{AfterGrant}
use Rattle.lanes.specs.declared.AfterJoin.{AfterJoin}
use Rattle.lanes.specs.declared.AfterWithdraw.{AfterWithdraw}
use Rattle.lanes.specs.declared.Fault.{Fault}
use Rattle.lanes.specs.declared.Fault.TheVariants.{AtDesk}
use Rattle.lanes.specs.Answers.{Granting}
use Rattle.lanes.specs.declared.Turn.TheVariants.{Granted, TakenOut}
use Rattle.lanes.specs.declared.Lanes.{Lanes}
use Rattle.turns.specs.Fair.{counts, turn_used}
use Rattle.turns.specs.Turns.{Hall, Call, joins, grants, withdraws, at_desk, after, granted, all_after, oldest, opened_with, reaches, grant_reaches, all_reach, Orderly}
use Rattle.turns.specs.Queue.{Event, joined, opened, taken_out, withdrew, nothing, event_of, all_answered, of_join, of_grant, of_opening, of_withdrawal, less, waiting_of, Right, InTurn}
use Rattle.turns.specs.Queue.{saw_joining, saw_granting, saw_withdrawing, number_of, joined_by, opened_for, taken_from, withdrawn_by}
use Rattle.turns.proofs.Orderly.{fresh_orderly, keeps_order, fit_to_grant}
use Rattle.turns.proofs.Queue.{one_goes, fresh_kept, less_by_one}

-- ---- "in order of arrival": what waits is what was seen to join, less what was opened or taken out, from the front, and what was withdrawn

step : (hall : Hall) (past : List Event) (call : Call) → InTurn hall past → InTurn (after hall call) (event_of hall call ∷ past)
step hall past call t =
    let goes = one_goes hall past call t.orderly in
    record { orderly = keeps_order hall call t.orderly; kept = goes.0 t.kept; right = goes.1 t.kept t.right }

on : (calls : List Call) (hall : Hall) (past : List Event) → InTurn hall past → InTurn (all_after hall calls) (all_answered hall past calls)
unfolding all_after all_answered
on [] hall past t = t
on (c ∷ cs) hall past t = on cs (after hall c) (event_of hall c ∷ past) (step hall past c t)

abbrev fresh : Desk → Hall
fresh desk = record { lanes = fresh_lanes; desk = desk }

-- from fresh lanes on, in front of any desk
pub any_turns : (desk : Desk) (calls : List Call)
    → InTurn (all_after (record { lanes = fresh_lanes; desk = desk }) calls) (all_answered (record { lanes = fresh_lanes; desk = desk }) [] calls)
unfolding Right
any_turns desk calls = on calls (fresh desk) [] (record { orderly = fresh_orderly; kept = fresh_kept; right = tt })

-- "each is opened at most once": of what a job joined, each was opened, was taken out, was withdrawn or waits
pub each_once : (past : List Event) (job : ℕ) → Right past
    → number_of (joined_by job) past ≡ number_of (opened_for job) past + number_of (taken_from job) past + number_of (withdrawn_by job) past + length (waiting_of past job)
unfolding number_of waiting_of Right
each_once [] job r = refl
each_once (joined asked bytes ∷ past) job r = go (eqb asked.job job) (each_once past job r.1)
  where
    go : (b : Bool) → number_of (joined_by job) past ≡ number_of (opened_for job) past + number_of (taken_from job) past + number_of (withdrawn_by job) past + length (waiting_of past job)
        → cond b (suc (number_of (joined_by job) past)) (number_of (joined_by job) past)
        ≡ number_of (opened_for job) past + number_of (taken_from job) past + number_of (withdrawn_by job) past + length (cond b (waiting_of past job ++ (waiting_with asked bytes ∷ [])) (waiting_of past job))
    go true e = omega (arith, e, length-append (waiting_of past job) (waiting_with asked bytes ∷ []))
    go false e = e
each_once (opened asked bytes address clock ∷ past) job r = go (eqb asked.job job) refl (each_once past job r.1)
  where
    go : (b : Bool) → eqb asked.job job ≡ b
        → number_of (joined_by job) past ≡ number_of (opened_for job) past + number_of (taken_from job) past + number_of (withdrawn_by job) past + length (waiting_of past job)
        → number_of (joined_by job) past
        ≡ cond b (suc (number_of (opened_for job) past)) (number_of (opened_for job) past) + number_of (taken_from job) past + number_of (withdrawn_by job) past
        + length (cond b (less 0 (waiting_of past job)) (waiting_of past job))
    go true is e =
        let j : asked.job ≡ job = eqb-true asked.job job is in
        let first = subst (λ (x : ℕ). waiting_of past x ≡ waiting_with asked bytes ∷ r.0.later) j r.0.was_oldest in
        omega (arith, e, ap length first, less_by_one 0 (waiting_of past job) (omega (arith, ap length first)))
    go false is e = e
each_once (taken_out asked bytes ∷ past) job r = go (eqb asked.job job) refl (each_once past job r.1)
  where
    go : (b : Bool) → eqb asked.job job ≡ b
        → number_of (joined_by job) past ≡ number_of (opened_for job) past + number_of (taken_from job) past + number_of (withdrawn_by job) past + length (waiting_of past job)
        → number_of (joined_by job) past
        ≡ number_of (opened_for job) past + cond b (suc (number_of (taken_from job) past)) (number_of (taken_from job) past) + number_of (withdrawn_by job) past
        + length (cond b (less 0 (waiting_of past job)) (waiting_of past job))
    go true is e =
        let j : asked.job ≡ job = eqb-true asked.job job is in
        let first = subst (λ (x : ℕ). waiting_of past x ≡ waiting_with asked bytes ∷ r.0.later) j r.0.was_oldest in
        omega (arith, e, ap length first, less_by_one 0 (waiting_of past job) (omega (arith, ap length first)))
    go false is e = e
each_once (withdrew owner at ∷ past) job r = go (eqb owner job) refl (each_once past job r.2)
  where
    go : (b : Bool) → eqb owner job ≡ b
        → number_of (joined_by job) past ≡ number_of (opened_for job) past + number_of (taken_from job) past + number_of (withdrawn_by job) past + length (waiting_of past job)
        → number_of (joined_by job) past
        ≡ number_of (opened_for job) past + number_of (taken_from job) past + cond b (suc (number_of (withdrawn_by job) past)) (number_of (withdrawn_by job) past)
        + length (cond b (less (at - 1) (waiting_of past job)) (waiting_of past job))
    go true is e =
        let within = subst (λ (x : ℕ). at ≤ length (waiting_of past x)) (eqb-true owner job is) r.1 in
        omega (arith, e, less_by_one (at - 1) (waiting_of past job) (omega (arith, within, r.0)))
    go false is e = e
each_once (nothing ∷ past) job r = each_once past job r

-- ---- "the desk's own promises hold with lanes in front": its calls are those of a night

one_reach : (hall : Hall) (call : Call) → (after hall call).desk ≡ after_all hall.desk (reaches hall call)
unfolding after reaches after_all
one_reach hall (joins asked bytes) = refl
one_reach hall (grants clock room) = go (grant_refusal hall.lanes (length room))
  where
    go : (x : Option Fault) → (granted x hall clock room).desk ≡ after_all hall.desk (grant_reaches x hall.lanes clock room)
    go (some f) = refl
    go none = refl
one_reach hall (withdraws job at) = refl
one_reach hall (at_desk call) = refl

pub at_desk_lem : (hall : Hall) (calls : List Call) → (all_after hall calls).desk ≡ after_all hall.desk (all_reach hall calls)
unfolding all_after all_reach after_all
at_desk_lem hall [] = refl
at_desk_lem hall (c ∷ cs) =
    at_desk_lem (after hall c) cs
    ∙ (ap (λ (d : Desk). after_all d (all_reach (after hall c) cs)) (one_reach hall c)
    ∙ sym (then_all (reaches hall c) (all_reach (after hall c) cs) hall.desk []).0)

pub any_night_behind : (lanes : Lanes) (calls : List Call)
    → Night (all_after (record { lanes = lanes; desk = fresh_desk }) calls).desk (answered_all fresh_desk [] (all_reach (record { lanes = lanes; desk = fresh_desk }) calls))
any_night_behind lanes calls =
    let hall : Hall = record { lanes = lanes; desk = fresh_desk } in
    subst (λ (d : Desk). Night d (answered_all fresh_desk [] (all_reach (record { lanes = lanes; desk = fresh_desk }) calls))) (sym (at_desk_lem hall calls)) (any_night (all_reach hall calls))

-- 02, #110, with lanes in front: "No two open tickets of different jobs may hold the same folder other than 0"
pub folders_apart_behind : (lanes : Lanes) (calls : List Call) (a b : ℕ)
    → (ticket_on (all_after (record { lanes = lanes; desk = fresh_desk }) calls).desk a).live ≡ true
    → (ticket_on (all_after (record { lanes = lanes; desk = fresh_desk }) calls).desk b).live ≡ true
    → (ticket_on (all_after (record { lanes = lanes; desk = fresh_desk }) calls).desk a).asked.job
    ≢ (ticket_on (all_after (record { lanes = lanes; desk = fresh_desk }) calls).desk b).asked.job
    → (ticket_on (all_after (record { lanes = lanes; desk = fresh_desk }) calls).desk a).asked.folder ≢ 0
    → (ticket_on (all_after (record { lanes = lanes; desk = fresh_desk }) calls).desk a).asked.folder
    ≢ (ticket_on (all_after (record { lanes = lanes; desk = fresh_desk }) calls).desk b).asked.folder
folders_apart_behind lanes calls = (any_night_behind lanes calls).apart

-- ---- these are the lanes, desks and answers of the contracts

pub joins_after : (hall : Hall) (asked : Request) (bytes : List ℕ) (r : AfterJoin) → Joins hall.lanes asked bytes r
    → (after hall (joins asked bytes) ≡ record { lanes = r.lanes; desk = hall.desk }) × (event_of hall (joins asked bytes) ≡ saw_joining r.answer asked bytes)
unfolding after event_of
joins_after hall asked bytes r j =
    (ap (λ (l : Lanes). record { lanes = l; desk = hall.desk }) (sym j.1), go (join_refusal hall.lanes asked bytes) ∙ sym (ap (λ a. saw_joining a asked bytes) j.0))
  where
    go : (x : Option Fault) → of_join x asked bytes ≡ saw_joining (join_answer x hall.lanes (lane_for hall.lanes asked.job)) asked bytes
    go (some f) = refl
    go none = refl

pub withdraws_after : (hall : Hall) (job at : ℕ) (r : AfterWithdraw) → Withdraws hall.lanes job at r
    → (after hall (withdraws job at) ≡ record { lanes = r.lanes; desk = hall.desk }) × (event_of hall (withdraws job at) ≡ saw_withdrawing r.answer job at)
unfolding after event_of
withdraws_after hall job at r w =
    (ap (λ (l : Lanes). record { lanes = l; desk = hall.desk }) (sym w.1), go (withdraw_refusal hall.lanes job at) ∙ sym (ap (λ a. saw_withdrawing a job at) w.0))
  where
    go : (x : Option Fault) → of_withdrawal x job at ≡ saw_withdrawing (withdraw_answer x) job at
    go (some f) = refl
    go none = refl

-- a grant that opened a request or took it out is one that counts
abbrev pub uses_turn : Granting → Bool
uses_turn (Ok (Granted job address n)) = true
uses_turn (Ok (TakenOut job)) = true
uses_turn (Err f) = false

pub grants_after : (hall : Hall) (clock : ℕ) (room : List ℕ) (r : AfterGrant) (room' : List ℕ) → Grants hall.lanes hall.desk clock room r room'
    → (after hall (grants clock room) ≡ record { lanes = r.lanes; desk = r.desk })
    × (event_of hall (grants clock room) ≡ saw_granting r.answer (oldest hall.lanes) clock)
    × (counts hall (grants clock room) ≡ uses_turn r.answer)
unfolding after event_of counts
grants_after hall clock room r room' g = go (grant_refusal hall.lanes (length room)) g
  where
    go : (x : Option Fault) → GrantsBy x hall.lanes hall.desk clock room r room'
        → (granted x hall clock room ≡ record { lanes = r.lanes; desk = r.desk })
        × (of_grant x hall clock room ≡ saw_granting r.answer (oldest hall.lanes) clock)
        × (turn_used x hall clock room ≡ uses_turn r.answer)
    go (some f) g = rw (g.0.0, g.0.1, g.0.2) (refl, refl, refl)
    go none g =
        let o = g.0 in
        let answer : o.answer ≡ opened_with hall.desk (oldest hall.lanes) clock room = g.1.0 in
        let desk = (opens_after hall.desk (oldest hall.lanes).asked (data_of (oldest hall.lanes)) clock room o room' g.1).0 in
        let seen = by (opened_with hall.desk (oldest hall.lanes) clock room) in
        rw (g.2.0, g.2.1, g.2.2, desk, answer) (refl, seen.0, seen.1)
      where
        by : (a : Opening) → (of_opening a (oldest hall.lanes) clock ≡ saw_granting (from_desk (oldest hall.lanes).asked.job a) (oldest hall.lanes) clock)
            × (moves_on a ≡ uses_turn (from_desk (oldest hall.lanes).asked.job a))
        by (Ok told) = (refl, refl)
        by (Err f) = out (takes_out f)
          where
            out : (b : Bool)
                → (cond b (taken_out (oldest hall.lanes).asked (data_of (oldest hall.lanes))) nothing
                ≡ saw_granting (cond b (Ok (TakenOut (oldest hall.lanes).asked.job)) (Err (AtDesk f))) (oldest hall.lanes) clock)
                × (b ≡ uses_turn (cond b (Ok (TakenOut (oldest hall.lanes).asked.job)) (Err (AtDesk f))))
            out true = (refl, refl)
            out false = (refl, refl)

-- ---- "a grant can never be refused by anything but 73, 74, 15", and by #110 75: what waits passed 10 to 14, and its telegram has room in 494
-- bytes

-- what the desk can refuse it with
abbrev at_desk_tests : Bool → Bool → List (Test DeskFault)
at_desk_tests held far = test held FolderHeld ∷ test far NoneFree ∷ []

only_these : (desk : Desk) (asked : Request) (bytes : List ℕ) (clock room : ℕ) → ask_refusal asked bytes ≡ none → 494 ≤ room
    → open_refusal desk asked bytes clock room ≡ first_row_of (at_desk_tests (is_folder_held desk asked) (leb 95 (distance_of desk clock)))
unfolding open_refusal
only_these desk asked bytes clock room passed wide =
    let can = allowed_writable asked bytes passed in
    let sized = length-message_for asked.unit (161 + given_place desk clock) asked.sort asked.register bytes in
    let long : length (request_at (given_place desk clock) asked bytes) ≤ 494 =
    telegram_long (message_for asked.unit (161 + given_place desk clock) asked.sort asked.register bytes) (omega (arith, sized, can.0)) in
    rw passed (simp (le-ltb room (length (request_at (given_place desk clock) asked bytes)) (omega arith)))

abbrev desk_rows : Lanes → Desk → ℕ → List (Row Fault)
desk_rows lanes desk clock = row (IsFolderHeld desk (oldest lanes).asked) (AtDesk FolderHeld) ∷ row (IsNoneFree desk clock) (AtDesk NoneFree) ∷ []

abbrev desk_tests : Lanes → Desk → ℕ → List (Test Fault)
desk_tests lanes desk clock = test (is_folder_held desk (oldest lanes).asked) (AtDesk FolderHeld) ∷ test (leb 95 (distance_of desk clock)) (AtDesk NoneFree) ∷ []

granted_ranked : (lanes : Lanes) (desk : Desk) (clock room : ℕ)
    → Ranked (grant_rows lanes room ++ desk_rows lanes desk clock) (or_later (grant_refusal lanes room) (first_row_of (desk_tests lanes desk clock)))
granted_ranked lanes desk clock room =
    ranked_append (grant_rows lanes room) (desk_rows lanes desk clock) (grant_refusal lanes room) (first_row_of (desk_tests lanes desk clock)) (grant_ranked lanes room)
    (λ n. ranked (desk_tests lanes desk clock) (desk_rows lanes desk clock)
    (decides_folder_held desk (oldest lanes).asked otherwise λ n₇₅. decides_none_free desk clock otherwise λ n₁₅. tt))

pub grant_exactly : (lanes : Lanes) (desk : Desk) (clock : ℕ) (room : List ℕ) (r : AfterGrant) (room' : List ℕ) → Orderly lanes → Grants lanes desk clock room r room'
    → Numbered
    (row (length room < 494) 73
    ∷ row ((place : ℕ) → place < 16 → (lane_at lanes place).size ≡ 0) 74
    ∷ row (IsFolderHeld desk (waiting_at (lane_at lanes (next_place lanes)) 0).asked) 75
    ∷ row (IsNoneFree desk clock) 15
    ∷ [])
    (73 ∷ 74 ∷ 75 ∷ 15 ∷ []) (grant_told r.answer)
unfolding grant_rows IsShortBuffer IsNothingWaiting
grant_exactly lanes desk clock room r room' o g =
    numbered fault_number (grant_rows lanes (length room) ++ desk_rows lanes desk clock)
    (or_later (grant_refusal lanes (length room)) (first_row_of (desk_tests lanes desk clock)))
    (granted_ranked lanes desk clock (length room)) (73 ∷ 74 ∷ 75 ∷ 15 ∷ []) refl refl (grant_told r.answer)
    (go (grant_refusal lanes (length room)) refl g)
  where
    go : (x : Option Fault) → grant_refusal lanes (length room) ≡ x → GrantsBy x lanes desk clock room r room'
        → grant_told r.answer ≡ raised fault_number (or_later x (first_row_of (desk_tests lanes desk clock)))
    go (some f) e g = ap grant_told g.0.0
    go none e g =
        let fit = fit_to_grant lanes (length room) e in
        let refusal = only_these desk (oldest lanes).asked (data_of (oldest lanes)) clock (length room) (o.allowed (next_place lanes) 0 fit.2 fit.3) fit.0 in
        let answer =
        g.1.0 ∙ ap (λ (x : Option DeskFault). open_answer x (161 + given_place desk clock) (length (request_at (given_place desk clock) (oldest lanes).asked (data_of (oldest lanes))))) refusal in
        ap grant_told (g.2.0 ∙ ap (from_desk (oldest lanes).asked.job) answer) ∙ told (is_folder_held desk (oldest lanes).asked) (leb 95 (distance_of desk clock))
      where
        told : (held far : Bool) → grant_told (from_desk (oldest lanes).asked.job (open_answer (first_row_of (at_desk_tests held far)) (161 + given_place desk clock)
            (length (request_at (given_place desk clock) (oldest lanes).asked (data_of (oldest lanes))))))
            ≡ raised fault_number (first_row_of (test held (AtDesk FolderHeld) ∷ test far (AtDesk NoneFree) ∷ []))
        told true far = refl
        told false true = refl
        told false false = refl

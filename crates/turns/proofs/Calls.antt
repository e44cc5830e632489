-- What each call on lanes in order did, where it was not refused, in the request's sentences; and the definitions that the other laws speak of,
-- said out.
-- Assumes nothing.
use Rattle.lanes.specs.declared.Joined.{Joined}
use Rattle.lanes.specs.Answers.{joining, Joining}
use Rattle.std.specs.Prelude.{Ok, Err}
use mathlib.Core.Path.{◌≡◌, refl, sym, ap, subst, ◌∙◌}
use mathlib.Core.Bool.{true}
use mathlib.Core.List.{List, ◌∷◌}
use mathlib.Core.Logic.{◌⊎◌, inl, inr}
use mathlib.Core.Option.{Option, some, none}
use Prim.Native.Nat.{ℕ, ◌+◌, ◌-◌, ◌<◌}
use native.Mathlib.Decide.{dec_lt}
use native.Mathlib.Omega.{arith}
use borrow.Author.Tests.{eqb-true, eqb-false}
use lib.ListN.{length}
use lib.Seq.{length-take-le}
use Rattle.rows.proofs.Laws.{clash}
use Rattle.request.specs.declared.Request.{Request}
use Rattle.desk.proofs.Folder.{held_exactly}
use Rattle.desk.specs.Open.{open_told}
use Rattle.desk.specs.declared.Desk.{Desk}
use Rattle.lanes.proofs.Answers.{granted_told, taken_told}
use Rattle.lanes.proofs.Laws.{taken_out_keeps}
use Rattle.lanes.proofs.Ranking.{own_is, for_own, for_empty, empty_ended, not_theirs_before, passed_empty, next_waits}
use Rattle.lanes.specs.Lanes.{Empty, Belongs, TheirLane, lane_at, waiting_with, data_of, queue_in, with_last, without, own_lane, empty_lane}
use Rattle.lanes.specs.Join.{join_refusal, join_answer, join_lanes, lane_for, Joins}
use Rattle.lanes.specs.Grant.{grant_refusal, next_distance, next_place, served_from, Grants, GrantsBy}
use Rattle.lanes.specs.Withdraw.{withdraw_refusal, withdraw_answer, withdraw_lanes, Withdraws}
use Rattle.lanes.specs.declared.AfterGrant.{AfterGrant}
use Rattle.lanes.specs.declared.AfterJoin.{AfterJoin}
use Rattle.lanes.specs.declared.AfterWithdraw.{AfterWithdraw}
use Rattle.lanes.specs.declared.Fault.{Fault}
use Rattle.lanes.specs.declared.Turn.TheVariants.{Granted, TakenOut}
use Rattle.lanes.specs.declared.Lane.{Lane}
use Rattle.lanes.specs.declared.Lanes.{Lanes}
use Rattle.lanes.specs.declared.Waiting.{Waiting}
use Rattle.turns.specs.Turns.{Orderly, oldest}
use Rattle.turns.specs.Queue.{less}
use Rattle.turns.specs.Outcome.{JoinedAt, TurnAt, GrantedAt, TakenOutAt, WithdrawnAt}
use Rattle.turns.proofs.Arrays.{put_there, put_other}
use Rattle.turns.proofs.Orderly.{fit_to_join, fit_to_grant, fit_to_withdraw}
use Rattle.turns.proofs.Queue.{longer, shorter, first_of_lem}

-- how many wait in a lane
size_is : {lanes : Lanes} → Orderly lanes → (k : ℕ) → k < 16 → length (queue_in (lane_at lanes k)) ≡ (lane_at lanes k).size
size_is {lanes} o k h = length-take-le (lane_at lanes k).size (lane_at lanes k).waiting (omega (arith, o.four k h, o.at_most k h))

-- ---- joining

-- "A job's first request takes the lowest empty lane"
which_lane : (lanes : Lanes) (job : ℕ) → lane_for lanes job < 16
    → TheirLane lanes job (lane_for lanes job)
    ⊎ (((m : ℕ) → m < 16 → Belongs (lane_at lanes m) job → ⊥) × Empty (lane_at lanes (lane_for lanes job)) × ((m : ℕ) → m < lane_for lanes job → Empty (lane_at lanes m) → ⊥))
which_lane lanes job near = elim (dec_lt (own_lane lanes job) 16) [
  | yes own ↦ inl (subst (TheirLane lanes job) (sym (for_own lanes job own)) (own_is lanes job own))
  | no other ↦
      let is : lane_for lanes job ≡ empty_lane lanes = for_empty lanes job (omega arith) in
      let e = empty_ended lanes in
      inr (
        (λ m l. not_theirs_before lanes job m (omega arith)),
        subst (λ (k : ℕ). Empty (lane_at lanes k)) (sym is) (eqb-true (lane_at lanes (empty_lane lanes)).size 0 (e.there (omega (arith, is, near)))),
        (λ m l. eqb-false (lane_at lanes m).size 0 (e.before m (omega (arith, is, l)))),
      )
]

-- a number of what was answered; 0 of a refusal
abbrev given : (Joined → ℕ) → Joining → ℕ
given field (Ok told) = field told
given field (Err f) = 0

pub joined_right : (lanes : Lanes) (asked : Request) (bytes : List ℕ) (r : AfterJoin) (lane at : ℕ) → Orderly lanes → Joins lanes asked bytes r → r.answer ≡ joining lane at
    → JoinedAt lanes asked bytes lane at r.lanes
joined_right lanes asked bytes r lane at o j e = go (join_refusal lanes asked bytes) refl j.0 j.1
  where
    go : (x : Option Fault) → join_refusal lanes asked bytes ≡ x → r.answer ≡ join_answer x lanes (lane_for lanes asked.job)
        → r.lanes ≡ join_lanes x lanes (lane_for lanes asked.job) asked bytes → JoinedAt lanes asked bytes lane at r.lanes
    go (some f) x a b = let both : joining lane at ≡ Err f = sym e ∙ a in clash (cc)
    go none x a b =
        let fit = fit_to_join lanes asked bytes x in
        let k : ℕ = lane_for lanes asked.job in
        let both : joining lane at ≡ joining (lane_for lanes asked.job + 1) ((lane_at lanes (lane_for lanes asked.job)).size + 1) = sym e ∙ a in
        let new : Lane = with_last (lane_at lanes (lane_for lanes asked.job)) (waiting_with asked bytes) in
        record {
          place = lane_for lanes asked.job;
          within = fit.1;
          lane_is = ap (given (λ (j : Joined). j.lane)) both;
          at-is = ap (given (λ (j : Joined). j.place)) both ∙ ap (λ (n : ℕ). n + 1) (sym (size_is o (lane_for lanes asked.job) fit.1));
          which = which_lane lanes asked.job fit.1;
          longer_by_it = ap (λ (l : Lanes). queue_in (lane_at l (lane_for lanes asked.job))) b
              ∙ (ap queue_in (put_there lanes lanes.last (lane_for lanes asked.job) new (omega (arith, o.sixteen, fit.1)))
              ∙ longer (lane_at lanes (lane_for lanes asked.job)) (waiting_with asked bytes) (omega (arith, o.four (lane_for lanes asked.job) fit.1, fit.2)));
          others = λ m n. ap (λ (l : Lanes). lane_at l m) b ∙ put_other lanes lanes.last (lane_for lanes asked.job) new m n;
          turn_kept = ap (λ (l : Lanes). l.last) b;
        }

-- ---- granting

front_off : {ws later : List Waiting} {w : Waiting} → ws ≡ w ∷ later → less 0 ws ≡ later
unfolding less
front_off e = ap (less 0) e

-- a grant that used its turn
module _ (lanes : Lanes) (desk : Desk) (clock : ℕ) (room : List ℕ) (r : AfterGrant) (room' : List ℕ) (o : Orderly lanes) where
  turn_at : grant_refusal lanes (length room) ≡ none → r.lanes ≡ served_from lanes (next_place lanes) (lane_at lanes (next_place lanes)) true → TurnAt lanes (oldest lanes) r
  unfolding next_place
  turn_at x next =
      let fit = fit_to_grant lanes (length room) x in
      let first = first_of_lem (lane_at lanes (next_place lanes)) fit.3 (o.four (next_place lanes) fit.2) in
      let rest = shorter (lane_at lanes (next_place lanes)) 0 (o.four (next_place lanes) fit.2) (o.at_most (next_place lanes) fit.2) fit.3 in
      record {
        distance = next_distance lanes;
        near = fit.1;
        passed = λ j h. passed_empty lanes j h;
        waited = next_waits lanes fit.1;
        later = first.0;
        was = first.1;
        left = ap (λ (l : Lanes). queue_in (lane_at l (next_place lanes))) next
            ∙ (ap queue_in (put_there lanes (next_place lanes) (next_place lanes) (without (lane_at lanes (next_place lanes)) 0) (omega (arith, o.sixteen, fit.2)))
            ∙ (rest ∙ front_off first.1));
        others = λ m n. ap (λ (l : Lanes). lane_at l m) next ∙ put_other lanes (next_place lanes) (next_place lanes) (without (lane_at lanes (next_place lanes)) 0) m n;
        turn = ap (λ (l : Lanes). l.last) next;
      }

  pub granted_right : (job address n : ℕ) → Grants lanes desk clock room r room' → r.answer ≡ Ok (Granted job address n) → GrantedAt lanes desk clock room job address n r room'
  granted_right job address n g e = go (grant_refusal lanes (length room)) refl g
    where
      go : (x : Option Fault) → grant_refusal lanes (length room) ≡ x → GrantsBy x lanes desk clock room r room' → GrantedAt lanes desk clock room job address n r room'
      go (some f) x g = let both : Ok (Granted job address n) ≡ Err f = sym e ∙ g.0.0 in clash (cc)
      go none x g =
          let told = granted_told (oldest lanes).asked.job job address n g.0.answer (sym e ∙ g.2.0) in
          record {
            request = oldest lanes;
            turn = turn_at x (g.2.1 ∙ rw told.0);
            job_is = told.1;
            at_desk_lem = g.0;
            opens = g.1;
            answered = told.0;
            desk_next = g.2.2;
          }

  -- 02, #110: one that was taken out
  pub taken_right : (job : ℕ) → Grants lanes desk clock room r room' → r.answer ≡ Ok (TakenOut job) → TakenOutAt lanes desk room job r room'
  taken_right job whole e = go (grant_refusal lanes (length room)) refl whole
    where
      go : (x : Option Fault) → grant_refusal lanes (length room) ≡ x → GrantsBy x lanes desk clock room r room' → TakenOutAt lanes desk room job r room'
      go (some f) x g = let both : Ok (TakenOut job) ≡ Err f = sym e ∙ g.0.0 in clash (cc)
      go none x g =
          let told = taken_told (oldest lanes).asked.job job g.0.answer (sym e ∙ g.2.0) in
          let kept = taken_out_keeps lanes desk clock room r room' whole job e in
          record {
            request = oldest lanes;
            turn = turn_at x (g.2.1 ∙ rw told.0);
            job_is = told.1;
            held = ((held_exactly desk (oldest lanes).asked (data_of (oldest lanes)) clock room g.0 room' g.1).0 (ap open_told told.0)).1;
            considered_none = kept.0;
            desk_kept = kept.1;
            room_kept = kept.2;
          }

-- ---- withdrawing

pub withdrawn_right : (lanes : Lanes) (job at : ℕ) (r : AfterWithdraw) → Orderly lanes → Withdraws lanes job at r → r.answer ≡ Ok tt → WithdrawnAt lanes job at r.lanes
withdrawn_right lanes job at r o w e = go (withdraw_refusal lanes job at) refl w.0 w.1
  where
    go : (x : Option Fault) → withdraw_refusal lanes job at ≡ x → r.answer ≡ withdraw_answer x → r.lanes ≡ withdraw_lanes x lanes (own_lane lanes job) at
        → WithdrawnAt lanes job at r.lanes
    go (some f) x a b = let both : Ok tt ≡ Err f = sym e ∙ a in clash (cc)
    go none x a b =
        let fit = fit_to_withdraw lanes job at x in
        record {
          place = own_lane lanes job;
          theirs = own_is lanes job fit.0;
          from_1 = fit.1;
          within = omega (arith, fit.2, size_is o (own_lane lanes job) fit.0);
          left = ap (λ (l : Lanes). queue_in (lane_at l (own_lane lanes job))) b
              ∙ (ap queue_in (put_there lanes lanes.last (own_lane lanes job) (without (lane_at lanes (own_lane lanes job)) (at - 1)) (omega (arith, o.sixteen, fit.0)))
              ∙ shorter (lane_at lanes (own_lane lanes job)) (at - 1) (o.four (own_lane lanes job) fit.0) (o.at_most (own_lane lanes job) fit.0) (omega (arith, fit.1, fit.2)));
          others = λ m n. ap (λ (l : Lanes). lane_at l m) b ∙ put_other lanes lanes.last (own_lane lanes job) (without (lane_at lanes (own_lane lanes job)) (at - 1)) m n;
          turn_kept = ap (λ (l : Lanes). l.last) b;
        }

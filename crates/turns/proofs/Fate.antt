-- What it means that a request was opened, taken out or withdrawn: by which call, and that it was this one, as it was asked.
-- Assumes nothing.
use Rattle.std.specs.Prelude.{Err, Ok}
use mathlib.Core.Path.{◌≡◌, refl, sym, ap, subst, ◌∙◌}
use mathlib.Core.Bool.{Bool, true, false, cond}
use mathlib.Core.List.{List, [], ◌∷◌, ◌++◌}
use mathlib.Core.Logic.{◌⊎◌, inl, inr}
use mathlib.Core.Option.{Option, some, none}
use Prim.Native.Nat.{ℕ, zero, suc, ◌+◌, ◌-◌, ◌≤◌, ◌<◌}
use native.Mathlib.Omega.{arith}
use borrow.Author.Tests.{eqb-true}
use lib.Dec.{eqb, ltb}
use lib.ListN.{length}
use Rattle.rows.proofs.Laws.{clash}
use Rattle.desk.proofs.Folder.{held_exactly}
use Rattle.desk.specs.Open.{open_told}
use Rattle.desk.specs.declared.Fault.TheVariants.{FolderHeld}
use Rattle.desk.specs.Answers.{Opening, opening}
use Rattle.lanes.proofs.Answers.{moves_why}
use Rattle.lanes.proofs.Laws.{taken_out_keeps}
use Rattle.lanes.proofs.Ranking.{own_is}
use Rattle.lanes.specs.Lanes.{lane_at, waiting_at, data_of, own_lane}
use Rattle.lanes.specs.Grant.{grant_refusal, next_place, moves_on, from_desk, Grants, GrantsBy}
use Rattle.lanes.specs.Withdraw.{withdraw_refusal}
use Rattle.lanes.specs.declared.AfterGrant.{AfterGrant}
use Rattle.lanes.specs.declared.Fault.{Fault}
use Rattle.lanes.specs.declared.Turn.TheVariants.{TakenOut}
use Rattle.lanes.specs.declared.Waiting.{Waiting}
use Rattle.turns.specs.Turns.{Hall, Call, joins, grants, withdraws, at_desk, after, all_after, oldest, opened_with, Orderly}
use Rattle.turns.specs.Fair.{turn_used, counts, Fate, waits, had_turn, withdrawn, taken_at, at_grant, at_withdrawal, fate_by, fate, OpenedBy, TakenOutBy, Ended}
use Rattle.turns.proofs.Fair.{all_calls}
use Rattle.turns.proofs.Orderly.{fit_to_withdraw}

-- ---- by a grant

-- from the front of the lane that has its turn
own_turn : (own : Bool) (place : ℕ) → at_grant true own place ≡ had_turn → (own ≡ true) × (place ≡ 0)
own_turn true zero e = (refl, refl)
own_turn true (suc p) e = clash (cc)
own_turn false place e = clash (cc)

not_taken_turn : (gone place : ℕ) → taken_at gone place ≡ had_turn → ◌≡◌ {A = ℕ} 0 1
not_taken_turn gone place e = go (eqb gone place) (ltb gone place) e
  where
    go : (a b : Bool) → cond a withdrawn (cond b (waits (place - 1)) (waits place)) ≡ had_turn → ◌≡◌ {A = ℕ} 0 1
    go true b e = cc
    go false true e = cc
    go false false e = cc

not_withdrawal : (x : Option Fault) (own : Bool) (gone place : ℕ) → at_withdrawal x own gone place ≡ had_turn → ◌≡◌ {A = ℕ} 0 1
not_withdrawal (some f) own gone place e = cc
not_withdrawal none true gone place e = not_taken_turn gone place e
not_withdrawal none false gone place e = cc

module _ (hall : Hall) (lane place clock : ℕ) (room : List ℕ) (r : AfterGrant) (room' : List ℕ) where
  abbrev Turn : Waiting → Type 0
  Turn w = OpenedBy hall.desk clock room w r room' ⊎ TakenOutBy hall.desk room w r room'

  by_grant : (x : Option Fault) → at_grant (turn_used x hall clock room) (eqb (next_place hall.lanes) lane) place ≡ had_turn
      → GrantsBy x hall.lanes hall.desk clock room r room' → Grants hall.lanes hall.desk clock room r room'
      → Turn (waiting_at (lane_at hall.lanes lane) place)
  by_grant (some f) e g whole = clash (cc)
  by_grant none e g whole = go (moves_on (opened_with hall.desk (oldest hall.lanes) clock room)) refl e
    where
      told : (a : Opening) → g.0.answer ≡ a → r.answer ≡ from_desk (oldest hall.lanes).asked.job a
      told a is = g.2.0 ∙ ap (from_desk (oldest hall.lanes).asked.job) is

      turn : (a : Opening) → g.0.answer ≡ a → moves_on a ≡ true → Turn (oldest hall.lanes)
      turn a is used = moves_why (λ b. g.0.answer ≡ b → Turn (oldest hall.lanes))
          (λ address n answer. inl (record { address = address; n = n; told = told (opening address n) answer; at_desk_lem = g.0; opens = g.1; answered = answer; next = g.2.2 }))
          (λ answer.
          let out : r.answer ≡ Ok (TakenOut (oldest hall.lanes).asked.job) = told (Err FolderHeld) answer in
          let kept = taken_out_keeps hall.lanes hall.desk clock room r room' whole (oldest hall.lanes).asked.job out in
          inr (record {
            told = out;
            held =
                ((held_exactly hall.desk (oldest hall.lanes).asked (data_of (oldest hall.lanes)) clock room g.0 room' g.1).0 (ap open_told answer)).1;
            considered_none = kept.0;
            desk_kept = kept.1;
            room_kept = kept.2;
          })) a used is

      go : (used : Bool) → moves_on (opened_with hall.desk (oldest hall.lanes) clock room) ≡ used → at_grant used (eqb (next_place hall.lanes) lane) place ≡ had_turn
          → Turn (waiting_at (lane_at hall.lanes lane) place)
      go false used e = clash (cc)
      go true used e =
          let its = own_turn (eqb (next_place hall.lanes) lane) place e in
          let here : next_place hall.lanes ≡ lane = eqb-true (next_place hall.lanes) lane its.0 in
          subst Turn (ap (λ (k : ℕ). waiting_at (lane_at hall.lanes k) 0) here ∙ ap (waiting_at (lane_at hall.lanes lane)) (sym its.1))
          (turn (opened_with hall.desk (oldest hall.lanes) clock room) g.1.0 used)

-- a call by which it has its turn is a grant, and opens this very request or takes it out
pub turn_by : (hall : Hall) (call : Call) (lane place : ℕ) → fate_by hall call lane place ≡ had_turn
    → (clock : ℕ)
    × (room : List ℕ)
    × (call ≡ grants clock room)
    × ((r : AfterGrant) (room' : List ℕ) → Grants hall.lanes hall.desk clock room r room'
    → OpenedBy hall.desk clock room (waiting_at (lane_at hall.lanes lane) place) r room'
    ⊎ TakenOutBy hall.desk room (waiting_at (lane_at hall.lanes lane) place) r room')
unfolding fate_by counts
turn_by hall (joins asked bytes) lane place e = clash (cc)
turn_by hall (grants clock room) lane place e = (clock, room, refl, λ r room' g. by_grant hall lane place clock room r room' (grant_refusal hall.lanes (length room)) e g g)
turn_by hall (withdraws job at) lane place e = clash (not_withdrawal (withdraw_refusal hall.lanes job at) (eqb (own_lane hall.lanes job) lane) (at - 1) place e)
turn_by hall (at_desk call) lane place e = clash (cc)

-- ---- by a withdrawal

not_by_grant : (used own : Bool) (place : ℕ) → at_grant used own place ≡ withdrawn → ◌≡◌ {A = ℕ} 0 1
not_by_grant true true zero e = cc
not_by_grant true true (suc p) e = cc
not_by_grant true false place e = cc
not_by_grant false own place e = cc

-- a call by which it is withdrawn is that of its own job, for its own place
pub withdrawn_by_lem : (hall : Hall) (call : Call) (lane place : ℕ) → fate_by hall call lane place ≡ withdrawn
    → (call ≡ withdraws (waiting_at (lane_at hall.lanes lane) 0).asked.job (place + 1)) × (place < (lane_at hall.lanes lane).size)
unfolding fate_by counts
withdrawn_by_lem hall (joins asked bytes) lane place e = clash (cc)
withdrawn_by_lem hall (grants clock room) lane place e = clash (not_by_grant (turn_used (grant_refusal hall.lanes (length room)) hall clock room) (eqb (next_place hall.lanes) lane) place e)
withdrawn_by_lem hall (at_desk call) lane place e = clash (cc)
withdrawn_by_lem hall (withdraws job at) lane place e = go (withdraw_refusal hall.lanes job at) refl (eqb (own_lane hall.lanes job) lane) refl e
  where
    itself : (gone : ℕ) → taken_at gone place ≡ withdrawn → gone ≡ place
    itself gone e = by (eqb gone place) refl (ltb gone place) e
      where
        by : (a : Bool) → eqb gone place ≡ a → (b : Bool) → cond a withdrawn (cond b (waits (place - 1)) (waits place)) ≡ withdrawn → gone ≡ place
        by true is b e = eqb-true gone place is
        by false is true e = clash (cc)
        by false is false e = clash (cc)

    go : (x : Option Fault) → withdraw_refusal hall.lanes job at ≡ x → (own : Bool) → eqb (own_lane hall.lanes job) lane ≡ own → at_withdrawal x own (at - 1) place ≡ withdrawn
        → (withdraws job at ≡ withdraws (waiting_at (lane_at hall.lanes lane) 0).asked.job (place + 1)) × (place < (lane_at hall.lanes lane).size)
    go (some f) x own is e = clash (cc)
    go none x false is e = clash (cc)
    go none x true is e =
        let fit = fit_to_withdraw hall.lanes job at x in
        let here : own_lane hall.lanes job ≡ lane = eqb-true (own_lane hall.lanes job) lane is in
        let job_is : (waiting_at (lane_at hall.lanes lane) 0).asked.job ≡ job =
        subst (λ (k : ℕ). (waiting_at (lane_at hall.lanes k) 0).asked.job ≡ job) here (own_is hall.lanes job fit.0).theirs.1 in
        let at-is : at ≡ place + 1 = omega (arith, itself (at - 1) e, fit.1) in
        let size : at ≤ (lane_at hall.lanes lane).size = subst (λ (k : ℕ). at ≤ (lane_at hall.lanes k).size) here fit.2 in
        (ap (λ (j : ℕ). withdraws j at) (sym job_is) ∙ ap (withdraws (waiting_at (lane_at hall.lanes lane) 0).asked.job) at-is, omega (arith, size, at-is))

-- ---- in a sequence of calls: it waited up to that call

stays_ended : (hall : Hall) (calls : List Call) (lane : ℕ) (f end : Fate) → fate hall calls lane f ≡ end → ((q : ℕ) → f ≡ waits q → ⊥) → f ≡ end
unfolding fate
stays_ended hall [] lane f end e n = e
stays_ended hall (c ∷ cs) lane (waits p) end e n = absurd (n p refl)
stays_ended hall (c ∷ cs) lane had_turn end e n = e
stays_ended hall (c ∷ cs) lane withdrawn end e n = e

pub ended_in : (hall : Hall) (calls : List Call) (lane place : ℕ) (end : Fate) → ((q : ℕ) → end ≡ waits q → ⊥) → fate hall calls lane (waits place) ≡ end
    → Ended hall calls lane place end
unfolding fate all_after
ended_in hall [] lane place end n e = absurd (n place (sym e))
ended_in hall (c ∷ cs) lane place end n e = by (fate_by hall c lane place) refl e (λ p f. ended_in (after hall c) cs lane p end n f)
  where
    now : (f : Fate) → fate_by hall c lane place ≡ f → f ≡ end → Ended hall (c ∷ cs) lane place end
    now f is e = record { before = []; call = c; rest = cs; all = refl; last = place; waited = refl; ends = is ∙ e }

    by : (f : Fate) → fate_by hall c lane place ≡ f → fate (after hall c) cs lane f ≡ end
        → ((p : ℕ) → fate (after hall c) cs lane (waits p) ≡ end → Ended (after hall c) cs lane p end) → Ended hall (c ∷ cs) lane place end
    by had_turn is e again = now had_turn is (stays_ended (after hall c) cs lane had_turn end e (λ q z. clash (cc)))
    by withdrawn is e again = now withdrawn is (stays_ended (after hall c) cs lane withdrawn end e (λ q z. clash (cc)))
    by (waits p) is e again =
        let later = again p e in
        record {
          before = c ∷ later.before;
          call = later.call;
          rest = later.rest;
          all = ap (λ (l : List Call). c ∷ l) later.all;
          last = later.last;
          waited = rw is later.waited;
          ends = later.ends;
        }

-- so a request that had its turn was opened as it was asked, or taken out: what waited at its place before, with its data, is what the grant
-- opened, or what it took out because its folder was held
pub turn_as_asked : (hall : Hall) (calls : List Call) (lane place : ℕ) → lane < 16 → Orderly hall.lanes → place < (lane_at hall.lanes lane).size
    → fate hall calls lane (waits place) ≡ had_turn
    → (before : List Call)
    × (clock : ℕ)
    × (room : List ℕ)
    × (rest : List Call)
    × (calls ≡ before ++ (grants clock room ∷ rest))
    × ((r : AfterGrant) (room' : List ℕ) → Grants (all_after hall before).lanes (all_after hall before).desk clock room r room'
    → OpenedBy (all_after hall before).desk clock room (waiting_at (lane_at hall.lanes lane) place) r room'
    ⊎ TakenOutBy (all_after hall before).desk room (waiting_at (lane_at hall.lanes lane) place) r room')
turn_as_asked hall calls lane place hl o h e =
    let ended = ended_in hall calls lane place had_turn (λ q z. clash (cc)) e in
    let by = turn_by (all_after hall ended.before) ended.call lane ended.last ended.ends in
    let same = (all_calls hall ended.before lane place ended.last hl o h ended.waited).2 in (
      ended.before,
      by.0,
      by.1,
      ended.rest,
      ended.all ∙ ap (λ (c : Call). ended.before ++ (c ∷ ended.rest)) by.2,
      λ r room' g.
          subst (λ (w : Waiting). OpenedBy (all_after hall ended.before).desk by.0 by.1 w r room' ⊎ TakenOutBy (all_after hall ended.before).desk by.1 w r room') same
          (by.3 r room' g),
    )

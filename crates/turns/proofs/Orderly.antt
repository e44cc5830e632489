-- Every call leaves the lanes in order.
-- Assumes nothing.
use mathlib.Core.Path.{◌≡◌, refl, sym, ap, subst, ◌∙◌}
use mathlib.Core.Bool.{Bool, true, false, ◌||◌, true≢false}
use mathlib.Core.List.{List, [], ◌∷◌}
use mathlib.Core.Logic.{◌≢◌}
use mathlib.Core.Option.{Option, some, none}
use Prim.Native.Nat.{ℕ, ◌+◌, ◌-◌, ◌%◌, ◌≤◌, ◌<◌}
use native.Mathlib.Decide.{dec_lt}
use native.Mathlib.Omega.{arith}
use borrow.Author.Tests.{leb-false, ltb-false, eqb-true, eqb-false}
use lib.Dec.{eqb, leb, ltb}
use lib.ListN.{length, replicate, length-set, length-replicate, get_or-replicate}
use lib.Seq.{take-append_seam}
use Rattle.lent.proofs.Laws.{over_is}
use Rattle.request.proofs.Laws.{allowed_writable}
use Rattle.request.specs.Request.{ask_refusal}
use Rattle.request.specs.declared.Request.{Request}
use Rattle.rows.proofs.Laws.{first_false, or-none, raised_none}
use Rattle.rows.specs.Rows.{first_row_of, raised}
use Rattle.lanes.proofs.Ranking.{some_one, not_theirs_before, own_is, for_own, for_empty, empty_ended, next_waits}
use Rattle.lanes.specs.Lanes.{Empty, nobody, fresh_lanes, lane_at, waiting_at, waiting_with, data_of, with_last, without, own_lane, empty_lane}
use Rattle.lanes.specs.Join.{join_refusal, join_lanes, lane_for, lane_tests}
use Rattle.lanes.specs.Grant.{grant_refusal, next_distance, next_place, moves_on, served_from}
use Rattle.lanes.specs.Withdraw.{withdraw_refusal, withdraw_lanes, is_no_such}
use Rattle.lanes.specs.declared.Fault.{Fault}
use Rattle.lanes.specs.declared.Fault.TheVariants.{Denied, NoLaneFree, LaneFull, ShortBuffer, NothingWaiting, NoSuchRequest}
use Rattle.lanes.specs.declared.Lane.{Lane}
use Rattle.lanes.specs.declared.Lanes.{Lanes}
use Rattle.lanes.specs.declared.Waiting.{Waiting}
use Rattle.turns.specs.Turns.{Hall, Call, joins, grants, withdraws, at_desk, after, granted, all_after, oldest, opened_with, Orderly}
use Rattle.turns.proofs.Arrays.{same_or_not, put, put_there, put_other, last_there, last_other, before_gone, behind_gone}

-- ---- a lane in order: what the others need not be known for

pub record InOrder (lane : Lane) : Type 0 where
  pub four : length lane.waiting ≡ 4
  pub at_most : lane.size ≤ 4
  pub allowed : (p : ℕ) → p < lane.size → ask_refusal (waiting_at lane p).asked (data_of (waiting_at lane p)) ≡ none
  pub as_laid : (p : ℕ) → p < lane.size → waiting_at lane p ≡ waiting_with (waiting_at lane p).asked (data_of (waiting_at lane p))
  pub one_job : (p : ℕ) → p < lane.size → (waiting_at lane p).asked.job ≡ (waiting_at lane 0).asked.job

pub lane_in_order : {lanes : Lanes} → Orderly lanes → (k : ℕ) → k < 16 → InOrder (lane_at lanes k)
lane_in_order o k h =
    record {
      four = o.four k h;
      at_most = o.at_most k h;
      allowed = λ p. o.allowed k p h;
      as_laid = λ p. o.as_laid k p h;
      one_job = λ p. o.one_job k p h;
    }

-- a lane in order, whose job has no other, may stand at a place
pub put_in_order : {lanes : Lanes} → Orderly lanes → (last place : ℕ) (lane : Lane) → last < 16 → place < 16 → InOrder lane
    → ((k : ℕ) → k < 16 → k ≢ place → (Empty lane → ⊥) → (Empty (lane_at lanes k) → ⊥) → (waiting_at (lane_at lanes k) 0).asked.job ≡ (waiting_at lane 0).asked.job → ⊥)
    → Orderly (put lanes last place lane)
put_in_order {lanes} o last place lane hl hp fit alone =
    record {
      last_within = hl;
      sixteen = length-set lanes.lanes place lane ∙ o.sixteen;
      four = λ k h. (each k h).four;
      at_most = λ k h. (each k h).at_most;
      allowed = λ k p h. (each k h).allowed p;
      as_laid = λ k p h. (each k h).as_laid p;
      one_job = λ k p h. (each k h).one_job p;
      one_lane = λ j k hj hk nj nk same. one j k hj hk nj nk same;
    }
  where
    there : lane_at (put lanes last place lane) place ≡ lane
    there = put_there lanes last place lane (omega (arith, o.sixteen))

    each : (k : ℕ) → k < 16 → InOrder (lane_at (put lanes last place lane) k)
    each k h = elim (same_or_not k place) [
      | yes e ↦ subst (λ (x : ℕ). InOrder (lane_at (put lanes last place lane) x)) (sym e) (subst InOrder (sym there) fit)
      | no n ↦ subst InOrder (sym (put_other lanes last place lane k n)) (lane_in_order o k h)
    ]

    one : (j k : ℕ) → j < 16 → k < 16 → (Empty (lane_at (put lanes last place lane) j) → ⊥) → (Empty (lane_at (put lanes last place lane) k) → ⊥)
        → (waiting_at (lane_at (put lanes last place lane) j) 0).asked.job ≡ (waiting_at (lane_at (put lanes last place lane) k) 0).asked.job → j ≡ k
    one j k hj hk nj nk same = elim (same_or_not j place) [
      | yes ej ↦ elim (same_or_not k place) [
        | yes ek ↦ ej ∙ sym ek
        | no dk ↦
            let jl : lane_at (put lanes last place lane) j ≡ lane = ap (lane_at (put lanes last place lane)) ej ∙ there in
            let kl : lane_at (put lanes last place lane) k ≡ lane_at lanes k = put_other lanes last place lane k dk in
            absurd (alone k hk dk (subst (λ (l : Lane). Empty l → ⊥) jl nj) (subst (λ (l : Lane). Empty l → ⊥) kl nk)
            (ap (λ (l : Lane). (waiting_at l 0).asked.job) (sym kl) ∙ (sym same ∙ ap (λ (l : Lane). (waiting_at l 0).asked.job) jl)))
      ]
      | no dj ↦ elim (same_or_not k place) [
        | yes ek ↦
            let jl : lane_at (put lanes last place lane) j ≡ lane_at lanes j = put_other lanes last place lane j dj in
            let kl : lane_at (put lanes last place lane) k ≡ lane = ap (lane_at (put lanes last place lane)) ek ∙ there in
            absurd (alone j hj dj (subst (λ (l : Lane). Empty l → ⊥) kl nk) (subst (λ (l : Lane). Empty l → ⊥) jl nj)
            (ap (λ (l : Lane). (waiting_at l 0).asked.job) (sym jl) ∙ (same ∙ ap (λ (l : Lane). (waiting_at l 0).asked.job) kl)))
        | no dk ↦
            let jl : lane_at (put lanes last place lane) j ≡ lane_at lanes j = put_other lanes last place lane j dj in
            let kl : lane_at (put lanes last place lane) k ≡ lane_at lanes k = put_other lanes last place lane k dk in
            o.one_lane j k hj hk (subst (λ (l : Lane). Empty l → ⊥) jl nj) (subst (λ (l : Lane). Empty l → ⊥) kl nk)
            (ap (λ (l : Lane). (waiting_at l 0).asked.job) (sym jl) ∙ (same ∙ ap (λ (l : Lane). (waiting_at l 0).asked.job) kl))
      ]
    ]

-- ---- joining

-- the data of a request that waits are those it joined with
pub data_kept : (asked : Request) (bytes : List ℕ) → length bytes ≤ 240 → data_of (waiting_with asked bytes) ≡ bytes
data_kept asked bytes h =
    let n : length bytes % 241 ≡ length bytes = omega arith in
    rw (n, over_is bytes (replicate 240 0) (omega (arith, length-replicate {A = ℕ} 240 0))) (take-append_seam bytes _)

-- what no row refuses joins: it passed 10 to 14, and its lane has room
pub fit_to_join : (lanes : Lanes) (asked : Request) (bytes : List ℕ) → join_refusal lanes asked bytes ≡ none
    → (ask_refusal asked bytes ≡ none) × (lane_for lanes asked.job < 16) × ((lane_at lanes (lane_for lanes asked.job)).size < 4)
unfolding join_refusal
fit_to_join lanes asked bytes e =
    let place : ℕ = lane_for lanes asked.job in
    let a = or-none (raised Denied (ask_refusal asked bytes)) (first_row_of (lane_tests lanes place)) e in
    let b = first_false (leb 16 place) NoLaneFree _ a.1 in
    let d = first_false (leb 4 (lane_at lanes place).size) LaneFull _ b.1 in
    (raised_none Denied (ask_refusal asked bytes) a.0, leb-false _ _ b.0, leb-false _ _ d.0)

-- the lane that a job's request goes to is its own, or empty where it has none
pub lane_of_job : {lanes : Lanes} → Orderly lanes → (job : ℕ) → lane_for lanes job < 16 → (Empty (lane_at lanes (lane_for lanes job)) → ⊥)
    → (waiting_at (lane_at lanes (lane_for lanes job)) 0).asked.job ≡ job
lane_of_job {lanes} o job near holds = elim (dec_lt (own_lane lanes job) 16) [
  | yes own ↦ subst (λ (k : ℕ). (waiting_at (lane_at lanes k) 0).asked.job ≡ job) (sym (for_own lanes job own)) (own_is lanes job own).theirs.1
  | no other ↦
      let is : lane_for lanes job ≡ empty_lane lanes = for_empty lanes job (omega arith) in
      absurd (holds (subst (λ (k : ℕ). Empty (lane_at lanes k)) (sym is) (lowest_empty (omega (arith, is)))))
]
  where
    lowest_empty : empty_lane lanes < 16 → Empty (lane_at lanes (empty_lane lanes))
    lowest_empty h = eqb-true (lane_at lanes (empty_lane lanes)).size 0 ((empty_ended lanes).there h)

-- and no other lane is the job's
pub no_other_lane : {lanes : Lanes} → Orderly lanes → (job k : ℕ) → k < 16 → k ≢ lane_for lanes job → (Empty (lane_at lanes k) → ⊥)
    → (waiting_at (lane_at lanes k) 0).asked.job ≡ job → ⊥
no_other_lane {lanes} o job k h apart holds theirs = elim (dec_lt (own_lane lanes job) 16) [
  | yes own ↦
      let t = (own_is lanes job own).theirs in
      apart (o.one_lane k (own_lane lanes job) h own holds t.0 (theirs ∙ sym t.1) ∙ sym (for_own lanes job own))
  | no other ↦ not_theirs_before lanes job k (omega arith) (holds, theirs)
]

joined_in_order : (lane : Lane) → InOrder lane → lane.size < 4 → (asked : Request) (bytes : List ℕ) → ask_refusal asked bytes ≡ none
    → ((Empty lane → ⊥) → (waiting_at lane 0).asked.job ≡ asked.job) → InOrder (with_last lane (waiting_with asked bytes))
joined_in_order lane fit room asked bytes passed theirs =
    record {
      four = length-set lane.waiting lane.size newest ∙ fit.four;
      at_most = omega arith;
      allowed = λ p h. elim (dec_lt p lane.size) [
        | yes l ↦ subst (λ (w : Waiting). ask_refusal w.asked (data_of w) ≡ none) (sym (last_other lane newest p (λ e. omega arith))) (fit.allowed p l)
        | no l ↦
            let e : p ≡ lane.size = omega arith in
            subst (λ (w : Waiting). ask_refusal w.asked (data_of w) ≡ none) (sym (ap (waiting_at (with_last lane newest)) e ∙ there))
            (subst (λ (d : List ℕ). ask_refusal asked d ≡ none) (sym (data_kept asked bytes (allowed_writable asked bytes passed).0)) passed)
      ];
      as_laid = λ p h. elim (dec_lt p lane.size) [
        | yes l ↦ subst (λ (w : Waiting). w ≡ waiting_with w.asked (data_of w)) (sym (last_other lane newest p (λ e. omega arith))) (fit.as_laid p l)
        | no l ↦
            let e : p ≡ lane.size = omega arith in
            subst (λ (w : Waiting). w ≡ waiting_with w.asked (data_of w)) (sym (ap (waiting_at (with_last lane newest)) e ∙ there))
            (ap (waiting_with asked) (sym (data_kept asked bytes (allowed_writable asked bytes passed).0)))
      ];
      one_job = λ p h. job_at p h ∙ sym (job_at 0 (omega arith));
    }
  where
    newest : Waiting
    newest = waiting_with asked bytes

    there : waiting_at (with_last lane newest) lane.size ≡ newest
    there = last_there lane newest (omega (arith, fit.four))

    job_at : (p : ℕ) → p < lane.size + 1 → (waiting_at (with_last lane newest) p).asked.job ≡ asked.job
    job_at p h = elim (dec_lt p lane.size) [
      | yes l ↦
          ap (λ (w : Waiting). w.asked.job) (last_other lane newest p (λ e. omega arith))
          ∙ (fit.one_job p l ∙ theirs (λ none. omega arith))
      | no l ↦
          let e : p ≡ lane.size = omega arith in
          ap (λ (w : Waiting). w.asked.job) (ap (waiting_at (with_last lane newest)) e ∙ there)
    ]

-- then the lane is that job's
pub first_job : (lane : Lane) (asked : Request) (bytes : List ℕ) → lane.size < 4 → InOrder lane → ((Empty lane → ⊥) → (waiting_at lane 0).asked.job ≡ asked.job)
    → (waiting_at (with_last lane (waiting_with asked bytes)) 0).asked.job ≡ asked.job
first_job lane asked bytes room fit theirs = elim (dec_lt 0 lane.size) [
  | yes l ↦ ap (λ (w : Waiting). w.asked.job) (last_other lane (waiting_with asked bytes) 0 (λ e. omega arith)) ∙ theirs (λ none. omega arith)
  | no l ↦
      let e : lane.size ≡ 0 = omega arith in
      ap (λ (w : Waiting). w.asked.job)
      (subst (λ (n : ℕ). waiting_at (with_last lane (waiting_with asked bytes)) n ≡ waiting_with asked bytes) e (last_there lane (waiting_with asked bytes) (omega (arith, fit.four))))
]

join_keeps : (lanes : Lanes) (asked : Request) (bytes : List ℕ) → Orderly lanes
    → Orderly (join_lanes (join_refusal lanes asked bytes) lanes (lane_for lanes asked.job) asked bytes)
join_keeps lanes asked bytes o = go (join_refusal lanes asked bytes) refl
  where
    go : (x : Option Fault) → join_refusal lanes asked bytes ≡ x → Orderly (join_lanes x lanes (lane_for lanes asked.job) asked bytes)
    go (some f) e = o
    go none e =
        let fit = fit_to_join lanes asked bytes e in
        let place : ℕ = lane_for lanes asked.job in
        let lane : Lane = lane_at lanes place in
        let new = joined_in_order lane (lane_in_order o place fit.1) fit.2 asked bytes fit.0 (lane_of_job o asked.job fit.1) in
        put_in_order o lanes.last place (with_last lane (waiting_with asked bytes)) o.last_within fit.1 new
        (λ k h apart full holds same.
        no_other_lane o asked.job k h apart holds
        (same ∙ first_job lane asked bytes fit.2 (lane_in_order o place fit.1) (lane_of_job o asked.job fit.1)))

-- ---- one less

-- what stands at a place of the shorter lane stood in the longer one
pub stood : (lane : Lane) (gone p : ℕ) → lane.size ≤ 4 → p + 1 < lane.size → (q : ℕ) × (q < lane.size) × (waiting_at (without lane gone) p ≡ waiting_at lane q)
stood lane gone p few h = elim (dec_lt p gone) [
  | yes l ↦ (p, omega arith, before_gone lane gone p l (omega arith))
  | no l ↦ (p + 1, omega arith, behind_gone lane gone p (omega arith) (omega arith))
]

less_in_order : (lane : Lane) (gone : ℕ) → InOrder lane → 1 ≤ lane.size → InOrder (without lane gone)
less_in_order lane gone fit some_one =
    record {
      four = refl;
      at_most = omega (arith, fit.at_most);
      allowed = λ p h.
          let s = stood lane gone p fit.at_most (omega arith) in
          subst (λ (w : Waiting). ask_refusal w.asked (data_of w) ≡ none) (sym s.2) (fit.allowed s.0 s.1);
      as_laid = λ p h.
          let s = stood lane gone p fit.at_most (omega arith) in
          subst (λ (w : Waiting). w ≡ waiting_with w.asked (data_of w)) (sym s.2) (fit.as_laid s.0 s.1);
      one_job = λ p h. job_at p h ∙ sym (job_at 0 (omega arith));
    }
  where
    job_at : (p : ℕ) → p < lane.size - 1 → (waiting_at (without lane gone) p).asked.job ≡ (waiting_at lane 0).asked.job
    job_at p h =
        let s = stood lane gone p fit.at_most (omega arith) in
        ap (λ (w : Waiting). w.asked.job) s.2 ∙ fit.one_job s.0 s.1

-- the shorter lane, where something is left in it, is the same job's
pub same_job : (lane : Lane) (gone : ℕ) → InOrder lane → 1 ≤ lane.size → (Empty (without lane gone) → ⊥)
    → (waiting_at (without lane gone) 0).asked.job ≡ (waiting_at lane 0).asked.job
same_job lane gone fit some_one holds =
    let more : 1 < lane.size = elim (dec_lt 1 lane.size) [ yes l ↦ l | no l ↦ absurd (holds (omega arith)) ] in
    let s = stood lane gone 0 fit.at_most (omega arith) in
    ap (λ (w : Waiting). w.asked.job) s.2 ∙ fit.one_job s.0 s.1

less_keeps : {lanes : Lanes} → Orderly lanes → (last place gone : ℕ) → last < 16 → place < 16 → 1 ≤ (lane_at lanes place).size
    → Orderly (put lanes last place (without (lane_at lanes place) gone))
less_keeps {lanes} o last place gone hl hp some_one =
    let lane : Lane = lane_at lanes place in
    let fit = lane_in_order o place hp in
    put_in_order o last place (without lane gone) hl hp (less_in_order lane gone fit some_one)
    (λ k h apart left holds same. apart (o.one_lane k place h hp holds (λ none. omega arith) (same ∙ same_job lane gone fit some_one left)))

-- what is granted comes from a lane in which something waits
pub fit_to_grant : (lanes : Lanes) (room : ℕ) → grant_refusal lanes room ≡ none
    → (494 ≤ room) × (next_distance lanes < 16) × (next_place lanes < 16) × (1 ≤ (lane_at lanes (next_place lanes)).size)
unfolding grant_refusal next_place
fit_to_grant lanes room e =
    let a = first_false (ltb room 494) ShortBuffer _ e in
    let b = first_false (leb 16 (next_distance lanes)) NothingWaiting _ a.1 in
    let near : next_distance lanes < 16 = leb-false _ _ b.0 in
    (ltb-false room 494 a.0, near, omega arith, some_one _ (next_waits lanes near))

-- what is withdrawn waits in the job's lane
pub fit_to_withdraw : (lanes : Lanes) (job at : ℕ) → withdraw_refusal lanes job at ≡ none
    → (own_lane lanes job < 16) × (1 ≤ at) × (at ≤ (lane_at lanes (own_lane lanes job)).size)
unfolding withdraw_refusal
fit_to_withdraw lanes job at e =
    let a = (first_false (is_no_such lanes (own_lane lanes job) at) NoSuchRequest none e).0 in
    let b = or-false (leb 16 (own_lane lanes job)) _ a in
    let d = or-false (eqb at 0) _ b.1 in
    (leb-false _ _ b.0, some_one at (eqb-false at 0 d.0), ltb-false _ _ d.1)
  where
    or-false : (a b : Bool) → (a || b) ≡ false → (a ≡ false) × (b ≡ false)
    or-false true b e = absurd (true≢false e)
    or-false false b e = (refl, e)

grant_keeps : (hall : Hall) (clock : ℕ) (room : List ℕ) → Orderly hall.lanes
    → Orderly (granted (grant_refusal hall.lanes (length room)) hall clock room).lanes
grant_keeps hall clock room o = go (grant_refusal hall.lanes (length room)) refl
  where
    go : (x : Option Fault) → grant_refusal hall.lanes (length room) ≡ x → Orderly (granted x hall clock room).lanes
    go (some f) e = o
    go none e = by (moves_on (opened_with hall.desk (oldest hall.lanes) clock room))
      where
        by : (moves : Bool) → Orderly (served_from hall.lanes (next_place hall.lanes) (lane_at hall.lanes (next_place hall.lanes)) moves)
        by true =
            let fit = fit_to_grant hall.lanes (length room) e in
            less_keeps o (next_place hall.lanes) (next_place hall.lanes) 0 fit.2 fit.2 fit.3
        by false = o

withdraw_keeps : (lanes : Lanes) (job at : ℕ) → Orderly lanes
    → Orderly (withdraw_lanes (withdraw_refusal lanes job at) lanes (own_lane lanes job) at)
withdraw_keeps lanes job at o = go (withdraw_refusal lanes job at) refl
  where
    go : (x : Option Fault) → withdraw_refusal lanes job at ≡ x → Orderly (withdraw_lanes x lanes (own_lane lanes job) at)
    go (some f) e = o
    go none e =
        let fit = fit_to_withdraw lanes job at e in
        less_keeps o lanes.last (own_lane lanes job) (at - 1) o.last_within fit.0 (omega (arith, fit.1, fit.2))

pub keeps_order : (hall : Hall) (call : Call) → Orderly hall.lanes → Orderly (after hall call).lanes
unfolding after
keeps_order hall (joins asked bytes) o = join_keeps hall.lanes asked bytes o
keeps_order hall (grants clock room) o = grant_keeps hall clock room o
keeps_order hall (withdraws job at) o = withdraw_keeps hall.lanes job at o
keeps_order hall (at_desk call) o = o

-- ---- from fresh lanes on

pub fresh_lane : (k : ℕ) → k < 16 → lane_at fresh_lanes k ≡ record { size = 0; waiting = replicate 4 nobody }
fresh_lane k h = get_or-replicate 16 k (record { size = 0; waiting = replicate 4 nobody }) (record { size = 0; waiting = [] }) h

fresh_in_order : InOrder (record { size = 0; waiting = replicate 4 nobody })
fresh_in_order =
    record { four = refl; at_most = omega arith; allowed = λ p h. absurd (omega arith); as_laid = λ p h. absurd (omega arith); one_job = λ p h. absurd (omega arith) }

pub fresh_orderly : Orderly fresh_lanes
fresh_orderly =
    record {
      last_within = omega arith;
      sixteen = refl;
      four = λ k h. (each k h).four;
      at_most = λ k h. (each k h).at_most;
      allowed = λ k p h. (each k h).allowed p;
      as_laid = λ k p h. (each k h).as_laid p;
      one_job = λ k p h. (each k h).one_job p;
      one_lane = λ j k hj hk nj nk same. absurd (nj (ap (λ (l : Lane). l.size) (fresh_lane j hj)));
    }
  where
    each : (k : ℕ) → k < 16 → InOrder (lane_at fresh_lanes k)
    each k h = subst InOrder (sym (fresh_lane k h)) fresh_in_order

pub any_orderly : (hall : Hall) (calls : List Call) → Orderly hall.lanes → Orderly (all_after hall calls).lanes
unfolding all_after
any_orderly hall [] o = o
any_orderly hall (c ∷ cs) o = any_orderly (after hall c) cs (keeps_order hall c o)

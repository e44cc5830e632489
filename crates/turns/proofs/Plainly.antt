-- What the definitions and records say that the other laws speak of, said out.
-- Assumes nothing.
use Rattle.lanes.specs.Answers.{joining}
use Rattle.desk.specs.Answers.{opening}
use Rattle.std.specs.Prelude.{Ok, Err}
use mathlib.Core.Path.{◌≡◌, refl, sym, ap, ◌∙◌}
use mathlib.Core.Bool.{true, false}
use mathlib.Core.List.{List, [], ◌∷◌, ◌++◌}
use mathlib.Core.Logic.{◌≢◌, ◌⊎◌}
use mathlib.Core.Option.{some, none}
use Prim.Native.Nat.{ℕ, suc, ◌+◌, ◌-◌, ◌%◌, ◌≤◌, ◌<◌}
use native.Mathlib.Omega.{arith}
use borrow.Author.Tests.{eq-eqb, ne_eqb}
use lib.ListN.{length, take, replicate}
use Rattle.lent.specs.Lent.{over}
use Rattle.request.specs.Request.{ask_refusal}
use Rattle.request.specs.declared.Request.{Request}
use Rattle.desk.specs.Folder.{IsFolderHeld}
use Rattle.desk.specs.Open.{Opens}
use Rattle.desk.specs.declared.AfterOpen.{AfterOpen}
use Rattle.desk.specs.declared.Desk.{Desk}
use Rattle.nights.specs.Night.{Call as DeskCall, asks, after as desk_after}
use Rattle.lanes.specs.Lanes.{TheirLane, lane_at, waiting_at, queue_in, own_lane}
use Rattle.lanes.specs.Grant.{grant_refusal, next_place, Grants}
use Rattle.lanes.specs.declared.AfterGrant.{AfterGrant}
use Rattle.lanes.specs.declared.Fault.{Fault}
use Rattle.lanes.specs.declared.Turn.TheVariants.{Granted, TakenOut}
use Rattle.lanes.specs.declared.Lanes.{Lanes}
use Rattle.lanes.specs.declared.Lane.{Lane}
use Rattle.lanes.specs.declared.Waiting.{Waiting}
use Rattle.turns.specs.Turns.{Hall, Call, joins, grants, withdraws, at_desk, after, all_after, reaches, all_reach, Orderly}
use Rattle.turns.specs.Queue.{Event, joined, opened, taken_out, withdrew, nothing, less, waiting_of, Kept, Right, InTurn}
use Rattle.turns.specs.Queue.{event_of, all_answered, saw_joining, saw_granting, saw_withdrawing, number_of, joined_by, opened_for, taken_from, withdrawn_by}
use Rattle.turns.specs.Outcome.{JoinedAt, TurnAt, GrantedAt, TakenOutAt, WithdrawnAt}
use Rattle.turns.specs.Fair.{Fate, waits, had_turn, withdrawn, fate_by, fate, counts, counted, OpenedBy, TakenOutBy, Ended}
use Rattle.turns.proofs.Laws.{grants_after}

-- ---- what waits of a job's, by what the callers saw

pub less_plainly : (i : ℕ) (w : Waiting) (ws : List Waiting) → (less 0 (w ∷ ws) ≡ ws) × (less (suc i) (w ∷ ws) ≡ w ∷ less i ws)
unfolding less
less_plainly i w ws = (refl, refl)

pub waiting_first : (job : ℕ) (past : List Event) → (waiting_of [] job ≡ []) × (waiting_of (nothing ∷ past) job ≡ waiting_of past job)
unfolding waiting_of
waiting_first job past = (refl, refl)

module _ (past : List Event) (job : ℕ) (asked : Request) (bytes : List ℕ) where
  pub waiting_joined : asked.job ≡ job
      → waiting_of (joined asked bytes ∷ past) job ≡ waiting_of past job ++ (record { asked = asked; size = length bytes; bytes = over bytes (replicate 240 0) } ∷ [])
  unfolding waiting_of
  waiting_joined e = rw (eq-eqb asked.job job e)

  pub waiting_opened : (address clock : ℕ) → asked.job ≡ job → waiting_of (opened asked bytes address clock ∷ past) job ≡ less 0 (waiting_of past job)
  unfolding waiting_of
  waiting_opened address clock e = rw (eq-eqb asked.job job e)

  pub waiting_taken : asked.job ≡ job → waiting_of (taken_out asked bytes ∷ past) job ≡ less 0 (waiting_of past job)
  unfolding waiting_of
  waiting_taken e = rw (eq-eqb asked.job job e)

  pub waiting_elsewhere : (address clock : ℕ) → asked.job ≢ job
      → (waiting_of (joined asked bytes ∷ past) job ≡ waiting_of past job)
      × (waiting_of (opened asked bytes address clock ∷ past) job ≡ waiting_of past job)
      × (waiting_of (taken_out asked bytes ∷ past) job ≡ waiting_of past job)
  unfolding waiting_of
  waiting_elsewhere address clock n = rw (ne_eqb asked.job job n) (refl, refl, refl)

pub waiting_withdrew : (past : List Event) (owner at job : ℕ)
    → (owner ≡ job → waiting_of (withdrew owner at ∷ past) job ≡ less (at - 1) (waiting_of past job))
    × (owner ≢ job → waiting_of (withdrew owner at ∷ past) job ≡ waiting_of past job)
unfolding waiting_of
waiting_withdrew past owner at job = (λ e. rw (eq-eqb owner job e), λ n. rw (ne_eqb owner job n))

pub right_plainly : (past : List Event) (asked : Request) (bytes : List ℕ) (job at address clock : ℕ)
    → (Right (joined asked bytes ∷ past) → (ask_refusal asked bytes ≡ none) × Right past)
    × (Right (opened asked bytes address clock ∷ past)
    → (later : List Waiting) × (waiting_of past asked.job ≡ record { asked = asked; size = length bytes; bytes = over bytes (replicate 240 0) } ∷ later) × Right past)
    × (Right (taken_out asked bytes ∷ past)
    → (later : List Waiting) × (waiting_of past asked.job ≡ record { asked = asked; size = length bytes; bytes = over bytes (replicate 240 0) } ∷ later) × Right past)
    × (Right (withdrew job at ∷ past) → (1 ≤ at) × (at ≤ length (waiting_of past job)) × Right past)
    × (Right (nothing ∷ past) → Right past)
unfolding Right
right_plainly past asked bytes job at address clock = (λ r. r, λ r. (r.0.later, r.0.was_oldest, r.1), λ r. (r.0.later, r.0.was_oldest, r.1), λ r. r, λ r. r)

-- ---- the lanes in order

pub orderly_plainly : {lanes : Lanes} → Orderly lanes
    → (lanes.last < 16)
    × (length lanes.lanes ≡ 16)
    × ((k : ℕ) → k < 16 → (length (lane_at lanes k).waiting ≡ 4) × ((lane_at lanes k).size ≤ 4))
    × ((k p : ℕ) → k < 16 → p < (lane_at lanes k).size
    → (ask_refusal (waiting_at (lane_at lanes k) p).asked (take ((waiting_at (lane_at lanes k) p).size % 241) (waiting_at (lane_at lanes k) p).bytes) ≡ none)
    × ((waiting_at (lane_at lanes k) p).asked.job ≡ (waiting_at (lane_at lanes k) 0).asked.job))
    × ((j k : ℕ) → j < 16 → k < 16 → ((lane_at lanes j).size ≡ 0 → ⊥) → ((lane_at lanes k).size ≡ 0 → ⊥)
    → (waiting_at (lane_at lanes j) 0).asked.job ≡ (waiting_at (lane_at lanes k) 0).asked.job → j ≡ k)
orderly_plainly o =
    (o.last_within, o.sixteen, (λ k h. (o.four k h, o.at_most k h)), (λ k p h l. (o.allowed k p h l, o.one_job k p h l)), o.one_lane)

pub in_turn_plainly : {hall : Hall} {past : List Event} → InTurn hall past → Orderly hall.lanes × Kept hall.lanes past × Right past
in_turn_plainly t = (t.orderly, t.kept, t.right)

-- ---- which calls count, and what becomes of a request

pub counts_plainly : (hall : Hall) (asked : Request) (bytes : List ℕ) (job at : ℕ) (call : DeskCall)
    → (counts hall (joins asked bytes) ≡ false) × (counts hall (withdraws job at) ≡ false) × (counts hall (at_desk call) ≡ false)
unfolding counts
counts_plainly hall asked bytes job at call = (refl, refl, refl)

pub opened_by_plainly : {desk : Desk} {clock : ℕ} {room : List ℕ} {w : Waiting} {r : AfterGrant} {room' : List ℕ} → OpenedBy desk clock room w r room'
    → (address : ℕ)
    × (n : ℕ)
    × (r.answer ≡ Ok (Granted w.asked.job address n))
    × ((o : AfterOpen)
    × Opens desk w.asked (take (w.size % 241) w.bytes) clock room o room'
    × (o.answer ≡ opening address n)
    × (r.desk ≡ o.desk))
opened_by_plainly b = (b.address, b.n, b.told, (b.at_desk_lem, b.opens, b.answered, b.next))

pub taken_by_plainly : {desk : Desk} {room : List ℕ} {w : Waiting} {r : AfterGrant} {room' : List ℕ} → TakenOutBy desk room w r room'
    → (r.answer ≡ Ok (TakenOut w.asked.job)) × IsFolderHeld desk w.asked × (r.count ≡ 0) × (r.desk ≡ desk) × (room' ≡ room)
taken_by_plainly b = (b.told, b.held, b.considered_none, b.desk_kept, b.room_kept)

pub ended_plainly : {hall : Hall} {calls : List Call} {lane place : ℕ} {end : Fate} → Ended hall calls lane place end
    → (before : List Call)
    × (call : Call)
    × (rest : List Call)
    × (last : ℕ)
    × (calls ≡ before ++ (call ∷ rest))
    × (fate hall before lane (waits place) ≡ waits last)
    × (fate_by (all_after hall before) call lane last ≡ end)
ended_plainly e = (e.before, e.call, e.rest, e.last, e.all, e.waited, e.ends)

-- ---- any calls, one after the other

pub all_after_plainly : (hall : Hall) (c : Call) (cs : List Call) → (all_after hall [] ≡ hall) × (all_after hall (c ∷ cs) ≡ all_after (after hall c) cs)
unfolding all_after
all_after_plainly hall c cs = (refl, refl)

pub all_answered_plainly : (hall : Hall) (past : List Event) (c : Call) (cs : List Call)
    → (all_answered hall past [] ≡ past) × (all_answered hall past (c ∷ cs) ≡ all_answered (after hall c) (event_of hall c ∷ past) cs)
unfolding all_answered
all_answered_plainly hall past c cs = (refl, refl)

pub counted_plainly : (hall : Hall) (c : Call) (cs : List Call)
    → (counted hall [] ≡ 0)
    × (counts hall c ≡ true → counted hall (c ∷ cs) ≡ 1 + counted (after hall c) cs)
    × (counts hall c ≡ false → counted hall (c ∷ cs) ≡ counted (after hall c) cs)
unfolding counted
counted_plainly hall c cs = (refl, λ e. rw e (omega arith), λ e. rw e (omega arith))

pub fate_plainly : (hall : Hall) (c : Call) (cs : List Call) (lane place : ℕ) (f : Fate)
    → (fate hall [] lane f ≡ f)
    × (fate hall (c ∷ cs) lane (waits place) ≡ fate (after hall c) cs lane (fate_by hall c lane place))
    × (fate hall (c ∷ cs) lane had_turn ≡ had_turn)
    × (fate hall (c ∷ cs) lane withdrawn ≡ withdrawn)
unfolding fate
fate_plainly hall c cs lane place f = (refl, refl, refl, refl)

-- a grant counts exactly where it opened a request or took it out
pub grant_counts : (hall : Hall) (clock : ℕ) (room : List ℕ) (r : AfterGrant) (room' : List ℕ) → Grants hall.lanes hall.desk clock room r room'
    → ((job address n : ℕ) → r.answer ≡ Ok (Granted job address n) → counts hall (grants clock room) ≡ true)
    × ((job : ℕ) → r.answer ≡ Ok (TakenOut job) → counts hall (grants clock room) ≡ true)
    × ((f : Fault) → r.answer ≡ Err f → counts hall (grants clock room) ≡ false)
grant_counts hall clock room r room' g =
    let is = (grants_after hall clock room r room' g).2 in
    (λ job address n e. is ∙ rw e, λ job e. is ∙ rw e, λ f e. is ∙ rw e)

-- ---- calls at the desk itself: they are made, and reach it

pub desk_after_lem : (hall : Hall) (call : DeskCall)
    → (after hall (at_desk call) ≡ record { lanes = hall.lanes; desk = desk_after hall.desk call })
    × (reaches hall (at_desk call) ≡ call ∷ [])
    × (event_of hall (at_desk call) ≡ nothing)
unfolding after reaches event_of
desk_after_lem hall call = (refl, refl, refl)

pub reaches_plainly : (hall : Hall) (asked : Request) (bytes : List ℕ) (job at clock : ℕ) (room : List ℕ)
    → (reaches hall (joins asked bytes) ≡ [])
    × (reaches hall (withdraws job at) ≡ [])
    × ((f : Fault) → grant_refusal hall.lanes (length room) ≡ some f → reaches hall (grants clock room) ≡ [])
    × (grant_refusal hall.lanes (length room) ≡ none
    → reaches hall (grants clock room)
    ≡ asks (waiting_at (lane_at hall.lanes (next_place hall.lanes)) 0).asked
    (take ((waiting_at (lane_at hall.lanes (next_place hall.lanes)) 0).size % 241) (waiting_at (lane_at hall.lanes (next_place hall.lanes)) 0).bytes) clock room ∷ [])
unfolding reaches
reaches_plainly hall asked bytes job at clock room = (refl, refl, λ f e. rw e, λ e. rw e)

pub all_reach_plainly : (hall : Hall) (c : Call) (cs : List Call) → (all_reach hall [] ≡ []) × (all_reach hall (c ∷ cs) ≡ reaches hall c ++ all_reach (after hall c) cs)
unfolding all_reach
all_reach_plainly hall c cs = (refl, refl)

-- ---- what the callers saw

pub queue_plainly : (lane : Lane) → queue_in lane ≡ take lane.size lane.waiting
queue_plainly lane = refl

pub kept_plainly : (lanes : Lanes) (past : List Event) → Kept lanes past
    → (job : ℕ) → take (lane_at lanes (own_lane lanes job)).size (lane_at lanes (own_lane lanes job)).waiting ≡ waiting_of past job
unfolding Kept
kept_plainly lanes past kept = kept

pub saw_plainly : (asked : Request) (bytes : List ℕ) (lane at job address n clock : ℕ) (w : Waiting) (f : Fault)
    → (saw_joining (joining lane at) asked bytes ≡ joined asked bytes)
    × (saw_joining (Err f) asked bytes ≡ nothing)
    × (saw_granting (Ok (Granted job address n)) w clock ≡ opened w.asked (take (w.size % 241) w.bytes) address clock)
    × (saw_granting (Ok (TakenOut job)) w clock ≡ taken_out w.asked (take (w.size % 241) w.bytes))
    × (saw_granting (Err f) w clock ≡ nothing)
    × (saw_withdrawing (Ok tt) job at ≡ withdrew job at)
    × (saw_withdrawing (Err f) job at ≡ nothing)
saw_plainly asked bytes lane at job address n clock w f = (refl, refl, refl, refl, refl, refl, refl)

-- how many requests of a job joined, were opened, were taken out and were withdrawn
module _ (past : List Event) (asked : Request) (bytes : List ℕ) (at address clock : ℕ) where
  pub numbers_first : (job : ℕ)
      → (number_of (joined_by job) [] ≡ 0) × (number_of (opened_for job) [] ≡ 0) × (number_of (taken_from job) [] ≡ 0) × (number_of (withdrawn_by job) [] ≡ 0)
  unfolding number_of
  numbers_first job = (refl, refl, refl, refl)

  pub numbers_there :
      (number_of (joined_by asked.job) (joined asked bytes ∷ past) ≡ suc (number_of (joined_by asked.job) past))
      × (number_of (opened_for asked.job) (opened asked bytes address clock ∷ past) ≡ suc (number_of (opened_for asked.job) past))
      × (number_of (taken_from asked.job) (taken_out asked bytes ∷ past) ≡ suc (number_of (taken_from asked.job) past))
      × (number_of (withdrawn_by asked.job) (withdrew asked.job at ∷ past) ≡ suc (number_of (withdrawn_by asked.job) past))
  unfolding number_of
  numbers_there =
      let same = eq-eqb asked.job asked.job refl in
      (rw same, rw same, rw same, rw same)

  pub numbers_others : (job : ℕ) → asked.job ≢ job
      → (number_of (joined_by job) (joined asked bytes ∷ past) ≡ number_of (joined_by job) past)
      × (number_of (opened_for job) (opened asked bytes address clock ∷ past) ≡ number_of (opened_for job) past)
      × (number_of (taken_from job) (taken_out asked bytes ∷ past) ≡ number_of (taken_from job) past)
      × (number_of (withdrawn_by job) (withdrew asked.job at ∷ past) ≡ number_of (withdrawn_by job) past)
  unfolding number_of
  numbers_others job n =
      let differ = ne_eqb asked.job job n in
      (rw differ, rw differ, rw differ, rw differ)

  -- what another event says leaves a number as it is
  pub numbers_stay : (job : ℕ)
      → ((number_of (joined_by job) (opened asked bytes address clock ∷ past) ≡ number_of (joined_by job) past)
      × (number_of (joined_by job) (taken_out asked bytes ∷ past) ≡ number_of (joined_by job) past)
      × (number_of (joined_by job) (withdrew asked.job at ∷ past) ≡ number_of (joined_by job) past)
      × (number_of (joined_by job) (nothing ∷ past) ≡ number_of (joined_by job) past))
      × ((number_of (opened_for job) (joined asked bytes ∷ past) ≡ number_of (opened_for job) past)
      × (number_of (opened_for job) (taken_out asked bytes ∷ past) ≡ number_of (opened_for job) past)
      × (number_of (opened_for job) (withdrew asked.job at ∷ past) ≡ number_of (opened_for job) past)
      × (number_of (opened_for job) (nothing ∷ past) ≡ number_of (opened_for job) past))
      × ((number_of (taken_from job) (joined asked bytes ∷ past) ≡ number_of (taken_from job) past)
      × (number_of (taken_from job) (opened asked bytes address clock ∷ past) ≡ number_of (taken_from job) past)
      × (number_of (taken_from job) (withdrew asked.job at ∷ past) ≡ number_of (taken_from job) past)
      × (number_of (taken_from job) (nothing ∷ past) ≡ number_of (taken_from job) past))
  unfolding number_of
  numbers_stay job = ((refl, refl, refl, refl), (refl, refl, refl, refl), (refl, refl, refl, refl))

-- ---- what a call on the lanes did

pub joined_at_plainly : {lanes : Lanes} {asked : Request} {bytes : List ℕ} {lane at : ℕ} {lanes' : Lanes} → JoinedAt lanes asked bytes lane at lanes'
    → (place : ℕ)
    × (place < 16)
    × (lane ≡ place + 1)
    × (at ≡ length (queue_in (lane_at lanes place)) + 1)
    × (TheirLane lanes asked.job place
    ⊎ (((m : ℕ) → m < 16 → ((lane_at lanes m).size ≡ 0 → ⊥) × ((waiting_at (lane_at lanes m) 0).asked.job ≡ asked.job) → ⊥)
    × ((lane_at lanes place).size ≡ 0)
    × ((m : ℕ) → m < place → (lane_at lanes m).size ≡ 0 → ⊥)))
    × (queue_in (lane_at lanes' place) ≡ queue_in (lane_at lanes place) ++ (record { asked = asked; size = length bytes; bytes = over bytes (replicate 240 0) } ∷ []))
    × ((m : ℕ) → m ≢ place → lane_at lanes' m ≡ lane_at lanes m)
    × (lanes'.last ≡ lanes.last)
joined_at_plainly j = (j.place, j.within, j.lane_is, j.at-is, j.which, j.longer_by_it, j.others, j.turn_kept)

pub turn_at_plainly : {lanes : Lanes} {request : Waiting} {r : AfterGrant} → TurnAt lanes request r
    → (place : ℕ)
    × (distance : ℕ)
    × (place ≡ (lanes.last + 1 + distance) % 16)
    × (distance < 16)
    × ((j : ℕ) → j < distance → (lane_at lanes ((lanes.last + 1 + j) % 16)).size ≡ 0)
    × ((lane_at lanes place).size ≡ 0 → ⊥)
    × (queue_in (lane_at lanes place) ≡ request ∷ queue_in (lane_at r.lanes place))
    × ((m : ℕ) → m ≢ place → lane_at r.lanes m ≡ lane_at lanes m)
    × (r.lanes.last ≡ place)
turn_at_plainly {lanes} {request} t = (
  (lanes.last + 1 + t.distance) % 16,
  t.distance,
  refl,
  t.near,
  t.passed,
  t.waited,
  t.was ∙ ap (λ (ws : List Waiting). request ∷ ws) (sym t.left),
  t.others,
  t.turn,
)

pub granted_at_plainly : {lanes : Lanes} {desk : Desk} {clock : ℕ} {room : List ℕ} {job address n : ℕ} {r : AfterGrant} {room' : List ℕ}
    → GrantedAt lanes desk clock room job address n r room'
    → (w : Waiting)
    × TurnAt lanes w r
    × (job ≡ w.asked.job)
    × ((o : AfterOpen)
    × Opens desk w.asked (take (w.size % 241) w.bytes) clock room o room'
    × (o.answer ≡ opening address n)
    × (r.desk ≡ o.desk))
granted_at_plainly g = (g.request, g.turn, g.job_is, (g.at_desk_lem, g.opens, g.answered, g.desk_next))

pub taken_out_plainly : {lanes : Lanes} {desk : Desk} {room : List ℕ} {job : ℕ} {r : AfterGrant} {room' : List ℕ} → TakenOutAt lanes desk room job r room'
    → (w : Waiting)
    × TurnAt lanes w r
    × (job ≡ w.asked.job)
    × IsFolderHeld desk w.asked
    × (r.count ≡ 0)
    × (r.desk ≡ desk)
    × (room' ≡ room)
taken_out_plainly t = (t.request, t.turn, t.job_is, t.held, t.considered_none, t.desk_kept, t.room_kept)

pub withdrawn_at_plainly : {lanes : Lanes} {job at : ℕ} {lanes' : Lanes} → WithdrawnAt lanes job at lanes'
    → (place : ℕ)
    × TheirLane lanes job place
    × (1 ≤ at)
    × (at ≤ length (queue_in (lane_at lanes place)))
    × (queue_in (lane_at lanes' place) ≡ less (at - 1) (queue_in (lane_at lanes place)))
    × ((m : ℕ) → m ≢ place → lane_at lanes' m ≡ lane_at lanes m)
    × (lanes'.last ≡ lanes.last)
withdrawn_at_plainly w = (w.place, w.theirs, w.from_1, w.within, w.left, w.others, w.turn_kept)

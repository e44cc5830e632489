-- Rows 71 to 74 and 55 are tested as the paper words them, in the order of each call: what a call refuses is what its rows give.
-- Assumes nothing.
use mathlib.Core.Path.{◌≡◌, refl, sym, ap, ◌∙◌, subst}
use mathlib.Core.Bool.{Bool, true, false, not, true≢false}
use mathlib.Core.List.{List, [], ◌∷◌}
use mathlib.Core.Logic.{◌⊎◌, inl, inr, ⊎_elim}
use mathlib.Core.Option.{Option, some, none}
use Prim.Native.Nat.{ℕ, ◌+◌, ◌-◌, ◌%◌, ◌≤◌, ◌<◌}
use native.Mathlib.Decide.{dec_lt}
use native.Mathlib.Omega.{arith}
use borrow.Author.Tests.{leb-true, leb-false, lt-ltb, le-ltb}
use lib.Dec.{eqb, leb}
use lib.ListN.{length}
use Rattle.first.proofs.Laws.{Ended, ended, first_at}
use Rattle.request.proofs.Laws.{ask_ranked}
use Rattle.request.specs.Request.{IsNoJob, IsNotAModule, IsNotARequest, IsWrongData, IsWrongWait, ask_rows, ask_refusal}
use Rattle.request.specs.declared.Request.{Request}
use Rattle.rows.proofs.Laws.{Decides, decides_lt, decides_le, decides_eq, decides_not, decides_and, decides_or, ranked, ◌otherwise◌, ranked_append, ranked_up, numbered, told_true, told_false}
use Rattle.rows.specs.Rows.{Ranked, Numbered, row, test, first_row_of, passed_up, raised}
use Rattle.lanes.specs.Lanes.{Empty, Belongs, TheirLane, is_empty, is_theirs, lane_at, waiting_at, own_lane, empty_lane, fault_number}
use Rattle.lanes.specs.Join.{IsNoLaneFree, IsLaneFull, join_rows, lane_for, lane_tests, join_refusal, join_answer, join_told, Joins}
use Rattle.lanes.specs.Grant.{IsShortBuffer, IsNothingWaiting, grant_rows, place_after, next_distance, grant_tests, grant_refusal}
use Rattle.lanes.specs.Withdraw.{IsNoSuchRequest, withdraw_rows, is_no_such, withdraw_refusal, withdraw_answer, withdraw_told, Withdraws}
use Rattle.lanes.specs.declared.AfterJoin.{AfterJoin}
use Rattle.lanes.specs.declared.AfterWithdraw.{AfterWithdraw}
use Rattle.lanes.specs.declared.Fault.{Fault}
use Rattle.lanes.specs.declared.Fault.TheVariants.{Denied, NoLaneFree, LaneFull, NoSuchRequest}
use Rattle.lanes.specs.declared.Lane.{Lane}
use Rattle.lanes.specs.declared.Lanes.{Lanes}

pub some_one : (n : ℕ) → (n ≡ 0 → ⊥) → 1 ≤ n
some_one n h = elim (dec_lt 0 n) [ yes l ↦ omega arith | no l ↦ absurd (h (omega arith)) ]

-- ---- whose lane it is

pub decides_theirs : (lane : Lane) (job : ℕ) → Decides (is_theirs lane job) (Belongs lane job)
decides_theirs lane job = decides_and (decides_not (decides_eq lane.size 0)) (decides_eq (waiting_at lane 0).asked.job job)

-- where the search for the job's lane has ended, and that for an empty one
pub own_ended : (lanes : Lanes) (job : ℕ) → Ended (λ k. is_theirs (lane_at lanes k) job) 16 (own_lane lanes job)
unfolding own_lane
own_ended lanes job = ended (λ k. is_theirs (lane_at lanes k) job) 16

pub empty_ended : (lanes : Lanes) → Ended (λ k. is_empty (lane_at lanes k)) 16 (empty_lane lanes)
unfolding empty_lane
empty_ended lanes = ended (λ k. is_empty (lane_at lanes k)) 16

module _ (lanes : Lanes) (job : ℕ) where
  pub not_theirs_before : (place : ℕ) → place < own_lane lanes job → Belongs (lane_at lanes place) job → ⊥
  not_theirs_before place h = (decides_theirs (lane_at lanes place) job).not_so ((own_ended lanes job).before place h)

  pub own_is : own_lane lanes job < 16 → TheirLane lanes job (own_lane lanes job)
  own_is h =
      record {
        within = h;
        theirs = (decides_theirs (lane_at lanes (own_lane lanes job)) job).so ((own_ended lanes job).there h);
        lowest = not_theirs_before;
      }

  pub is_own : (place : ℕ) → TheirLane lanes job place → own_lane lanes job ≡ place
  unfolding own_lane
  is_own place t =
      first_at (λ k. is_theirs (lane_at lanes k) job) 16 place t.within
      (λ i l. told_false (decides_theirs (lane_at lanes i) job) (t.lowest i l)) (told_true (decides_theirs (lane_at lanes place) job) t.theirs)

  pub for_own : own_lane lanes job < 16 → lane_for lanes job ≡ own_lane lanes job
  unfolding lane_for
  for_own h = rw (lt-ltb (own_lane lanes job) 16 h)

  pub for_empty : 16 ≤ own_lane lanes job → lane_for lanes job ≡ empty_lane lanes
  unfolding lane_for
  for_empty h = rw (le-ltb (own_lane lanes job) 16 h)

  -- ---- 71 and 72

  decides_none_free : Decides (leb 16 (lane_for lanes job)) (IsNoLaneFree lanes job)
  unfolding IsNoLaneFree
  decides_none_free = record { so = none_free; not_so = some_free }
    where
      none_free : leb 16 (lane_for lanes job) ≡ true → (place : ℕ) → place < 16
          → (Belongs (lane_at lanes place) job → ⊥) × (Empty (lane_at lanes place) → ⊥)
      none_free e place h = elim (dec_lt (own_lane lanes job) 16) [
        | yes own ↦ absurd (omega (arith, for_own own, leb-true 16 (lane_for lanes job) e, own))
        | no other ↦
            let far : 16 ≤ own_lane lanes job = omega arith in
            let all : 16 ≤ empty_lane lanes = omega (arith, for_empty far, leb-true 16 (lane_for lanes job) e) in
            (not_theirs_before place (omega arith), λ empty. eq_no (lane_at lanes place).size ((empty_ended lanes).before place (omega arith)) empty)
      ]
        where
          eq_no : (n : ℕ) → eqb n 0 ≡ false → n ≡ 0 → ⊥
          eq_no n = (decides_eq n 0).not_so

      some_free : leb 16 (lane_for lanes job) ≡ false
          → ((place : ℕ) → place < 16 → (Belongs (lane_at lanes place) job → ⊥) × (Empty (lane_at lanes place) → ⊥)) → ⊥
      some_free e no_lane = elim (dec_lt (own_lane lanes job) 16) [
        | yes own ↦ (no_lane (own_lane lanes job) own).0 (own_is own).theirs
        | no other ↦
            let far : 16 ≤ own_lane lanes job = omega arith in
            let near : empty_lane lanes < 16 = omega (arith, for_empty far, leb-false 16 (lane_for lanes job) e) in
            (no_lane (empty_lane lanes) near).1 ((decides_eq (lane_at lanes (empty_lane lanes)).size 0).so ((empty_ended lanes).there near))
      ]

  decides_full : (IsNoLaneFree lanes job → ⊥) → Decides (leb 4 (lane_at lanes (lane_for lanes job)).size) (IsLaneFull lanes job)
  unfolding IsLaneFull
  decides_full free = record { so = full; not_so = room_left }
    where
      full : leb 4 (lane_at lanes (lane_for lanes job)).size ≡ true → (place : ℕ) × TheirLane lanes job place × (4 ≤ (lane_at lanes place).size)
      full e = elim (dec_lt (own_lane lanes job) 16) [
        | yes own ↦ (own_lane lanes job, own_is own, subst (λ (k : ℕ). 4 ≤ (lane_at lanes k).size) (for_own own) (leb-true 4 _ e))
        | no other ↦
            let far : 16 ≤ own_lane lanes job = omega arith in
            let four : 4 ≤ (lane_at lanes (empty_lane lanes)).size = subst (λ (k : ℕ). 4 ≤ (lane_at lanes k).size) (for_empty far) (leb-true 4 _ e) in
            let found : lane_for lanes job < 16 = leb-false 16 (lane_for lanes job) (told_false decides_none_free free) in
            let near : empty_lane lanes < 16 = omega (arith, for_empty far, found) in
            let none : (lane_at lanes (empty_lane lanes)).size ≡ 0 = (decides_eq (lane_at lanes (empty_lane lanes)).size 0).so ((empty_ended lanes).there near) in
            absurd (omega (arith, four, none))
      ]

      room_left : leb 4 (lane_at lanes (lane_for lanes job)).size ≡ false → (place : ℕ) × TheirLane lanes job place × (4 ≤ (lane_at lanes place).size) → ⊥
      room_left e t =
          let own : own_lane lanes job ≡ t.0 = is_own t.0 t.1 in
          let there : lane_for lanes job ≡ t.0 = for_own (omega (arith, own, t.1.within)) ∙ own in
          let few : (lane_at lanes t.0).size < 4 = subst (λ (k : ℕ). (lane_at lanes k).size < 4) there (leb-false 4 _ e) in
          omega (arith, few, t.2)

pub join_ranked : (lanes : Lanes) (asked : Request) (bytes : List ℕ) → Ranked (join_rows lanes asked bytes) (join_refusal lanes asked bytes)
unfolding join_rows join_refusal
join_ranked lanes asked bytes =
    ranked_append (passed_up Denied (ask_rows asked bytes)) (row (IsNoLaneFree lanes asked.job) NoLaneFree ∷ row (IsLaneFull lanes asked.job) LaneFull ∷ [])
    (raised Denied (ask_refusal asked bytes)) (first_row_of (lane_tests lanes (lane_for lanes asked.job)))
    (ranked_up Denied (ask_rows asked bytes) (ask_refusal asked bytes) (ask_ranked asked bytes))
    (λ n. ranked (lane_tests lanes (lane_for lanes asked.job)) (row (IsNoLaneFree lanes asked.job) NoLaneFree ∷ row (IsLaneFull lanes asked.job) LaneFull ∷ [])
    (decides_none_free lanes asked.job otherwise λ n₇₁. decides_full lanes asked.job n₇₁ otherwise λ n₇₂. tt))

join_tells : (o : Option Fault) (lanes : Lanes) (place : ℕ) → join_told (join_answer o lanes place) ≡ raised fault_number o
join_tells none lanes place = refl
join_tells (some f) lanes place = refl

pub join_exactly : (lanes : Lanes) (asked : Request) (bytes : List ℕ) (r : AfterJoin) → Joins lanes asked bytes r
    → Numbered (passed_up fault_number (join_rows lanes asked bytes)) (10 ∷ 11 ∷ 12 ∷ 13 ∷ 14 ∷ 71 ∷ 72 ∷ []) (join_told r.answer)
unfolding join_rows ask_rows
join_exactly lanes asked bytes r j =
    numbered fault_number (join_rows lanes asked bytes) (join_refusal lanes asked bytes) (join_ranked lanes asked bytes)
    (10 ∷ 11 ∷ 12 ∷ 13 ∷ 14 ∷ 71 ∷ 72 ∷ []) refl refl (join_told r.answer)
    (ap join_told j.0 ∙ join_tells (join_refusal lanes asked bytes) lanes (lane_for lanes asked.job))

-- ---- 73 and 74

-- each place is at some distance under 16 behind the lane last served
pub behind : (last place : ℕ) → place < 16 → (k : ℕ) × (k < 16) × (place_after last k ≡ place)
behind last place h = ((place + 31 - last % 16) % 16, omega arith, omega arith)

pub next_ended : (lanes : Lanes) → Ended (λ k. not (is_empty (lane_at lanes (place_after lanes.last k)))) 16 (next_distance lanes)
unfolding next_distance
next_ended lanes = ended (λ k. not (is_empty (lane_at lanes (place_after lanes.last k)))) 16

-- what the search passes is empty, and where it ends something waits
pub passed_empty : (lanes : Lanes) (k : ℕ) → k < next_distance lanes → Empty (lane_at lanes (place_after lanes.last k))
passed_empty lanes k h = by (eqb (lane_at lanes (place_after lanes.last k)).size 0) refl ((next_ended lanes).before k h)
  where
    by : (b : Bool) → eqb (lane_at lanes (place_after lanes.last k)).size 0 ≡ b → not b ≡ false → Empty (lane_at lanes (place_after lanes.last k))
    by true e n = (decides_eq (lane_at lanes (place_after lanes.last k)).size 0).so e
    by false e n = absurd (true≢false n)

pub next_waits : (lanes : Lanes) → next_distance lanes < 16 → Empty (lane_at lanes (place_after lanes.last (next_distance lanes))) → ⊥
next_waits lanes h = (decides_not (decides_eq (lane_at lanes (place_after lanes.last (next_distance lanes))).size 0)).so ((next_ended lanes).there h)

-- so at the distance that was found something waits
pub next_there : (lanes : Lanes) (d : ℕ) → d ≡ next_distance lanes → d < 16
    → (place_after lanes.last d < 16) × (1 ≤ (lane_at lanes (place_after lanes.last d)).size)
next_there lanes d is near =
    let waits : Empty (lane_at lanes (place_after lanes.last d)) → ⊥ =
    subst (λ (k : ℕ). Empty (lane_at lanes (place_after lanes.last k)) → ⊥) (sym is) (next_waits lanes (rw is at near)) in
    (omega arith, some_one (lane_at lanes (place_after lanes.last d)).size waits)

decides_nothing : (lanes : Lanes) → Decides (leb 16 (next_distance lanes)) (IsNothingWaiting lanes)
unfolding IsNothingWaiting
decides_nothing lanes = record { so = nothing; not_so = something }
  where
    nothing : leb 16 (next_distance lanes) ≡ true → (place : ℕ) → place < 16 → Empty (lane_at lanes place)
    nothing e place h =
        let b = behind lanes.last place h in
        subst (λ (k : ℕ). Empty (lane_at lanes k)) b.2 (passed_empty lanes b.0 (omega (arith, b.1, leb-true 16 (next_distance lanes) e)))

    something : leb 16 (next_distance lanes) ≡ false → ((place : ℕ) → place < 16 → Empty (lane_at lanes place)) → ⊥
    something e all =
        let h : next_distance lanes < 16 = leb-false 16 (next_distance lanes) e in
        next_waits lanes h (all (place_after lanes.last (next_distance lanes)) (omega arith))

pub grant_ranked : (lanes : Lanes) (room : ℕ) → Ranked (grant_rows lanes room) (grant_refusal lanes room)
unfolding grant_rows grant_refusal IsShortBuffer
grant_ranked lanes room = ranked (grant_tests lanes room) (grant_rows lanes room) (decides_lt room 494 otherwise λ n₇₃. decides_nothing lanes otherwise λ n₇₄. tt)

-- ---- 55

decides_no_such : (lanes : Lanes) (job at : ℕ) → Decides (is_no_such lanes (own_lane lanes job) at) (IsNoSuchRequest lanes job at)
unfolding IsNoSuchRequest
decides_no_such lanes job at = record { so = no_such; not_so = there_is }
  where
    no_such : is_no_such lanes (own_lane lanes job) at ≡ true → (place : ℕ) × TheirLane lanes job place × (1 ≤ at) × (at ≤ (lane_at lanes place).size) → ⊥
    no_such e t =
        let own : own_lane lanes job ≡ t.0 = is_own lanes job t.0 t.1 in
        let tells : is_no_such lanes t.0 at ≡ true = subst (λ (k : ℕ). is_no_such lanes k at ≡ true) own e in
        ⊎_elim (λ far. omega (arith, far, t.1.within)) (⊎_elim (λ none. omega (arith, none, t.2)) (λ over. omega (arith, over, t.3)))
        ((decides_or (decides_le 16 t.0) (decides_or (decides_eq at 0) (decides_lt (lane_at lanes t.0).size at))).so tells)

    there_is : is_no_such lanes (own_lane lanes job) at ≡ false
        → ((place : ℕ) × TheirLane lanes job place × (1 ≤ at) × (at ≤ (lane_at lanes place).size) → ⊥) → ⊥
    there_is e nowhere =
        let no = (decides_or (decides_le 16 (own_lane lanes job)) (decides_or (decides_eq at 0) (decides_lt (lane_at lanes (own_lane lanes job)).size at))).not_so e in
        let near : own_lane lanes job < 16 = not-le 16 (own_lane lanes job) (λ h. no (inl h)) in
        nowhere (own_lane lanes job, own_is lanes job near, some_one at (λ z. no (inr (inl z))), not-lt _ _ (λ h. no (inr (inr h))))
      where
        not-le : (a b : ℕ) → (a ≤ b → ⊥) → b < a
        not-le a b n = elim (dec_lt b a) [ yes h ↦ h | no h ↦ absurd (n (omega arith)) ]

        not-lt : (a b : ℕ) → (a < b → ⊥) → b ≤ a
        not-lt a b n = elim (dec_lt a b) [ yes h ↦ absurd (n h) | no h ↦ omega arith ]

pub withdraw_ranked : (lanes : Lanes) (job at : ℕ) → Ranked (withdraw_rows lanes job at) (withdraw_refusal lanes job at)
unfolding withdraw_rows withdraw_refusal
withdraw_ranked lanes job at =
    ranked (test (is_no_such lanes (own_lane lanes job) at) NoSuchRequest ∷ []) (withdraw_rows lanes job at) (decides_no_such lanes job at otherwise λ n₅₅. tt)

withdraw_tells : (o : Option Fault) → withdraw_told (withdraw_answer o) ≡ raised fault_number o
withdraw_tells none = refl
withdraw_tells (some f) = refl

pub withdraw_exactly : (lanes : Lanes) (job at : ℕ) (r : AfterWithdraw) → Withdraws lanes job at r
    → Numbered (passed_up fault_number (withdraw_rows lanes job at)) (55 ∷ []) (withdraw_told r.answer)
unfolding withdraw_rows
withdraw_exactly lanes job at r w =
    numbered fault_number (withdraw_rows lanes job at) (withdraw_refusal lanes job at) (withdraw_ranked lanes job at)
    (55 ∷ []) refl refl (withdraw_told r.answer) (ap withdraw_told w.0 ∙ withdraw_tells (withdraw_refusal lanes job at))

-- ---- the rows written out, each with its number

pub their_plainly : {lanes : Lanes} {job place : ℕ} → TheirLane lanes job place
    → (place < 16)
    × ((lane_at lanes place).size ≡ 0 → ⊥)
    × ((waiting_at (lane_at lanes place) 0).asked.job ≡ job)
    × ((other : ℕ) → other < place → ((lane_at lanes other).size ≡ 0 → ⊥) × ((waiting_at (lane_at lanes other) 0).asked.job ≡ job) → ⊥)
their_plainly t = (t.within, t.theirs.0, t.theirs.1, t.lowest)

-- and back: it stands in the rows of 72 and 55, so more in it would weaken them
pub their_again : (lanes : Lanes) (job place : ℕ) → place < 16 → ((lane_at lanes place).size ≡ 0 → ⊥) → (waiting_at (lane_at lanes place) 0).asked.job ≡ job
    → ((other : ℕ) → other < place → ((lane_at lanes other).size ≡ 0 → ⊥) × ((waiting_at (lane_at lanes other) 0).asked.job ≡ job) → ⊥) → TheirLane lanes job place
their_again lanes job place near holds mine before = record { within = near; theirs = (holds, mine); lowest = before }

pub join_plainly : (lanes : Lanes) (asked : Request) (bytes : List ℕ) (r : AfterJoin) → Joins lanes asked bytes r
    → Numbered
    (row (asked.job ≡ 0) 10
    ∷ row ((1 ≤ asked.unit) × (asked.unit ≤ 160) → ⊥) 11
    ∷ row ((asked.sort ≡ 4) ⊎ ((asked.sort ≡ 5) ⊎ ((asked.sort ≡ 6) ⊎ ((asked.sort ≡ 7) ⊎ (asked.sort ≡ 9)))) → ⊥) 12
    ∷ row ((240 < length bytes) ⊎ ((asked.sort ≡ 4) × (0 < length bytes))) 13
    ∷ row ((1 ≤ asked.wait) × (asked.wait ≤ 60000) → ⊥) 14
    ∷ row ((place : ℕ) → place < 16
    → (((lane_at lanes place).size ≡ 0 → ⊥) × ((waiting_at (lane_at lanes place) 0).asked.job ≡ asked.job) → ⊥) × ((lane_at lanes place).size ≡ 0 → ⊥)) 71
    ∷ row ((place : ℕ) × TheirLane lanes asked.job place × (4 ≤ (lane_at lanes place).size)) 72
    ∷ [])
    (10 ∷ 11 ∷ 12 ∷ 13 ∷ 14 ∷ 71 ∷ 72 ∷ []) (join_told r.answer)
unfolding join_rows ask_rows IsNoJob IsNotAModule IsNotARequest IsWrongData IsWrongWait IsNoLaneFree IsLaneFull
join_plainly lanes asked bytes r j = join_exactly lanes asked bytes r j

pub withdraw_plainly : (lanes : Lanes) (job at : ℕ) (r : AfterWithdraw) → Withdraws lanes job at r
    → Numbered (row ((place : ℕ) × TheirLane lanes job place × (1 ≤ at) × (at ≤ (lane_at lanes place).size) → ⊥) 55 ∷ []) (55 ∷ []) (withdraw_told r.answer)
unfolding withdraw_rows IsNoSuchRequest
withdraw_plainly lanes job at r w = withdraw_exactly lanes job at r w

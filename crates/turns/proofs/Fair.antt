-- "A request that is p-th in its lane, and isn't withdrawn, must be opened within 16 times p grants that open something, whatever other lanes
-- do." 02, #109. Stated of any lanes in order, and any calls that follow.
-- Assumes nothing.
use mathlib.Core.Path.{◌≡◌, refl, sym, ap, subst, ◌∙◌}
use mathlib.Core.Bool.{Bool, true, false, cond}
use mathlib.Core.List.{List, [], ◌∷◌}
use mathlib.Core.Logic.{◌≢◌, ◌⊎◌, inl, inr}
use mathlib.Core.Option.{Option, some, none}
use Prim.Native.Nat.{ℕ, zero, suc, ◌+◌, ◌-◌, ◌*◌, ◌%◌, ◌≤◌, ◌<◌}
use native.Mathlib.Decide.{dec_lt}
use native.Mathlib.Omega.{arith}
use borrow.Author.Tests.{eq-eqb, ne_eqb, lt-ltb, le-ltb}
use lib.Dec.{eqb}
use lib.ListN.{length}
use Rattle.rows.proofs.Laws.{clash}
use Rattle.lanes.proofs.Ranking.{passed_empty}
use Rattle.lanes.specs.Lanes.{fresh_lanes, lane_at, waiting_at, waiting_with, with_last, without, own_lane}
use Rattle.lanes.specs.Join.{join_refusal, join_lanes, lane_for}
use Rattle.lanes.specs.Grant.{grant_refusal, next_distance, next_place, place_after, moves_on, served_from}
use Rattle.lanes.specs.Withdraw.{withdraw_refusal, withdraw_lanes}
use Rattle.desk.specs.declared.Desk.{Desk}
use Rattle.lanes.specs.declared.Fault.{Fault}
use Rattle.lanes.specs.declared.Lane.{Lane}
use Rattle.lanes.specs.declared.Lanes.{Lanes}
use Rattle.request.specs.declared.Request.{Request}
use Rattle.turns.specs.Turns.{Hall, Call, joins, grants, withdraws, at_desk, after, granted, all_after, oldest, opened_with, Orderly}
use Rattle.turns.specs.Fair.{turn_used, counts, counted, Fate, waits, had_turn, withdrawn, nearer, taken_at, at_grant, at_withdrawal, fate_by, fate}
use Rattle.turns.proofs.Arrays.{same_or_not, put, put_there, put_other, last_other, before_gone, behind_gone}
use Rattle.turns.proofs.Orderly.{fit_to_withdraw, keeps_order, fresh_orderly, any_orderly}

-- ---- how many turns lie before a request, at most: the lanes up to its own, and all of them for each before it in its lane

abbrev far : ℕ → ℕ → ℕ
far last lane = (lane + 31 - last % 16) % 16

abbrev turns_to : Lanes → ℕ → ℕ → ℕ
turns_to lanes lane place = far lanes.last lane + 1 + 16 * place

-- a lane that is so far behind the one last served stands there
far_is : (last lane : ℕ) → lane < 16 → place_after last (far last lane) ≡ lane
far_is last lane h = omega arith

-- how far it is from a place, on the way up and round past the 16th
up : (m lane : ℕ) → lane < 16 → m < lane → (lane + 31 - m) % 16 ≡ lane - m - 1
up m lane h l = omega arith

round : (m lane : ℕ) → m < 16 → lane ≤ m → (lane + 31 - m) % 16 ≡ lane + 15 - m
round m lane h l = omega arith

nearer_from : (m lane d : ℕ) → m < 16 → lane < 16 → d < (lane + 31 - m) % 16 → (lane + 31 - (m + 1 + d) % 16) % 16 + d + 1 ≡ (lane + 31 - m) % 16
nearer_from m lane d hm h l = elim (dec_lt m lane) [
  | yes below ↦
      let here = up m lane h below in
      let p : (m + 1 + d) % 16 ≡ m + 1 + d = omega (arith, l, here) in
      let next = up (m + 1 + d) lane h (omega (arith, l, here)) in
      rw (p, here, next) (omega (arith, l, here))
  | no above ↦
      let here = round m lane hm (omega arith) in
      elim (dec_lt (m + 1 + d) 16) [
        | yes under ↦
            let p : (m + 1 + d) % 16 ≡ m + 1 + d = omega arith in
            let next = round (m + 1 + d) lane under (omega arith) in
            rw (p, here, next) (omega (arith, l, here))
        | no past ↦
            let p : (m + 1 + d) % 16 ≡ m + 1 + d - 16 = omega (arith, l, here) in
            let next = up (m + 1 + d - 16) lane h (omega (arith, l, here)) in
            rw (p, here, next) (omega (arith, l, here))
      ]
]

-- and comes nearer by a turn that ends before it
comes_nearer : (last lane d : ℕ) → lane < 16 → d < far last lane → far (place_after last d) lane + d + 1 ≡ far last lane
comes_nearer last lane d h l =
    let n : place_after last d % 16 ≡ (last % 16 + 1 + d) % 16 = omega arith in
    rw n (nearer_from (last % 16) lane d (omega arith) h l)

waits_is : {p q : ℕ} → waits p ≡ waits q → p ≡ q
waits_is e = cc

-- what one call does to a request that waits and goes on waiting: it uses up turns, and it stays what it is
pub record Goes (lanes : Lanes) (used : Bool) (lane place : ℕ) (lanes' : Lanes) (place' : ℕ) : Type 0 where
  pub turns : cond used 1 0 + turns_to lanes' lane place' ≤ turns_to lanes lane place
  pub held : place' < (lane_at lanes' lane).size
  pub same : waiting_at (lane_at lanes' lane) place' ≡ waiting_at (lane_at lanes lane) place

-- nothing happened to it
stays : (lanes : Lanes) (lane place : ℕ) → place < (lane_at lanes lane).size → Goes lanes false lane place lanes place
stays lanes lane place h = record { turns = omega arith; held = h; same = refl }

-- another lane, or the lane last served, changed
elsewhere : (lanes : Lanes) (last at : ℕ) (other : Lane) (used : Bool) (lane place : ℕ) → lane ≢ at → place < (lane_at lanes lane).size
    → cond used 1 0 + far last lane ≤ far lanes.last lane → Goes lanes used lane place (put lanes last at other) place
elsewhere lanes last at other used lane place n h fewer =
    record {
      turns = omega (arith, fewer);
      held = subst (λ (l : Lane). place < l.size) (sym (put_other lanes last at other lane n)) h;
      same = ap (λ (l : Lane). waiting_at l place) (put_other lanes last at other lane n);
    }

-- its own lane became another
own : (lanes : Lanes) (last : ℕ) (other : Lane) (used : Bool) (lane place place' : ℕ) → lane < length lanes.lanes → place' < other.size
    → waiting_at other place' ≡ waiting_at (lane_at lanes lane) place
    → cond used 1 0 + (far last lane + 16 * place') ≤ far lanes.last lane + 16 * place
    → Goes lanes used lane place (put lanes last lane other) place'
own lanes last other used lane place place' within h is fewer =
    let there = put_there lanes last lane other within in
    record {
      turns = omega (arith, fewer);
      held = subst (λ (l : Lane). place' < l.size) (sym there) h;
      same = ap (λ (l : Lane). waiting_at l place') there ∙ is;
    }

-- a lane that is served instead of one in which something waits is not behind it
sooner : (lanes : Lanes) (lane place : ℕ) → lane < 16 → place < (lane_at lanes lane).size → next_place lanes ≢ lane
    → 1 + far (next_place lanes) lane ≤ far lanes.last lane
unfolding next_place
sooner lanes lane place in_hall h apart =
    let d : ℕ = next_distance lanes in
    let before : next_distance lanes < far lanes.last lane = elim (dec_lt (next_distance lanes) (far lanes.last lane)) [
      | yes l ↦ l
      | no l ↦ elim (same_or_not (next_distance lanes) (far lanes.last lane)) [
        | yes same ↦ absurd (apart (ap (place_after lanes.last) same ∙ far_is lanes.last lane in_hall))
        | no other ↦
            let empty : (lane_at lanes lane).size ≡ 0 =
            subst (λ (k : ℕ). (lane_at lanes k).size ≡ 0) (far_is lanes.last lane in_hall) (passed_empty lanes (far lanes.last lane) (omega arith)) in
            absurd (omega (arith, empty, h))
      ]
    ] in
    omega (arith, comes_nearer lanes.last lane (next_distance lanes) in_hall before)

-- ---- by each call

module _ (lane place place' : ℕ) (in_hall : lane < 16) where
  joining : (lanes : Lanes) (asked : Request) (bytes : List ℕ) → Orderly lanes → place < (lane_at lanes lane).size → waits place ≡ waits place'
      → Goes lanes false lane place (join_lanes (join_refusal lanes asked bytes) lanes (lane_for lanes asked.job) asked bytes) place'
  joining lanes asked bytes o h e = go (join_refusal lanes asked bytes) refl
    where
      go : (x : Option Fault) → join_refusal lanes asked bytes ≡ x → Goes lanes false lane place (join_lanes x lanes (lane_for lanes asked.job) asked bytes) place'
      go (some f) x = subst (Goes lanes false lane place lanes) (waits_is e) (stays lanes lane place h)
      go none x = elim (same_or_not lane (lane_for lanes asked.job)) [
        | yes there ↦
            subst (λ (k : ℕ). Goes lanes false lane place (put lanes lanes.last k (with_last (lane_at lanes k) (waiting_with asked bytes))) place') there
            (own lanes lanes.last (with_last (lane_at lanes lane) (waiting_with asked bytes)) false lane place place' (omega (arith, o.sixteen))
            (omega (arith, waits_is e))
            (last_other (lane_at lanes lane) (waiting_with asked bytes) place' (λ z. omega (arith, waits_is e)) ∙ ap (waiting_at (lane_at lanes lane)) (sym (waits_is e)))
            (omega (arith, waits_is e)))
        | no apart ↦
            subst (Goes lanes false lane place (put lanes lanes.last _ _)) (waits_is e)
            (elsewhere lanes lanes.last (lane_for lanes asked.job) _ false lane place apart h (omega arith))
      ]

  granting : (hall : Hall) (clock : ℕ) (room : List ℕ) → Orderly hall.lanes → place < (lane_at hall.lanes lane).size
      → at_grant (turn_used (grant_refusal hall.lanes (length room)) hall clock room) (eqb (next_place hall.lanes) lane) place ≡ waits place'
      → Goes hall.lanes (turn_used (grant_refusal hall.lanes (length room)) hall clock room) lane place
      (granted (grant_refusal hall.lanes (length room)) hall clock room).lanes place'
  granting hall clock room o h e = go (grant_refusal hall.lanes (length room)) refl e
    where
      by : grant_refusal hall.lanes (length room) ≡ none → (moves : Bool) → at_grant moves (eqb (next_place hall.lanes) lane) place ≡ waits place'
          → Goes hall.lanes moves lane place (served_from hall.lanes (next_place hall.lanes) (lane_at hall.lanes (next_place hall.lanes)) moves) place'
      by none_refuses false e = subst (Goes hall.lanes false lane place hall.lanes) (waits_is e) (stays hall.lanes lane place h)
      by none_refuses true e = elim (same_or_not (next_place hall.lanes) lane) [
        | yes here ↦ served here place refl (rw (eq-eqb (next_place hall.lanes) lane here) at e)
        | no apart ↦
            let is : waits place ≡ waits place' = rw (ne_eqb (next_place hall.lanes) lane apart) at e in
            subst (Goes hall.lanes true lane place (put hall.lanes (next_place hall.lanes) (next_place hall.lanes) _)) (waits_is is)
            (elsewhere hall.lanes (next_place hall.lanes) (next_place hall.lanes) _ true lane place (λ z. apart (sym z)) h (sooner hall.lanes lane place in_hall h apart))
      ]
        where
          served : next_place hall.lanes ≡ lane → (p : ℕ) → place ≡ p → nearer p ≡ waits place'
              → Goes hall.lanes true lane place (put hall.lanes (next_place hall.lanes) (next_place hall.lanes) (without (lane_at hall.lanes (next_place hall.lanes)) 0)) place'
          served here zero is e = clash (cc)
          served here (suc p) is e =
              let q : p ≡ place' = waits_is e in
              let few = o.at_most lane in_hall in
              subst (λ (k : ℕ). Goes hall.lanes true lane place (put hall.lanes k k (without (lane_at hall.lanes k) 0)) place') (sym here)
              (own hall.lanes lane (without (lane_at hall.lanes lane) 0) true lane place place' (omega (arith, o.sixteen))
              (omega (arith, q, is, h))
              (behind_gone (lane_at hall.lanes lane) 0 place' (omega arith) (omega (arith, few, q, is, h)) ∙ ap (waiting_at (lane_at hall.lanes lane)) (omega (arith, q, is)))
              (omega (arith, q, is)))

      go : (x : Option Fault) → grant_refusal hall.lanes (length room) ≡ x → at_grant (turn_used x hall clock room) (eqb (next_place hall.lanes) lane) place ≡ waits place'
          → Goes hall.lanes (turn_used x hall clock room) lane place (granted x hall clock room).lanes place'
      go (some f) x e = subst (Goes hall.lanes false lane place hall.lanes) (waits_is e) (stays hall.lanes lane place h)
      go none x e = by x (moves_on (opened_with hall.desk (oldest hall.lanes) clock room)) e

  withdrawing : (lanes : Lanes) (job at : ℕ) → Orderly lanes → place < (lane_at lanes lane).size
      → at_withdrawal (withdraw_refusal lanes job at) (eqb (own_lane lanes job) lane) (at - 1) place ≡ waits place'
      → Goes lanes false lane place (withdraw_lanes (withdraw_refusal lanes job at) lanes (own_lane lanes job) at) place'
  withdrawing lanes job at o h e = go (withdraw_refusal lanes job at) refl e
    where
      taken : own_lane lanes job ≡ lane → withdraw_refusal lanes job at ≡ none → taken_at (at - 1) place ≡ waits place'
          → Goes lanes false lane place (put lanes lanes.last lane (without (lane_at lanes lane) (at - 1))) place'
      taken here x e = elim (same_or_not (at - 1) place) [
        | yes itself ↦ let z : withdrawn ≡ waits place' = rw (eq-eqb (at - 1) place itself) at e in clash (cc)
        | no another ↦ elim (dec_lt (at - 1) place) [
          | yes l ↦
              let q : place - 1 ≡ place' = waits_is (rw (ne_eqb (at - 1) place another, lt-ltb (at - 1) place l) at e) in
              own lanes lanes.last (without (lane_at lanes lane) (at - 1)) false lane place place' (omega (arith, o.sixteen))
              (omega (arith, q, l))
              (behind_gone (lane_at lanes lane) (at - 1) place' (omega (arith, q)) (omega (arith, few, q, l)) ∙ ap (waiting_at (lane_at lanes lane)) (omega (arith, q, l)))
              (omega (arith, q, l))
          | no l ↦
              let q : place ≡ place' = waits_is (rw (ne_eqb (at - 1) place another, le-ltb (at - 1) place (omega arith)) at e) in
              let fit = fit_to_withdraw lanes job at x in
              let size : at ≤ (lane_at lanes lane).size = subst (λ (k : ℕ). at ≤ (lane_at lanes k).size) here fit.2 in
              own lanes lanes.last (without (lane_at lanes lane) (at - 1)) false lane place place' (omega (arith, o.sixteen))
              (omega (arith, q, size, fit.1))
              (before_gone (lane_at lanes lane) (at - 1) place' (omega (arith, q)) (omega (arith, few, q, h)) ∙ ap (waiting_at (lane_at lanes lane)) (sym q))
              (omega (arith, q))
        ]
      ]
        where
          few : (lane_at lanes lane).size ≤ 4
          few = o.at_most lane in_hall

      go : (x : Option Fault) → withdraw_refusal lanes job at ≡ x → at_withdrawal x (eqb (own_lane lanes job) lane) (at - 1) place ≡ waits place'
          → Goes lanes false lane place (withdraw_lanes x lanes (own_lane lanes job) at) place'
      go (some f) x e = subst (Goes lanes false lane place lanes) (waits_is e) (stays lanes lane place h)
      go none x e = elim (same_or_not (own_lane lanes job) lane) [
        | yes here ↦
            subst (λ (k : ℕ). Goes lanes false lane place (put lanes lanes.last k (without (lane_at lanes k) (at - 1))) place') (sym here)
            (taken here x (rw (eq-eqb (own_lane lanes job) lane here) at e))
        | no apart ↦
            subst (Goes lanes false lane place (put lanes lanes.last (own_lane lanes job) _)) (waits_is (rw (ne_eqb (own_lane lanes job) lane apart) at e))
            (elsewhere lanes lanes.last (own_lane lanes job) _ false lane place (λ z. apart (sym z)) h (omega arith))
      ]

  pub one_call : (hall : Hall) (call : Call) → Orderly hall.lanes → place < (lane_at hall.lanes lane).size → fate_by hall call lane place ≡ waits place'
      → Goes hall.lanes (counts hall call) lane place (after hall call).lanes place'
  unfolding after counts fate_by
  one_call hall (joins asked bytes) o h e = joining hall.lanes asked bytes o h e
  one_call hall (grants clock room) o h e = granting hall clock room o h e
  one_call hall (withdraws job at) o h e = withdrawing hall.lanes job at o h e
  one_call hall (at_desk call) o h e = subst (Goes hall.lanes false lane place hall.lanes) (waits_is e) (stays hall.lanes lane place h)

-- ---- over all calls

ended_turn : (hall : Hall) (calls : List Call) (lane : ℕ) → fate hall calls lane had_turn ≡ had_turn
unfolding fate
ended_turn hall [] lane = refl
ended_turn hall (c ∷ cs) lane = refl

ended_withdrawn : (hall : Hall) (calls : List Call) (lane : ℕ) → fate hall calls lane withdrawn ≡ withdrawn
unfolding fate
ended_withdrawn hall [] lane = refl
ended_withdrawn hall (c ∷ cs) lane = refl

-- while it waits, so many turns are used up as it comes nearer, and it is as it was asked
pub all_calls : (hall : Hall) (calls : List Call) (lane place place' : ℕ) → lane < 16 → Orderly hall.lanes → place < (lane_at hall.lanes lane).size
    → fate hall calls lane (waits place) ≡ waits place'
    → (counted hall calls + turns_to (all_after hall calls).lanes lane place' ≤ turns_to hall.lanes lane place)
    × (place' < (lane_at (all_after hall calls).lanes lane).size)
    × (waiting_at (lane_at (all_after hall calls).lanes lane) place' ≡ waiting_at (lane_at hall.lanes lane) place)
unfolding fate counted all_after
all_calls hall [] lane place place' hl o h e =
    let q : place ≡ place' = waits_is e in
    (omega (arith, q), omega (arith, q, h), ap (waiting_at (lane_at hall.lanes lane)) (sym q))
all_calls hall (c ∷ cs) lane place place' hl o h e =
    by (fate_by hall c lane place) refl e (λ p held f. all_calls (after hall c) cs lane p place' hl (keeps_order hall c o) held f)
  where
    by : (f : Fate) → fate_by hall c lane place ≡ f → fate (after hall c) cs lane f ≡ waits place'
        → ((p : ℕ) → p < (lane_at (after hall c).lanes lane).size → fate (after hall c) cs lane (waits p) ≡ waits place'
        → (counted (after hall c) cs + turns_to (all_after (after hall c) cs).lanes lane place' ≤ turns_to (after hall c).lanes lane p)
        × (place' < (lane_at (all_after (after hall c) cs).lanes lane).size)
        × (waiting_at (lane_at (all_after (after hall c) cs).lanes lane) place' ≡ waiting_at (lane_at (after hall c).lanes lane) p))
        → (cond (counts hall c) 1 0 + counted (after hall c) cs + turns_to (all_after (after hall c) cs).lanes lane place'
        ≤ turns_to hall.lanes lane place)
        × (place' < (lane_at (all_after (after hall c) cs).lanes lane).size)
        × (waiting_at (lane_at (all_after (after hall c) cs).lanes lane) place' ≡ waiting_at (lane_at hall.lanes lane) place)
    by had_turn f e again = let z : had_turn ≡ waits place' = sym (ended_turn (after hall c) cs lane) ∙ e in clash (cc)
    by withdrawn f e again = let z : withdrawn ≡ waits place' = sym (ended_withdrawn (after hall c) cs lane) ∙ e in clash (cc)
    by (waits p) f e again =
        let one = one_call lane place p hl hall c o h f in
        let more = again p one.held e in
        let less = fewer (cond (counts hall c) 1 0) (counted (after hall c) cs) _ (turns_to (after hall c).lanes lane p) (turns_to hall.lanes lane place) one.turns more.0 in
        (less, more.1, more.2 ∙ one.same)
      where
        fewer : (u n x y z : ℕ) → u + y ≤ z → n + x ≤ y → u + n + x ≤ z
        fewer u n x y z a b = omega arith

-- "within 16 times p grants that open something": once so many have, it waits no more. The p-th stands at place p - 1.
pub fair : (hall : Hall) (calls : List Call) (lane p place' : ℕ) → lane < 16 → Orderly hall.lanes → p < (lane_at hall.lanes lane).size
    → 16 * (p + 1) ≤ counted hall calls → fate hall calls lane (waits p) ≢ waits place'
fair hall calls lane p place' hl o h enough e =
    let all = (all_calls hall calls lane p place' hl o h e).0 in
    let near : far hall.lanes.last lane < 16 = omega arith in
    omega (arith, all, near, enough)

-- so of any lanes that calls made, in front of any desk: it has been "opened or taken out", or it was withdrawn
pub turn_within : (desk : Desk) (made calls : List Call) (lane p : ℕ) → lane < 16
    → p < (lane_at (all_after (record { lanes = fresh_lanes; desk = desk }) made).lanes lane).size
    → 16 * (p + 1) ≤ counted (all_after (record { lanes = fresh_lanes; desk = desk }) made) calls
    → (fate (all_after (record { lanes = fresh_lanes; desk = desk }) made) calls lane (waits p) ≡ had_turn)
    ⊎ (fate (all_after (record { lanes = fresh_lanes; desk = desk }) made) calls lane (waits p) ≡ withdrawn)
turn_within desk made calls lane p hl h enough =
    by (fate (all_after (record { lanes = fresh_lanes; desk = desk }) made) calls lane (waits p)) refl
  where
    by : (f : Fate) → fate (all_after (record { lanes = fresh_lanes; desk = desk }) made) calls lane (waits p) ≡ f → (f ≡ had_turn) ⊎ (f ≡ withdrawn)
    by had_turn e = inl refl
    by withdrawn e = inr refl
    by (waits q) e =
        absurd (fair (all_after (record { lanes = fresh_lanes; desk = desk }) made) calls lane p q hl
        (any_orderly (record { lanes = fresh_lanes; desk = desk }) made fresh_orderly) h enough e)

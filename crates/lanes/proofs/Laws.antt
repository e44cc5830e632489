-- What is promised of the lanes, each law under the sentence of 02, #109, that it keeps. Their numbers are in Ranking.antt, and what holds
-- over many calls in the crate `turns`.
-- Assumes nothing.
use Rattle.std.specs.Prelude.{Ok, Err}
use mathlib.Core.Path.{◌≡◌, refl, sym, ap, ap₂, ◌∙◌}
use mathlib.Core.Bool.{Bool, true, false, true≢false}
use mathlib.Core.List.{List, [], ◌∷◌}
use mathlib.Core.Logic.{⊎_elim}
use mathlib.Core.Option.{Option, some, none}
use Prim.Native.Nat.{ℕ, ◌+◌, ◌<◌}
use native.Mathlib.Omega.{arith}
use lib.Dec.{leb, ltb}
use lib.ListN.{length}
use Rattle.rows.proofs.Laws.{clash}
use Rattle.rows.proofs.Settled.{settled}
use Rattle.rows.specs.Settled.{Settled}
use Rattle.request.specs.declared.Fault.{Fault as Asked}
use Rattle.request.specs.declared.Request.{Request}
use Rattle.request.specs.Request.{fault_number as ask_number}
use Rattle.rows.specs.Rows.{Ranked, test, first_row_of}
use Rattle.desk.proofs.Count.{opened_count, refused_count_lem, no_more_than_14}
use Rattle.desk.proofs.Folder.{only_held}
use Rattle.desk.proofs.Laws.{opens_settled, open_refusal_keeps}
use Rattle.desk.specs.Desk.{fault_number as desk_number}
use Rattle.desk.specs.Open.{distance_of, open_told}
use Rattle.desk.specs.declared.AfterOpen.{AfterOpen}
use Rattle.desk.specs.declared.Desk.{Desk}
use Rattle.desk.specs.declared.Fault.{Fault as DeskFault}
use Rattle.desk.specs.declared.Fault.TheVariants.{FolderHeld, NoneFree}
use Rattle.desk.specs.Answers.{Opening}
use Rattle.lanes.proofs.Answers.{granted_told, taken_told, refused_told}
use Rattle.lanes.proofs.Ranking.{grant_ranked}
use Rattle.lanes.specs.Lanes.{Fresh, Numbers, fresh_lanes, lane_at, waiting_at, data_of, own_lane}
use Rattle.lanes.specs.Join.{join_refusal, join_answer, join_lanes, lane_for, Joins, join_told}
use Rattle.lanes.specs.Grant.{IsShortBuffer, IsNothingWaiting, grant_rows, grant_refusal, next_distance, next_place, moves_on, served_from, from_desk, GrantsBy, Grants, grant_told}
use Rattle.lanes.specs.Withdraw.{withdraw_refusal, withdraw_answer, withdraw_lanes, Withdraws, withdraw_told}
use Rattle.lanes.specs.declared.AfterGrant.{AfterGrant}
use Rattle.lanes.specs.declared.AfterJoin.{AfterJoin}
use Rattle.lanes.specs.declared.AfterWithdraw.{AfterWithdraw}
use Rattle.lanes.specs.declared.Fault.{Fault}
use Rattle.lanes.specs.declared.Fault.TheVariants.{Denied, NoLaneFree, LaneFull, ShortBuffer, NothingWaiting, NoSuchRequest, AtDesk}
use Rattle.lanes.specs.Answers.{Granting}
use Rattle.lanes.specs.declared.Turn.TheVariants.{Granted, TakenOut}
use Rattle.lanes.specs.Answers.{Joining, joining}
use Rattle.lanes.specs.declared.Lanes.{Lanes}
use Rattle.lanes.specs.Answers.{Withdrawing}

-- ---- "a refusal changes no ticket [..] and no byte of a buffer we lent", and no lane

pub join_refusal_keeps : (lanes : Lanes) (asked : Request) (bytes : List ℕ) (r : AfterJoin) (f : Fault) → Joins lanes asked bytes r → r.answer ≡ Err f → r.lanes ≡ lanes
join_refusal_keeps lanes asked bytes r f j e = go (join_refusal lanes asked bytes) j.0 j.1
  where
    go : (o : Option Fault) → r.answer ≡ join_answer o lanes (lane_for lanes asked.job)
        → r.lanes ≡ join_lanes o lanes (lane_for lanes asked.job) asked bytes → r.lanes ≡ lanes
    go (some g) a b = b
    go none a b = let both : Err f ≡ joining (lane_for lanes asked.job + 1) ((lane_at lanes (lane_for lanes asked.job)).size + 1) = sym e ∙ a in clash (cc)

pub withdraw_refusal_keeps : (lanes : Lanes) (job at : ℕ) (r : AfterWithdraw) (f : Fault) → Withdraws lanes job at r → r.answer ≡ Err f → r.lanes ≡ lanes
withdraw_refusal_keeps lanes job at r f w e = go (withdraw_refusal lanes job at) w.0 w.1
  where
    go : (o : Option Fault) → r.answer ≡ withdraw_answer o → r.lanes ≡ withdraw_lanes o lanes (own_lane lanes job) at → r.lanes ≡ lanes
    go (some g) a b = b
    go none a b = let both : Err f ≡ (Ok tt) = sym e ∙ a in clash (cc)

-- "A grant answered 15 changes nothing": nor does any other refusal
pub grant_refusal_keeps : (lanes : Lanes) (desk : Desk) (clock : ℕ) (room : List ℕ) (r : AfterGrant) (room' : List ℕ) (f : Fault)
    → Grants lanes desk clock room r room' → r.answer ≡ Err f → (r.lanes ≡ lanes) × (r.desk ≡ desk) × (room' ≡ room)
grant_refusal_keeps lanes desk clock room r room' f g e = by (grant_refusal lanes (length room)) g
  where
    by : (o : Option Fault) → GrantsBy o lanes desk clock room r room' → (r.lanes ≡ lanes) × (r.desk ≡ desk) × (room' ≡ room)
    by (some h) g = (g.0.1, g.0.2, g.1)
    by none g =
        let at_desk_lem = refused_told (waiting_at (lane_at lanes (next_place lanes)) 0).asked.job g.0.answer f (sym e ∙ g.2.0) in
        let kept = open_refusal_keeps desk _ _ clock room g.0 room' g.1 at_desk_lem.0 at_desk_lem.1 in
        (g.2.1 ∙ rw (at_desk_lem.1, at_desk_lem.3), g.2.2 ∙ kept.0, kept.1)

-- ---- 02, #108: "Opening reports how many addresses it considered", and "Refusals carry it too: 95 with 15"; 0 where the desk was not asked

module _ (lanes : Lanes) (desk : Desk) (clock : ℕ) (room : List ℕ) (r : AfterGrant) (room' : List ℕ) (g : Grants lanes desk clock room r room') where
  pub granted_count : (job address n : ℕ) → r.answer ≡ Ok (Granted job address n) → r.count ≡ distance_of desk clock + 1
  granted_count job address n e = by (grant_refusal lanes (length room)) g
    where
      by : (x : Option Fault) → GrantsBy x lanes desk clock room r room' → r.count ≡ distance_of desk clock + 1
      by (some f) g = let both : Ok (Granted job address n) ≡ Err f = sym e ∙ g.0.0 in clash (cc)
      by none g =
          let told = granted_told (waiting_at (lane_at lanes (next_place lanes)) 0).asked.job job address n g.0.answer (sym e ∙ g.2.0) in
          g.2.3 ∙ opened_count desk _ _ clock room g.0 room' g.1 address n told.0

  -- 02, #110: "A waiting request whose folder another job holds at its grant is taken out and reported with 75 and its job", "#108's count is 0
  -- with it": the desk and the buffer stay
  pub taken_out_keeps : (job : ℕ) → r.answer ≡ Ok (TakenOut job) → (r.count ≡ 0) × (r.desk ≡ desk) × (room' ≡ room)
  taken_out_keeps job e = by (grant_refusal lanes (length room)) g
    where
      by : (x : Option Fault) → GrantsBy x lanes desk clock room r room' → (r.count ≡ 0) × (r.desk ≡ desk) × (room' ≡ room)
      by (some f) g = let both : Ok (TakenOut job) ≡ Err f = sym e ∙ g.0.0 in clash (cc)
      by none g =
          let told = taken_told (waiting_at (lane_at lanes (next_place lanes)) 0).asked.job job g.0.answer (sym e ∙ g.2.0) in
          let kept = open_refusal_keeps desk _ _ clock room g.0 room' g.1 FolderHeld told.0 in
          (g.2.3 ∙ (refused_count_lem desk _ _ clock room g.0 room' g.1 75 (ap open_told told.0)).3 refl, g.2.2 ∙ kept.0, kept.1)

  pub none_free_count : r.answer ≡ Err (AtDesk NoneFree) → r.count ≡ 95
  unfolding grant_rows
  none_free_count e = by (grant_refusal lanes (length room)) (grant_ranked lanes (length room)) g
    where
      by : (x : Option Fault) → Ranked (grant_rows lanes (length room)) x → GrantsBy x lanes desk clock room r room' → r.count ≡ 95
      by (some f) first g =
          let is : Err (AtDesk NoneFree) ≡ Err f = sym e ∙ g.0.0 in
          ⊎_elim (λ short. let z = short.1 in clash (cc)) (λ later. ⊎_elim (λ nothing. let z = nothing.1 in clash (cc)) (λ past. absurd past.1) later.1) first
      by none first g =
          let told = refused_told (waiting_at (lane_at lanes (next_place lanes)) 0).asked.job g.0.answer (AtDesk NoneFree) (sym e ∙ g.2.0) in
          let same : NoneFree ≡ told.0 = at_same NoneFree told.0 told.2 in
          g.2.3 ∙ (refused_count_lem desk _ _ clock room g.0 room' g.1 15 (ap open_told (told.1 ∙ ap Err (sym same)))).1 refl
        where
          at_same : (a b : DeskFault) → AtDesk a ≡ AtDesk b → a ≡ b
          at_same a b p = cc

  pub not_asked_count : (length room < 494 → r.count ≡ 0) × (((place : ℕ) → place < 16 → (lane_at lanes place).size ≡ 0) → r.count ≡ 0)
  unfolding grant_rows IsShortBuffer IsNothingWaiting
  not_asked_count = by (grant_refusal lanes (length room)) (grant_ranked lanes (length room)) g
    where
      by : (x : Option Fault) → Ranked (grant_rows lanes (length room)) x → GrantsBy x lanes desk clock room r room'
          → (length room < 494 → r.count ≡ 0) × (((place : ℕ) → place < 16 → (lane_at lanes place).size ≡ 0) → r.count ≡ 0)
      by (some f) first g = (λ h. g.0.3, λ h. g.0.3)
      by none neither g = (λ h. absurd (neither.0 h), λ h. absurd (neither.1.0 h))

-- ---- the numbers that answers tell

pub numbers_are : (r : ℕ)
    → (Numbers NoLaneFree r → r ≡ 71)
    × (Numbers LaneFull r → r ≡ 72)
    × (Numbers ShortBuffer r → r ≡ 73)
    × (Numbers NothingWaiting r → r ≡ 74)
    × (Numbers NoSuchRequest r → r ≡ 55)
    × ((f : Asked) → Numbers (Denied f) r → r ≡ ask_number f)
    × ((f : DeskFault) → Numbers (AtDesk f) r → r ≡ desk_number f)
numbers_are r = (λ p. p, λ p. p, λ p. p, λ p. p, λ p. p, λ f p. p, λ f p. p)

pub told_number : (f : Fault) (k : ℕ) → Numbers f k
    → (join_told (Err f) ≡ some k) × (grant_told (Err f) ≡ some k) × (withdraw_told (Err f) ≡ some k)
told_number f k p = (ap some (sym p), ap some (sym p), ap some (sym p))

-- one that is taken out is told as the desk's refusal, and so is no other
pub taken_number : (job : ℕ) → grant_told (Ok (TakenOut job)) ≡ some (desk_number FolderHeld)
taken_number job = refl

own_refusal : (lanes : Lanes) (room : ℕ) (f : DeskFault) → grant_refusal lanes room ≡ some (AtDesk f) → ◌≡◌ {A = ℕ} 0 1
unfolding grant_refusal
own_refusal lanes room f e = go (ltb room 494) (leb 16 (next_distance lanes)) e
  where
    go : (a b : Bool) → first_row_of (test a ShortBuffer ∷ test b NothingWaiting ∷ []) ≡ some (AtDesk f) → ◌≡◌ {A = ℕ} 0 1
    go true b e = cc
    go false true e = cc
    go false false e = cc

pub held_taken_out : (lanes : Lanes) (desk : Desk) (clock : ℕ) (room : List ℕ) (r : AfterGrant) (room' : List ℕ) → Grants lanes desk clock room r room'
    → grant_told r.answer ≡ some 75 → (job : ℕ) × (r.answer ≡ Ok (TakenOut job))
held_taken_out lanes desk clock room r room' g e = go r.answer refl e
  where
    number_of : {m n : ℕ} → ◌≡◌ {A = Option ℕ} (some m) (some n) → m ≡ n
    number_of p = cc

    not_passed_on : (f : DeskFault) → desk_number f ≡ 75 → r.answer ≡ Err (AtDesk f) → ◌≡◌ {A = ℕ} 0 1
    not_passed_on f n is = by (grant_refusal lanes (length room)) refl g
      where
        by : (x : Option Fault) → grant_refusal lanes (length room) ≡ x → GrantsBy x lanes desk clock room r room' → ◌≡◌ {A = ℕ} 0 1
        by (some h) x g =
            let both : Err (AtDesk f) ≡ Err h = sym is ∙ g.0.0 in
            let same : some h ≡ some (AtDesk f) = cc in
            own_refusal lanes (length room) f (x ∙ same)
        by none x g =
            let told = refused_told (waiting_at (lane_at lanes (next_place lanes)) 0).asked.job g.0.answer (AtDesk f) (sym is ∙ g.2.0) in
            let same : f ≡ told.0 = at_same f told.0 told.2 in
            absurd (true≢false (rw (← same, only_held f n) at told.3))
          where
            at_same : (a b : DeskFault) → AtDesk a ≡ AtDesk b → a ≡ b
            at_same a b p = cc

    go : (a : Granting) → r.answer ≡ a → grant_told a ≡ some 75 → (job : ℕ) × (r.answer ≡ Ok (TakenOut job))
    go (Ok (TakenOut job)) is e = (job, is)
    go (Ok (Granted job address n)) is e = clash (cc)
    go (Err (Denied f)) is e = absurd (omega (arith, number_of e, no_more_than_14 f))
    go (Err NoLaneFree) is e = absurd (omega (arith, number_of e))
    go (Err LaneFull) is e = absurd (omega (arith, number_of e))
    go (Err ShortBuffer) is e = absurd (omega (arith, number_of e))
    go (Err NothingWaiting) is e = absurd (omega (arith, number_of e))
    go (Err NoSuchRequest) is e = absurd (omega (arith, number_of e))
    go (Err (AtDesk f)) is e = clash (not_passed_on f (number_of e) is)

pub fresh_is : (lanes : Lanes) → Fresh lanes → lanes ≡ fresh_lanes
fresh_is lanes p = p

-- ---- 01: "Show that any two outcomes allowed by it are equal."

pub fresh_settled : Settled Fresh
fresh_settled = settled _

pub numbers_settled : (f : Fault) → Settled (Numbers f)
numbers_settled f = settled _

pub joins_settled : (lanes : Lanes) (asked : Request) (bytes : List ℕ) → Settled (Joins lanes asked bytes)
joins_settled lanes asked bytes = both _ _
  where
    both : (x : Joining) (y : Lanes) → Settled {A = AfterJoin} (λ r. (r.answer ≡ x) × (r.lanes ≡ y))
    both x y =
        record {
          outcome = record { answer = x; lanes = y };
          is_allowed_lem = (refl, refl);
          only = λ other p. ap₂ (λ (a : Joining) (b : Lanes). record { answer = a; lanes = b }) p.0 p.1;
        }

pub withdraws_settled : (lanes : Lanes) (job at : ℕ) → Settled (Withdraws lanes job at)
withdraws_settled lanes job at = both _ _
  where
    both : (x : Withdrawing) (y : Lanes) → Settled {A = AfterWithdraw} (λ r. (r.answer ≡ x) × (r.lanes ≡ y))
    both x y =
        record {
          outcome = record { answer = x; lanes = y };
          is_allowed_lem = (refl, refl);
          only = λ other p. ap₂ (λ (a : Withdrawing) (b : Lanes). record { answer = a; lanes = b }) p.0 p.1;
        }

-- an outcome, part by part
same : (s : AfterGrant) (m : List ℕ) (x : Granting) (y : Lanes) (z : Desk) (k : ℕ) (w : List ℕ)
    → s.answer ≡ x → s.lanes ≡ y → s.desk ≡ z → s.count ≡ k → m ≡ w
    → ◌≡◌ {A = AfterGrant × List ℕ} (s, m) (record { answer = x; lanes = y; desk = z; count = k }, w)
same s m x y z k w p q t c u = rw (sym p, sym q, sym t, sym c, sym u) refl

pub grants_settled : (lanes : Lanes) (desk : Desk) (clock : ℕ) (room : List ℕ)
    → Settled {A = AfterGrant × List ℕ} (λ o. Grants lanes desk clock room o.0 o.1)
grants_settled lanes desk clock room = by (grant_refusal lanes (length room))
  where
    by : (o : Option Fault) → Settled {A = AfterGrant × List ℕ} (λ a. GrantsBy o lanes desk clock room a.0 a.1)
    by (some f) =
        record {
          outcome = (record { answer = Err f; lanes = lanes; desk = desk; count = 0 }, room);
          is_allowed_lem = ((refl, refl, refl, refl), refl);
          only = λ p a. same p.0 p.1 (Err f) lanes desk 0 room a.0.0 a.0.1 a.0.2 a.0.3 a.1;
        }
    by none =
        let oldest = waiting_at (lane_at lanes (next_place lanes)) 0 in
        let opens = opens_settled desk oldest.asked (data_of oldest) clock room in
        let o : AfterOpen = opens.outcome.0 in
        let answer : Opening → Granting = from_desk oldest.asked.job in
        let next : Opening → Lanes = λ a. served_from lanes (next_place lanes) (lane_at lanes (next_place lanes)) (moves_on a) in
        record {
          outcome = (record { answer = answer o.answer; lanes = next o.answer; desk = o.desk; count = o.count }, opens.outcome.1);
          is_allowed_lem = (o, opens.is_allowed_lem, (refl, refl, refl, refl));
          only = λ p a.
              let is = opens.only (a.0, p.1) a.1 in
              same p.0 p.1 (answer o.answer) (next o.answer) o.desk o.count opens.outcome.1
              (a.2.0 ∙ ap (λ (x : AfterOpen × List ℕ). answer x.0.answer) is)
              (a.2.1 ∙ ap (λ (x : AfterOpen × List ℕ). next x.0.answer) is)
              (a.2.2 ∙ ap (λ (x : AfterOpen × List ℕ). x.0.desk) is)
              (a.2.3 ∙ ap (λ (x : AfterOpen × List ℕ). x.0.count) is)
              (ap (λ (x : AfterOpen × List ℕ). x.1) is);
        }

-- What waits in the lanes is what the callers saw join, less what was opened, taken out and withdrawn.
-- Assumes nothing.
use Rattle.std.specs.Prelude.{Ok, Err}
use mathlib.Core.Path.{◌≡◌, refl, sym, ap, subst, ◌∙◌}
use mathlib.Core.Bool.{Bool, true, false, cond}
use mathlib.Core.List.{List, [], ◌∷◌, ◌++◌}
use mathlib.Core.Logic.{◌≢◌}
use mathlib.Core.Option.{Option, some, none}
use Prim.Native.Nat.{ℕ, zero, suc, ◌+◌, ◌-◌, ◌≤◌, ◌<◌}
use native.Mathlib.Numerals.{add-one}
use native.Mathlib.Omega.{arith}
use borrow.Author.Tests.{eq-eqb, ne_eqb}
use lib.Dec.{eqb}
use lib.ListN.{length, get_or, take, length-set}
use lib.Seq.{take-suc-set, length-take-le}
use Rattle.first.proofs.Laws.{first-same, first-none}
use Rattle.rows.proofs.Laws.{told_false}
use Rattle.desk.specs.Answers.{Opening}
use Rattle.request.specs.declared.Request.{Request}
use Rattle.lanes.proofs.Ranking.{decides_theirs, own_is, is_own}
use Rattle.lanes.specs.Lanes.{no_request, fresh_lanes, Empty, Belongs, is_theirs, lane_at, waiting_at, waiting_with, data_of, queue_in, with_last, without, own_lane}
use Rattle.lanes.specs.Join.{join_refusal, join_lanes, lane_for}
use Rattle.lanes.specs.Grant.{grant_refusal, next_place, takes_out, moves_on, served_from}
use Rattle.lanes.specs.Withdraw.{withdraw_refusal, withdraw_lanes}
use Rattle.lanes.specs.declared.Fault.{Fault}
use Rattle.lanes.specs.declared.Lane.{Lane}
use Rattle.lanes.specs.declared.Lanes.{Lanes}
use Rattle.lanes.specs.declared.Waiting.{Waiting}
use Rattle.turns.specs.Turns.{Hall, Call, joins, grants, withdraws, at_desk, after, granted, oldest, opened_with, Orderly}
use Rattle.turns.specs.Queue.{Event, joined, opened, taken_out, withdrew, nothing, of_join, of_opening, of_grant, of_withdrawal, event_of, less, waiting_of, Kept, Oldest, Right}
use Rattle.turns.proofs.Arrays.{same_or_not, put, put_there, put_other}
use Rattle.turns.proofs.Orderly.{lane_in_order, fit_to_join, fit_to_grant, fit_to_withdraw, lane_of_job, no_other_lane, first_job, same_job, fresh_lane}

-- ---- a lane's queue, one longer and one shorter

pub longer : (lane : Lane) (newest : Waiting) → lane.size < length lane.waiting → queue_in (with_last lane newest) ≡ queue_in lane ++ (newest ∷ [])
longer lane newest h = rw (add-one lane.size) (take-suc-set lane.waiting lane.size newest h)

pub record Four (ws : List Waiting) : Type 0 where
  pub a : Waiting
  pub b : Waiting
  pub c : Waiting
  pub d : Waiting
  pub are : ws ≡ a ∷ b ∷ c ∷ d ∷ []

four_of : (ws : List Waiting) → length ws ≡ 4 → Four ws
four_of [] e = absurd (omega arith)
four_of (a ∷ []) e = absurd (omega arith)
four_of (a ∷ b ∷ []) e = absurd (omega arith)
four_of (a ∷ b ∷ c ∷ []) e = absurd (omega arith)
four_of (a ∷ b ∷ c ∷ d ∷ []) e = record { a = a; b = b; c = c; d = d; are = refl }
four_of (a ∷ b ∷ c ∷ d ∷ x ∷ ws) e = absurd (omega arith)

abbrev lane_of : ℕ → Waiting → Waiting → Waiting → Waiting → Lane
lane_of n a b c d = record { size = n; waiting = a ∷ b ∷ c ∷ d ∷ [] }

shorter_by : (n gone : ℕ) (a b c d : Waiting) → gone < n → n ≤ 4 → queue_in (without (lane_of n a b c d) gone) ≡ less gone (queue_in (lane_of n a b c d))
unfolding less
shorter_by zero gone a b c d h l = absurd (omega arith)
shorter_by (suc zero) zero a b c d h l = refl
shorter_by (suc zero) (suc gone) a b c d h l = absurd (omega arith)
shorter_by (suc (suc zero)) zero a b c d h l = refl
shorter_by (suc (suc zero)) (suc zero) a b c d h l = refl
shorter_by (suc (suc zero)) (suc (suc gone)) a b c d h l = absurd (omega arith)
shorter_by (suc (suc (suc zero))) zero a b c d h l = refl
shorter_by (suc (suc (suc zero))) (suc zero) a b c d h l = refl
shorter_by (suc (suc (suc zero))) (suc (suc zero)) a b c d h l = refl
shorter_by (suc (suc (suc zero))) (suc (suc (suc gone))) a b c d h l = absurd (omega arith)
shorter_by (suc (suc (suc (suc zero)))) zero a b c d h l = refl
shorter_by (suc (suc (suc (suc zero)))) (suc zero) a b c d h l = refl
shorter_by (suc (suc (suc (suc zero)))) (suc (suc zero)) a b c d h l = refl
shorter_by (suc (suc (suc (suc zero)))) (suc (suc (suc zero))) a b c d h l = refl
shorter_by (suc (suc (suc (suc zero)))) (suc (suc (suc (suc gone)))) a b c d h l = absurd (omega arith)
shorter_by (suc (suc (suc (suc (suc n))))) gone a b c d h l = absurd (omega arith)

pub shorter : (lane : Lane) (gone : ℕ) → length lane.waiting ≡ 4 → lane.size ≤ 4 → gone < lane.size → queue_in (without lane gone) ≡ less gone (queue_in lane)
shorter lane gone four few h =
    let f = four_of lane.waiting four in
    let is : lane ≡ lane_of lane.size f.a f.b f.c f.d = ap (λ (ws : List Waiting). record { size = lane.size; waiting = ws }) f.are in
    subst (λ (l : Lane). queue_in (without l gone) ≡ less gone (queue_in l)) (sym is) (shorter_by lane.size gone f.a f.b f.c f.d h few)

pub less_by_one : (i : ℕ) (ws : List Waiting) → i < length ws → suc (length (less i ws)) ≡ length ws
unfolding less
less_by_one i [] h = absurd (omega arith)
less_by_one zero (w ∷ ws) h = refl
less_by_one (suc i) (w ∷ ws) h = ap suc (less_by_one i ws (omega arith))

-- ---- what waits of a job's

abbrev queue_for : Lanes → ℕ → List Waiting
queue_for lanes job = queue_in (lane_at lanes (own_lane lanes job))

get_d_out : {A : Type 0} (l : List A) (i : ℕ) (d : A) → length l ≤ i → get_or l i d ≡ d
get_d_out [] i d h = refl
get_d_out (x ∷ xs) zero d h = absurd (omega arith)
get_d_out (x ∷ xs) (suc i) d h = get_d_out xs i d (omega arith)

no_lane_no_queue : (lanes : Lanes) (job : ℕ) → length lanes.lanes ≡ 16 → ((k : ℕ) → k < 16 → Belongs (lane_at lanes k) job → ⊥) → queue_for lanes job ≡ []
unfolding own_lane
no_lane_no_queue lanes job sixteen none_of =
    let own : own_lane lanes job ≡ 16 = first-none (λ k. is_theirs (lane_at lanes k) job) 16 (λ k h. told_false (decides_theirs (lane_at lanes k) job) (none_of k h)) in
    ap (λ (k : ℕ). queue_in (lane_at lanes k)) own ∙ ap queue_in (get_d_out lanes.lanes 16 _ (omega (arith, sixteen)))

-- a lane that is the job's or empty, where no other is the job's, holds what waits of it
queue_at : (lanes : Lanes) (job k : ℕ) → length lanes.lanes ≡ 16 → k < 16 → ((Empty (lane_at lanes k) → ⊥) → (waiting_at (lane_at lanes k) 0).asked.job ≡ job)
    → ((m : ℕ) → m < 16 → m ≢ k → Belongs (lane_at lanes m) job → ⊥) → queue_for lanes job ≡ queue_in (lane_at lanes k)
queue_at lanes job k sixteen h mine alone = elim (same_or_not (lane_at lanes k).size 0) [
  | yes empty ↦
      no_lane_no_queue lanes job sixteen (λ m l b. elim (same_or_not m k) [
        | yes e ↦ (subst (λ (x : ℕ). Belongs (lane_at lanes x) job) e b).0 empty
        | no n ↦ alone m l n b
      ])
      ∙ sym (ap (λ (n : ℕ). take n (lane_at lanes k).waiting) empty)
  | no holds ↦
      ap (λ (x : ℕ). queue_in (lane_at lanes x))
      (is_own lanes job k (record { within = h; theirs = (holds, mine holds); lowest = λ m l. alone m (omega arith) (λ e. omega (arith, e, l)) }))
]

-- a lane that is not the job's, before and after, changes nothing for it
queue_stays : (lanes : Lanes) (last k : ℕ) (lane : Lane) (job : ℕ) → length lanes.lanes ≡ 16 → k < 16 → (Belongs (lane_at lanes k) job → ⊥) → (Belongs lane job → ⊥)
    → queue_for (put lanes last k lane) job ≡ queue_for lanes job
unfolding own_lane
queue_stays lanes last k lane job sixteen h was is =
    let there = put_there lanes last k lane (omega (arith, sixteen)) in
    let own : own_lane (put lanes last k lane) job ≡ own_lane lanes job =
    first-same (λ m. is_theirs (lane_at (put lanes last k lane) m) job) (λ m. is_theirs (lane_at lanes m) job) 16 (λ m l. elim (same_or_not m k) [
      | yes e ↦
          ap (λ (x : ℕ). is_theirs (lane_at (put lanes last k lane) x) job) e
          ∙ (ap (λ (x : Lane). is_theirs x job) there ∙ (told_false (decides_theirs lane job) is
          ∙ (sym (told_false (decides_theirs (lane_at lanes k) job) was) ∙ ap (λ (x : ℕ). is_theirs (lane_at lanes x) job) (sym e))))
      | no n ↦ ap (λ (x : Lane). is_theirs x job) (put_other lanes last k lane m n)
    ]) in
    ap (λ (x : ℕ). queue_in (lane_at (put lanes last k lane) x)) own
    ∙ elim (same_or_not (own_lane lanes job) k) [
      | yes e ↦ absurd (was (subst (λ (x : ℕ). Belongs (lane_at lanes x) job) e (own_is lanes job (omega (arith, e, h))).theirs))
      | no n ↦ ap queue_in (put_other lanes last k lane (own_lane lanes job) n)
    ]

-- a lane of the job's became another one of the job's, or empty
module _ (lanes : Lanes) (o : Orderly lanes) (last k : ℕ) (lane : Lane) (job : ℕ) (h : k < 16)
    (was : (Empty (lane_at lanes k) → ⊥) → (waiting_at (lane_at lanes k) 0).asked.job ≡ job)
    (is : (Empty lane → ⊥) → (waiting_at lane 0).asked.job ≡ job)
    (alone : (m : ℕ) → m < 16 → m ≢ k → Belongs (lane_at lanes m) job → ⊥) where
  before_put : queue_for lanes job ≡ queue_in (lane_at lanes k)
  before_put = queue_at lanes job k o.sixteen h was alone

  after_put : queue_for (put lanes last k lane) job ≡ queue_in lane
  after_put =
      let there = put_there lanes last k lane (omega (arith, o.sixteen)) in
      queue_at (put lanes last k lane) job k (length-set lanes.lanes k lane ∙ o.sixteen) h
      (λ holds. ap (λ (l : Lane). (waiting_at l 0).asked.job) there ∙ is (subst (λ (l : Lane). Empty l → ⊥) there holds))
      (λ m l n b. alone m l n (subst (λ (x : Lane). Belongs x job) (put_other lanes last k lane m n) b))
      ∙ ap queue_in there

  others_stay : (j : ℕ) → j ≢ job → queue_for (put lanes last k lane) j ≡ queue_for lanes j
  others_stay j n =
      queue_stays lanes last k lane j o.sixteen h (λ b. n (sym b.1 ∙ was b.0)) (λ b. n (sym b.1 ∙ is b.0))

-- ---- by each call: what is kept, and that it is right

abbrev Goes : Lanes → List Event → Event → Lanes → Type 0
Goes lanes past e lanes' = (Kept lanes past → Kept lanes' (e ∷ past)) × (Kept lanes past → Right past → Right (e ∷ past))

same_queue : (lanes lanes' : Lanes) (past : List Event) → lanes' ≡ lanes → Goes lanes past nothing lanes'
unfolding Kept waiting_of Right
same_queue lanes lanes' past e = (λ kept job. ap (λ (l : Lanes). queue_for l job) e ∙ kept job, λ kept right. right)

join_goes : (lanes : Lanes) (past : List Event) (asked : Request) (bytes : List ℕ) → Orderly lanes → join_refusal lanes asked bytes ≡ none
    → Goes lanes past (joined asked bytes) (put lanes lanes.last (lane_for lanes asked.job) (with_last (lane_at lanes (lane_for lanes asked.job)) (waiting_with asked bytes)))
unfolding Kept waiting_of Right
join_goes lanes past asked bytes o e =
    let fit = fit_to_join lanes asked bytes e in
    let k : ℕ = lane_for lanes asked.job in
    let lane : Lane = lane_at lanes k in
    let new : Lane = with_last lane (waiting_with asked bytes) in
    let was = lane_of_job o asked.job fit.1 in
    let in_order = lane_in_order o k fit.1 in
    let is : (Empty new → ⊥) → (waiting_at new 0).asked.job ≡ asked.job = (λ holds. first_job lane asked bytes fit.2 in_order was) in
    let alone : (m : ℕ) → m < 16 → m ≢ k → Belongs (lane_at lanes m) asked.job → ⊥ = (λ m l n b. no_other_lane o asked.job m l n b.0 b.1) in (
      λ kept job. elim (same_or_not asked.job job) [
        | yes j ↦ subst (λ (x : ℕ). queue_for (put lanes lanes.last k new) x ≡ cond (eqb asked.job x) (waiting_of past x ++ (waiting_with asked bytes ∷ [])) (waiting_of past x)) j
            (rw (eq-eqb asked.job asked.job refl)
            (after_put lanes o lanes.last k new asked.job fit.1 was is alone
            ∙ (longer lane (waiting_with asked bytes) (omega (arith, fit.2, in_order.four))
            ∙ ap (λ (q : List Waiting). q ++ (waiting_with asked bytes ∷ [])) (sym (before_put lanes o lanes.last k new asked.job fit.1 was is alone) ∙ kept asked.job))))
        | no n ↦ rw (ne_eqb asked.job job n) (others_stay lanes o lanes.last k new asked.job fit.1 was is alone job (λ z. n (sym z)) ∙ kept job)
      ],
      λ kept right. (fit.0, right),
    )

-- a lane of one job, with one less
module _ (lanes : Lanes) (past : List Event) (o : Orderly lanes) (last k gone : ℕ) (h : k < 16) (some_one : 1 ≤ (lane_at lanes k).size) (there : gone < (lane_at lanes k).size) where
  less_goes : Kept lanes past → (job : ℕ)
      → queue_for (put lanes last k (without (lane_at lanes k) gone)) job
      ≡ cond (eqb (waiting_at (lane_at lanes k) 0).asked.job job) (less gone (waiting_of past job)) (waiting_of past job)
  unfolding Kept
  less_goes kept job =
      let lane : Lane = lane_at lanes k in
      let owner : ℕ = (waiting_at (lane_at lanes k) 0).asked.job in
      let in_order = lane_in_order o k h in
      let holds : Empty (lane_at lanes k) → ⊥ = (λ e. omega (arith, e, some_one)) in
      let was : (Empty (lane_at lanes k) → ⊥) → (waiting_at (lane_at lanes k) 0).asked.job ≡ (waiting_at (lane_at lanes k) 0).asked.job = (λ x. refl) in
      let is : (Empty (without (lane_at lanes k) gone) → ⊥) → (waiting_at (without (lane_at lanes k) gone) 0).asked.job ≡ (waiting_at (lane_at lanes k) 0).asked.job =
      same_job (lane_at lanes k) gone in_order some_one in
      let alone : (m : ℕ) → m < 16 → m ≢ k → Belongs (lane_at lanes m) (waiting_at (lane_at lanes k) 0).asked.job → ⊥ =
      (λ m l n b. n (o.one_lane m k l h b.0 holds b.1)) in
      elim (same_or_not (waiting_at (lane_at lanes k) 0).asked.job job) [
        | yes j ↦
            subst (λ (x : ℕ). queue_for (put lanes last k (without (lane_at lanes k) gone)) x
            ≡ cond (eqb (waiting_at (lane_at lanes k) 0).asked.job x) (less gone (waiting_of past x)) (waiting_of past x)) j
            (rw (eq-eqb (waiting_at (lane_at lanes k) 0).asked.job (waiting_at (lane_at lanes k) 0).asked.job refl)
            (after_put lanes o last k (without (lane_at lanes k) gone) (waiting_at (lane_at lanes k) 0).asked.job h was is alone
            ∙ (shorter (lane_at lanes k) gone in_order.four in_order.at_most there
            ∙ ap (less gone) (sym (before_put lanes o last k (without (lane_at lanes k) gone) (waiting_at (lane_at lanes k) 0).asked.job h was is alone)
            ∙ kept (waiting_at (lane_at lanes k) 0).asked.job))))
        | no n ↦
            rw (ne_eqb (waiting_at (lane_at lanes k) 0).asked.job job n)
            (others_stay lanes o last k (without (lane_at lanes k) gone) (waiting_at (lane_at lanes k) 0).asked.job h was is alone job (λ z. n (sym z)) ∙ kept job)
      ]

  -- what waits of that job
  holds_queue : Kept lanes past → waiting_of past (waiting_at (lane_at lanes k) 0).asked.job ≡ queue_in (lane_at lanes k)
  unfolding Kept
  holds_queue kept =
      let holds : Empty (lane_at lanes k) → ⊥ = (λ e. omega (arith, e, some_one)) in
      sym (kept (waiting_at (lane_at lanes k) 0).asked.job)
      ∙ queue_at lanes (waiting_at (lane_at lanes k) 0).asked.job k o.sixteen h (λ x. refl) (λ m l n b. n (o.one_lane m k l h b.0 holds b.1))

pub first_of_lem : (lane : Lane) → 1 ≤ lane.size → length lane.waiting ≡ 4 → (later : List Waiting) × (queue_in lane ≡ waiting_at lane 0 ∷ later)
first_of_lem lane h four =
    let f = four_of lane.waiting four in
    go lane.size lane.waiting h (f.b ∷ f.c ∷ f.d ∷ []) f.a f.are
  where
    go : (n : ℕ) (ws : List Waiting) → 1 ≤ n → (rest : List Waiting) (a : Waiting) → ws ≡ a ∷ rest
        → (later : List Waiting) × (take n ws ≡ get_or ws 0 (record { asked = no_request; size = 0; bytes = [] }) ∷ later)
    go zero ws h rest a e = absurd (omega arith)
    go (suc n) ws h rest a e = (take n rest, rw e refl)

-- the oldest of a lane left it: by what waits then, and that it was the oldest
module _ (lanes : Lanes) (past : List Event) (o : Orderly lanes) (k : ℕ) (h : k < 16) (some_one : 1 ≤ (lane_at lanes k).size) where
  was_first : Kept lanes past
      → Oldest (waiting_of past (waiting_at (lane_at lanes k) 0).asked.job) (waiting_at (lane_at lanes k) 0).asked (data_of (waiting_at (lane_at lanes k) 0))
  was_first kept =
      let first = first_of_lem (lane_at lanes k) some_one (o.four k h) in
      record {
        later = first.0;
        was_oldest = holds_queue lanes past o k k 0 h some_one (omega arith) kept ∙ (first.1 ∙ ap (λ (w : Waiting). w ∷ first.0) (o.as_laid k 0 h (omega arith)));
      }

  opened_goes : (address clock : ℕ)
      → Goes lanes past (opened (waiting_at (lane_at lanes k) 0).asked (data_of (waiting_at (lane_at lanes k) 0)) address clock)
      (put lanes k k (without (lane_at lanes k) 0))
  unfolding Kept waiting_of Right
  opened_goes address clock =
      (λ kept job. less_goes lanes past o k k 0 h some_one (omega arith) kept job, λ kept right. (was_first kept, right))

  taken_goes : Goes lanes past (taken_out (waiting_at (lane_at lanes k) 0).asked (data_of (waiting_at (lane_at lanes k) 0))) (put lanes k k (without (lane_at lanes k) 0))
  unfolding Kept waiting_of Right
  taken_goes = (λ kept job. less_goes lanes past o k k 0 h some_one (omega arith) kept job, λ kept right. (was_first kept, right))

grant_goes : (hall : Hall) (past : List Event) (clock : ℕ) (room : List ℕ) → Orderly hall.lanes → grant_refusal hall.lanes (length room) ≡ none → (a : Opening)
    → Goes hall.lanes past (of_opening a (oldest hall.lanes) clock)
    (served_from hall.lanes (next_place hall.lanes) (lane_at hall.lanes (next_place hall.lanes)) (moves_on a))
grant_goes hall past clock room o e (Ok told) =
    let fit = fit_to_grant hall.lanes (length room) e in
    opened_goes hall.lanes past o (next_place hall.lanes) fit.2 fit.3 told.address clock
grant_goes hall past clock room o e (Err f) = by (takes_out f)
  where
    by : (out : Bool)
        → Goes hall.lanes past (cond out (taken_out (oldest hall.lanes).asked (data_of (oldest hall.lanes))) nothing)
        (served_from hall.lanes (next_place hall.lanes) (lane_at hall.lanes (next_place hall.lanes)) out)
    by true =
        let fit = fit_to_grant hall.lanes (length room) e in
        taken_goes hall.lanes past o (next_place hall.lanes) fit.2 fit.3
    by false = same_queue hall.lanes hall.lanes past refl

waits_there : (lanes : Lanes) (past : List Event) (job at : ℕ) → Orderly lanes → own_lane lanes job < 16 → (some_one : 1 ≤ (lane_at lanes (own_lane lanes job)).size)
    → at - 1 < (lane_at lanes (own_lane lanes job)).size → at ≤ (lane_at lanes (own_lane lanes job)).size
    → (waiting_at (lane_at lanes (own_lane lanes job)) 0).asked.job ≡ job → Kept lanes past → at ≤ length (waiting_of past job)
waits_there lanes past job at o near some_one there within theirs kept =
    let queue : waiting_of past job ≡ queue_in (lane_at lanes (own_lane lanes job)) =
    subst (λ (x : ℕ). waiting_of past x ≡ queue_in (lane_at lanes (own_lane lanes job))) theirs
    (holds_queue lanes past o lanes.last (own_lane lanes job) (at - 1) near some_one there kept) in
    let long : length (queue_in (lane_at lanes (own_lane lanes job))) ≡ (lane_at lanes (own_lane lanes job)).size =
    length-take-le (lane_at lanes (own_lane lanes job)).size (lane_at lanes (own_lane lanes job)).waiting
    (omega (arith, o.four (own_lane lanes job) near, o.at_most (own_lane lanes job) near)) in
    omega (arith, within, ap length queue, long)

withdraw_goes : (lanes : Lanes) (past : List Event) (job at : ℕ) → Orderly lanes → withdraw_refusal lanes job at ≡ none
    → Goes lanes past (withdrew job at) (put lanes lanes.last (own_lane lanes job) (without (lane_at lanes (own_lane lanes job)) (at - 1)))
unfolding Kept waiting_of Right
withdraw_goes lanes past job at o e =
    let fit = fit_to_withdraw lanes job at e in
    let k : ℕ = own_lane lanes job in
    let theirs : (waiting_at (lane_at lanes (own_lane lanes job)) 0).asked.job ≡ job = (own_is lanes job fit.0).theirs.1 in
    let some_one : 1 ≤ (lane_at lanes (own_lane lanes job)).size = omega (arith, fit.1, fit.2) in
    let there : at - 1 < (lane_at lanes (own_lane lanes job)).size = omega (arith, fit.1, fit.2) in (
      λ kept j. subst (λ (x : ℕ). queue_for (put lanes lanes.last (own_lane lanes job) (without (lane_at lanes (own_lane lanes job)) (at - 1))) j
          ≡ cond (eqb x j) (less (at - 1) (waiting_of past j)) (waiting_of past j)) theirs
          (less_goes lanes past o lanes.last (own_lane lanes job) (at - 1) fit.0 some_one there kept j),
      λ kept right. (fit.1, waits_there lanes past job at o fit.0 some_one there fit.2 theirs kept, right),
    )

pub one_goes : (hall : Hall) (past : List Event) (call : Call) → Orderly hall.lanes → Goes hall.lanes past (event_of hall call) (after hall call).lanes
unfolding after event_of
one_goes hall past (joins asked bytes) o = go (join_refusal hall.lanes asked bytes) refl
  where
    go : (x : Option Fault) → join_refusal hall.lanes asked bytes ≡ x
        → Goes hall.lanes past (of_join x asked bytes) (join_lanes x hall.lanes (lane_for hall.lanes asked.job) asked bytes)
    go (some f) e = same_queue hall.lanes hall.lanes past refl
    go none e = join_goes hall.lanes past asked bytes o e
one_goes hall past (grants clock room) o = go (grant_refusal hall.lanes (length room)) refl
  where
    go : (x : Option Fault) → grant_refusal hall.lanes (length room) ≡ x → Goes hall.lanes past (of_grant x hall clock room) (granted x hall clock room).lanes
    go (some f) e = same_queue hall.lanes hall.lanes past refl
    go none e = grant_goes hall past clock room o e (opened_with hall.desk (oldest hall.lanes) clock room)
one_goes hall past (withdraws job at) o = go (withdraw_refusal hall.lanes job at) refl
  where
    go : (x : Option Fault) → withdraw_refusal hall.lanes job at ≡ x
        → Goes hall.lanes past (of_withdrawal x job at) (withdraw_lanes x hall.lanes (own_lane hall.lanes job) at)
    go (some f) e = same_queue hall.lanes hall.lanes past refl
    go none e = withdraw_goes hall.lanes past job at o e
one_goes hall past (at_desk call) o = same_queue hall.lanes hall.lanes past refl

-- nothing waits at first
pub fresh_kept : Kept fresh_lanes []
unfolding Kept waiting_of
fresh_kept job =
    no_lane_no_queue fresh_lanes job refl (λ k h b. b.0 (ap (λ (l : Lane). l.size) (fresh_lane k h)))

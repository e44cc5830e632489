-- What each return of the calls gives, over plain numbers, requests and lanes.
-- Assumes nothing.
use Rattle.desk.specs.Desk.{under}
use Rattle.lanes.specs.Answers.{joining}
use Rattle.std.specs.Prelude.{Ok, Err, Option, Some, None, MatchOption}
use mathlib.Core.Path.{◌≡◌, refl, sym, ap, ap₂, subst, ◌∙◌}
use mathlib.Core.Bool.{Bool, true, false}
use mathlib.Core.List.{List}
use mathlib.Core.Logic.{◌≢◌}
use mathlib.Core.Option.{some, none}
use Prim.Native.Nat.{ℕ, ◌+◌, ◌-◌, ◌%◌, ◌≤◌, ◌<◌}
use native.Mathlib.Decide.{dec_lt}
use native.Mathlib.Omega.{arith}
use borrow.Author.Tests.{lt-ltb, le-ltb, lt-leb, le-leb, eq-eqb, ne_eqb}
use lib.ListN.{length}
use Rattle.first.proofs.Laws.{first-none, first_at}
use Rattle.first.specs.First.{first_place}
use Rattle.rows.proofs.Laws.{clash}
use Rattle.lanes.proofs.Ranking.{for_own, for_empty}
use Rattle.request.specs.Request.{ask_refusal}
use Rattle.request.specs.declared.Fault.{Fault as Asked}
use Rattle.request.specs.declared.Request.{Request}
use Rattle.desk.specs.declared.AfterOpen.{AfterOpen}
use Rattle.desk.specs.declared.Desk.{Desk}
use Rattle.desk.specs.declared.Fault.{Fault as DeskFault}
use Rattle.desk.specs.Answers.{Opening}
use Rattle.lanes.specs.Lanes.{lane_at, waiting_at, waiting_with, with_last, with_lane, without, own_lane, empty_lane, FirstOf16}
use Rattle.lanes.specs.Join.{lane_for, join_refusal, Joins, JoinsAt, NotJoined}
use Rattle.lanes.specs.Grant.{place_after, next_distance, next_place, grant_refusal, takes_out, moves_on, served_from, from_desk, OpensWaiting, Serves, Grants}
use Rattle.lanes.specs.Withdraw.{withdraw_refusal, Withdraws}
use Rattle.lanes.specs.declared.AfterGrant.{AfterGrant}
use Rattle.lanes.specs.declared.AfterJoin.{AfterJoin}
use Rattle.lanes.specs.declared.Fault.TheVariants.{Denied, NoLaneFree, LaneFull, ShortBuffer, NothingWaiting, NoSuchRequest, AtDesk}
use Rattle.lanes.specs.Answers.{Granting}
use Rattle.lanes.specs.declared.Turn.TheVariants.{TakenOut}
use Rattle.lanes.specs.declared.Lane.{Lane}
use Rattle.lanes.specs.declared.Lanes.{Lanes}

-- ---- what is told of a place or distance under 16, or of none

pub told_near : (n k : ℕ) (o : Option ℕ) → o ≡ under 16 n → o ≡ Some k → (k ≡ n) × (k < 16)
unfolding under
told_near n k o is some_one = elim (dec_lt n 16) [
  | yes h ↦ let e : k ≡ n = cc (lt-ltb n 16 h) in (e, rw (sym e) at h)
  | no h ↦ clash (cc (le-ltb n 16 (omega arith)))
]

pub told_far : (n : ℕ) (o : Option ℕ) → o ≡ under 16 n → o ≡ None → 16 ≤ n
unfolding under
told_far n o is nothing = elim (dec_lt n 16) [ yes h ↦ clash (cc (lt-ltb n 16 h)) | no h ↦ omega arith ]

-- a search over all 16 lanes, by what was said of each
pub found : (fits : ℕ → Bool) (Said : ℕ → Bool → Type 0) (o : Option ℕ) → FirstOf16 Said o
    → ((b : Bool) (k : ℕ) → k < 16 → Said k b → fits k ≡ b) → o ≡ under 16 (first_place fits 16)
unfolding under FirstOf16
found fits Said (Some n) s tells =
    rw (first_at fits 16 n s.0 (λ i l. tells false i (omega (arith, s.0, l)) (s.1 i l)) (tells true n s.0 s.2), lt-ltb n 16 s.0) refl
found fits Said None s tells = rw (first-none fits 16 (λ i l. tells false i l (s i l))) refl

-- what `find` answers over a range of 16
pub of_16 : (Said : ℕ → Bool → Type 0) (o : Option ℕ)
    → MatchOption o ((k : ℕ) → 0 ≤ k → k < 16 → Said k false) (λ i. (0 ≤ i) × (i < 16) × Said i true × ((k : ℕ) → 0 ≤ k → k < i → Said k false))
    → FirstOf16 Said o
unfolding FirstOf16
of_16 Said None m = λ k l. m k (omega arith) l
of_16 Said (Some n) m = (m.1, λ k l. m.3 k (omega arith) l, m.2)

-- one from the first lane on
pub whole : (fits : ℕ → Bool) (k : ℕ) → k < 16 → fits k ≡ fits ((0 + k) % 16)
whole fits k l = let e : k ≡ (0 + k) % 16 = omega arith in ap fits e

-- ---- joining

-- the job's own lane, or else an empty one
pub own_or_empty : (lanes : Lanes) (job : ℕ) (o r : Option ℕ) (Else : Type 0) → o ≡ under 16 (own_lane lanes job)
    → (Else → r ≡ under 16 (empty_lane lanes)) → MatchOption o Else (λ x. r ≡ Some x) → r ≡ under 16 (lane_for lanes job)
own_or_empty lanes job None r Else is other m = other m ∙ ap (under 16) (sym (for_empty lanes job (told_far _ None is refl)))
own_or_empty lanes job (Some k) r Else is other m =
    let told = told_near _ k (Some k) is refl in
    m ∙ is ∙ ap (under 16) (sym (for_own lanes job (rw told.0 at told.1)))

pub joined_at : (lanes : Lanes) (place : ℕ) (asked : Request) (bytes : List ℕ) (lane : Lane) (lanes' : Lanes) → place < 16 → lane ≡ lane_at lanes place → lane.size < 4
    → lanes' ≡ with_lane lanes place (with_last lane (waiting_with asked bytes))
    → JoinsAt lanes place asked bytes (record { lanes = lanes'; answer = joining (place + 1) (lane.size + 1) })
joined_at lanes place asked bytes lane lanes' near is few laid =
    rw (lt-leb 16 place near, lt-leb 4 (lane_at lanes place).size (rw is at few))
    (ap (λ (l : Lane). joining (place + 1) (l.size + 1)) is, laid ∙ ap (λ (l : Lane). with_lane lanes place (with_last l (waiting_with asked bytes))) is)

pub full_at : (lanes : Lanes) (place : ℕ) (asked : Request) (bytes : List ℕ) (lane : Lane) (r : AfterJoin) → place < 16 → lane ≡ lane_at lanes place → 4 ≤ lane.size
    → NotJoined LaneFull lanes r → JoinsAt lanes place asked bytes r
full_at lanes place asked bytes lane r near is full refused = rw (lt-leb 16 place near, ← is, le-leb 4 lane.size full) refused

pub join_denied : (lanes : Lanes) (asked : Request) (bytes : List ℕ) (f : Asked) → ask_refusal asked bytes ≡ some f → join_refusal lanes asked bytes ≡ some (Denied f)
unfolding join_refusal
join_denied lanes asked bytes f e = rw e

pub join_nowhere : (lanes : Lanes) (asked : Request) (bytes : List ℕ) → ask_refusal asked bytes ≡ none → 16 ≤ lane_for lanes asked.job
    → join_refusal lanes asked bytes ≡ some NoLaneFree
unfolding join_refusal
join_nowhere lanes asked bytes e far = rw (e, le-leb 16 (lane_for lanes asked.job) far)

pub join_allowed : (lanes : Lanes) (asked : Request) (bytes : List ℕ) (r : AfterJoin) (place : ℕ) → ask_refusal asked bytes ≡ none → place ≡ lane_for lanes asked.job
    → JoinsAt lanes place asked bytes r → Joins lanes asked bytes r
unfolding join_refusal
join_allowed lanes asked bytes r place e is j = rw e (rw is at j)

-- ---- granting

pub grant_short : (lanes : Lanes) (room : ℕ) → room < 494 → grant_refusal lanes room ≡ some ShortBuffer
unfolding grant_refusal
grant_short lanes room h = rw (lt-ltb room 494 h)

pub grant_nothing : (lanes : Lanes) (room d : ℕ) → 494 ≤ room → d ≡ next_distance lanes → 16 ≤ d → grant_refusal lanes room ≡ some NothingWaiting
unfolding grant_refusal
grant_nothing lanes room d h is far = rw (le-ltb room 494 h, ← is, le-leb 16 d far)

pub grant_goes : (lanes : Lanes) (room d : ℕ) → 494 ≤ room → d ≡ next_distance lanes → d < 16
    → (grant_refusal lanes room ≡ none) × (next_place lanes ≡ place_after lanes.last d)
unfolding grant_refusal next_place
grant_goes lanes room d h is near = rw (le-ltb room 494 h, ← is, lt-leb 16 d near) (refl, refl)

pub granted_at : (lanes : Lanes) (desk : Desk) (clock : ℕ) (room room' : List ℕ) (r : AfterGrant) (size d : ℕ)
    → 494 ≤ size → d ≡ next_distance lanes → d < 16 → Serves lanes desk (place_after lanes.last d) clock room r room'
    → size ≡ length room → Grants lanes desk clock room r room'
granted_at lanes desk clock room room' r size d h is near s same =
    let goes = grant_goes lanes (length room) d (rw same at h) is near in
    rw goes.0 (subst (λ (k : ℕ). Serves lanes desk k clock room r room') (sym goes.1) s)

pub served_at : (lanes : Lanes) (desk : Desk) (place clock : ℕ) (room room' : List ℕ) (lane : Lane) (o : AfterOpen) (moves : Bool) (lanes' : Lanes) (answer : Granting)
    → lane ≡ lane_at lanes place → OpensWaiting desk (waiting_at lane 0) clock room o room' → moves ≡ moves_on o.answer
    → lanes' ≡ served_from lanes place lane moves → answer ≡ from_desk (waiting_at lane 0).asked.job o.answer
    → Serves lanes desk place clock room (record { lanes = lanes'; desk = o.desk; answer = answer; count = o.count }) room'
served_at lanes desk place clock room room' lane o moves lanes' answer is opens m next told = (
  o,
  subst (λ (l : Lane). OpensWaiting desk (waiting_at l 0) clock room o room') is opens,
  (
    told ∙ ap (λ (l : Lane). from_desk (waiting_at l 0).asked.job o.answer) is,
    next ∙ ap₂ (λ (l : Lane) (b : Bool). served_from lanes place l b) is m,
    refl,
    refl,
  ),
)

-- a refusal at the desk, by whether it takes the request out
pub told_out : (job : ℕ) (a : Opening) (f : DeskFault) (out : Bool) → a ≡ Err f → out ≡ takes_out f → out ≡ true → Ok (TakenOut job) ≡ from_desk job a
told_out job a f out is by taken = rw (is, ← by, taken)

pub told_on : (job : ℕ) (a : Opening) (f : DeskFault) (out : Bool) → a ≡ Err f → out ≡ takes_out f → out ≡ false → Err (AtDesk f) ≡ from_desk job a
told_on job a f out is by left = rw (is, ← by, left)

-- ---- withdrawing

pub no_lane : (lanes : Lanes) (job at place : ℕ) → place ≡ own_lane lanes job → 16 ≤ place → withdraw_refusal lanes job at ≡ some NoSuchRequest
unfolding withdraw_refusal
no_lane lanes job at place is far = rw (← is, le-leb 16 place far)

module _ (lanes : Lanes) (job at place : ℕ) (lane : Lane) (is : place ≡ own_lane lanes job) (near : place < 16) (there : lane ≡ lane_at lanes place) where
  pub no_first : at ≡ 0 → withdraw_refusal lanes job at ≡ some NoSuchRequest
  unfolding withdraw_refusal
  no_first zeroth = rw (← is, lt-leb 16 place near, eq-eqb at 0 zeroth)

  pub no_more : at ≢ 0 → lane.size < at → withdraw_refusal lanes job at ≡ some NoSuchRequest
  unfolding withdraw_refusal
  no_more some_one over = rw (← is, lt-leb 16 place near, ne_eqb at 0 some_one, ← there, lt-ltb lane.size at over)

  pub withdrawn_at_lem : (lanes' : Lanes) → at ≢ 0 → at ≤ lane.size → lanes' ≡ with_lane lanes place (without lane (at - 1))
      → Withdraws lanes job at (record { lanes = lanes'; answer = Ok tt })
  unfolding withdraw_refusal
  withdrawn_at_lem lanes' some_one within laid =
      rw (← is, lt-leb 16 place near, ne_eqb at 0 some_one, le-ltb (lane_at lanes place).size at (rw there at within))
      (refl, laid ∙ ap (λ (l : Lane). with_lane lanes place (without l (at - 1))) there)

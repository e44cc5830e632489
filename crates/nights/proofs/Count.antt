-- The turn is fair, counted: between two openings on one address lie at least as many openings as there were other addresses that are free
-- at whatever clock.
-- Assumes nothing.
use mathlib.Core.Path.{◌≡◌, refl, sym, ◌∙◌}
use mathlib.Core.Bool.{Bool, true, false, cond, not, ◌&&◌, true≢false}
use mathlib.Core.List.{List, [], ◌∷◌, ◌++◌}
use mathlib.Core.Logic.{◌≢◌, ◌↔◌, inl, inr, ⊎_elim}
use Prim.Native.Nat.{ℕ, zero, suc, ◌+◌, ◌≤◌, ◌<◌}
use native.Mathlib.Omega.{arith}
use borrow.Author.Tests.{eqb-true, ne_eqb}
use lib.Dec.{eqb}
use Rattle.rows.proofs.Laws.{Decides, decides_eq, decides_not, decides_and, decides_set, told_true}
use Rattle.desk.specs.Open.{given_place}
use Rattle.marks.specs.Marks.{is_marked}
use Rattle.desk.specs.Desk.{fresh_desk, standing_from, ticket_at}
use Rattle.ticket.proofs.Laws.{decides_off}
use Rattle.ticket.specs.Due.{age}
use Rattle.ticket.specs.Rest.{Free}
use Rattle.ticket.specs.declared.Ticket.{Ticket}
use Rattle.desk.specs.declared.Desk.{Desk}
use Rattle.nights.proofs.Fair.{Sweep, one_place, opens_or_stays, free_before_again}
use Rattle.nights.proofs.Plainly.{counted_one}
use Rattle.nights.specs.Night.{Call, after, event_of, after_all}
use Rattle.nights.specs.Round.{Gives, Among, Each, GivenIn, OpensWhile, one_opening, openings_in, count_of, is_clear, others_free}

-- ---- counting

none_fit : (fits : ℕ → Bool) (n : ℕ) → ((q : ℕ) → q < n → fits q ≡ true → ⊥) → count_of fits n ≡ 0
unfolding count_of
none_fit fits zero never = refl
none_fit fits (suc n) never = go (fits n) refl (none_fit fits n (λ q h. never q (omega arith)))
  where
    go : (t : Bool) → fits n ≡ t → count_of fits n ≡ 0 → cond t 1 0 + count_of fits n ≡ 0
    go true e later = absurd (never n (omega arith) e)
    go false e later = omega arith

-- all that fit but one
abbrev but : (ℕ → Bool) → ℕ → ℕ → Bool
but fits one q = fits q && not (eqb q one)

-- below that one nothing is left out
same_below : (fits : ℕ → Bool) (one n : ℕ) → n ≤ one → count_of fits n ≡ count_of (but fits one) n
unfolding count_of
same_below fits one zero h = refl
same_below fits one (suc n) h = rw (ne_eqb n one (λ e. omega arith)) (go (fits n) (same_below fits one n (omega arith)))
  where
    go : (t : Bool) → count_of fits n ≡ count_of (but fits one) n → cond t 1 0 + count_of fits n ≡ cond (t && true) 1 0 + count_of (but fits one) n
    go true e = rw e
    go false e = rw e

-- one less is at most one fewer
one_fewer : (fits : ℕ → Bool) (one n : ℕ) → count_of fits n ≤ 1 + count_of (but fits one) n
unfolding count_of
one_fewer fits one zero = omega arith
one_fewer fits one (suc n) = go (fits n) (eqb n one) refl (one_fewer fits one n)
  where
    go : (t u : Bool) → eqb n one ≡ u → count_of fits n ≤ 1 + count_of (but fits one) n
        → cond t 1 0 + count_of fits n ≤ 1 + (cond (t && not u) 1 0 + count_of (but fits one) n)
    go true true e h = let below : count_of fits n ≡ count_of (but fits one) n = same_below fits one n (omega (arith, eqb-true n one e)) in omega arith
    go true false e h = omega arith
    go false u e h = omega arith

-- ---- openings

-- each opening gives one place, so as many places as are given need as many openings
given_count : (calls : List Call) (desk : Desk) (fits : ℕ → Bool) → ((q : ℕ) → q < 95 → fits q ≡ true → GivenIn desk calls q)
    → count_of fits 95 ≤ openings_in desk calls
unfolding Among openings_in
given_count [] desk fits all = let e : count_of fits 95 ≡ 0 = none_fit fits 95 all in omega arith
given_count (call ∷ calls) desk fits all =
    ⊎_elim
    (λ o. opening o.0 o.1 (given_count calls (after desk call) (but fits (given_place desk o.0)) (rest o.0 o.1)))
    (λ stays.
    let h : count_of fits 95 ≤ openings_in (after desk call) calls =
    given_count calls (after desk call) fits (λ q h fit. ⊎_elim (λ g. absurd (stays.gives_none q g)) (λ later. later) (all q h fit)) in
    omega arith)
    (opens_or_stays desk call)
  where
    -- an opening gives one place, and the others are still to be given
    rest : (clock : ℕ) → Sweep desk call clock → (q : ℕ) → q < 95 → but fits (given_place desk clock) q ≡ true → GivenIn (after desk call) calls q
    rest clock o q h fit =
        let both = (decides_and (decides_set (fits q)) (decides_not (decides_eq q (given_place desk clock)))).so fit in
        ⊎_elim (λ g. absurd (both.1 (one_place desk call q (given_place desk clock) g (clock, o.gives)))) (λ later. later) (all q h both.0)

    opening : (clock : ℕ) → Sweep desk call clock → count_of (but fits (given_place desk clock)) 95 ≤ openings_in (after desk call) calls
        → count_of fits 95 ≤ one_opening (event_of desk call) + openings_in (after desk call) calls
    opening clock o h =
        let k : count_of fits 95 ≤ 1 + count_of (but fits (given_place desk clock)) 95 = one_fewer fits (given_place desk clock) 95 in
        omega (arith, counted_one desk call (given_place desk clock) (clock, o.gives))

-- what the last call does not give, the others do
given_earlier : (calls : List Call) (desk : Desk) (last : Call) (q : ℕ) → (Gives (after_all desk calls) last q → ⊥) → GivenIn desk (calls ++ (last ∷ [])) q
    → GivenIn desk calls q
unfolding Among after_all
given_earlier [] desk last q other = ⊎_elim (λ g. absurd (other g)) (λ never. never)
given_earlier (call ∷ calls) desk last q other = ⊎_elim (λ g. inl g) (λ later. inr (given_earlier calls (after desk call) last q other later))

-- ---- free at whatever clock

pub decides_clear : (ticket : Ticket) → Decides (is_clear ticket) ((ticket.live ≡ false) × (ticket.withdrawn ≡ false))
decides_clear ticket = decides_and (decides_off ticket.live) (decides_off ticket.withdrawn)

clear_free : (ticket : Ticket) → (ticket.live ≡ false) × (ticket.withdrawn ≡ false) → (clock : ℕ) → Free clock ticket
clear_free ticket clear clock = (clear.0, λ rests. true≢false (sym rests.0 ∙ clear.1))

-- an address is counted exactly where it is free at whatever clock
pub clear_exactly : (ticket : Ticket) → (is_clear ticket ≡ true) ↔ ((clock : ℕ) → Free clock ticket)
unfolding age
clear_exactly ticket = (
  λ e. clear_free ticket ((decides_clear ticket).so e),
  λ free. told_true (decides_clear ticket) ((free 0).0, never ticket.withdrawn refl (free ticket.closed).1),
)
  where
    never : (b : Bool) → ticket.withdrawn ≡ b → ((ticket.withdrawn ≡ true) × (age ticket.closed ticket.closed < 1000) → ⊥) → ticket.withdrawn ≡ false
    never true e rested = absurd (rested (e, omega arith))
    never false e rested = e

each_while : (such : ℕ → Type 0) → ((clock : ℕ) → such clock) → (calls : List Call) (desk : Desk) → OpensWhile such desk calls
unfolding Each
each_while such always [] desk = tt
each_while such always (call ∷ calls) desk = (λ place clock g. always clock, each_while such always calls (after desk call))

-- so at least as many openings lie between as there were other addresses, after the first, that are free at whatever clock
pub openings_between : (desk : Desk) (first : Call) (p : ℕ) → Gives desk first p → (calls : List Call) (second : Call)
    → Gives (after_all (after desk first) calls) second p → others_free (after desk first) p ≤ openings_in (after desk first) calls
unfolding others_free
openings_between desk first p g calls second again = given_count calls (after desk first) _ free
  where
    free : (q : ℕ) → q < 95 → (is_clear (ticket_at (after desk first) q) && not (eqb q p)) ≡ true → GivenIn (after desk first) calls q
    free q h fit =
        let both = (decides_and (decides_clear (ticket_at (after desk first) q)) (decides_not (decides_eq q p))).so fit in
        given_earlier calls (after desk first) second q
        (λ given. both.1 (one_place (after_all (after desk first) calls) second q p given again))
        (free_before_again desk first p g calls second again q h both.1 both.0.0
        (each_while _ (clear_free (ticket_at (after desk first) q) both.0) (calls ++ (second ∷ [])) (after desk first)))

-- on a desk without tickets there are 94 others
pub fresh_others : others_free fresh_desk 0 ≡ 94
unfolding others_free count_of standing_from is_marked
fresh_others = refl

-- The laws of the first place that fits.
-- Assumes nothing.
use mathlib.Core.Path.{◌≡◌, refl, sym, ap, ◌∙◌}
use mathlib.Core.Bool.{Bool, true, false, cond}
use Prim.Native.Nat.{ℕ, zero, suc, ◌+◌, ◌≤◌, ◌<◌}
use native.Mathlib.Omega.{arith}
use native.Mathlib.Nat.{add-zero, add-suc, zero-add, suc-add, le_of_suc-le-suc, le_antisymm}
use native.Mathlib.Decide.{dec_lt}
use Rattle.first.specs.First.{passed_from, first_place}

passed_at : (fits : ℕ → Bool) (k n j : ℕ) → j < n → ((i : ℕ) → i < j → fits (k + i) ≡ false) → fits (k + j) ≡ true → passed_from fits k n ≡ j
unfolding passed_from
passed_at fits k zero j h before there = absurd (omega arith)
passed_at fits k (suc n) zero h before there = rw (rw (add-zero k) at there)
passed_at fits k (suc n) (suc j) h before there =
    let here : fits k ≡ false = rw (add-zero k) at (before 0 (omega arith)) in
    let later : passed_from fits (suc k) n ≡ j =
    passed_at fits (suc k) n j (omega arith) (λ i l. ap fits (suc-add k i ∙ sym (add-suc k i)) ∙ before (suc i) (omega arith))
    (ap fits (suc-add k j ∙ sym (add-suc k j)) ∙ there) in
    rw (here, later)

passed_none : (fits : ℕ → Bool) (k n : ℕ) → ((i : ℕ) → i < n → fits (k + i) ≡ false) → passed_from fits k n ≡ n
unfolding passed_from
passed_none fits k zero before = refl
passed_none fits k (suc n) before =
    let here : fits k ≡ false = rw (add-zero k) at (before 0 (omega arith)) in
    let later : passed_from fits (suc k) n ≡ n = passed_none fits (suc k) n (λ i l. ap fits (suc-add k i ∙ sym (add-suc k i)) ∙ before (suc i) (omega arith)) in
    rw (here, later)

-- a place that fits, with none before it, is the first
pub first_at : (fits : ℕ → Bool) (n j : ℕ) → j < n → ((i : ℕ) → i < j → fits i ≡ false) → fits j ≡ true → first_place fits n ≡ j
unfolding first_place
first_at fits n j h before there = passed_at fits 0 n j h (λ i l. ap fits (zero-add i) ∙ before i l) (ap fits (zero-add j) ∙ there)

-- where no place fits, the search ends at n
pub first-none : (fits : ℕ → Bool) (n : ℕ) → ((i : ℕ) → i < n → fits i ≡ false) → first_place fits n ≡ n
unfolding first_place
first-none fits n before = passed_none fits 0 n (λ i l. ap fits (zero-add i) ∙ before i l)

-- what a search that ended at j tells: nothing before j fits, and j does if it is under n
pub record Ended (fits : ℕ → Bool) (n j : ℕ) : Type 0 where
  pub within : j ≤ n
  pub before : (i : ℕ) → i < j → fits i ≡ false
  pub there : j < n → fits j ≡ true

ended_from : (fits : ℕ → Bool) (k n : ℕ) → Ended (λ i. fits (k + i)) n (passed_from fits k n)
unfolding passed_from
ended_from fits k zero = record { within = omega arith; before = λ i l. absurd (omega arith); there = λ l. absurd (omega arith) }
ended_from fits k (suc n) = go (fits k) refl (ended_from fits (suc k) n)
  where
    on : (i : ℕ) → suc k + i ≡ k + suc i
    on i = omega arith

    go : (t : Bool) → fits k ≡ t → Ended (λ i. fits (suc k + i)) n (passed_from fits (suc k) n) → Ended (λ i. fits (k + i)) (suc n) (cond t 0 (suc (passed_from fits (suc k) n)))
    go true e later = record { within = omega arith; before = λ i l. absurd (omega arith); there = λ l. ap fits (add-zero k) ∙ e }
    go false e later =
        record {
          within = omega (arith, later.within);
          before = λ i. elim i as (λ j. j < suc (passed_from fits (suc k) n) → fits (k + j) ≡ false) [ zero ↦ λ l. ap fits (add-zero k) ∙ e | suc m ↦ λ l. ap fits (sym (on m)) ∙ later.before m (le_of_suc-le-suc l) ];
          there = λ l. ap fits (sym (on (passed_from fits (suc k) n))) ∙ later.there (le_of_suc-le-suc l);
        }

pub ended : (fits : ℕ → Bool) (n : ℕ) → Ended fits n (first_place fits n)
unfolding first_place
ended fits n =
    let e = ended_from fits 0 n in
    record {
      within = e.within;
      before = λ i l. ap fits (sym (zero-add i)) ∙ e.before i l;
      there = λ l. ap fits (sym (zero-add (passed_from fits 0 n))) ∙ e.there l;
    }

-- two tests that tell the same of each place find the same one
pub first-same : (p q : ℕ → Bool) (n : ℕ) → ((i : ℕ) → i < n → p i ≡ q i) → first_place p n ≡ first_place q n
first-same p q n same = go (dec_lt (first_place q n) n)
  where
    e : Ended q n (first_place q n)
    e = ended q n

    go : Dec (first_place q n < n) → first_place p n ≡ first_place q n
    go (yes h) = first_at p n (first_place q n) h (λ i l. same i (omega (arith, e.within)) ∙ e.before i l) (same (first_place q n) h ∙ e.there h)
    go (no h) =
        let all : first_place q n ≡ n = le_antisymm e.within (omega arith) in
        first-none p n (λ i l. same i l ∙ e.before i (omega arith)) ∙ sym all

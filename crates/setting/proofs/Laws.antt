-- What is promised of settings and rows: the laws that callers may cite.
-- Assumes nothing.
use mathlib.Core.Path.{◌≡◌, refl, sym, ◌∙◌}
use mathlib.Core.Bool.{Bool, true, false, true≢false}
use mathlib.Core.List.{List}
use mathlib.Core.Logic.{◌≢◌, inl, inr, ⊎_elim}
use Prim.Native.Nat.{ℕ, zero, suc, ◌+◌, ◌*◌, ◌≤◌, ◌<◌}
use native.Mathlib.Omega.{arith}
use borrow.Author.Tests.{ltb-true, ltb-false, lt-ltb, eqb-false}
use lib.Dec.{eqb}
use lib.ListN.{length, drop}
use Rattle.first.specs.First.{first_place}
use Rattle.first.proofs.Laws.{ended}
use Rattle.rows.proofs.Laws.{Decides, decides_lt, decides_le, decides_eq, decides_not, decides_and, decides_if, decides_as, told_true}
use Rattle.rows.proofs.Settled.{settled}
use Rattle.rows.specs.Settled.{Settled}
use Rattle.setting.specs.declared.Head.{Head}
use Rattle.setting.specs.declared.Fault.{Fault}
use Rattle.setting.specs.Setting.{length_of, lengths_to, Above, Allowed, Some, Falls, Unfit, head_of, tail_of, rows_in, heads, tails, is_above}
use Rattle.setting.specs.Setting.{is_allowed, falls, unfit, some_of, Numbers, Measures, NamesRow, TellsRow, FindsFall, FindsUnfit, FindsPlace, Allows, Rises}

-- ---- tests decide the conditions

-- one law for every "some row"
pub decides_some : (p : ℕ → Bool) (P : ℕ → Type 0) (n : ℕ) → ((k : ℕ) → Decides (p k) (P k)) → Decides (some_of p n) (Some P n)
unfolding some_of
decides_some p P n d =
    record {
      so = λ e. let l : first_place p n < n = ltb-true (first_place p n) n e in (first_place p n, l, (d (first_place p n)).so ((ended p n).there l));
      not_so = λ e s.
          let l : n ≤ first_place p n = ltb-false (first_place p n) n e in
          let under : s.0 < n = s.1 in
          true≢false (sym (told_true (d s.0) s.2) ∙ (ended p n).before s.0 (omega arith));
    }

pub decides_above : (a b : Head) → Decides (is_above a b) (Above a b)
unfolding is_above Above
decides_above a b =
    decides_as (decides_if (decides_eq a.unit b.unit) (decides_lt a.register b.register) (decides_lt a.unit b.unit))
    (⊎_elim (λ p. inr p) (λ p. inl p.1)) (⊎_elim (λ l. inr (λ e. omega (arith, e, l), l)) (λ p. inl p))

pub decides_allowed : (h : Head) → Decides (is_allowed h) (Allowed h)
unfolding is_allowed Allowed
decides_allowed h =
    decides_and (decides_and (decides_le 1 h.unit) (decides_le h.unit 160))
    (decides_and (decides_and (decides_le 1 h.kind) (decides_le h.kind 7))
    (decides_and (decides_and (decides_le 1 h.count) (decides_le h.count 240)) (decides_le (length_of h) 240)))

pub decides_falls : (at : ℕ → Head) (k : ℕ) → Decides (falls at k) (Falls at k)
unfolding falls Falls
decides_falls at zero = record { so = λ e. absurd (true≢false (sym e)); not_so = λ e f. f }
decides_falls at (suc k) = decides_not (decides_above (at k) (at (suc k)))

pub decides_unfit : (at : ℕ → Head) (k : ℕ) → Decides (unfit at k) (Unfit at k)
unfolding unfit Unfit
decides_unfit at k = decides_not (decides_allowed (at k))

-- where no row falls each stands above the one before, and where none is unfit each is allowed
pub all_rise : (at : ℕ → Head) (n : ℕ) → (Some (Falls at) n → ⊥) → (k : ℕ) → suc k < n → Above (at k) (at (suc k))
unfolding Falls
all_rise at n none k h = by (is_above (at k) (at (suc k))) refl
  where
    by : (t : Bool) → is_above (at k) (at (suc k)) ≡ t → Above (at k) (at (suc k))
    by true e = (decides_above (at k) (at (suc k))).so e
    by false e = absurd (none (suc k, h, (decides_above (at k) (at (suc k))).not_so e))

pub none_falls : (at : ℕ → Head) (n : ℕ) → ((k : ℕ) → suc k < n → Above (at k) (at (suc k))) → Some (Falls at) n → ⊥
unfolding Falls
none_falls at n rise s = by s.0 s.1 s.2
  where
    by : (k : ℕ) → k < n → Falls at k → ⊥
    by zero h f = f
    by (suc k) h f = f (rise k h)

pub all_allowed : (at : ℕ → Head) (n : ℕ) → (Some (Unfit at) n → ⊥) → (k : ℕ) → k < n → Allowed (at k)
unfolding Unfit
all_allowed at n none k h = by (is_allowed (at k)) refl
  where
    by : (t : Bool) → is_allowed (at k) ≡ t → Allowed (at k)
    by true e = (decides_allowed (at k)).so e
    by false e = absurd (none (k, h, (decides_allowed (at k)).not_so e))

pub none_unfit : (at : ℕ → Head) (n : ℕ) → ((k : ℕ) → k < n → Allowed (at k)) → Some (Unfit at) n → ⊥
unfolding Unfit
none_unfit at n all s = s.2 (all s.0 s.1)

-- what is not unequal is equal
pub equal : (a b : ℕ) → (a ≢ b → ⊥) → a ≡ b
equal a b n = by (eqb a b) refl
  where
    by : (t : Bool) → eqb a b ≡ t → a ≡ b
    by true e = (decides_eq a b).so e
    by false e = absurd (n (eqb-false a b e))

-- ---- rows

-- a row within the rows
pub heads_at : (rows : List ℕ) (k : ℕ) → k < rows_in rows → heads rows k ≡ head_of (drop (8 * k) rows)
unfolding heads
heads_at rows k h = rw (lt-ltb k (rows_in rows) h)

pub tails-at : (rows : List ℕ) (k : ℕ) → k < rows_in rows → tails rows k ≡ tail_of (drop (8 * k) rows)
unfolding tails
tails-at rows k h = rw (lt-ltb k (rows_in rows) h)

pub rows_whole : (rows : List ℕ) (n : ℕ) → length rows ≡ 8 * n → rows_in rows ≡ n
unfolding rows_in
rows_whole rows n e = omega arith

-- ---- lengths

pub length_allowed : (h : Head) → Allowed h → length_of h ≤ 240
unfolding Allowed
length_allowed h a = a.1.1.1

pub lengths_le : (at : ℕ → Head) (n most : ℕ) → ((k : ℕ) → k < n → length_of (at k) ≤ most) → lengths_to at n ≤ most * n
unfolding lengths_to
lengths_le at zero most each = omega arith
lengths_le at (suc n) most each =
    let ih : lengths_to at n ≤ most * n = lengths_le at n most (λ k h. each k (omega arith)) in
    let here : length_of (at n) ≤ most = each n (omega arith) in
    let more : most * suc n ≡ most * n + most = omega arith in
    omega arith

-- ---- each call is settled

pub numbers_settled : (f : Fault) → Settled (Numbers f)
numbers_settled f = settled _

pub measures_settled : (h : Head) → Settled (Measures h)
measures_settled h = settled _

pub names_row_settled : (rows : List ℕ) (k : ℕ) → Settled (NamesRow rows k)
names_row_settled rows k = settled _

pub tells_row_settled : (rows : List ℕ) (k : ℕ) → Settled (TellsRow rows k)
tells_row_settled rows k = settled _

pub finds_fall_settled : (rows : List ℕ) → Settled (FindsFall rows)
finds_fall_settled rows = settled _

pub finds_unfit_settled : (rows : List ℕ) → Settled (FindsUnfit rows)
finds_unfit_settled rows = settled _

pub finds_place_settled : (rows : List ℕ) (h : Head) → Settled (FindsPlace rows h)
finds_place_settled rows h = settled _

pub allows_settled : (h : Head) → Settled (Allows h)
allows_settled h = settled _

pub rises_settled : (a b : Head) → Settled (Rises a b)
rises_settled a b = settled _

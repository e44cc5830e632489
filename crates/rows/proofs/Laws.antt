-- From tests to rows, and both ways between a call's refusal and its rows.
-- Assumes nothing.
use mathlib.Core.Path.{◌≡◌, refl, sym, ap, ◌∙◌, subst}
use mathlib.Core.Bool.{Bool, true, false, cond, not, ◌||◌, true≢false, ◌&&◌}
use mathlib.Core.List.{List, [], ◌∷◌, ◌++◌}
use mathlib.Core.Logic.{◌⊎◌, inl, inr, ⊎_elim, ◌↔◌}
use mathlib.Core.Option.{Option, some, none}
use Prim.Native.Nat.{ℕ, ◌≤◌, ◌<◌}
use native.Mathlib.Omega.{arith}
use borrow.Author.Tests.{ltb-true, ltb-false, leb-true, leb-false, eqb-true, eqb-false, not-true, not-false, eq-eqb, ne_eqb, lt-ltb, le-ltb, le-leb, lt-leb}
use lib.Dec.{ltb, leb, eqb}
use Rattle.rows.specs.Rows.{Row, First, NoRow, Ranked, Test, first_row_of, or_later, passed_up, raised, numbers_of, apart, Numbered}

-- ---- a test decides a condition

pub record Decides (b : Bool) (P : Type 0) : Type 0 where
  pub so : b ≡ true → P
  pub not_so : b ≡ false → P → ⊥

pub decides_lt : (a b : ℕ) → Decides (ltb a b) (a < b)
decides_lt a b = record { so = ltb-true a b; not_so = λ e h. let l : b ≤ a = ltb-false a b e in omega arith }

pub decides_le : (a b : ℕ) → Decides (leb a b) (a ≤ b)
decides_le a b = record { so = leb-true a b; not_so = λ e h. let l : b < a = leb-false a b e in omega arith }

pub decides_eq : (a b : ℕ) → Decides (eqb a b) (a ≡ b)
decides_eq a b = record { so = eqb-true a b; not_so = eqb-false a b }

pub decides_not : {b : Bool} {P : Type 0} → Decides b P → Decides (not b) (P → ⊥)
decides_not {b} d = record { so = λ e. d.not_so (not-true b e); not_so = λ e n. n (d.so (not-false b e)) }

pub decides_or : {a b : Bool} {P Q : Type 0} → Decides a P → Decides b Q → Decides (a || b) (P ⊎ Q)
decides_or {a} {b} p q = go a b p q
  where
    go : (a b : Bool) {P Q : Type 0} → Decides a P → Decides b Q → Decides (a || b) (P ⊎ Q)
    go true b p q = record { so = λ e. inl (p.so refl); not_so = λ e. absurd (true≢false e) }
    go false b p q = record { so = λ e. inr (q.so e); not_so = λ e s. ⊎_elim (p.not_so refl) (q.not_so e) s }

pub decides_and : {a b : Bool} {P Q : Type 0} → Decides a P → Decides b Q → Decides (a && b) (P × Q)
decides_and {a} {b} p q = go a b p q
  where
    go : (a b : Bool) {P Q : Type 0} → Decides a P → Decides b Q → Decides (a && b) (P × Q)
    go true b p q = record { so = λ e. (p.so refl, q.so e); not_so = λ e s. q.not_so e s.1 }
    go false b p q = record { so = λ e. absurd (true≢false (sym e)); not_so = λ e s. p.not_so refl s.0 }

pub decides_if : {c a b : Bool} {P Q R : Type 0} → Decides c P → Decides a Q → Decides b R → Decides (cond c a b) ((P × Q) ⊎ ((P → ⊥) × R))
decides_if {c} {a} {b} p q r = go c a b p q r
  where
    go : (c a b : Bool) {P Q R : Type 0} → Decides c P → Decides a Q → Decides b R → Decides (cond c a b) ((P × Q) ⊎ ((P → ⊥) × R))
    go true a b p q r = record { so = λ e. inl (p.so refl, q.so e); not_so = λ e s. ⊎_elim (λ h. q.not_so e h.1) (λ h. h.0 (p.so refl)) s }
    go false a b p q r = record { so = λ e. inr (p.not_so refl, r.so e); not_so = λ e s. ⊎_elim (λ h. p.not_so refl h.0) (λ h. r.not_so e h.1) s }

-- a flag decides that it is set
pub decides_set : (b : Bool) → Decides b (b ≡ true)
decides_set b = record { so = λ e. e; not_so = λ e h. true≢false (sym h ∙ e) }

pub told_true : {b : Bool} {P : Type 0} → Decides b P → P → b ≡ true
told_true {b} {P} d p = go b d
  where
    go : (t : Bool) → Decides t P → t ≡ true
    go true d = refl
    go false d = absurd (d.not_so refl p)

pub told_false : {b : Bool} {P : Type 0} → Decides b P → (P → ⊥) → b ≡ false
told_false {b} {P} d n = go b d
  where
    go : (t : Bool) → Decides t P → t ≡ false
    go true d = absurd (n (d.so refl))
    go false d = refl

-- the same condition in other words
pub decides_as : {b : Bool} {P Q : Type 0} → Decides b P → (P → Q) → (Q → P) → Decides b Q
decides_as d f g = record { so = λ e. f (d.so e); not_so = λ e q. d.not_so e (g q) }

-- ---- tests that decide the rows one by one, each where no earlier row holds, give what the rows give

abbrev pub Fit : {F : Type 0} → List (Test F) → List (Row F) → Type 0
Fit [] [] = Unit {0}
Fit [] (r ∷ rs) = ⊥
Fit (t ∷ ts) [] = ⊥
Fit (t ∷ ts) (r ∷ rs) = Decides t.tells r.holds × ((t.gives ≡ r.gives) × ((r.holds → ⊥) → Fit ts rs))

-- one row after the other: `d otherwise λ n. rest` is a `Fit` of a test that decides its row, and of the rest where that row does not hold
infixr 20 ◌otherwise◌
pub ◌otherwise◌ : {F : Type 0} {f : F} {b : Bool} {P Rest : Type 0} → Decides b P → ((P → ⊥) → Rest) → Decides b P × ((f ≡ f) × ((P → ⊥) → Rest))
d otherwise rest = (d, (refl, rest))

-- a row that does not hold may stand before the others
later : {F : Type 0} (r : Row F) (rs : List (Row F)) (o : Option F) → (r.holds → ⊥) → Ranked rs o → Ranked (r ∷ rs) o
later r rs none n p = (n, p)
later r rs (some f) n p = inr (n, p)

pub ranked : {F : Type 0} (ts : List (Test F)) (rs : List (Row F)) → Fit ts rs → Ranked rs (first_row_of ts)
ranked [] [] fit = tt
ranked [] (r ∷ rs) fit = absurd fit
ranked (t ∷ ts) [] fit = absurd fit
ranked {F} (t ∷ ts) (r ∷ rs) fit = by_test t.tells refl (first_row_of ts) (λ n. ranked ts rs (fit.1.1 n))
  where
    by_test : (b : Bool) → t.tells ≡ b → (o : Option F) → ((r.holds → ⊥) → Ranked rs o) → Ranked (r ∷ rs) (cond b (some t.gives) o)
    by_test true e o p = inl (fit.0.so e, fit.1.0)
    by_test false e o p = let n : r.holds → ⊥ = fit.0.not_so e in later r rs o n (p n)

-- the rows of two groups, one after the other
pub ranked_append : {F : Type 0} (rs ss : List (Row F)) (o p : Option F) → Ranked rs o → (NoRow rs → Ranked ss p) → Ranked (rs ++ ss) (or_later o p)
ranked_append [] ss none p here after = after here
ranked_append [] ss (some f) p here after = absurd here
ranked_append (r ∷ rs) ss none p here after = later r (rs ++ ss) p here.0 (ranked_append rs ss none p here.1 (λ n. after (here.0, n)))
ranked_append (r ∷ rs) ss (some f) p here after =
    ⊎_elim (λ a. inl a) (λ a. inr (a.0, ranked_append rs ss (some f) p a.1 (λ n. after (a.0, n)))) here

-- the tests of two groups, one after the other
pub first_append : {F : Type 0} (ts us : List (Test F)) (o : Option F) → first_row_of us ≡ o → first_row_of (ts ++ us) ≡ or_later (first_row_of ts) o
first_append [] us o e = e
first_append {F} (t ∷ ts) us o e = go t.tells (first_append ts us o e)
  where
    go : (b : Bool) → first_row_of (ts ++ us) ≡ or_later (first_row_of ts) o
        → cond b (some t.gives) (first_row_of (ts ++ us)) ≡ or_later (cond b (some t.gives) (first_row_of ts)) o
    go true ih = refl
    go false ih = ih

-- rows that are passed up hold as they are
pub ranked_up : {F G : Type 0} (up : F → G) (rs : List (Row F)) (o : Option F) → Ranked rs o → Ranked (passed_up up rs) (raised up o)
ranked_up up [] none p = tt
ranked_up up [] (some f) p = absurd p
ranked_up up (r ∷ rs) none p = (p.0, ranked_up up rs none p.1)
ranked_up up (r ∷ rs) (some f) p = ⊎_elim (λ a. inl (a.0, ap up a.1)) (λ a. inr (a.0, ranked_up up rs (some f) a.1)) p

-- ---- where nothing refuses, no test tells

pub never_both : {A : Type 0} (o : Option A) (x : A) → o ≡ some x → o ≡ none → ⊥
never_both o x p q = let z : ◌≡◌ {A = ℕ} 0 1 = cc in omega arith

pub first_false : {F : Type 0} (t : Bool) (f : F) (o : Option F) → cond t (some f) o ≡ none → (t ≡ false) × (o ≡ none)
first_false true f o e = absurd (never_both (some f) f refl e)
first_false false f o e = (refl, e)

pub or-none : {F : Type 0} (o later : Option F) → or_later o later ≡ none → (o ≡ none) × (later ≡ none)
or-none none later e = (refl, e)
or-none (some f) later e = absurd (never_both (some f) f refl e)

pub raised_none : {F G : Type 0} (up : F → G) (o : Option F) → raised up o ≡ none → o ≡ none
raised_none up none e = refl
raised_none up (some f) e = absurd (never_both (some (up f)) (up f) refl e)

-- ---- both directions: a refusal is given exactly when its row is the first that holds, and none exactly when no row does

first_once : {F : Type 0} (rs : List (Row F)) {f g : F} → First rs f → First rs g → f ≡ g
first_once [] p q = absurd p
first_once (r ∷ rs) p q =
    ⊎_elim
    (λ a. ⊎_elim (λ b. a.1 ∙ sym b.1) (λ b. absurd (b.0 a.0)) q)
    (λ a. ⊎_elim (λ b. absurd (a.0 b.0)) (λ b. first_once rs a.1 b.1) q)
    p

first_some : {F : Type 0} (rs : List (Row F)) (f : F) → First rs f → NoRow rs → ⊥
first_some [] f p n = p
first_some (r ∷ rs) f p n = ⊎_elim (λ a. n.0 a.0) (λ a. first_some rs f a.1 n.1) p

pub refused_exactly : {F : Type 0} (rs : List (Row F)) (o : Option F) → Ranked rs o → (f : F) → (o ≡ some f) ↔ First rs f
refused_exactly {F} rs o p f = (there o p, back o p)
  where
    there : (o : Option F) → Ranked rs o → o ≡ some f → First rs f
    there o p e = subst (Ranked rs) e p

    back : (o : Option F) → Ranked rs o → First rs f → o ≡ some f
    back none p q = absurd (first_some rs f q p)
    back (some g) p q = ap some (first_once rs p q)

pub done_exactly : {F : Type 0} (rs : List (Row F)) (o : Option F) → Ranked rs o → (o ≡ none) ↔ NoRow rs
done_exactly {F} rs o p = (there o p, back o p)
  where
    there : (o : Option F) → Ranked rs o → o ≡ none → NoRow rs
    there o p e = subst (Ranked rs) e p

    back : (o : Option F) → Ranked rs o → NoRow rs → o ≡ none
    back none p q = refl
    back (some g) p q = absurd (first_some rs g p q)

-- ---- so of what a call told, by the paper's numbers: one line for each call

pub numbered : {F : Type 0} (number : F → ℕ) (rs : List (Row F)) (o : Option F) → Ranked rs o
    → (numbers : List ℕ) → numbers_of (passed_up number rs) ≡ numbers → apart numbers ≡ true
    → (told : Option ℕ) → told ≡ raised number o → Numbered (passed_up number rs) numbers told
numbered number rs o p numbers in_order no_two told is =
    record {
      in_order = in_order;
      no_two = no_two;
      each = λ n. rw is (refused_exactly (passed_up number rs) (raised number o) up n);
      done = rw is (done_exactly (passed_up number rs) (raised number o) up);
    }
  where
    up : Ranked (passed_up number rs) (raised number o)
    up = ranked_up number rs o p

-- two constructors are never equal: from `cc`'s 0 ≡ 1 follows anything
pub clash : {A : Type 0} → ◌≡◌ {A = ℕ} 0 1 → A
clash z = absurd (omega arith)

-- ---- what a test tells, from the fact: for the `search` at a function's returns

pub ruleset tests = (eq-eqb, ne_eqb, lt-ltb, le-ltb, le-leb, lt-leb)

-- Calls that are passed on to C: what holds of the call below holds of the one above, told in numbers.
-- Assumes nothing.
use mathlib.Core.Path.{◌≡◌, refl, sym, ap, ◌∙◌, subst}
use mathlib.Core.List.{List}
use mathlib.Core.Option.{Option}
use Prim.Native.Nat.{ℕ}
use Rattle.rows.proofs.Settled.{two_equal}
use Rattle.rows.specs.Rows.{Row, Numbered}
use Rattle.rows.specs.Settled.{Settled}
use Rattle.kamzhor.specs.Told.{Told}

-- a call that is settled is so when it is told in numbers, with or without a buffer
pub told_settled : {A B : Type 0} {gives : A → Type 0} (told : A → B) → Settled gives → Settled (Told gives told)
told_settled told s =
    record {
      outcome = told s.outcome;
      is_allowed_lem = (s.outcome, s.is_allowed_lem, refl);
      only = λ other p. p.2 ∙ ap told (s.only p.0 p.1);
    }

pub told_settled_with : {A B C : Type 0} (gives : A → C → Type 0) (told : A → B) → Settled {A = A × C} (λ o. gives o.0 o.1)
    → Settled {A = B × C} (λ o. Told (λ a. gives a o.1) told o.0)
told_settled_with {A} {B} {C} gives told s =
    record {
      outcome = (told s.outcome.0, s.outcome.1);
      is_allowed_lem = (s.outcome.0, s.is_allowed_lem, refl);
      only = λ other p. ap (λ (b : B). (b, other.1)) p.2
          ∙ ap (λ (o : A × C). (told o.0, o.1)) (s.only (p.0, other.1) p.1);
    }

-- what C is told is what the call below gives, whatever that is, and so is the buffer
pub as_called : {A B : Type 0} (gives : A → Type 0) (told : A → B) → Settled gives → (a : A) (r : B) → gives a → Told gives told r → r ≡ told a
as_called gives told s a r p g = g.2 ∙ ap told (two_equal s g.0 a g.1 p)

pub as_called_with : {A B C : Type 0} (gives : A → C → Type 0) (told : A → B) → Settled {A = A × C} (λ o. gives o.0 o.1)
    → (a : A) (r : B) (x y : C) → gives a x → Told (λ b. gives b y) told r → (r ≡ told a) × (y ≡ x)
as_called_with {A} {B} {C} gives told s a r x y p g =
    let e = two_equal s (g.0, y) (a, x) g.1 p in
    (g.2 ∙ ap (λ (o : A × C). told o.0) e, ap (λ (o : A × C). o.1) e)

-- a number is told exactly when its row is the first that holds: so it is where the same is told in another way
pub numbered_as : {rs : List (Row ℕ)} {numbers : List ℕ} {told here : Option ℕ} → here ≡ told → Numbered rs numbers told → Numbered rs numbers here
numbered_as {rs} {numbers} same n = subst (Numbered rs numbers) (sym same) n

-- Contracts that settle a call. Whatever layer a call stands in, its law is named `..-settled` and says so of the contract in its `ensures`.
-- Assumes nothing.
use mathlib.Core.Path.{◌≡◌, refl, sym, ap₂, ◌∙◌}
use Rattle.rows.specs.Settled.{Settled}

-- an answer that is an equation
pub settled : {A : Type 0} (x : A) → Settled (λ (a : A). a ≡ x)
settled x = record { outcome = x; is_allowed_lem = refl; only = λ other p. p }

-- an answer and a buffer
pub settled_with : {A B : Type 0} (x : A) (y : B) → Settled {A = A × B} (λ o. (o.0 ≡ x) × (o.1 ≡ y))
settled_with {A} {B} x y =
    record { outcome = (x, y); is_allowed_lem = (refl, refl); only = λ other p. ap₂ (λ (a : A) (b : B). (a, b)) p.0 p.1 }

-- "any two outcomes allowed by it are equal"
pub two_equal : {A : Type 0} {allowed : A → Type 0} → Settled allowed → (a b : A) → allowed a → allowed b → a ≡ b
two_equal s a b p q = s.only a p ∙ sym (s.only b q)

-- an answer made of two parts, and a buffer
pub settled_parts : {R A B C : Type 0} (make : A → B → R) (first : R → A) (second : R → B) → ((r : R) → r ≡ make (first r) (second r))
    → ((a : A) (b : B) → (first (make a b) ≡ a) × (second (make a b) ≡ b)) → (x : A) (y : B) (z : C)
    → Settled {A = R × C} (λ o. (first o.0 ≡ x) × (second o.0 ≡ y) × (o.1 ≡ z))
settled_parts {R} {A} {B} {C} make first second whole parts x y z =
    record {
      outcome = (make x y, z);
      is_allowed_lem = ((parts x y).0, (parts x y).1, refl);
      only = λ other p. ap₂ (λ (r : R) (c : C). (r, c)) (whole other.0 ∙ ap₂ make p.0 p.1) p.2;
    }

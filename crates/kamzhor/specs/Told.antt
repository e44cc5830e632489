-- How a call is passed on to C: what it gives is what the proved call gives, told in numbers.
-- Assumes nothing.
use Rattle.std.specs.Prelude.{◌≡◌}

-- of a call that gives such an outcome, told so
abbrev pub Told : {A B : Type 0} → (A → Type 0) → (A → B) → B → Type 0
Told {A} gives told r = (a : A) × gives a × (r ≡ told a)

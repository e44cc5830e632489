-- What is promised of making a sheet of a text: the laws that callers may cite. sheet_texts says what a made sheet is worth.
-- Assumes nothing.
use mathlib.Core.Path.{◌≡◌, refl, ap, ap₂, ◌∙◌}
use mathlib.Core.List.{List}
use Prim.Native.Nat.{ℕ}
use Rattle.rows.specs.Settled.{Settled}
use Rattle.rows.proofs.Settled.{settled, settled_with}
use Rattle.sheet_line.specs.declared.Fault.{Fault}
use Rattle.sheet_maker.specs.Answers.{Making, Adding}
use Rattle.sheet_maker.specs.Maker.{Makes, AddsLine, Finds, Keys, NumbersKey}

-- ---- each call is settled

-- an answer and two buffers
settled_two : {A B C : Type 0} (x : A) (y : B) (z : C) → Settled {A = A × B × C} (λ o. (o.0 ≡ x) × (o.1 ≡ y) × (o.2 ≡ z))
settled_two {A} {B} {C} x y z =
    record {
      outcome = (x, y, z);
      is_allowed_lem = (refl, refl, refl);
      only = λ other p. ap₂ (λ (b : B) (c : C). (other.0, b, c)) p.1 p.2 ∙ ap (λ (a : A). (a, y, z)) p.0;
    }

pub makes_settled : (text list room : List ℕ) → Settled {A = Making × List ℕ × List ℕ} (λ o. Makes text list room o.0 o.1 o.2)
makes_settled text list room = settled_two _ _ _

pub adds_line_settled : (room : List ℕ) (size : ℕ) (line : List ℕ) → Settled {A = Adding × List ℕ} (λ o. AddsLine room size line o.0 o.1)
adds_line_settled room size line = settled_with _ _

pub finds_settled : (sheet : List ℕ) (unit register : ℕ) → Settled (Finds sheet unit register)
finds_settled sheet unit register = settled _

pub numbers_key_settled : (key : ℕ) → Settled (NumbersKey key)
numbers_key_settled key = settled _

pub keys_settled : (fault : Fault) → Settled (Keys fault)
keys_settled fault = settled _

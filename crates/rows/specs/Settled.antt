-- What it means that a call is answered.
-- Assumes nothing.
use Rattle.std.specs.Prelude.{◌≡◌}

-- a call's contract allows one outcome, and no other: the call has an answer, and the contract settles all of it
pub record Settled {A : Type 0} (allowed : A → Type 0) : Type 0 where
  pub outcome : A
  pub is_allowed_lem : allowed outcome
  pub only : (other : A) → allowed other → other ≡ outcome

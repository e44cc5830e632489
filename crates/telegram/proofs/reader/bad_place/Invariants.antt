-- `bad_place`: no faulty 94 stands before what is looked at.
-- Assumes nothing.
use mathlib.Core.Path.{◌≡◌}
use mathlib.Core.Bool.{false}
use Prim.Native.Nat.{ℕ, ◌<◌}
use Rattle.telegram.specs.Read.{is_faulty}
use Rattle.telegram.proofs.reader.bad_place.Given as goal

abbrev pub invariant-loop-at : goal.invariant-loop-at
invariant-loop-at l = (j : ℕ) → j < l.at → is_faulty l.frame j ≡ false

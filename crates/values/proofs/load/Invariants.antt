-- `load` is the natural number of the first 8 bytes. The invariant: `value` is the number of those from `at` on.
-- Assumes nothing.
use mathlib.Core.Path.{◌≡◌}
use Prim.Native.Nat.{◌≤◌}
use lib.ListN.{length, take, drop}
use Rattle.values.specs.Values.{natural}
use Rattle.values.proofs.load.Given as goal

abbrev pub invariant-loop-at : goal.invariant-loop-at
invariant-loop-at l = (l.at ≤ length (take 8 l.bytes)) × (l.value ≡ natural (drop l.at (take 8 l.bytes)))

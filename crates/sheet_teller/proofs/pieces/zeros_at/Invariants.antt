use mathlib.Core.Path.{◌≡◌}
use Prim.Native.Nat.{◌+◌, ◌-◌}
use lib.ListN.{replicate}
use Rattle.lent.specs.Lent.{over_at}
use Rattle.sheet_teller.proofs.pieces.zeros_at.Given as goal

abbrev pub invariant-loop-i : goal.invariant-loop-i
invariant-loop-i l = over_at (l.at + l.i) (replicate (l.n - l.i) 48) l.room ≡ over_at l.at (replicate l.n 48) l.initial.room

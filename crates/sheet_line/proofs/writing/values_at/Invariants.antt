-- `values_at`: whatever would write the elements still left, from `to` on, would write them all.
-- Assumes nothing.
use Prim.Native.Nat.{◌+◌, ◌*◌, ◌≤◌}
use Rattle.sheet_line.proofs.Pieces.{Going}
use Rattle.sheet_line.proofs.writing.values_at.Given as goal

abbrev pub invariant-loop-k : goal.invariant-loop-k
invariant-loop-k l = (l.to ≤ l.at + 22 * l.k) × Going l.head.kind l.value l.head.count l.at l.initial.room l.k l.to l.room

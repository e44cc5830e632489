use Prim.Native.Nat.{ℕ, ◌<◌}
use mathlib.Core.Bool.{false}
use Rattle.desk.specs.Desk.{ticket_at}
use Rattle.desk.proofs.place_where.Given as goal

abbrev pub invariant-loop-k : goal.invariant-loop-k
invariant-loop-k g l = (k : ℕ) → k < l.k → goal.F-post g l.holds (ticket_at l.desk k) false

use Rattle.std.proofs.Common.{◌≡◌, ◌-◌, ◌≤◌, length}
use Rattle.sheets.proofs.read_in.Given as goal

abbrev pub invariant-loop-size : goal.invariant-loop-size
invariant-loop-size l = (length l.space ≡ length l.initial.space) × (l.size ≤ length l.space)

abbrev pub decreases-loop-size : goal.decreases-loop-size
decreases-loop-size l = length l.space - l.size

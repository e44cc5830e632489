-- `take` ends: each turn was preceded by a step that took something.
-- Assumes nothing.
use Rattle.std.proofs.Common.{◌≡◌, ◌-◌, ◌≤◌, length}
use Rattle.receiver_calls.proofs.take.Given as goal

abbrev pub invariant-loop-before : goal.invariant-loop-before
invariant-loop-before l = (l.fed.taken ≤ length l.chunk) × (length l.out ≡ length l.initial.out)

abbrev pub decreases-loop-before : goal.decreases-loop-before
decreases-loop-before l = length l.chunk - l.before

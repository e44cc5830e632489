use Rattle.std.proofs.Common.{◌-◌, length}
use Rattle.lister.proofs.Pouring.{Going}
use Rattle.lister.proofs.pour.fill.Given as goal

abbrev pub invariant-loop-taken : goal.invariant-loop-taken
invariant-loop-taken l = Going l.initial.so_far l.chunk l.initial.room l.so_far l.taken l.size l.room

abbrev pub decreases-loop-taken : goal.decreases-loop-taken
decreases-loop-taken l = length l.chunk - l.taken

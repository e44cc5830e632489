use Prim.Native.Nat.{◌-◌}
use lib.ListN.{length}
use Rattle.night.proofs.Laws.{Coming}
use Rattle.night.proofs.list.Given as goal

abbrev pub invariant-loop-taken : goal.invariant-loop-taken
invariant-loop-taken l = Coming l.piece l.initial.room l.initial.so_far l.room l.so_far l.taken

abbrev pub decreases-loop-taken : goal.decreases-loop-taken
decreases-loop-taken l = length l.piece - l.taken

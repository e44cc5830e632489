use Rattle.overdue.proofs.Pass.{Going}
use Rattle.overdue.proofs.expire_all.Given as goal

abbrev pub invariant-loop-k : goal.invariant-loop-k
invariant-loop-k l = Going l.initial.swept.desk l.initial.list l.clock l.swept l.k l.list

use Rattle.sheet_teller.proofs.Steps.{Going}
use Rattle.sheet_teller.proofs.lay_all.Given as goal

abbrev pub invariant-loop-k : goal.invariant-loop-k
invariant-loop-k l = Going l.sheet l.n l.form l.initial.room l.room l.from l.to l.k

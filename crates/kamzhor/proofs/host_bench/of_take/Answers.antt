-- `of_take` tells how a telegram was taken and the bench after it.
-- Assumes nothing.
use Rattle.kamzhor.proofs.host_bench.of_take.Goals as goal

pub returns : goal.returns
returns c = rw c.of_taking.ensures

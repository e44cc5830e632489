-- `kamzhor_after_bench_set` sets a register of the bench to the value that a sign and a magnitude mean.
-- Assumes nothing.
use Rattle.kamzhor.proofs.host_bench.kamzhor_after_bench_set.Goals as goal

pub returns : goal.returns
returns c = (_, rw c.meant_value.ensures at c.set.ensures, c.of_build.ensures)

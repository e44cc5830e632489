-- `of_seen` tells a register of the bench in numbers.
-- Assumes nothing.
use Rattle.kamzhor.proofs.host_bench.of_seen.Goals as goal

pub returns-in-Some : goal.returns-in-Some
returns-in-Some c = rw c.in-Some.is

pub returns-in-None : goal.returns-in-None
returns-in-None c = rw c.in-None.is

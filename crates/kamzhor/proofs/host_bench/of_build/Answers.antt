-- `of_build` tells what was built and the bench after it.
-- Assumes nothing.
use Rattle.kamzhor.proofs.host_bench.of_build.Goals as goal

pub returns : goal.returns
returns c = rw c.of_building.ensures

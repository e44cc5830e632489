-- `of_join` tells a joining and the lanes after it.
-- Assumes nothing.
use Rattle.kamzhor.proofs.host_lanes.of_join.Goals as goal

pub returns : goal.returns
returns c = rw c.of_joining.ensures

-- `of_grant` tells a grant, the lanes and the desk after it.
-- Assumes nothing.
use Rattle.kamzhor.proofs.host_lanes.of_grant.Goals as goal

pub returns : goal.returns
returns c = rw c.of_granting.ensures

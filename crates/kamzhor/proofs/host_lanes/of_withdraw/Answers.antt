-- `of_withdraw` tells a withdrawal and the lanes after it.
-- Assumes nothing.
use Rattle.kamzhor.proofs.host_lanes.of_withdraw.Goals as goal

pub returns : goal.returns
returns c = rw c.of_withdrawing.ensures

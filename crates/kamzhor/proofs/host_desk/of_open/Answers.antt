-- `of_open` tells an opening and the desk after it.
-- Assumes nothing.
use Rattle.kamzhor.proofs.host_desk.of_open.Goals as goal

pub returns : goal.returns
returns c = rw c.of_opening.ensures

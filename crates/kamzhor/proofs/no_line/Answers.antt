-- `no_line_lem` tells a step that ended no line.
-- Assumes nothing.
use Rattle.kamzhor.proofs.no_line.Goals as goal

pub returns : goal.returns
returns c = rw c.frame_number.ensures

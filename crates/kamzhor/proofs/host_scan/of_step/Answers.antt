-- `of_step` tells a step, the scan and the desk after it.
-- Assumes nothing.
use Rattle.kamzhor.proofs.host_scan.of_step.Goals as goal

pub returns : goal.returns
returns c = rw c.of_stepping.ensures

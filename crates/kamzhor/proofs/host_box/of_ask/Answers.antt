-- `of_ask` tells a request of the box's, the box and the desk after it.
-- Assumes nothing.
use Rattle.kamzhor.proofs.host_box.of_ask.Goals as goal

pub returns : goal.returns
returns c = rw (c.of_box.ensures, c.of_asking.ensures)

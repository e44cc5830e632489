-- `kamzhor_box_moving` tells whether a status says that the box moves.
-- Assumes nothing.
use Rattle.kamzhor.proofs.host_box.kamzhor_box_moving.Goals as goal

pub returns : goal.returns
returns c = rw (c.yes.ensures, c.moving.ensures)

-- `of_opening` tells an opening in numbers.
-- Assumes nothing.
use Rattle.kamzhor.proofs.host_desk.of_opening.Goals as goal

pub returns-in-Err : goal.returns-in-Err
returns-in-Err c = rw (c.in-Err.is, c.number.ensures)

pub returns-in-Ok : goal.returns-in-Ok
returns-in-Ok c = rw c.in-Ok.is

-- `of_written` tells how long a telegram was written.
-- Assumes nothing.
use Rattle.kamzhor.proofs.host_values.of_written.Goals as goal

pub returns-in-Err : goal.returns-in-Err
returns-in-Err c = rw (c.in-Err.is, c.no_size.ensures, c.number.ensures)

pub returns-in-Ok : goal.returns-in-Ok
returns-in-Ok c = rw (c.in-Ok.is, c.size_of.ensures)

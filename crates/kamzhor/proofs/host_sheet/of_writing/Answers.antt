-- `of_writing` tells how long a sheet was written.
-- Assumes nothing.
use Rattle.kamzhor.proofs.host_sheet.of_writing.Goals as goal

pub returns-in-Err : goal.returns-in-Err
returns-in-Err c = rw (c.in-Err.is, c.no_size.ensures, c.number.ensures)

pub returns-in-Ok : goal.returns-in-Ok
returns-in-Ok c = rw (c.in-Ok.is, c.size_of.ensures)

-- `of_taking` tells in numbers how the bench took a telegram.
-- Assumes nothing.
use Rattle.kamzhor.proofs.host_bench.of_taking.Goals as goal

pub returns-in-Err : goal.returns-in-Err
returns-in-Err c = rw (c.in-Err.is, c.number.ensures, c.place.ensures)

pub returns-in-Ok : goal.returns-in-Ok
returns-in-Ok c = rw c.in-Ok.is

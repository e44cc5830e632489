-- `of_closing` tells a cancel or an expiry in numbers.
-- Assumes nothing.
use Rattle.kamzhor.proofs.host_desk.of_closing.Goals as goal

pub returns-in-Err : goal.returns-in-Err
returns-in-Err c = rw (c.in-Err.is, c.number.ensures)

pub returns-in-Ok : goal.returns-in-Ok
returns-in-Ok c = rw c.in-Ok.is

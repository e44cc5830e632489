-- `of_seen` tells in numbers what stands on a host address.
-- Assumes nothing.
use Rattle.kamzhor.proofs.host_desk.of_seen.Goals as goal

pub returns-in-Nothing : goal.returns-in-Nothing
returns-in-Nothing c = rw (c.in-Nothing.is, c.not_open.ensures)

pub returns-in-Withdrawn : goal.returns-in-Withdrawn
returns-in-Withdrawn c = rw (c.in-Withdrawn.is, c.not_open-in-Withdrawn.ensures)

pub returns-in-Open : goal.returns-in-Open
returns-in-Open c = rw c.in-Open.is

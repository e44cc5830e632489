use Rattle.desk.proofs.is_theirs.Goals as goal

pub returns-then-ticket : goal.returns-then-ticket
returns-then-ticket c = rw c.if-ticket.true

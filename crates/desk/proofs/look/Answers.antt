use Rattle.desk.proofs.look.Goals as goal

pub returns-then-ticket : goal.returns-then-ticket
returns-then-ticket c = rw (← c.ticket_on-ticket.ensures, c.if-ticket.true)

pub returns-then-ticket-2 : goal.returns-then-ticket-2
returns-then-ticket-2 c = rw (← c.ticket_on-ticket.ensures, c.if-ticket.false, c.if-ticket-2.true)

pub returns : goal.returns
returns c = rw (← c.ticket_on-ticket.ensures, c.if-ticket.false, c.if-ticket-2.false)

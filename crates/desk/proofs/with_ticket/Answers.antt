use Rattle.desk.proofs.with_ticket.Goals as goal

pub returns : goal.returns
returns c = rw (← c.with_mark-marks.ensures) c.stored.ensures

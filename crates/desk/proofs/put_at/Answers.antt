use Rattle.desk.proofs.put_at.Goals as goal

pub returns : goal.returns
returns c = rw (← c.with_mark-changed.ensures) c.stored.ensures

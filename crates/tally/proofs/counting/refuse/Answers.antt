use Rattle.tally.proofs.counting.refuse.Goals as goal

pub returns-then-full_at : goal.returns-then-full_at
returns-then-full_at c = rw (← c.full_at.ensures, c.if-full_at.true) c.not_done.ensures

pub returns : goal.returns
returns c = rw (← c.full_at.ensures, c.if-full_at.false) c.not_done-2.ensures

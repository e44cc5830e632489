use Rattle.lanes.proofs.without.Goals as goal

pub returns : goal.returns
returns c = rw (← c.next_at-fourth.ensures, ← c.next_at-third.ensures, ← c.next_at-second.ensures, ← c.next_at-first.ensures)

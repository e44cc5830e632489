use Rattle.lanes.proofs.served_from.Goals as goal

pub returns-then-moves : goal.returns-then-moves
returns-then-moves c = rw (c.if-moves.true, c.with_lane-next.ensures, c.without.ensures)

use Rattle.lent.proofs.Moving.{moved, none_there, no_place}
use Rattle.lent.proofs.move_within.Goals as goal

pub returns-then-end-from : goal.returns-then-end-from
returns-then-end-from c = let a = c.args in none_there a.room.now a.from a.to a.size c.if-end-from.true

pub returns-then-end-to : goal.returns-then-end-to
returns-then-end-to c = let a = c.args in no_place a.room.now a.from a.to a.size c.if-end-to.true

pub returns : goal.returns
returns c =
    let a = c.args in
    moved a.room.now a.from a.to a.size _ _ _ c.if-end-from.false c.if-end-to.false c.least-there.ensures c.least-size.ensures c.copy_within.ensures.after

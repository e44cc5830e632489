use Rattle.desk.proofs.Calls.{opened_at_lem, no_room_at}
use Rattle.desk.proofs.open_at.Goals as goal

pub returns-in-Err : goal.returns-in-Err
returns-in-Err c =
    no_room_at c.args.desk c.args.distance c.args.asked c.args.«data».now c.args.clock c.args.room.now _ _
    c.requires.near c.requires.writable c.write.ensures _ c.in-Err.is

pub returns-in-Ok : goal.returns-in-Ok
returns-in-Ok c =
    opened_at_lem c.args.desk c.args.distance c.args.asked c.args.«data».now c.args.clock c.args.room.now _ _
    c.requires.near c.requires.writable c.write.ensures _ _ c.in-Ok.is c.with_ticket.ensures

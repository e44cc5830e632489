use Rattle.sheet_maker.proofs.Whole.{not_added_stated, not_added_sheet, not_added_line}
use Rattle.sheet_maker.proofs.not_added.Goals as goal

pub returns-then-room-size : goal.returns-then-room-size
returns-then-room-size c = let a = c.args in not_added_stated a.room.now a.size _ c.if-room-size.true

pub returns-in-Err : goal.returns-in-Err
returns-in-Err c = let a = c.args in not_added_sheet a.room.now a.size _ _ _ c.if-room-size.false c.check.ensures c.in-Err.is

pub returns-in-Ok : goal.returns-in-Ok
returns-in-Ok c = let a = c.args in not_added_line a.room.now a.size _ _ _ c.if-room-size.false c.check.ensures c.in-Ok.is

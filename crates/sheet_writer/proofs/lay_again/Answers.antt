use Rattle.sheet_writer.proofs.Steps.{again_short, again_laid}
use Rattle.sheet_writer.proofs.lay_again.Goals as goal

pub returns-then-room-many : goal.returns-then-room-many
returns-then-room-many c = again_short _ _ c.if-room-many.true

pub returns : goal.returns
returns c = again_laid _ c.args.room.now _ _ c.if-room-many.false c.lay_offsets.ensures c.lay_header.ensures

use mathlib.Core.Path.{refl}
use Rattle.sheet_writer.proofs.Steps.{right_lengths, lay_narrow, lay_done, sheet_over}
use Rattle.sheet_writer.proofs.lay.Goals as goal

pub returns-then-room-size : goal.returns-then-room-size
returns-then-room-size c = lay_narrow _ _ _ _ (right_lengths _ _ c.requires.1) refl c.if-room-size.true

pub returns : goal.returns
returns c =
    let lengths = right_lengths c.args.rows.now c.args.values.now c.requires.1 in
    lay_done _ _ _ _ _ lengths refl c.if-room-size.false (sheet_over _ _ _ _ _ _ lengths c.lay_header.ensures c.lay_records.ensures c.lay_at.ensures)

use Rattle.setting.specs.Setting.{setting}
use Rattle.sheet_teller.proofs.Put.{line_piece, call_piece}
use Rattle.sheet_teller.proofs.pieces.piece_at.Goals as goal

pub returns-in-Lines : goal.returns-in-Lines
returns-in-Lines c =
    let a = c.args in
    line_piece a.form (setting a.head a.value.now) _ _ _ _ _ _ c.in-Lines.is c.line_at-end.ensures c.word.ensures

pub returns-in-Calls : goal.returns-in-Calls
returns-in-Calls c =
    let a = c.args in
    call_piece a.form _ (setting a.head a.value.now) _ _ _ _ _ _ c.in-Calls.is c.call_at-end.ensures c.word-in-Calls.ensures

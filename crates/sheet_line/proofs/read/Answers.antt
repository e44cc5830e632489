use Rattle.sheet_line.proofs.Saying.{without_remark}
use Rattle.sheet_line.proofs.read.Goals as goal

pub returns : goal.returns
returns c =
    let plain = c.plain_end-end in
    let told = c.read_words.ensures in
    without_remark c.args.text.now c.args.room.now plain.result plain.ensures.1 told.answer told.stored

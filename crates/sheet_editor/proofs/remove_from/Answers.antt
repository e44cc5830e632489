use Rattle.sheet_editor.proofs.Steps.{remove_beyond, remove_one}
use Rattle.sheet_editor.proofs.remove_from.Goals as goal

pub returns-then-n-index : goal.returns-then-n-index
returns-then-n-index c = remove_beyond c.args.room.now c.args.size c.args.n c.requires c.args.index c.if-n-index.true

pub returns : goal.returns
returns c =
    remove_one c.args.room.now c.args.size c.args.n c.requires c.args.index _ _ c.if-n-index.false
    c.cut.ensures

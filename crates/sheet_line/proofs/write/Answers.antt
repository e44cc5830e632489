-- `write`: the five pieces, each at the place behind the one before, are the line.
-- Assumes nothing.
use Rattle.sheet_line.proofs.Pieces.{line_put}
use Rattle.sheet_line.proofs.write.Goals as goal

pub returns : goal.returns
returns c =
    line_put c.args.head _ _ _ _ _ _ _ _ _ _ _ _ c.digits-a.ensures.0 c.field-b.ensures.0 c.kind-c.ensures.0
    c.field-d.ensures.0 c.values_at.ensures

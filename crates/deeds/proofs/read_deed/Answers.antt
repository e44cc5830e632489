-- `read_deed` is the rule of a read.
-- Assumes nothing.
use mathlib.Core.Path.{◌∙◌}
use Rattle.deeds.proofs.Deeds.{read_allowed, read_denied, read_with_data}
use Rattle.deeds.proofs.read_deed.Goals as goal
use Rattle.deeds.proofs.read_deed.Goals.{else-has_right-via-then-has_right+else-n-eq0, else-has_right-via-else-has_right}

pub returns-then-n-eq0 : goal.returns-then-n-eq0
returns-then-n-eq0 c = read_allowed _ _ _ _ c.has_right.ensures c.if-has_right.true c.if-n-eq0.true c.size.ensures

pub returns : goal.returns
returns c =
    let right = c.has_right.ensures in
    c.nack.ensures
    ∙ elim c.else-has_right.branch [
      | else-has_right-via-then-has_right+else-n-eq0 w ↦ read_with_data _ _ _ right w.if-has_right.true w.if-n-eq0.false
      | else-has_right-via-else-has_right w ↦ read_denied _ _ _ right w.if-has_right.false
    ]

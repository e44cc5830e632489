-- `write_deed` is the rule of a write of any sort.
-- Assumes nothing.
use mathlib.Core.Path.{sym, ◌∙◌}
use Rattle.deeds.proofs.Deeds.{write_allowed, write_denied, write_of_other_size}
use Rattle.deeds.proofs.write_deed.Goals as goal
use Rattle.deeds.proofs.write_deed.Goals.{else-has_right-via-then-has_right+else-n-size, else-has_right-via-else-has_right}

pub returns-then-n-size : goal.returns-then-n-size
returns-then-n-size c = write_allowed _ _ _ _ _ c.has_right.ensures c.if-has_right.true (c.if-n-size.true ∙ c.size.ensures)

pub returns : goal.returns
returns c =
    let right = c.has_right.ensures in
    c.nack.ensures
    ∙ elim c.else-has_right.branch [
      | else-has_right-via-then-has_right+else-n-size w ↦
          write_of_other_size _ _ _ _ _ right w.if-has_right.true (λ e. w.if-n-size.false (e ∙ sym w.size.ensures))
      | else-has_right-via-else-has_right w ↦ write_denied _ _ _ _ _ right w.if-has_right.false
    ]

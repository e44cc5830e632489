-- `field`: a blank, and the digits behind it.
-- Assumes nothing.
use native.Mathlib.Omega.{arith}
use Rattle.text.proofs.Laws.{puts_then}
use Rattle.sheet_line.proofs.writing.field.Goals as goal

pub returns : goal.returns
returns c =
    let digits = c.digits.ensures in
    let blank = c.word-a.ensures in
    (puts_then _ _ _ _ _ _ _ _ blank digits.0, omega (arith, blank.0, digits.1))

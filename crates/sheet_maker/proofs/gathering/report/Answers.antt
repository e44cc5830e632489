use mathlib.Core.Path.{refl}
use Rattle.sheet_maker.proofs.Steps.{told_three}
use Rattle.sheet_maker.proofs.gathering.report.Goals as goal

pub returns : goal.returns
returns c =
    let three = c.tell-c in
    let two = c.tell-b in
    let one = c.tell-a in
    (record { many = refl; size = refl; before = refl; wrong = refl }, told_three _ _ _ _ _ _ _ _ _ _ _ one.ensures two.ensures three.ensures)

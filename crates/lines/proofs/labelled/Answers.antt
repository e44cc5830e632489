use native.Mathlib.Omega.{arith}
use Rattle.text.proofs.Laws.{puts_then}
use Rattle.lines.specs.Lines.{field}
use Rattle.lines.proofs.labelled.Goals as goal

pub returns : goal.returns
returns c =
    let args = c.args in
    let word = c.word-a in
    (puts_then args.text.now (field args.n) _ _ _ _ _ _ word.ensures c.field.ensures.0, omega arith)

use native.Mathlib.Omega.{arith}
use Rattle.sheet_teller.proofs.Put.{number_put}
use Rattle.sheet_teller.proofs.pieces.numbered.Goals as goal

pub overflow_add-result : goal.overflow_add-result
overflow_add-result c =
    let digits = c.decimal_at in
    let put = number_put c.args.text.now c.args.n c.args.at c.word-end.result digits.result _ _ _ c.requires.1 c.word-end.ensures digits.ensures in
    record { fits = omega (arith, c.requires.0, put.1) }

pub returns : goal.returns
returns c = number_put _ _ _ _ _ _ _ _ c.requires.1 c.word-end.ensures c.decimal_at.ensures

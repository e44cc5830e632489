use native.Mathlib.Omega.{arith}
use Rattle.lines.proofs.Pieces.{field_fits, field_put}
use Rattle.lines.proofs.field.Goals as goal

pub overflow_add-result : goal.overflow_add-result
overflow_add-result c =
    let args = c.args in
    let word = c.word-a in
    record {
      fits = let h = field_fits args.n word.result c.decimal_at.result _ _ (omega arith)
          c.decimal_at.ensures in omega arith;
    }

pub returns : goal.returns
returns c = field_put _ _ _ _ _ _ _ c.word-a.ensures c.decimal_at.ensures

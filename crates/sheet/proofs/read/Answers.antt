use mathlib.Core.Path.{sym, ◌∙◌}
use Rattle.std.proofs.lemmas.Result.{err_from_is_err_and}
use Rattle.sheet.proofs.Steps.{checked_refused, right_told, read-refused, read_shown}
use Rattle.sheet.proofs.read.Goals as goal

pub show-requires : goal.show-requires
show-requires c = right_told _ _ _ (sym c.in_ok-n.was ∙ c.check.ensures)

pub returns-in_err-n : goal.returns-in_err-n
returns-in_err-n c =
    let p = err_from_is_err_and c.from_residual.result c.from_residual.ensures.1 in
    rw (p.1, p.2) (read-refused _ _ _ _ (checked_refused _ _ _ (sym c.in_err-n.was ∙ c.check.ensures)))

pub returns : goal.returns
returns c = read_shown _ _ _ _ _ (right_told _ _ _ (sym c.in_ok-n.was ∙ c.check.ensures)).0 c.show.ensures

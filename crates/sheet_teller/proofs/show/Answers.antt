use Rattle.std.proofs.lemmas.Result.{err_from_is_err_and}
use Rattle.sheet_teller.proofs.Steps.{still_right, still_wrong, show_wrong, show_told}
use Rattle.sheet_teller.proofs.show.Goals as goal

pub lay_all-requires : goal.lay_all-requires
lay_all-requires c = still_right c.args.sheet.now c.check.ensures c.map_err.ensures.cases _ c.in_ok-n.was

pub returns-in_err-n : goal.returns-in_err-n
returns-in_err-n c =
    let a = c.args in
    let p = err_from_is_err_and c.from_residual.result c.from_residual.ensures.1 in
    let wrong = still_wrong a.sheet.now c.check.ensures c.map_err.ensures.cases _ c.in_err-n.was in
    rw (p.1, p.2, wrong.2) (show_wrong a.sheet.now a.room.now _ wrong.1)

pub returns : goal.returns
returns c =
    let a = c.args in
    show_told a.sheet.now a.room.now _ _ (still_right c.args.sheet.now c.check.ensures c.map_err.ensures.cases _ c.in_ok-n.was).0 c.lay_all.ensures

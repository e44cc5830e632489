use mathlib.Core.Path.{sym, ◌∙◌}
use Rattle.std.proofs.lemmas.Result.{err_from_is_err_and}
use Rattle.sheet_editor.proofs.Steps.{right_sheet, wrong_sheet, no_refusal, module_wrong, module_right}
use Rattle.sheet_editor.proofs.remove_module.Goals as goal

pub remove_module_from-requires : goal.remove_module_from-requires
remove_module_from-requires c = right_sheet c.args.room.now c.args.size _ (sym c.in_ok-n.was ∙ c.judge.ensures)

pub returns-in_err-n : goal.returns-in_err-n
returns-in_err-n c =
    let p = err_from_is_err_and c.from_residual.result c.from_residual.ensures.1 in
    rw (p.1, p.2) (module_wrong c.args.room.now c.args.size c.args.unit _ (wrong_sheet c.args.room.now c.args.size _ (sym c.in_err-n.was ∙ c.judge.ensures)))

pub returns : goal.returns
returns c =
    module_right c.args.room.now c.args.size c.args.unit _ _
    (no_refusal c.args.room.now c.args.size _ (sym c.in_ok-n.was ∙ c.judge.ensures))
    c.remove_module_from.ensures

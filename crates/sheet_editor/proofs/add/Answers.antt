use mathlib.Core.Path.{sym, ◌∙◌}
use Rattle.std.proofs.lemmas.Result.{err_from_is_err_and}
use Rattle.sheet_editor.proofs.Steps.{right_sheet, wrong_sheet, no_refusal, add_wrong, add_right}
use Rattle.sheet_editor.proofs.add.Goals as goal

pub add_to-requires : goal.add_to-requires
add_to-requires c = right_sheet c.args.room.now c.args.size _ (sym c.in_ok-n.was ∙ c.judge.ensures)

pub returns-in_err-n : goal.returns-in_err-n
returns-in_err-n c =
    let p = err_from_is_err_and c.from_residual.result c.from_residual.ensures.1 in
    rw (p.1, p.2) (add_wrong c.args.room.now c.args.size c.args.head c.args.value.now _ (wrong_sheet c.args.room.now c.args.size _ (sym c.in_err-n.was ∙ c.judge.ensures)))

pub returns : goal.returns
returns c =
    add_right c.args.room.now c.args.size c.args.head c.args.value.now _ _
    (no_refusal c.args.room.now c.args.size _ (sym c.in_ok-n.was ∙ c.judge.ensures))
    c.add_to.ensures

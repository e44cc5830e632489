use Rattle.sheet_editor.proofs.Steps.{judge_over, judge_told}
use Rattle.sheet_editor.proofs.judge.Goals as goal

pub returns-then-end-size : goal.returns-then-end-size
returns-then-end-size c = let a = c.args in judge_over a.room.now a.size c.if-end-size.true

pub returns : goal.returns
returns c =
    judge_told c.args.room.now c.args.size _ _ c.if-end-size.false c.check.ensures
    c.map_err.ensures.cases

use mathlib.Core.Path.{sym, ◌∙◌}
use Rattle.receiver.proofs.Returns.{step_refused, step_taken, not_past}
use Rattle.receiver.proofs.steps.step.Goals as goal

pub returns-then-carries_past : goal.returns-then-carries_past
returns-then-carries_past c =
    let args = c.args in
    step_refused args.receiver args.chunk.now (sym c.carries_past.ensures ∙ c.if-carries_past.true)

pub advance-requires : goal.advance-requires
advance-requires c =
    let args = c.args in
    not_past args.receiver.place args.chunk.now (sym c.carries_past.ensures ∙ c.if-carries_past.false)

pub returns : goal.returns
returns c =
    let args = c.args in
    step_taken args.receiver args.chunk.now c.advance.result (sym c.carries_past.ensures ∙ c.if-carries_past.false) c.advance.ensures

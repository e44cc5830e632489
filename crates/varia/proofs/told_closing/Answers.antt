use Rattle.varia.proofs.Calls.{closing_elsewhere, closing_forgets}
use mathlib.Core.Path.{◌∙◌}
use Rattle.varia.proofs.told_closing.Goals as goal

pub returns-then-sent-address : goal.returns-then-sent-address
returns-then-sent-address c = closing_elsewhere _ _ _ _ c.in-Some.is _ _ _ _ c.in-Ok.is c.if-sent-address.true

pub returns : goal.returns
returns c =
    c.with_edge.ensures
    ∙ closing_forgets _ _ _ _ c.in-Some.is _ _ _ _ c.in-Ok.is c.if-sent-address.false

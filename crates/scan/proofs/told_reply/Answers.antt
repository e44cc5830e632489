use Rattle.scan.specs.Scan.{turn_over}
use Rattle.scan.proofs.Calls.{reply_ends, reply_leaves}
use mathlib.Core.Path.{ap, ◌∙◌}
use Rattle.scan.proofs.told_reply.Goals as goal

pub returns-then-is_its_own : goal.returns-then-is_its_own
returns-then-is_its_own c =
    c.turn_over.ensures
    ∙ ap (turn_over c.args.scan) c.answer_of.ensures
    ∙ reply_ends _ _ _ c.is_its_own.ensures _ _ _ _ _ c.in-Ok.is c.if-is_its_own.true

pub returns : goal.returns
returns c = reply_leaves _ _ _ c.is_its_own.ensures _ _ _ _ _ c.in-Ok.is c.if-is_its_own.false

use Rattle.std.specs.Prelude.{Ok}
use Rattle.std.proofs.Common.{ap, ◌∙◌}
use Rattle.receiver.specs.Chunks.{line_in}
use Rattle.lister.proofs.Pouring.{line_kinds, no_kinds}
use Rattle.lister.proofs.pour.kinds_of.Goals as goal

pub returns-in-Ok-Some : goal.returns-in-Ok-Some
returns-in-Ok-Some c =
    c.kind_of.ensures ∙ line_kinds c.args.answer c.in-Ok-Some.line (c.in-Ok-Some.is ∙ ap Ok (rw c.in-Ok-Some.is at c.in-Ok-Some.field-0-is))

pub returns-in-Ok-None : goal.returns-in-Ok-None
returns-in-Ok-None c = no_kinds c.args.answer (ap line_in (c.in-Ok-None.is ∙ ap Ok (rw c.in-Ok-None.is at c.in-Ok-None.field-0-is)))

pub returns-in-Err : goal.returns-in-Err
returns-in-Err c = no_kinds c.args.answer (ap line_in c.in-Err.is)

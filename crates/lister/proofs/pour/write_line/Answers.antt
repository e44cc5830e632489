use Rattle.std.specs.Prelude.{Ok}
use mathlib.Core.Path.{◌∙◌}
use Rattle.std.proofs.Common.{ap}
use Rattle.receiver.specs.Chunks.{line_in}
use Rattle.lister.proofs.Pouring.{line_put, no_text}
use Rattle.lister.proofs.pour.write_line.Goals as goal

pub returns-in-Ok-Some : goal.returns-in-Ok-Some
returns-in-Ok-Some c =
    let args = c.args in
    line_put args.answer c.in-Ok-Some.line args.at args.room.now (c.in-Ok-Some.is ∙ ap Ok (rw c.in-Ok-Some.is at c.in-Ok-Some.field-0-is)) c.requires c.line.ensures

pub returns-in-Ok-None : goal.returns-in-Ok-None
returns-in-Ok-None c =
    let args = c.args in
    no_text args.answer args.at args.room.now (ap line_in (c.in-Ok-None.is ∙ ap Ok (rw c.in-Ok-None.is at c.in-Ok-None.field-0-is)))

pub returns-in-Err : goal.returns-in-Err
returns-in-Err c =
    let args = c.args in
    no_text args.answer args.at args.room.now (ap line_in c.in-Err.is)

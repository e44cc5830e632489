-- `of_step` tells a step in numbers.
-- Assumes nothing.
use Rattle.std.specs.Prelude.{Ok}
use mathlib.Core.Path.{sym, ap, ◌∙◌}
use Rattle.kamzhor.specs.Host.{no_line, answer_given}
use Rattle.kamzhor.proofs.of_step.Goals as goal

pub returns-in-Ok-None : goal.returns-in-Ok-None
returns-in-Ok-None c =
    let s = c.args.stepped in
    c.no_line.ensures ∙ sym (ap (answer_given s.receiver s.taken) (c.in-Ok-None.is ∙ ap Ok (rw c.in-Ok-None.is at c.in-Ok-None.field-0-is)))

pub returns-in-Err : goal.returns-in-Err
returns-in-Err c =
    let s = c.args.stepped in
    c.no_line-in-Err.ensures ∙ ap (no_line s.receiver s.taken) c.number.ensures ∙ sym (ap (answer_given s.receiver s.taken) c.in-Err.is)

pub returns-in-Ok-Some : goal.returns-in-Ok-Some
returns-in-Ok-Some c =
    let s = c.args.stepped in
    rw (c.kind_of.ensures, c.of_event.ensures) (sym (ap (answer_given s.receiver s.taken) (c.in-Ok-Some.is ∙ ap Ok (rw c.in-Ok-Some.is at c.in-Ok-Some.field-0-is))))

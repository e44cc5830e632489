-- `step_counted` is a step that counts its line, told in numbers.
-- Assumes nothing.
use mathlib.Core.Path.{ap, ◌∙◌}
use Rattle.kamzhor.specs.Host.{step_given}
use Rattle.kamzhor.proofs.step_counted.Goals as goal

pub returns : goal.returns
returns c = let count = c.count_step-counted in (c.of_step.ensures ∙ ap step_given count.ensures.0, count.ensures.1)

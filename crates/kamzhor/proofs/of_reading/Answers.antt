-- `of_reading` tells a reading in numbers.
-- Assumes nothing.
use mathlib.Core.Path.{sym, ap, ap₂, ◌∙◌}
use Rattle.kamzhor.specs.Host.{frame_number, frame_given}
use Rattle.kamzhor.proofs.of_reading.Goals as goal

pub returns-in-Err : goal.returns-in-Err
returns-in-Err c = c.frame_number.ensures ∙ ap₂ frame_number c.number.ensures c.place.ensures ∙ sym (ap frame_given c.in-Err.is)

pub returns-in-Ok : goal.returns-in-Ok
returns-in-Ok c = sym (ap frame_given c.in-Ok.is)

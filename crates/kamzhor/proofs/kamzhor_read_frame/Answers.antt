-- `kamzhor_read_frame` is the frame reader, told in numbers.
-- Assumes nothing.
use mathlib.Core.Path.{ap, ◌∙◌}
use Rattle.kamzhor.specs.Host.{frame_given}
use Rattle.kamzhor.proofs.kamzhor_read_frame.Goals as goal

pub returns : goal.returns
returns c =
    let read = c.read in (
      c.of_reading.ensures ∙ ap frame_given read.ensures.0,
      read.ensures.1,
    )

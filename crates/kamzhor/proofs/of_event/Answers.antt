-- `of_event` tells a line's frame as the frame reader's answer.
-- Assumes nothing.
use mathlib.Core.Path.{sym, ap, ◌∙◌}
use Rattle.kamzhor.specs.Host.{line_frame}
use Rattle.kamzhor.proofs.of_event.Goals as goal

pub returns-in-Read : goal.returns-in-Read
returns-in-Read c = c.of_reading.ensures ∙ sym (ap line_frame c.in-Read.is)

pub returns-in-Refused : goal.returns-in-Refused
returns-in-Refused c = c.of_reading-in-Refused.ensures ∙ sym (ap line_frame c.in-Refused.is)

pub returns-in-Dropped : goal.returns-in-Dropped
returns-in-Dropped c = c.frame_number.ensures ∙ sym (ap line_frame c.in-Dropped.is)

pub returns-in-Open : goal.returns-in-Open
returns-in-Open c = c.frame_number-in-Open.ensures ∙ sym (ap line_frame c.in-Open.is)

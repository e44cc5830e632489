use mathlib.Core.Path.{sym, ap}
use Rattle.listing.specs.Events.{read_event}
use Rattle.receiver.proofs.steps.event_of.Goals as goal

pub returns-in-Ok : goal.returns-in-Ok
returns-in-Ok c = sym (ap read_event c.in-Ok.is)

pub returns-in-Err : goal.returns-in-Err
returns-in-Err c = sym (ap read_event c.in-Err.is)

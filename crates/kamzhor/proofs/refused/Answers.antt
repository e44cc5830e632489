-- `refused` tells the refusal of a value.
-- Assumes nothing.
use mathlib.Core.Path.{ap}
use Rattle.kamzhor.specs.Host.{value_number}
use Rattle.kamzhor.proofs.refused.Goals as goal

pub returns : goal.returns
returns c = ap value_number c.number.ensures

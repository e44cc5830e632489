use native.Mathlib.Omega.{arith}
use Rattle.tally.proofs.Returns.{full_at_most}
use Rattle.tally.proofs.counting.is_full.Goals as goal

pub returns : goal.returns
returns c = rw (← c.number_for.ensures) (full_at_most c.number_for.result (omega arith))

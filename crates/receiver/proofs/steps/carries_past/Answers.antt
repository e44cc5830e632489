use native.Mathlib.Omega.{arith}
use Rattle.receiver.proofs.Returns.{past_test}
use Rattle.receiver.proofs.steps.carries_past.Goals as goal

pub returns : goal.returns
returns c = past_test c.args.place _ (omega arith)

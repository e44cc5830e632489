use mathlib.Core.Path.{refl}
use Rattle.receiver.specs.Receiver.{no_bytes}
use Rattle.receiver.proofs.steps.fresh.Goals as goal

pub returns : goal.returns
unfolding no_bytes
returns c = refl

use mathlib.Core.Path.{◌≡◌, refl}
use Rattle.receiver.specs.Receiver.{fault_number}
use Rattle.receiver.specs.declared.Fault.{Fault}
use Rattle.receiver.specs.declared.Fault.TheVariants.{PastLargest}
use Rattle.receiver.proofs.number.Goals as goal

sixty : (f : Fault) → 60 ≡ fault_number f
sixty PastLargest = refl

pub returns : goal.returns
returns c = sixty c.args.fault

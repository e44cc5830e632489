-- `number` is 50: there is one refusal.
-- Assumes nothing.
use mathlib.Core.Path.{◌≡◌, refl}
use Rattle.catalogue.specs.Catalogue.{fault_number}
use Rattle.catalogue.specs.declared.Fault.{Fault}
use Rattle.catalogue.specs.declared.Fault.TheVariants.{NoSuchRow}
use Rattle.catalogue.proofs.number.Goals as goal

fifty : (f : Fault) → 50 ≡ fault_number f
fifty NoSuchRow = refl

pub returns : goal.returns
returns c = fifty c.args.fault

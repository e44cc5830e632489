-- What the calls answer: `Ok` with what they found, or `Err` with the refusal.
-- Assumes nothing.
use Rattle.std.specs.Prelude.{Result}
use Rattle.desk.specs.declared.Fault.{Fault}
use Rattle.scan.specs.declared.Stage.{Stage}

abbrev pub Stepping : Type 0
Stepping = Result Stage Fault

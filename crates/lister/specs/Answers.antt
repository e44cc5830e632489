-- What the calls answer: `Ok` with what they found, or `Err` with the refusal.
-- Assumes nothing.
use Rattle.std.specs.Prelude.{Result, ⊤}
use Rattle.receiver.specs.declared.Fault.{Fault}

abbrev pub Outcome : Type 0
Outcome = Result ⊤ Fault

-- What the calls answer: `Ok` with what they found, or `Err` with the refusal.
-- Assumes nothing.
use Rattle.std.specs.Prelude.{Result, ⊤}
use Rattle.request.specs.declared.Fault.{Fault}

abbrev pub Asking : Type 0
Asking = Result ⊤ Fault

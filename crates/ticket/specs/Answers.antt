-- What the calls answer: `Ok` with what they found, or `Err` with the refusal.
-- Assumes nothing.
use Rattle.std.specs.Prelude.{Result, ⊤}
use Rattle.ticket.specs.declared.Fault.{Fault}

abbrev pub Judged : Type 0
Judged = Result ⊤ Fault

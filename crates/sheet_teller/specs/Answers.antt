-- What the calls answer: `Ok` with what they found, or `Err` with the refusal.
-- Assumes nothing.
use Rattle.std.specs.Prelude.{ℕ, Result}
use Rattle.sheet_teller.specs.declared.Fault.{Fault}

abbrev pub Telling : Type 0
Telling = Result ℕ Fault

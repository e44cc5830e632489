-- What the calls answer: `Ok` with what they found, or `Err` with the refusal.
-- Assumes nothing.
use Rattle.std.specs.Prelude.{ℕ, Result, ⊤}
use Rattle.values.specs.declared.Fault.{Fault}
use Rattle.values.specs.declared.Value.{Value}

abbrev pub Stored : Type 0
Stored = Result ℕ Fault

abbrev pub Reading : Type 0
Reading = Result Value Fault

abbrev pub Writing : Type 0
Writing = Result ⊤ Fault

-- What the calls answer: `Ok` with what they found, or `Err` with the refusal.
-- Assumes nothing.
use Rattle.std.specs.Prelude.{ℕ, Result, ⊤}
use Rattle.telegram.specs.declared.Fields.{Fields}
use Rattle.telegram.specs.declared.Fault.{Fault}

abbrev pub Reading : Type 0
Reading = Result Fields Fault

abbrev pub Writing : Type 0
Writing = Result ℕ Fault

abbrev pub Judged : Type 0
Judged = Result ⊤ Fault

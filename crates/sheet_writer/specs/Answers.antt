-- What the calls answer: `Ok` with what they found, or `Err` with the refusal.
-- Assumes nothing.
use Rattle.std.specs.Prelude.{ℕ, Result}
use Rattle.setting.specs.declared.Fault.{Fault}

abbrev pub Writing : Type 0
Writing = Result ℕ Fault

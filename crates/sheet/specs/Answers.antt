-- What the calls answer: `Ok` with what they found, or `Err` with the refusal.
-- Assumes nothing.
use Rattle.std.specs.Prelude.{ℕ, Result}
use Rattle.setting.specs.declared.Fault.{Fault}
use Rattle.sheet.specs.declared.Record.{Record}

abbrev pub Checked : Type 0
Checked = Result ℕ Fault

abbrev pub Reading : Type 0
Reading = Result Record Fault

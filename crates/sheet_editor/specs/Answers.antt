-- What the calls answer: `Ok` with what they found, or `Err` with the refusal.
-- Assumes nothing.
use Rattle.std.specs.Prelude.{ℕ, Result}
use Rattle.sheet_editor.specs.declared.Fault.{Fault}

abbrev pub Editing : Type 0
Editing = Result ℕ Fault

abbrev pub Judged : Type 0
Judged = Result ℕ Fault

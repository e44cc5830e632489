-- What the calls answer: `Ok` with what they found, or `Err` with the refusal.
-- Assumes nothing.
use Rattle.std.specs.Prelude.{Option, Result}
use Rattle.setting.specs.declared.Head.{Head}
use Rattle.sheet_line.specs.declared.Fault.{Fault}
use Rattle.sheet.specs.declared.Record.{Record}

abbrev pub Judged : Type 0
Judged = Result Head Fault

-- `None` for a line without a word
abbrev pub Line : Type 0
Line = Result (Option Record) Fault

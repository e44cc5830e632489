-- What the calls answer: `Ok` with what they found, or `Err` with the refusal.
-- Assumes nothing.
use Rattle.std.specs.Prelude.{Option, Result}
use Rattle.lines.specs.declared.Placed.{Placed}
use Rattle.tally.specs.declared.Fault.{Fault}

abbrev pub Answer : Type 0
Answer = Result (Option Placed) Fault

-- What the calls answer: `Ok` with what they found, or `Err` with the refusal.
-- Assumes nothing.
use Rattle.std.specs.Prelude.{ℕ, Result, Ok, ⊤}
use Rattle.lanes.specs.declared.Joined.{Joined}
use Rattle.lanes.specs.declared.Fault.{Fault}
use Rattle.lanes.specs.declared.Turn.{Turn}

abbrev pub Joining : Type 0
Joining = Result Joined Fault

abbrev pub joining : ℕ → ℕ → Joining
joining lane place = Ok (record { lane = lane; place = place })

abbrev pub Withdrawing : Type 0
Withdrawing = Result ⊤ Fault

abbrev pub Granting : Type 0
Granting = Result Turn Fault

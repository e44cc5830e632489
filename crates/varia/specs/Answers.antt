-- What the calls answer: `Ok` with what they found, or `Err` with the refusal.
-- Assumes nothing.
use Rattle.std.specs.Prelude.{ℕ, Option, Result, Ok, Some}
use Rattle.desk.specs.declared.Opened.{Opened}
use Rattle.varia.specs.declared.Fault.{Fault}
use Rattle.varia.specs.declared.Pass.{Pass}
use Rattle.varia.specs.declared.Sent.{Sent}

abbrev pub Asking : Type 0
Asking = Result Opened Fault

abbrev pub asking : ℕ → ℕ → Asking
asking address size = Ok (record { address = address; size = size })

abbrev pub Edge : Type 0
Edge = Option ℕ

abbrev pub Out : Type 0
Out = Option Sent

abbrev pub sent : ℕ → Pass → ℕ → Out
sent address pass tenths = Some (record { address = address; pass = pass; tenths = tenths })

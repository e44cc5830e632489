-- What the calls answer: `Ok` with what they found, or `Err` with the refusal.
-- Assumes nothing.
use Rattle.std.specs.Prelude.{ℕ, Result, Ok}
use Rattle.desk.specs.declared.Opened.{Opened}
use Rattle.desk.specs.declared.Fault.{Fault}
use Rattle.desk.specs.declared.Booked.{Booked}
use Rattle.desk.specs.declared.Closed.{Closed}

abbrev pub Opening : Type 0
Opening = Result Opened Fault

abbrev pub opening : ℕ → ℕ → Opening
opening address size = Ok (record { address = address; size = size })

abbrev pub Booking : Type 0
Booking = Result Booked Fault

abbrev pub booking : ℕ → ℕ → ℕ → ℕ → ℕ → Booking
booking job address sort size folder = Ok (record { job = job; address = address; sort = sort; size = size; folder = folder })

abbrev pub Closing : Type 0
Closing = Result Closed Fault

abbrev pub closing : ℕ → ℕ → ℕ → Closing
closing job address folder = Ok (record { job = job; address = address; folder = folder })

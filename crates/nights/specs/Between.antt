-- What lies between two openings, by what the callers saw: the closings of an address.
-- Assumes nothing.
use Rattle.std.specs.Prelude.{◌≡◌, List, ℕ}
use Rattle.desk.specs.declared.Desk.{Desk}
use Rattle.nights.specs.Night.{Call, Event, event_of}
use Rattle.nights.specs.Night.{opened, booked, withdrawn, nothing}
use Rattle.nights.specs.Round.{Among}

-- the caller saw that the ticket on the address was closed: by its reply, by a cancel or by an expiry
abbrev pub Closes : ℕ → Event → Type 0
Closes a (opened address asked clock) = ⊥
Closes a (booked job address source sort register folder) = address ≡ a
Closes a (withdrawn job address folder clock) = address ≡ a
Closes a nothing = ⊥

-- one of the calls did
abbrev pub ClosedIn : Desk → List Call → ℕ → Type 0
ClosedIn desk calls a = Among (λ d c. Closes a (event_of d c)) desk calls

-- How long ago a clock was read, and when a ticket is due.
-- Assumes nothing.
use Rattle.std.specs.Prelude.{◌≡◌, ℕ, ◌+◌, ◌-◌, ◌%◌, ◌^◌, ◌≤◌, Bool, ◌&&◌, nat_le}
use Rattle.ticket.specs.Ticket.{Open}
use Rattle.ticket.specs.declared.Ticket.{Ticket}

-- "A ticket's age is the clock minus its opening, reduced modulo 4294967296", and so is that of its closing
unfoldable pub age : ℕ → ℕ → ℕ
age clock since = (clock + 2 ^ 32 - since) % 2 ^ 32

-- "and it is due when the age is at least its waiting time"
abbrev pub IsDue : ℕ → Ticket → Type 0
IsDue clock ticket = Open ticket × (ticket.asked.wait ≤ age clock ticket.opened)

abbrev pub is_due : ℕ → Ticket → Bool
is_due clock ticket = ticket.live && nat_le ticket.asked.wait (age clock ticket.opened)

-- the contract of `is_due`
abbrev pub TellsDue : Ticket → ℕ → Bool → Type 0
TellsDue ticket clock r = r ≡ is_due clock ticket

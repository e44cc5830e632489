-- What stands on a host address: a ticket, or what is kept of one that was cancelled or expired, or nothing.
-- Assumes nothing.
use Rattle.std.specs.Prelude.{◌≡◌, ℕ, true, false}
use Rattle.request.specs.declared.Request.{Request}
use Rattle.ticket.specs.declared.Ticket.{Ticket}

-- nothing was asked
abbrev pub no_request : Request
no_request = record { job = 0; unit = 0; sort = 0; register = 0; wait = 0; folder = 0 }

-- no ticket, and none that was cancelled or expired
abbrev pub no_ticket : Ticket
no_ticket = record { live = false; asked = no_request; opened = 0; withdrawn = false; closed = 0 }

-- the ticket of a request that is opened at a clock
abbrev pub new_ticket : Request → ℕ → Ticket
new_ticket asked clock = record { live = true; asked = asked; opened = clock; withdrawn = false; closed = 0 }

-- what is kept of a ticket that was cancelled or expired at a clock, until the address is given out again
abbrev pub withdrawn_at : ℕ → Ticket
withdrawn_at clock = record { live = false; asked = no_request; opened = 0; withdrawn = true; closed = clock }

-- a ticket is open there
abbrev pub Open : Ticket → Type 0
Open ticket = ticket.live ≡ true

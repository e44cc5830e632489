-- When an address may be given out. 02, #102: "From now an address closed by cancel or expiry rests: it is not given out exactly while the
-- clock minus its closing, modulo 4294967296, is under 1000 ms."
-- Assumes nothing.
use Rattle.std.specs.Prelude.{◌≡◌, ℕ, ◌<◌, Bool, true, false, not, ◌&&◌, nat_lt}
use Rattle.ticket.specs.Due.{age}
use Rattle.ticket.specs.declared.Ticket.{Ticket}

-- it rests at a clock
abbrev pub Rests : ℕ → Ticket → Type 0
Rests clock ticket = (ticket.withdrawn ≡ true) × (age clock ticket.closed < 1000)

abbrev pub is_resting : ℕ → Ticket → Bool
is_resting clock ticket = ticket.withdrawn && nat_lt (age clock ticket.closed) 1000

-- it is free at a clock: no ticket is open there, and it does not rest
abbrev pub Free : ℕ → Ticket → Type 0
Free clock ticket = (ticket.live ≡ false) × (Rests clock ticket → ⊥)

abbrev pub is_free : ℕ → Ticket → Bool
is_free clock ticket = not ticket.live && not (is_resting clock ticket)

-- the contract of `is_resting`
abbrev pub TellsResting : Ticket → ℕ → Bool → Type 0
TellsResting ticket clock r = r ≡ is_resting clock ticket

-- One folder, one job. 02, #110: "Each ticket and each waiting request now carries a 32-bit output folder number, 0 for none." A ticket
-- keeps other jobs off its folder while it is open: "Resting addresses hold no folder."
-- Assumes nothing.
use Rattle.std.specs.Prelude.{◌≡◌, ℕ, Bool, not, ◌&&◌, ◌≢◌, ◌==◌}
use Rattle.ticket.specs.Ticket.{Open}
use Rattle.ticket.specs.declared.Ticket.{Ticket}

-- it keeps a job off a folder: it is open for another job, and holds that folder
abbrev pub Bars : ℕ → ℕ → Ticket → Type 0
Bars job folder ticket = Open ticket × (ticket.asked.folder ≡ folder) × (ticket.asked.job ≢ job)

abbrev pub is_barred : ℕ → ℕ → Ticket → Bool
is_barred job folder ticket = ticket.live && (ticket.asked.folder == folder && not (ticket.asked.job == job))

-- the contract of `bars`
abbrev pub TellsBarred : Ticket → ℕ → ℕ → Bool → Type 0
TellsBarred ticket job folder r = r ≡ is_barred job folder ticket

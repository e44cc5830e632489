-- One folder, one job: row 75. 02, #110: "No two open tickets of different jobs may hold the same folder other than 0".
-- Assumes nothing.
use Rattle.std.specs.Prelude.{Bool, not, ◌&&◌, List, ◌≢◌, ℕ, ◌<◌, eqb, ltb}
use Rattle.first.specs.First.{first_place}
use Rattle.request.specs.declared.Request.{Request}
use Rattle.ticket.specs.Folder.{Bars, is_barred}
use Rattle.ticket.specs.declared.Ticket.{Ticket}
use Rattle.desk.specs.Desk.{standing, place_in, ticket_at}
use Rattle.desk.specs.declared.Desk.{Desk}

-- 75: "folder held by another job": the folder that is asked for is not 0, and an open ticket of another job holds it
unfoldable pub IsFolderHeld : Desk → Request → Type 0
IsFolderHeld desk asked = (asked.folder ≢ 0) × ((place : ℕ) × (place < 95) × Bars asked.job asked.folder (ticket_at desk place))

-- the lowest place with a ticket that keeps a job off a folder; 95 where there is none
abbrev pub holder_in : List Ticket → ℕ → ℕ → ℕ
holder_in tickets job folder = first_place (λ place. is_barred job folder (place_in tickets place)) 95

unfoldable pub holder_place : Desk → ℕ → ℕ → ℕ
holder_place desk job folder = holder_in (standing desk) job folder

-- what is asked is for a folder, and it has such a holder
abbrev pub held_by : ℕ → Request → Bool
held_by holder asked = not (eqb asked.folder 0) && ltb holder 95

unfoldable pub is_folder_held : Desk → Request → Bool
is_folder_held desk asked = held_by (holder_place desk asked.job asked.folder) asked

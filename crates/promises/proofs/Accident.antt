-- The accident: "One night two jobs were handed the same folder, and both had used the same host address on the line. A filter reading meant
-- for one animal was filed under the other, and a trilobite's plates were overwritten by a fish. Nothing reported an error." What keeps it from
-- happening again, over any calls from a fresh desk on, lanes and sweeps among them, by what the callers were answered.
-- Assumes nothing.
use mathlib.Core.Path.{◌≡◌, sym}
use mathlib.Core.List.{List, []}
use mathlib.Core.Logic.{◌≢◌}
use Prim.Native.Nat.{ℕ}
use Rattle.request.specs.declared.Request.{Request}
use Rattle.desk.specs.Desk.{fresh_desk}
use Rattle.nights.proofs.Laws.{booked_where_fits, withdrawn_where_theirs}
use Rattle.nights.proofs.Between.{closed_before_again, closed_before_other}
use Rattle.nights.specs.Between.{ClosedIn}
use Rattle.nights.specs.Night.{Call, after, event_of, after_all, answered_all, last_on}
use Rattle.nights.specs.Night.{opened, booked, withdrawn, stands}
-- no two open tickets of different jobs hold the same folder, and "Nothing reported an error": who asks for one that is held is told 75
pub use Rattle.nights.proofs.Between.{folders_apart, held_then, closes_plainly, closed_in_plainly}
-- with lanes in front it is a night at the desk, and with sweeps, beside a filter box and beside a scan too
pub use Rattle.nights.proofs.Plainly.{night_plainly}
pub use Rattle.turns.proofs.Laws.{any_night_behind, folders_apart_behind}
pub use Rattle.overdue.proofs.Laws.{night_swept, folders_apart_swept}
pub use Rattle.evenings.proofs.Laws.{night_beside, folders_apart_beside}
pub use Rattle.scans.proofs.Laws.{night_beside as night_beside_a_scan, folders_apart_beside as folders_apart_beside_a_scan}
-- and so is any night of a C host, whatever it calls of the archive, by the numbers that C is told
pub use Rattle.hosts.proofs.Night.{goes_on, goes_on_all, host_night, night_from}
pub use Rattle.hosts.proofs.Plainly.{host_opens, host_grants, host_sets, host_scans, host_books, host_cancels, host_expires, host_folders, host_opens_fresh}

-- after any calls one call opened a ticket, any calls later another did
module _ (before : List Call) (first : Call) (between : List Call) (second : Call) (address other : ℕ) (asked theirs : Request) (clock clock' : ℕ)
    (opens : event_of (after_all fresh_desk before) first ≡ opened address asked clock)
    (opens_later : event_of (after_all (after (after_all fresh_desk before) first) between) second ≡ opened other theirs clock') where
  -- "both had used the same host address on the line": an address is another's only once the ticket there was closed
  pub one_address : other ≡ address → ClosedIn (after (after_all fresh_desk before) first) between address
  one_address same = closed_before_again before first between second address other asked theirs clock clock' opens opens_later (sym same)

  -- "two jobs were handed the same folder": between the opening of a job on a folder and the closing of its last ticket on it no other job is
  -- given a ticket on that folder. Each ticket that the job opened on it was closed before.
  pub one_folder : asked.folder ≢ 0 → theirs.folder ≡ asked.folder → theirs.job ≢ asked.job
      → ClosedIn (after (after_all fresh_desk before) first) between address
  one_folder = closed_before_other before first between second address other asked theirs clock clock' opens opens_later

-- "A filter reading meant for one animal was filed under the other": what is booked, and what is given up, goes to the job and the folder of the
-- opening that stands on the address
module _ (calls : List Call) (call : Call) where
  pub filed_where_asked : (job address source sort register folder : ℕ) → event_of (after_all fresh_desk calls) call ≡ booked job address source sort register folder
      → (asked : Request) × (clock : ℕ) × (last_on (answered_all fresh_desk [] calls) address ≡ stands asked clock) × (job ≡ asked.job) × (folder ≡ asked.folder)
  filed_where_asked job address source sort register folder e =
      let b = booked_where_fits calls call job address source sort register folder e in
      (b.0, b.1, b.2, b.3, b.7)

  pub given_up_where_asked : (job address folder clock : ℕ) → event_of (after_all fresh_desk calls) call ≡ withdrawn job address folder clock
      → (asked : Request) × (opening : ℕ) × (last_on (answered_all fresh_desk [] calls) address ≡ stands asked opening) × (job ≡ asked.job) × (folder ≡ asked.folder)
  given_up_where_asked = withdrawn_where_theirs calls call

-- What is promised of a sweep: of each entry, and of the list and the desk as a whole.
-- Assumes nothing.
use Rattle.std.specs.Prelude.{◌≡◌, List, ◌≢◌, ℕ, suc, ◌+◌, ◌*◌, ◌/◌, ◌≤◌, ◌<◌, length, drop}
use Rattle.desk.specs.Desk.{ticket_at, ticket_on}
use Rattle.desk.specs.declared.Desk.{Desk}
use Rattle.ticket.specs.Due.{IsDue}
use Rattle.ticket.specs.Ticket.{withdrawn_at}
use Rattle.overdue.specs.declared.Swept.{Swept}
use Rattle.overdue.specs.Overdue.{job_of, address_of, folder_of}

-- an entry is a ticket that was open and due, with its job and its folder
pub record Entered (desk : Desk) (clock : ℕ) (list : List ℕ) (i : ℕ) : Type 0 where
  pub place : ℕ
  pub host : place < 95
  pub address : address_of list i ≡ 161 + place
  pub due : IsDue clock (ticket_on desk (161 + place))
  pub job : job_of list i ≡ (ticket_on desk (161 + place)).asked.job
  pub folder : folder_of list i ≡ (ticket_on desk (161 + place)).asked.folder

-- the entries, the desk, and what stays of the list
pub record Sweeping (desk : Desk) (clock : ℕ) (list : List ℕ) (r : Swept) (list' : List ℕ) : Type 0 where
  pub within : r.count ≤ length list / 3
  pub all : r.count < length list / 3 → (place : ℕ) → place < 95 → IsDue clock (ticket_at r.desk place) → ⊥
  pub each : (i : ℕ) → i < r.count → Entered desk clock list' i
  pub rise : (i : ℕ) → suc i < r.count → address_of list' i < address_of list' (suc i)
  pub rest : (i : ℕ) → i < r.count → ticket_on r.desk (address_of list' i) ≡ withdrawn_at clock
  pub others : (place : ℕ) → ((i : ℕ) → i < r.count → address_of list' i ≢ 161 + place) → ticket_at r.desk place ≡ ticket_at desk place
  pub turn : r.desk.turn ≡ desk.turn
  pub stays : drop (3 * r.count) list' ≡ drop (3 * r.count) list
  pub same : length list' ≡ length list

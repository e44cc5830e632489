-- Expiring everything that is due: "One call with a lent list of job and address pairs should do single expiries at one clock reading
-- until the list is full or nothing is due." 02, #110: "#107's list holds job, address and folder."
-- Assumes nothing.
use Rattle.std.specs.Prelude.{◌≡◌, Bool, true, false, List, [], ◌∷◌, ℕ, zero, suc, ◌+◌, ◌*◌, ◌/◌, length, get_or, Ok, Err}
use Rattle.lent.specs.Lent.{over, over_at}
use Rattle.desk.specs.Close.{due_place, expire_refusal, close_answer, close_desk, withdrawn_on}
use Rattle.desk.specs.Desk.{ticket_at, ticket_on}
use Rattle.ticket.specs.Due.{is_due}
use Rattle.nights.specs.Night.{Event, withdrawn}
use Rattle.desk.specs.declared.Desk.{Desk}
use Rattle.desk.specs.declared.AfterClose.{AfterClose}
use Rattle.desk.specs.Answers.{Closing}
use Rattle.overdue.specs.declared.Swept.{Swept}

-- what a single call of `expire` gives
unfoldable pub expired : Desk → ℕ → AfterClose
expired desk clock =
    record {
      desk = close_desk (expire_refusal desk clock) desk (161 + due_place desk clock) clock;
      answer = close_answer (expire_refusal desk clock) (ticket_on desk (161 + due_place desk clock)) (161 + due_place desk clock);
    }

-- one entry for a ticket that was closed, its job, its address and its folder, and then the others; none from where nothing is due on
abbrev pub listed : Closing → List ℕ → List ℕ
listed (Ok closed) others = closed.job ∷ closed.address ∷ closed.folder ∷ others
listed (Err f) others = []

abbrev pub counted : Closing → ℕ → ℕ
counted (Ok closed) others = suc others
counted (Err f) others = 0

-- "State and list are what the single calls would give in that order": of at most so many calls at one clock, what they close, how many
-- tickets that are, and the desk they leave
unfoldable pub entries : ℕ → Desk → ℕ → List ℕ
entries zero desk clock = []
entries (suc n) desk clock = listed (expired desk clock).answer (entries n (expired desk clock).desk clock)

unfoldable pub how_many : ℕ → Desk → ℕ → ℕ
how_many zero desk clock = 0
how_many (suc n) desk clock = counted (expired desk clock).answer (how_many n (expired desk clock).desk clock)

unfoldable pub desk_after : ℕ → Desk → ℕ → Desk
desk_after zero desk clock = desk
desk_after (suc n) desk clock = desk_after n (expired desk clock).desk clock

-- how many entries a list has room for: three numbers each, and what is left of a last one is none
unfoldable pub room_in : List ℕ → ℕ
room_in list = length list / 3

-- the job, the address and the folder of the entry at i, from 0 on
unfoldable pub job_of : List ℕ → ℕ → ℕ
job_of list i = get_or list (3 * i) 0

unfoldable pub address_of : List ℕ → ℕ → ℕ
address_of list i = get_or list (3 * i + 1) 0

unfoldable pub folder_of : List ℕ → ℕ → ℕ
folder_of list i = get_or list (3 * i + 2) 0

-- ---- the contract: "and unused entries stay. It answers how many"

abbrev pub ExpiresAll : Desk → ℕ → List ℕ → Swept → List ℕ → Type 0
ExpiresAll desk clock list r list' =
    (r.desk ≡ desk_after (room_in list) desk clock)
    × (r.count ≡ how_many (room_in list) desk clock)
    × (list' ≡ over (entries (room_in list) desk clock) list)

-- ---- what the callers saw of it, in the events of a night, the latest first

unfoldable pub told : List ℕ → ℕ → List Event → List Event
told (job ∷ address ∷ folder ∷ rest) clock past = told rest clock (withdrawn job address folder clock ∷ past)
told (job ∷ address ∷ []) clock past = past
told (job ∷ []) clock past = past
told [] clock past = past

-- ---- one address: the ticket at a place is closed and entered if it is due

abbrev pub closed_at : Bool → Swept → ℕ → ℕ → Swept
closed_at true before place clock = record { desk = withdrawn_on before.desk (161 + place) clock; count = before.count + 1 }
closed_at false before place clock = before

abbrev pub entered_at : Bool → Swept → ℕ → List ℕ
entered_at true before place = (ticket_at before.desk place).asked.job ∷ (161 + place) ∷ (ticket_at before.desk place).asked.folder ∷ []
entered_at false before place = []

abbrev pub LooksAt : Swept → ℕ → ℕ → List ℕ → Swept → List ℕ → Type 0
LooksAt before place clock list r list' =
    (r ≡ closed_at (is_due clock (ticket_at before.desk place)) before place clock)
    × (list' ≡ over_at (3 * before.count) (entered_at (is_due clock (ticket_at before.desk place)) before place) list)

-- The turn's round: which places an opening gives, and which it passes over because they are open or rest.
-- Assumes nothing.
use Rattle.std.specs.Prelude.{◌≡◌, Bool, cond, not, ◌&&◌, List, [], ◌∷◌, ◌⊎◌, ℕ, zero, suc, ◌+◌, ◌<◌, eqb}
use Rattle.desk.specs.Desk.{ticket_at}
use Rattle.desk.specs.Open.{place_from, distance_of, given_place}
use Rattle.desk.specs.declared.Desk.{Desk}
use Rattle.request.specs.declared.Request.{Request}
use Rattle.ticket.specs.Rest.{Rests}
use Rattle.ticket.specs.Ticket.{Open}
use Rattle.ticket.specs.declared.Ticket.{Ticket}
use Rattle.nights.specs.Night.{Call, Event, after, event_of}
use Rattle.nights.specs.Night.{opened, booked, withdrawn, nothing}

-- the caller saw that the address of the place was given at a clock
unfoldable pub GivesAt : Desk → Call → ℕ → ℕ → Type 0
GivesAt desk call place clock = (asked : Request) × (event_of desk call ≡ opened (161 + place) asked clock)

abbrev pub Gives : Desk → Call → ℕ → Type 0
Gives desk call place = (clock : ℕ) × GivesAt desk call place clock

-- the call gives another place, and passes this one over because it is open or rests at the call's clock
unfoldable pub PassesOver : Desk → Call → ℕ → Type 0
PassesOver desk call place =
    (clock : ℕ)
    × GivesAt desk call (given_place desk clock) clock
    × ((k : ℕ) × (k < distance_of desk clock) × (place ≡ place_from desk.turn k))
    × (Open (ticket_at desk place) ⊎ Rests clock (ticket_at desk place))

-- of one of the calls, on the desk that the calls before it left, something holds
unfoldable pub Among : (Desk → Call → Type 0) → Desk → List Call → Type 0
Among holds desk [] = ⊥
Among holds desk (c ∷ cs) = holds desk c ⊎ Among holds (after desk c) cs

-- of each of them
unfoldable pub Each : (Desk → Call → Type 0) → Desk → List Call → Type 0
Each holds desk [] = Unit {0}
Each holds desk (c ∷ cs) = holds desk c × Each holds (after desk c) cs

-- one of the calls gives the place or passes it over
abbrev pub Met : Desk → List Call → ℕ → Type 0
Met desk calls place = Among (λ d c. Gives d c place ⊎ PassesOver d c place) desk calls

-- one of the calls gives the place
abbrev pub GivenIn : Desk → List Call → ℕ → Type 0
GivenIn desk calls place = Among (λ d c. Gives d c place) desk calls

-- each call that gives an address does it at such a clock
abbrev pub OpensWhile : (ℕ → Type 0) → Desk → List Call → Type 0
OpensWhile such desk calls = Each (λ d c. (place clock : ℕ) → GivesAt d c place clock → such clock) desk calls

-- ---- how many openings lie between two that give one address

-- an answer that gives an address counts as one opening
abbrev pub one_opening : Event → ℕ
one_opening (opened address asked clock) = 1
one_opening (booked job address source sort register folder) = 0
one_opening (withdrawn job address folder clock) = 0
one_opening nothing = 0

-- how many of the calls are openings, by their answers
unfoldable pub openings_in : Desk → List Call → ℕ
openings_in desk [] = 0
openings_in desk (c ∷ cs) = one_opening (event_of desk c) + openings_in (after desk c) cs

-- how many of the places 0 to n - 1 fit
unfoldable pub count_of : (ℕ → Bool) → ℕ → ℕ
count_of fits zero = 0
count_of fits (suc n) = cond (fits n) 1 0 + count_of fits n

-- free at whatever clock: no ticket is open, and the last one was not cancelled and did not expire
abbrev pub is_clear : Ticket → Bool
is_clear ticket = not ticket.live && not ticket.withdrawn

-- how many addresses other than the one at the place are free at whatever clock
unfoldable pub others_free : Desk → ℕ → ℕ
others_free desk place = count_of (λ other. is_clear (ticket_at desk other) && not (eqb other place)) 95

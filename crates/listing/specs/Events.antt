-- What a captured line holds: "Bytes outside a frame are passed over. A 13 opens a frame, a second 13 drops it and opens another, a 10 closes
-- it and it is read." So each 13 has one event, and the next 10 or 13 after it decides which.
-- Assumes nothing.
use Rattle.std.specs.Prelude.{Bool, cond, ◌||◌, List, [], ◌∷◌, ◌++◌, ℕ, suc, ◌+◌, eqb, leb, ltb, length, get_or, take, Ok, Err}
use Rattle.telegram.specs.Read.{read_frame}
use Rattle.telegram.specs.declared.Fault.TheVariants.{LongMessage}
use Rattle.telegram.specs.Answers.{Reading}
use Rattle.lines.specs.declared.Event.{Event}
use Rattle.lines.specs.declared.Event.TheVariants.{Read, Refused, Dropped, Open}
use Rattle.lines.specs.declared.Placed.{Placed}

-- what the frame reader says
abbrev pub read_event : Reading → Event
read_event (Ok t) = Read t
read_event (Err f) = Refused f

-- the event of a frame that a 10 closed: 02's #101, "a frame over 494 bytes is refused 5, ahead of numbers 2 to 4".
-- "The reader has 240 bytes of room here."
unfoldable pub frame_event : List ℕ → Event
frame_event frame = cond (ltb 494 (length frame)) (Refused LongMessage) (read_event (read_frame frame 240))

-- how many bytes stand before the next one of a kind
unfoldable pub to_next : (ℕ → Bool) → List ℕ → ℕ
to_next is [] = 0
to_next is (b ∷ rest) = cond (is b) 0 (suc (to_next is rest))

abbrev pub is_end : ℕ → Bool
is_end b = eqb b 10 || eqb b 13

abbrev pub to_next_end : List ℕ → ℕ
to_next_end rest = to_next is_end rest

-- the event of a 13, from what stands after it
unfoldable pub event_of : List ℕ → Event
event_of rest =
    cond (leb (length rest) (to_next_end rest)) Open
    (cond (eqb (get_or rest (to_next_end rest) 0) 13) Dropped (frame_event (13 ∷ take (suc (to_next_end rest)) rest)))

-- an event and the place of its 13
abbrev pub placed : ℕ → Event → Placed
placed place event = record { place = place; event = event }

-- the events of these bytes, the first of which stands at a place, in order of their places
unfoldable pub events_from : ℕ → List ℕ → List Placed
events_from place [] = []
events_from place (b ∷ rest) = cond (eqb b 13) (placed place (event_of rest) ∷ []) [] ++ events_from (suc place) rest

unfoldable pub events_of : List ℕ → List Placed
events_of capture = events_from 0 capture

-- ---- the three totals

abbrev pub is_ok : Event → ℕ
is_ok (Read t) = 1
is_ok (Refused f) = 0
is_ok Dropped = 0
is_ok Open = 0

abbrev pub is_refused : Event → ℕ
is_refused (Read t) = 0
is_refused (Refused f) = 1
is_refused Dropped = 0
is_refused Open = 0

abbrev pub is_dropped : Event → ℕ
is_dropped (Read t) = 0
is_dropped (Refused f) = 0
is_dropped Dropped = 1
is_dropped Open = 0

-- an open frame is in none of the three
abbrev pub is_open : Event → ℕ
is_open (Read t) = 0
is_open (Refused f) = 0
is_open Dropped = 0
is_open Open = 1

-- how many of these events count
unfoldable pub total : (Event → ℕ) → List Placed → ℕ
total counts [] = 0
total counts (e ∷ rest) = counts e.event + total counts rest

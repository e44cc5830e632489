-- The receiver, 02's #101: "however the bytes were cut, gives the same lines in order and the same open frame at the end as one reading of all
-- bytes joined". What it does with one byte, and a step over a chunk as so many bytes one after the other.
-- Assumes nothing.
use Rattle.std.specs.Prelude.{◌≡◌, Bool, cond, List, [], ◌∷◌, ◌++◌, ℕ, ◌+◌, ◌<◌, eqb, leb, ltb, length, take, replicate, Ok, Err, Some, None}
use Rattle.std.proofs.Math.Option.{Option, some, none}
use Rattle.rows.specs.Rows.{Row, row, Test, test, first_row_of}
use Rattle.lent.specs.Lent.{over_at}
use Rattle.telegram.specs.declared.Fault.TheVariants.{LongMessage}
use Rattle.lines.specs.declared.Event.{Event}
use Rattle.lines.specs.declared.Event.TheVariants as event
use Rattle.listing.specs.Events.{placed, frame_event}
use Rattle.receiver.specs.declared.Receiver.{Receiver}
use Rattle.receiver.specs.declared.Fault.{Fault}
use Rattle.receiver.specs.declared.Fault.TheVariants.{PastLargest}
use Rattle.receiver.specs.Answers.{Answer}
use Rattle.receiver.specs.declared.Stepped.{Stepped}

-- ---- the state

-- where an open frame is kept, with nothing in it
unfoldable pub no_bytes : List ℕ
no_bytes = replicate 494 0

-- outside a frame, before the byte at a place
abbrev pub outside_at : ℕ → Receiver
outside_at place = record { place = place; start = 0; size = 0; bytes = no_bytes }

-- behind a 13 at a place
abbrev pub opened_at : ℕ → Receiver
opened_at place = record { place = place + 1; start = place; size = 1; bytes = over_at 0 (13 ∷ []) no_bytes }

-- a frame is open
abbrev pub is_inside : Receiver → Bool
is_inside r = ltb 0 r.size

-- what is kept of it
abbrev pub kept : Receiver → List ℕ
kept r = take r.size r.bytes

-- "It can't keep a runaway frame": 494 bytes and no 10 among them, so that with its 10 it has over 494
abbrev pub ran_away : Receiver → Bool
ran_away r = leb 494 r.size

-- ---- one byte

-- "Bytes outside a frame are passed over."
abbrev pub passed : Receiver → Receiver
passed r = record { place = r.place + 1; start = r.start; size = r.size; bytes = r.bytes }

-- a byte of the open frame is kept, as long as it did not run away
abbrev pub grown : Receiver → ℕ → Receiver
grown r b = record { place = r.place + 1; start = r.start; size = cond (ran_away r) r.size (r.size + 1); bytes = over_at r.size (b ∷ []) r.bytes }

-- "A 13 opens a frame, a second 13 drops it and opens another, a 10 closes it"
unfoldable pub next : Receiver → ℕ → Receiver
next r b =
    cond (eqb b 13) (opened_at r.place)
    (cond (is_inside r)
    (cond (eqb b 10) (outside_at (r.place + 1)) (grown r b))
    (passed r))

-- the event of the open frame where its 10 comes: "a frame over 494 bytes is refused 5"
unfoldable pub closing : Receiver → Event
closing r = cond (ran_away r) (event.Refused LongMessage) (frame_event (kept r ++ (10 ∷ [])))

-- the line that a byte ends, if it ends one
unfoldable pub told : Receiver → ℕ → Answer
told r b =
    cond (is_inside r)
    (cond (eqb b 13) (Ok (Some (placed r.start event.Dropped)))
    (cond (eqb b 10) (Ok (Some (placed r.start (closing r)))) (Ok None)))
    (Ok None)

-- ---- a step: up to and including the byte that ends the next line, or all of the chunk where none does

abbrev pub stepped : Receiver → ℕ → Answer → Stepped
stepped r taken answer = record { receiver = r; taken = taken; answer = answer }

-- with the byte before it
abbrev pub one_more : Stepped → Stepped
one_more s = stepped s.receiver (s.taken + 1) s.answer

-- where the byte ends a line the step ends, else it goes on
abbrev pub end_or : Answer → Receiver → Stepped → Stepped
end_or (Ok (Some e)) r later = stepped r 1 (Ok (Some e))
end_or (Ok None) r later = one_more later
end_or (Err f) r later = one_more later

unfoldable pub step_from : Receiver → List ℕ → Stepped
step_from r [] = stepped r 0 (Ok None)
step_from r (b ∷ rest) = end_or (told r b) (next r b) (step_from (next r b) rest)

-- ---- the row

-- "Places are 64-bit."
abbrev pub largest : ℕ
largest = 18446744073709551615

-- 60: "when a chunk would carry the place past the largest"
unfoldable pub CarriesPast : Receiver → List ℕ → Type 0
CarriesPast r chunk = largest < r.place + length chunk

unfoldable pub step_rows : Receiver → List ℕ → List (Row Fault)
step_rows r chunk = row (CarriesPast r chunk) PastLargest ∷ []

-- the paper's number of each refusal
abbrev pub fault_number : Fault → ℕ
fault_number PastLargest = 60

abbrev pub is_past : ℕ → List ℕ → Bool
is_past place chunk = ltb largest (place + length chunk)

abbrev pub step_tests : Receiver → List ℕ → List (Test Fault)
step_tests r chunk = test (is_past r.place chunk) PastLargest ∷ []

unfoldable pub step_refusal : Receiver → List ℕ → Option Fault
step_refusal r chunk = first_row_of (step_tests r chunk)

-- "none of it is taken"
abbrev pub step_answer : Option Fault → Receiver → Stepped → Stepped
step_answer (some f) r s = stepped r 0 (Err f)
step_answer none r s = s

unfoldable pub step_of : Receiver → List ℕ → Stepped
step_of r chunk = step_answer (step_refusal r chunk) r (step_from r chunk)

-- the number that a step tells, or none
abbrev pub step_told : Answer → Option ℕ
step_told (Err f) = some (fault_number f)
step_told (Ok (Some e)) = none
step_told (Ok None) = none

-- ---- the contracts

abbrev pub Numbers : Fault → ℕ → Type 0
Numbers fault r = r ≡ fault_number fault

abbrev pub Tests : ℕ → List ℕ → Bool → Type 0
Tests place chunk r = r ≡ is_past place chunk

abbrev pub Starts : ℕ → Receiver → Type 0
Starts place r = r ≡ outside_at place

abbrev pub Steps : Receiver → List ℕ → Stepped → Type 0
Steps receiver chunk r = r ≡ step_of receiver chunk

-- The line tally. 02, #113: "Also keep a line tally: frames read, refused and dropped, one record lent to each listing step and changed where it
-- lies, each number equal to the count of such lines since it was cleared."
-- Assumes nothing.
use Rattle.std.specs.Prelude.{◌≡◌, Bool, false, cond, List, [], ◌∷◌, ℕ, ◌+◌, ◌<◌, ltb, Ok, Err, Some, None}
use Rattle.std.proofs.Math.Option.{Option, some, none}
use Rattle.rows.specs.Rows.{Row, row, Test, test, first_row_of}
use Rattle.lines.specs.declared.Event.{Event}
use Rattle.lines.specs.declared.Event.TheVariants as event
use Rattle.lines.specs.declared.Placed.{Placed}
use Rattle.receiver.specs.Receiver.{CarriesPast, is_past, step_from}
use Rattle.receiver.specs.Receiver.{fault_number as place_number}
use Rattle.receiver.specs.Answers.{Answer as Ended}
use Rattle.receiver.specs.declared.Fault.{Fault as Unplaced}
use Rattle.receiver.specs.declared.Fault.TheVariants.{PastLargest}
use Rattle.receiver.specs.declared.Receiver.{Receiver}
use Rattle.receiver.specs.declared.Stepped.{Stepped as Ran}
use Rattle.tally.specs.Answers.{Answer}
use Rattle.tally.specs.declared.Counted.{Counted}
use Rattle.tally.specs.declared.Fault.{Fault}
use Rattle.tally.specs.declared.Fault.TheVariants.{TallyFull, NotPlaced}
use Rattle.tally.specs.declared.Stepped.{Stepped}
use Rattle.tally.specs.declared.Tally.{Tally}

abbrev pub clear_tally : Tally
clear_tally = record { read = 0; refused = 0; dropped = 0 }

-- ---- "frames read, refused and dropped": the number that a line is counted in. "Listing a refused frame is no refused step and is counted". An
-- open frame is none of them

abbrev pub number_for : Event → Tally → ℕ
number_for (event.Read t) tally = tally.read
number_for (event.Refused f) tally = tally.refused
number_for event.Dropped tally = tally.dropped
number_for event.Open tally = 0

abbrev pub with_line : Event → Tally → Tally
with_line (event.Read t) tally = record { read = tally.read + 1; refused = tally.refused; dropped = tally.dropped }
with_line (event.Refused f) tally = record { read = tally.read; refused = tally.refused + 1; dropped = tally.dropped }
with_line event.Dropped tally = record { read = tally.read; refused = tally.refused; dropped = tally.dropped + 1 }
with_line event.Open tally = tally

-- ---- the rows: "76 a tally number would pass 4294967295, ahead of everything, 60 too"

abbrev pub most : ℕ
most = 4294967295

-- 76: the line of this very step would, whatever its place
unfoldable pub IsTallyFull : Tally → Receiver → List ℕ → Type 0
IsTallyFull tally r chunk = (line : Placed) × ((step_from r chunk).answer ≡ Ok (Some line)) × (most < number_for line.event tally + 1)

unfoldable pub step_rows : Tally → Receiver → List ℕ → List (Row Fault)
step_rows tally r chunk = row (IsTallyFull tally r chunk) TallyFull ∷ row (CarriesPast r chunk) (NotPlaced PastLargest) ∷ []

abbrev pub is_full : Event → Tally → Bool
is_full e tally = ltb most (number_for e tally + 1)

-- of what a step ends with
abbrev pub full_at : Ended → Tally → Bool
full_at (Ok (Some line)) tally = is_full line.event tally
full_at (Ok None) tally = false
full_at (Err f) tally = false

abbrev pub step_tests : Tally → Receiver → List ℕ → List (Test Fault)
step_tests tally r chunk = test (full_at (step_from r chunk).answer tally) TallyFull ∷ test (is_past r.place chunk) (NotPlaced PastLargest) ∷ []

unfoldable pub step_refusal : Tally → Receiver → List ℕ → Option Fault
step_refusal tally r chunk = first_row_of (step_tests tally r chunk)

-- the paper's number of each refusal
abbrev pub fault_number : Fault → ℕ
fault_number TallyFull = 76
fault_number (NotPlaced f) = place_number f

-- ---- the answer and the tally, each from the refusal: "only 60 and 76 refuse a step, and leave the tally as it was", "the step isn't done"

abbrev pub told : Ended → Answer
told (Ok (Some line)) = Ok (Some line)
told (Ok None) = Ok None
told (Err f) = Err (NotPlaced f)

abbrev pub stepped : Receiver → ℕ → Answer → Stepped
stepped r taken answer = record { receiver = r; taken = taken; answer = answer }

unfoldable pub stepped_by : Option Fault → Receiver → List ℕ → Stepped
stepped_by (some f) r chunk = stepped r 0 (Err f)
stepped_by none r chunk = stepped (step_from r chunk).receiver (step_from r chunk).taken (told (step_from r chunk).answer)

-- the tally with what a step ends with
abbrev pub with_end : Ended → Tally → Tally
with_end (Ok (Some line)) tally = with_line line.event tally
with_end (Ok None) tally = tally
with_end (Err f) tally = tally

unfoldable pub tally_by : Option Fault → Tally → Receiver → List ℕ → Tally
tally_by (some f) tally r chunk = tally
tally_by none tally r chunk = with_end (step_from r chunk).answer tally

-- the number that an answer tells, or none
abbrev pub step_told : Answer → Option ℕ
step_told (Err f) = some (fault_number f)
step_told (Ok (Some line)) = none
step_told (Ok None) = none

-- ---- the contracts

-- `cleared`
abbrev pub Clears : Tally → Type 0
Clears r = r ≡ clear_tally

abbrev pub Numbers : Fault → ℕ → Type 0
Numbers fault r = r ≡ fault_number fault

-- `step`: the tally is changed where it lies
abbrev pub CountsWhere : Tally → Receiver → List ℕ → Stepped → Tally → Type 0
CountsWhere tally r chunk s tally' = (s ≡ stepped_by (step_refusal tally r chunk) r chunk) × (tally' ≡ tally_by (step_refusal tally r chunk) tally r chunk)

-- `count_step`: the same by value
abbrev pub Counts : Tally → Receiver → List ℕ → Counted → Type 0
Counts tally r chunk c = CountsWhere tally r chunk c.stepped c.tally

-- ---- the inner functions

-- the receiver with its next byte at another place
abbrev pub placed_at : Receiver → ℕ → Receiver
placed_at r place = record { place = place; start = r.start; size = r.size; bytes = r.bytes }

abbrev pub counted : Tally → Stepped → Counted
counted tally s = record { tally = tally; stepped = s }

-- a step of the receiver, as it was done, with the tally behind it
abbrev pub done_with : Tally → Ran → Answer → Counted
done_with tally s answer = counted tally (stepped s.receiver s.taken answer)

-- "the step isn't done"
abbrev pub not_done : Tally → Receiver → Fault → Counted
not_done tally r f = counted tally (stepped r 0 (Err f))

-- the line that a step of the receiver ended is counted, unless its number is full
abbrev pub line_counted : Tally → Receiver → Ran → Placed → Counted
line_counted tally r s line =
    cond (is_full line.event tally) (not_done tally r TallyFull) (done_with (with_line line.event tally) s (Ok (Some line)))

-- a step that the receiver refuses, by what it would end with
abbrev pub refused_by : Tally → Receiver → Ended → Unplaced → Counted
refused_by tally r ended f = cond (full_at ended tally) (not_done tally r TallyFull) (not_done tally r (NotPlaced f))

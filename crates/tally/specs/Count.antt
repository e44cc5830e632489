-- Steps one after the other that are lent one tally: what its numbers come to, and what chunks that are taken so come to.
-- 02, #113: "each number equal to the count of such lines since it was cleared", "and #101's sameness wants no 76 either".
-- Assumes nothing.
use Rattle.std.specs.Prelude.{◌≡◌, List, [], ◌∷◌, ◌++◌, ℕ, zero, suc, ◌+◌, length, drop, Ok, Err, Some, None}
use Rattle.lines.specs.declared.Placed.{Placed}
use Rattle.listing.specs.Events.{total, is_ok, is_refused, is_dropped}
use Rattle.receiver.specs.Chunks.{Run, run, after}
use Rattle.receiver.specs.declared.Receiver.{Receiver}
use Rattle.receiver.specs.declared.Stepped.{Stepped as Ran}
use Rattle.tally.specs.Answers.{Answer}
use Rattle.tally.specs.declared.Stepped.{Stepped}
use Rattle.tally.specs.declared.Tally.{Tally}
use Rattle.tally.specs.Tally.{Clears, CountsWhere, fault_number, step_refusal, stepped, stepped_by, tally_by, told}

-- a step of the receiver as one that is lent a tally answers it
abbrev pub passed_on : Ran → Stepped
passed_on s = stepped s.receiver s.taken (told s.answer)

-- the line that an answer tells, where it tells one
abbrev pub line_told : Answer → List Placed
line_told (Ok (Some line)) = line ∷ []
line_told (Ok None) = []
line_told (Err f) = []

-- the number that it tells, where it is a refusal
abbrev pub number_told : Answer → List ℕ
number_told (Err f) = fault_number f ∷ []
number_told (Ok (Some line)) = []
number_told (Ok None) = []

-- ---- the numbers and the lines

-- each number is the count of such lines
abbrev pub Tallies : List Placed → Tally → Type 0
Tallies lines t = (t.read ≡ total is_ok lines) × (t.refused ≡ total is_refused lines) × (t.dropped ≡ total is_dropped lines)

-- each number is the one before and the count of such lines
abbrev pub Adds : Tally → List Placed → Tally → Type 0
Adds t lines t' =
    (t'.read ≡ t.read + total is_ok lines) × (t'.refused ≡ t.refused + total is_refused lines) × (t'.dropped ≡ t.dropped + total is_dropped lines)

-- ---- steps and clearings, as whoever lends the tally sees them: a step of whatever receiver on whatever chunk, what it answered and the tally
-- after it; the tally that a clearing gave

pub data Call : Type 0 where
  a_step : (receiver : Receiver) (chunk : List ℕ) (answered : Stepped) (after : Tally) → Call
  a_clearing : (after : Tally) → Call

-- each as its contract allows, from one tally to another
unfoldable pub Goes : Tally → List Call → Tally → Type 0
Goes t [] end = end ≡ t
Goes t (a_step r chunk s after ∷ calls) end = CountsWhere t r chunk s after × Goes after calls end
Goes t (a_clearing after ∷ calls) end = Clears after × Goes after calls end

-- the lines since the last clearing, after those that were told before
unfoldable pub lines_since : List Placed → List Call → List Placed
lines_since before [] = before
lines_since before (a_step r chunk s after ∷ calls) = lines_since (before ++ line_told s.answer) calls
lines_since before (a_clearing after ∷ calls) = lines_since [] calls

-- ---- chunks that are taken by steps with one tally, as the receiver's own `steps` and `feed` take them without

abbrev pub step_with : Tally → Receiver → List ℕ → Stepped
step_with t r chunk = stepped_by (step_refusal t r chunk) r chunk

abbrev pub tally_with : Tally → Receiver → List ℕ → Tally
tally_with t r chunk = tally_by (step_refusal t r chunk) t r chunk

-- what came of some steps: the run of the receiver, the tally behind them, and the numbers that they told, in order
pub record Tallied : Type 0 where
  pub reading : Run
  pub tally : Tally
  pub numbers : List ℕ

abbrev pub tallied : Run → Tally → List ℕ → Tallied
tallied r t numbers = record { reading = r; tally = t; numbers = numbers }

-- with what came of the steps before
abbrev pub behind : List Placed → List ℕ → List ℕ → Tallied → Tallied
behind lines left numbers later = tallied (after lines left later.reading) later.tally (numbers ++ later.numbers)

unfoldable pub steps_with : ℕ → Tally → Receiver → List ℕ → Tallied
steps_with zero t r chunk = tallied (run r [] chunk) t []
steps_with (suc n) t r chunk =
    behind (line_told (step_with t r chunk).answer) [] (number_told (step_with t r chunk).answer)
    (steps_with n (tally_with t r chunk) (step_with t r chunk).receiver (drop (step_with t r chunk).taken chunk))

unfoldable pub feed_with : Tally → Receiver → List (List ℕ) → Tallied
feed_with t r [] = tallied (run r [] []) t []
feed_with t r (chunk ∷ chunks) =
    behind (steps_with (length chunk) t r chunk).reading.lines (steps_with (length chunk) t r chunk).reading.left (steps_with (length chunk) t r chunk).numbers
    (feed_with (steps_with (length chunk) t r chunk).tally (steps_with (length chunk) t r chunk).reading.receiver chunks)

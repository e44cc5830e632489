-- Chunks one after the other, and what they come to: one reading of all bytes joined.
-- Assumes nothing.
use Rattle.std.specs.Prelude.{◌≡◌, cond, ◌&&◌, List, [], ◌∷◌, ◌++◌, ℕ, zero, suc, ◌+◌, min, eqb, leb, length, drop, Ok, Err, Some, None}
use Rattle.lent.specs.Lent.{over_at}
use Rattle.lines.specs.declared.Event.TheVariants.{Open}
use Rattle.lines.specs.declared.Placed.{Placed}
use Rattle.listing.specs.Events.{placed, to_next_end, events_from}
use Rattle.receiver.specs.declared.Receiver.{Receiver}
use Rattle.receiver.specs.Answers.{Answer}
use Rattle.receiver.specs.Receiver.{no_bytes, outside_at, is_inside, step_of}

-- ---- by steps

-- the line of an answer, where it has one
abbrev pub line_in : Answer → List Placed
line_in (Ok (Some e)) = e ∷ []
line_in (Ok None) = []
line_in (Err f) = []

-- what came of some steps: the receiver behind them, their lines in order, and the bytes that none of them took
pub record Run : Type 0 where
  pub receiver : Receiver
  pub lines : List Placed
  pub left : List ℕ

abbrev pub run : Receiver → List Placed → List ℕ → Run
run r lines left = record { receiver = r; lines = lines; left = left }

-- with those of the steps before it
abbrev pub after : List Placed → List ℕ → Run → Run
after lines left later = run later.receiver (lines ++ later.lines) (left ++ later.left)

-- so many steps, each on what the one before it left of the chunk
unfoldable pub steps : ℕ → Receiver → List ℕ → Run
steps zero r chunk = run r [] chunk
steps (suc n) r chunk = after (line_in (step_of r chunk).answer) [] (steps n (step_of r chunk).receiver (drop (step_of r chunk).taken chunk))

-- chunks one after the other, each by as many steps as it has bytes
unfoldable pub feed : Receiver → List (List ℕ) → Run
feed r [] = run r [] []
feed r (chunk ∷ chunks) = after (steps (length chunk) r chunk).lines (steps (length chunk) r chunk).left (feed (steps (length chunk) r chunk).receiver chunks)

-- ---- from the bytes alone

unfoldable pub joined : List (List ℕ) → List ℕ
joined [] = []
joined (chunk ∷ chunks) = chunk ++ joined chunks

-- inside a frame whose 13 stands at a place, from its bytes so far: at most 494 of them are kept
abbrev pub inside_at : ℕ → List ℕ → Receiver
inside_at place frame = record { place = place + length frame; start = place; size = min 494 (length frame); bytes = over_at 0 frame no_bytes }

-- the receiver behind these bytes, the first of which stands at a place: a 13 with no 10 or 13 after it is an open frame's
unfoldable pub receiver_of : ℕ → List ℕ → Receiver
receiver_of place [] = outside_at place
receiver_of place (b ∷ rest) = cond (eqb b 13 && leb (length rest) (to_next_end rest)) (inside_at place (b ∷ rest)) (receiver_of (suc place) rest)

-- the open frame's line at the end: "Without an open frame there is no open line."
abbrev pub open_line : Receiver → List Placed
open_line r = cond (is_inside r) (placed r.start Open ∷ []) []

-- a run over chunks is one reading of these bytes, the first of which stands at a place: nothing was left, and the lines, with the open frame's,
-- and the receiver are those that the bytes alone give
pub record IsReading (place : ℕ) (bytes : List ℕ) (r : Run) : Type 0 where
  pub all_taken : r.left ≡ []
  pub same_lines : r.lines ++ open_line r.receiver ≡ events_from place bytes
  pub same_receiver : r.receiver ≡ receiver_of place bytes

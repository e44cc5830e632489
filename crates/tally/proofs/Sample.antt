-- The tally, computed from the definitions: a capture with a frame of each kind, a number that is full, and a place that is the largest.
-- Assumes nothing.
use Rattle.std.specs.Prelude.{Err}
use mathlib.Core.Path.{◌≡◌, refl}
use mathlib.Core.List.{List, [], ◌∷◌}
use Prim.Native.Nat.{ℕ}
use native.Mathlib.Omega.{arith}
use Rattle.lent.specs.Lent.{over, over_at}
use Rattle.remainder.specs.Remainder.{remainder_of, with_bytes, with_byte, times_x, times_xs}
use Rattle.frame.specs.Frame.{message_of, between, restored}
use Rattle.first.specs.First.{first_place, passed_from}
use Rattle.telegram.specs.Read.{read_frame, read_refusal, message_refusal, fields_of, has_stray_end, has_bad_substitution, bad_place}
use Rattle.telegram.specs.declared.Fault.TheVariants.{ShortMessage}
use Rattle.telegram.specs.declared.Fields.{Fields}
use Rattle.lines.specs.declared.Event.TheVariants.{Read, Refused, Dropped}
use Rattle.listing.specs.Events.{placed, frame_event}
use Rattle.receiver.specs.Receiver.{largest, no_bytes, outside_at, opened_at, next, closing, told, step_from}
use Rattle.receiver.specs.Chunks.{run, joined, IsReading}
use Rattle.receiver.specs.declared.Fault.TheVariants.{PastLargest}
use Rattle.tally.specs.declared.Fault.TheVariants.{TallyFull, NotPlaced}
use Rattle.tally.specs.declared.Tally.{Tally}
use Rattle.tally.specs.Tally.{clear_tally, step_refusal, stepped, stepped_by, tally_by}
use Rattle.tally.specs.Count.{Tallies, Call, a_step, a_clearing, Goes, lines_since, step_with, tally_with, Tallied, tallied, steps_with, feed_with}
use Rattle.tally.proofs.Since.{since_cleared}
use Rattle.tally.proofs.With.{same_reading_with}

-- 0D A2 0F 03 30 48 and then 2F 0A 0D 0A 0D 01 0D: 01's first frame, one of two bytes, one that a second 13 drops, and one that is open at the end
abbrev first : List ℕ
first = 13 ∷ 162 ∷ 15 ∷ 3 ∷ 48 ∷ 72 ∷ []

abbrev second : List ℕ
second = 47 ∷ 10 ∷ 13 ∷ 10 ∷ 13 ∷ 1 ∷ 13 ∷ []

abbrev fields : Fields
fields = record { destination = 162; source = 15; sort = 3; register = 48; size = 0 }

abbrev numbers : ℕ → ℕ → ℕ → Tally
numbers read refused dropped = record { read = read; refused = refused; dropped = dropped }

abbrev fed : Tally → Tallied
fed t = feed_with t (outside_at 0) (first ∷ [] ∷ second ∷ [])

-- each is counted in its number, the open one in none
pub counted_each : fed clear_tally
    ≡ tallied (run (opened_at 12) (placed 0 (Read fields) ∷ placed 8 (Refused ShortMessage) ∷ placed 10 Dropped ∷ []) []) (numbers 1 1 1) []
unfolding remainder_of with_bytes with_byte times_x times_xs message_of between restored read_frame read_refusal message_refusal fields_of has_stray_end has_bad_substitution bad_place first_place passed_from
    over over_at frame_event no_bytes next closing told step_from step_refusal stepped_by tally_by steps_with feed_with
counted_each = refl

-- up to 4294967295
pub counted_most : (fed (numbers 4294967294 4294967294 4294967294)).tally ≡ numbers 4294967295 4294967295 4294967295
unfolding remainder_of with_bytes with_byte times_x times_xs message_of between restored read_frame read_refusal message_refusal fields_of has_stray_end has_bad_substitution bad_place first_place passed_from
    over over_at frame_event no_bytes next closing told step_from step_refusal stepped_by tally_by steps_with feed_with
counted_most = refl

-- where the number of refused frames is full, the step before it in the same chunk stays done; that one, and each after it, is 76
pub full_there : fed (numbers 0 4294967295 0)
    ≡ tallied (run (outside_at 8) (placed 0 (Read fields) ∷ []) (13 ∷ 10 ∷ 13 ∷ 1 ∷ 13 ∷ [])) (numbers 1 4294967295 0) (76 ∷ 76 ∷ 76 ∷ 76 ∷ 76 ∷ 76 ∷ [])
unfolding remainder_of with_bytes with_byte times_x times_xs message_of between restored read_frame read_refusal message_refusal fields_of has_stray_end has_bad_substitution bad_place first_place passed_from
    over over_at frame_event no_bytes next closing told step_from step_refusal stepped_by tally_by steps_with feed_with
full_there = refl

-- at the largest place: 76 ahead of 60, and 60 where the number is not full or no line ends
pub both_at_once : step_with (numbers 0 4294967295 0) (outside_at largest) (13 ∷ 10 ∷ []) ≡ stepped (outside_at largest) 0 (Err TallyFull)
unfolding message_of between restored read_frame read_refusal message_refusal fields_of has_stray_end has_bad_substitution bad_place first_place passed_from
    over over_at frame_event no_bytes next closing told step_from step_refusal stepped_by
both_at_once = refl

pub only_60 : step_with (numbers 4294967295 4294967294 4294967295) (outside_at largest) (13 ∷ 10 ∷ []) ≡ stepped (outside_at largest) 0 (Err (NotPlaced PastLargest))
unfolding message_of between restored read_frame read_refusal message_refusal fields_of has_stray_end has_bad_substitution bad_place first_place passed_from
    over over_at frame_event no_bytes next closing told step_from step_refusal stepped_by
only_60 = refl

pub no_line_60 : step_with (numbers 4294967295 4294967295 4294967295) (outside_at largest) (5 ∷ []) ≡ stepped (outside_at largest) 0 (Err (NotPlaced PastLargest))
unfolding no_bytes next told step_from step_refusal stepped_by
no_line_60 = refl

-- the laws' premises can be met: no 76 was told, so this is one reading
pub read_here : IsReading 0 (joined (first ∷ [] ∷ second ∷ [])) (fed clear_tally).reading
unfolding joined remainder_of with_bytes with_byte times_x times_xs message_of between restored read_frame read_refusal message_refusal fields_of has_stray_end has_bad_substitution bad_place first_place passed_from
    over over_at frame_event no_bytes next closing told step_from step_refusal stepped_by tally_by steps_with feed_with
read_here = same_reading_with clear_tally 0 (first ∷ [] ∷ second ∷ []) refl (omega arith)

-- a refused frame, a clearing, and a dropped one: only that one is counted
abbrev lent : Tally → List ℕ → Call
lent t chunk = a_step (outside_at 0) chunk (step_with t (outside_at 0) chunk) (tally_with t (outside_at 0) chunk)

abbrev calls : List Call
calls = lent clear_tally (13 ∷ 10 ∷ []) ∷ a_clearing clear_tally ∷ lent clear_tally (13 ∷ 13 ∷ []) ∷ []

pub calls_go : Goes clear_tally calls (numbers 0 0 1)
unfolding Goes no_bytes next closing told step_from step_refusal stepped_by tally_by over_at
calls_go = ((refl, refl), (refl, ((refl, refl), refl)))

pub calls_lines : lines_since [] calls ≡ placed 0 Dropped ∷ []
unfolding lines_since no_bytes next closing told step_from step_refusal stepped_by over_at message_of between restored read_frame read_refusal message_refusal fields_of has_stray_end has_bad_substitution bad_place
    first_place passed_from over frame_event
calls_lines = refl

pub calls_counted : Tallies (lines_since [] calls) (numbers 0 0 1)
calls_counted = since_cleared clear_tally calls (numbers 0 0 1) refl calls_go

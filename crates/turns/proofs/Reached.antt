-- The bound of Fair.antt is reached: sixteen jobs with four requests each, and the lane served last is that of the last job.
-- Assumes nothing.
use mathlib.Core.Path.{◌≡◌, refl}
use mathlib.Core.List.{List, [], ◌∷◌, ◌++◌}
use Prim.Native.Nat.{ℕ, zero, suc}
use lib.ListN.{replicate}
use Rattle.first.specs.First.{passed_from, first_place}
use Rattle.lent.specs.Lent.{over}
use Rattle.frame.specs.Frame.{substituted, framed}
use Rattle.remainder.specs.Remainder.{times_x, times_xs, with_byte, with_bytes, remainder_of}
use Rattle.telegram.specs.Write.{sealed}
use Rattle.ticket.specs.Due.{age}
use Rattle.request.specs.Request.{ask_refusal}
use Rattle.request.specs.declared.Request.{Request}
use Rattle.marks.specs.Marks.{is_marked, with_mark}
use Rattle.marks.specs.Marks.{is_marked, with_mark}
use Rattle.desk.specs.Desk.{fresh_desk, standing_from}
use Rattle.desk.specs.Folder.{holder_place, is_folder_held}
use Rattle.desk.specs.Open.{distance_of, given_place, open_refusal}
use Rattle.lanes.specs.Grant.{next_distance, next_place, grant_refusal}
use Rattle.lanes.specs.Join.{lane_for, join_refusal}
use Rattle.lanes.specs.Lanes.{fresh_lanes, own_lane, empty_lane}
use Rattle.nights.specs.Night.{asks, after as desk_after}
use Rattle.turns.specs.Fair.{counts, counted, waits, had_turn, fate_by, fate}
use Rattle.turns.specs.Queue.{taken_out, event_of}
use Rattle.turns.specs.Turns.{Hall, Call, joins, grants, at_desk, after, all_after}

abbrev ask : ℕ → Call
ask job = joins (record { job = job; unit = 15; sort = 4; register = 102; wait = 100; folder = 0 }) []

-- jobs n down to 1
abbrev each : ℕ → List Call
each zero = []
each (suc n) = ask (suc n) ∷ each n

abbrev all_joined : Hall
all_joined = all_after (record { lanes = fresh_lanes; desk = fresh_desk }) (each 16)

abbrev turns : ℕ → List Call
turns n = replicate n (grants 0 (replicate 494 0))

abbrev four_each : Hall
four_each = all_after (record { lanes = fresh_lanes; desk = fresh_desk }) (each 16 ++ (each 16 ++ (each 16 ++ each 16)))

-- the first of its lane, after 15 turns and after 16
pub first_reached : (counted all_joined (turns 15) ≡ 15) × (fate all_joined (turns 15) 15 (waits 0) ≡ waits 0) × (fate all_joined (turns 16) 15 (waits 0) ≡ had_turn)
unfolding all_after after counted counts fate fate_by join_refusal lane_for own_lane empty_lane first_place passed_from ask_refusal over grant_refusal
    next_distance next_place open_refusal is_folder_held holder_place standing_from is_marked with_mark distance_of given_place desk_after age substituted framed times_x times_xs with_byte with_bytes remainder_of sealed
first_reached = (refl, refl, refl)

-- the fourth of its lane, after 63 turns and after 64
pub fourth_reached : (counted four_each (turns 63) ≡ 63) × (fate four_each (turns 63) 15 (waits 3) ≡ waits 0) × (fate four_each (turns 64) 15 (waits 3) ≡ had_turn)
unfolding all_after after counted counts fate fate_by join_refusal lane_for own_lane empty_lane first_place passed_from ask_refusal over grant_refusal
    next_distance next_place open_refusal is_folder_held holder_place standing_from is_marked with_mark distance_of given_place desk_after age substituted framed times_x times_xs with_byte with_bytes remainder_of sealed
fourth_reached = (refl, refl, refl)

-- ---- one that is taken out: job 8 waits for a folder that an open ticket of job 7 holds

abbrev wants : ℕ → Request
wants job = record { job = job; unit = 15; sort = 4; register = 102; wait = 100; folder = 3 }

abbrev held : Hall
held = all_after (record { lanes = fresh_lanes; desk = fresh_desk }) (at_desk (asks (wants 7) [] 0 (replicate 494 0)) ∷ joins (wants 8) [] ∷ [])

-- it has had its turn, the lane is the one last served, and the desk is as before
pub taken_reached : (counted held (turns 1) ≡ 1)
    × (fate held (turns 1) 0 (waits 0) ≡ had_turn)
    × (event_of held (grants 0 (replicate 494 0)) ≡ taken_out (wants 8) [])
    × ((all_after held (turns 1)).lanes.last ≡ 0)
    × ((all_after held (turns 1)).desk ≡ held.desk)
unfolding all_after after counted counts fate fate_by event_of join_refusal lane_for own_lane empty_lane first_place passed_from ask_refusal over grant_refusal
    next_distance next_place open_refusal is_folder_held holder_place standing_from is_marked with_mark distance_of given_place desk_after age substituted framed times_x times_xs with_byte with_bytes
    remainder_of sealed
taken_reached = (refl, refl, refl, refl, refl)

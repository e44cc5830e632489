-- Chunks and steps, computed from the definitions: a capture that was cut inside its frames.
-- Assumes nothing.
use mathlib.Core.Path.{◌≡◌, refl}
use mathlib.Core.List.{List, [], ◌∷◌}
use Prim.Native.Nat.{ℕ}
use native.Mathlib.Omega.{arith}
use Rattle.lent.specs.Lent.{over, over_at}
use Rattle.frame.specs.Frame.{message_of, between, restored}
use Rattle.first.specs.First.{first_place, passed_from}
use Rattle.telegram.specs.Read.{read_frame, read_refusal, message_refusal, fields_of, has_stray_end, has_bad_substitution, bad_place}
use Rattle.telegram.specs.declared.Fault.TheVariants.{ShortMessage}
use Rattle.lines.specs.declared.Event.TheVariants.{Refused, Dropped}
use Rattle.listing.specs.Events.{placed, frame_event}
use Rattle.receiver.specs.Receiver.{no_bytes, outside_at, opened_at, next, closing, told, step_from, step_refusal, step_of}
use Rattle.receiver.specs.Chunks.{run, steps, feed, joined, IsReading}
use Rattle.receiver.proofs.Chunks.{same_reading}

-- 0D A2 0F 03 0D and then 30 48 2F 0A 0D: the second 13 drops the first frame, the third is open at the end
abbrev first : List ℕ
first = 13 ∷ 162 ∷ 15 ∷ 3 ∷ 13 ∷ []

abbrev second : List ℕ
second = 48 ∷ 72 ∷ 47 ∷ 10 ∷ 13 ∷ []

pub cut : feed (outside_at 0) (first ∷ [] ∷ second ∷ []) ≡ run (opened_at 9) (placed 0 Dropped ∷ placed 4 (Refused ShortMessage) ∷ []) []
unfolding message_of between restored read_frame read_refusal message_refusal fields_of has_stray_end has_bad_substitution bad_place first_place passed_from over over_at frame_event
    no_bytes next closing told step_from step_refusal step_of steps feed
cut = refl

-- the same by the law: its premise can be met
pub cut_read : IsReading 0 (joined (first ∷ [] ∷ second ∷ [])) (feed (outside_at 0) (first ∷ [] ∷ second ∷ []))
unfolding joined
cut_read = same_reading 0 (first ∷ [] ∷ second ∷ []) (omega arith)

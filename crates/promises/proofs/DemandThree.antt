-- Demand 3: "The check is the polynomial remainder of that description, and the remainder of two equally long byte strings combined by
-- exclusive or is the exclusive or of their remainders. Take any accepted message and alter one or more bits, all within 16 neighbouring
-- bits of the message before substitution, each byte taken highest bit first. Frame it again and offer it with 240 bytes of room. It is
-- refused as a check fault, closes no ticket and changes no register."
-- Assumes nothing.
use Rattle.std.specs.Prelude.{Ok, Err}
use mathlib.Core.Path.{◌≡◌}
use mathlib.Core.List.{List}
use Prim.Native.Nat.{ℕ, ◌≤◌}
use lib.ListN.{length}
use Rattle.frame.specs.Frame.{framed, message_of}
use Rattle.remainder.specs.Remainder.{AlteredNearby}
use Rattle.telegram.specs.Read.{read_frame, Reads}
use Rattle.telegram.specs.declared.Fault.TheVariants.{CheckFault}
use Rattle.telegram.specs.declared.Fields.{Fields}
use Rattle.telegram.specs.Answers.{Reading}
use Rattle.bench.specs.Take.{Takes}
use Rattle.bench.specs.declared.Bench.{Bench}
use Rattle.bench.specs.declared.Fault.TheVariants as silence
use Rattle.bench.specs.declared.AfterTake.{AfterTake}
use Rattle.desk.specs.Reply.{Replies}
use Rattle.desk.specs.declared.Desk.{Desk}
use Rattle.desk.specs.declared.Fault.TheVariants as refusal
use Rattle.desk.specs.declared.AfterReply.{AfterReply}
use Rattle.kamzhor.specs.Bench.{GivesTake, take_number}
use Rattle.kamzhor.specs.Desk.{GivesReply, reply_number}
use Rattle.kamzhor.specs.Host.{frame_number, GivesFrame}
use Rattle.kamzhor.specs.declared.FrameAnswer.{FrameAnswer}
use Rattle.kamzhor.specs.declared.host_bench.AfterBenchTake.{AfterBenchTake}
use Rattle.kamzhor.specs.declared.host_desk.AfterDeskReply.{AfterDeskReply}
use Rattle.promises.proofs.Noise.{nearby_noise}
-- ---- "The check is the polynomial remainder of that description": every byte string has one, and it is the one that is worked out
pub use Rattle.remainder.proofs.Laws.{is_remainder, only_remainder, empty_remainder, whole, sealed_right}
-- "the remainder of two equally long byte strings combined by exclusive or is the exclusive or of their remainders"
pub use Rattle.remainder.proofs.Laws.{remainder_linear}
-- "alter one or more bits, all within 16 neighbouring bits": the same as a first and a last bit that differ, less than 16 places apart; the
-- last bit alone is one, and so are 16 neighbours, but not 17
pub use Rattle.remainder.proofs.Nearby.{nearby_plainly, last_bit_nearby, sixteen_nearby, seventeen_not}
-- an alteration within 16 neighbouring bits, and any other whose own remainder is not 0, is seen
pub use Rattle.remainder.proofs.Laws.{burst_seen, nearby_burst, nearby_seen, altered_seen}
-- so for the reader, for any bench and for any desk, of any alteration whose own remainder is not 0
pub use Rattle.telegram.proofs.Laws.{altered_refused, altered_reads}
pub use Rattle.bench.proofs.Laws.{altered_silent}
pub use Rattle.desk.proofs.Laws.{altered_reply}

-- ---- "Take any accepted message and alter one or more bits [..]"

module _ (frame : List ℕ) (offered : ℕ) (t : Fields) (accepted : read_frame frame offered ≡ Ok t) (m : List ℕ)
    (altered : AlteredNearby (message_of frame) m) where
  -- "It is refused as a check fault", and the lent buffer stays
  pub reader_refuses : (room : List ℕ) (a : Reading) (room' : List ℕ) → 240 ≤ length room → Reads (framed m) room a room'
      → (a ≡ Err CheckFault) × (room' ≡ room)
  reader_refuses = (nearby_noise frame offered t accepted m altered).reader

  -- in C too: number 7, and every other field is 0
  pub host_refuses : (room : List ℕ) (a : FrameAnswer) (room' : List ℕ) → 240 ≤ length room → GivesFrame (framed m) room a room'
      → (a ≡ frame_number 7 0) × (room' ≡ room)
  host_refuses = (nearby_noise frame offered t accepted m altered).host

  -- "closes no ticket": the whole desk stays, and so does the lent buffer
  pub desk_unchanged : (desk : Desk) (room : List ℕ) (r : AfterReply) (room' : List ℕ) → 240 ≤ length room → Replies desk (framed m) room r room'
      → (r.answer ≡ Err (refusal.Unread CheckFault)) × (r.desk ≡ desk) × (room' ≡ room)
  desk_unchanged = (nearby_noise frame offered t accepted m altered).desk

  -- "and changes no register": the whole bench stays, and there is no answer, with any reply buffer
  pub bench_unchanged : (bench : Bench) (room : List ℕ) (r : AfterTake) (room' : List ℕ) → Takes bench (framed m) room r room'
      → (r.answer ≡ Err (silence.Unread CheckFault)) × (r.bench ≡ bench) × (room' ≡ room)
  bench_unchanged = (nearby_noise frame offered t accepted m altered).bench

  -- in C too, of any desk and any bench
  pub host_desk_unchanged : (desk : Desk) (room : List ℕ) (r : AfterDeskReply) (room' : List ℕ) → 240 ≤ length room → GivesReply desk (framed m) room r room'
      → (r.answer ≡ reply_number 7 0) × (r.desk ≡ desk) × (room' ≡ room)
  host_desk_unchanged = (nearby_noise frame offered t accepted m altered).of_host_desk

  pub host_bench_unchanged : (bench : Bench) (room : List ℕ) (r : AfterBenchTake) (room' : List ℕ) → GivesTake bench (framed m) room r room'
      → (r.answer ≡ take_number 7 0) × (r.bench ≡ bench) × (room' ≡ room)
  host_bench_unchanged = (nearby_noise frame offered t accepted m altered).of_host_bench

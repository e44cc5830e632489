-- 02, #111: "The noise on rig 3 isn't bursts. We want it shown that the reader also answers number 7 for any accepted message altered in an odd
-- number of bits, and for one altered in exactly two bits, anywhere in its up to 1,968 bits. Premises and consequences are those of the mission's
-- third demand."
-- Assumes nothing.
use Rattle.std.specs.Prelude.{Ok, Err}
use mathlib.Core.Path.{◌≡◌, sym, ap, ◌∙◌}
use mathlib.Core.Logic.{◌≢◌}
use mathlib.Core.List.{List}
use Prim.Native.Nat.{ℕ, ◌≤◌}
use native.Mathlib.Omega.{arith}
use lib.ListN.{length, take}
use Rattle.frame.specs.Frame.{framed, message_of}
use Rattle.remainder.proofs.Laws.{burst_seen, nearby_burst}
use Rattle.remainder.specs.Noise.{AlteredOddly, AlteredInTwo}
use Rattle.remainder.specs.Remainder.{remainder_of, combined, AlteredNearby}
use Rattle.telegram.proofs.Judge.{telegram_facts}
use Rattle.telegram.proofs.Laws.{altered_reads, reads_back, reads_settled, written_fields}
use Rattle.telegram.proofs.Sound.{message_of_framed}
use Rattle.telegram.specs.Read.{read_frame, Reads}
use Rattle.telegram.specs.Write.{message_for, fields_for, Writes}
use Rattle.telegram.specs.declared.Fault.TheVariants.{CheckFault}
use Rattle.telegram.specs.declared.Fields.{Fields}
use Rattle.telegram.specs.Answers.{Reading}
use Rattle.bench.proofs.Laws.{altered_silent}
use Rattle.bench.specs.Take.{Takes}
use Rattle.bench.specs.declared.AfterTake.{AfterTake}
use Rattle.bench.specs.declared.Bench.{Bench}
use Rattle.bench.specs.declared.Fault.TheVariants as silence
use Rattle.desk.proofs.Laws.{altered_reply}
use Rattle.desk.specs.Reply.{Replies}
use Rattle.desk.specs.declared.AfterReply.{AfterReply}
use Rattle.desk.specs.declared.Desk.{Desk}
use Rattle.desk.specs.declared.Fault.TheVariants as refusal
use Rattle.kamzhor.proofs.Laws.{frame_as_read}
use Rattle.kamzhor.specs.Bench.{GivesTake, take_number, take_given}
use Rattle.kamzhor.specs.Desk.{GivesReply, reply_number, reply_given}
use Rattle.kamzhor.specs.Host.{frame_number, frame_given, GivesFrame}
use Rattle.kamzhor.specs.declared.FrameAnswer.{FrameAnswer}
use Rattle.kamzhor.specs.declared.host_bench.AfterBenchTake.{AfterBenchTake}
use Rattle.kamzhor.specs.declared.host_desk.AfterDeskReply.{AfterDeskReply}
use Rattle.promises.specs.Noise.{CheckFaultFor}
-- ---- "altered in an odd number of bits": in how many places two lists of bits differ, place by place; one altered bit is such an alteration, and
-- three are
pub use Rattle.remainder.proofs.Noise.{differing_none, differing_alike, differing_unlike, differing_same, differing_sym, odd_plainly, odd_one, one_altered, three_altered}
-- it is seen, whatever its length
pub use Rattle.remainder.proofs.Noise.{odd_seen}
-- "altered in exactly two bits": two places and no other; 16 places apart, that is neither of the other two kinds of noise
pub use Rattle.remainder.proofs.Noise.{two_plainly, two_anywhere, two_altered}
-- it is seen where the two are less than 32767 places apart, since that is the least power of x that leaves 1; and not where they are exactly so far
pub use Rattle.remainder.proofs.Order.{order_32767, order_least}
pub use Rattle.remainder.proofs.Noise.{two_ones, two_apart, two_seen, seen_below, unseen_apart, unseen_ends}

-- ---- the consequences, each written out

pub said_out : (m : List ℕ) → CheckFaultFor m
    → ((room : List ℕ) (a : Reading) (room' : List ℕ) → 240 ≤ length room → Reads (framed m) room a room'
    → (a ≡ Err CheckFault) × (room' ≡ room))
    × ((room : List ℕ) (a : FrameAnswer) (room' : List ℕ) → 240 ≤ length room → GivesFrame (framed m) room a room'
    → (a ≡ frame_number 7 0) × (room' ≡ room))
    × ((desk : Desk) (room : List ℕ) (r : AfterReply) (room' : List ℕ) → 240 ≤ length room → Replies desk (framed m) room r room'
    → (r.answer ≡ Err (refusal.Unread CheckFault)) × (r.desk ≡ desk) × (room' ≡ room))
    × ((bench : Bench) (room : List ℕ) (r : AfterTake) (room' : List ℕ) → Takes bench (framed m) room r room'
    → (r.answer ≡ Err (silence.Unread CheckFault)) × (r.bench ≡ bench) × (room' ≡ room))
    × ((desk : Desk) (room : List ℕ) (r : AfterDeskReply) (room' : List ℕ) → 240 ≤ length room → GivesReply desk (framed m) room r room'
    → (r.answer ≡ reply_number 7 0) × (r.desk ≡ desk) × (room' ≡ room))
    × ((bench : Bench) (room : List ℕ) (r : AfterBenchTake) (room' : List ℕ) → GivesTake bench (framed m) room r room'
    → (r.answer ≡ take_number 7 0) × (r.bench ≡ bench) × (room' ≡ room))
said_out m s = (s.reader, s.host, s.desk, s.bench, s.of_host_desk, s.of_host_bench)

-- ---- "any accepted message"

module _ (frame : List ℕ) (offered : ℕ) (t : Fields) (accepted : read_frame frame offered ≡ Ok t) (m : List ℕ) where
  -- any alteration of the same length whose own remainder is not 0
  pub any_noise : length (message_of frame) ≡ length m → remainder_of (combined (message_of frame) m) ≢ 0 → CheckFaultFor m
  any_noise same odd =
      record {
        reader = seven;
        host = λ room a room' wide gives.
            let outcome = reads_settled (framed m) room in
            let read = seven room outcome.outcome.0 outcome.outcome.1 wide outcome.is_allowed_lem in
            let told = frame_as_read (framed m) room outcome.is_allowed_lem gives in
            (told.0 ∙ ap frame_given read.0, told.1 ∙ read.1);
        desk = altered_reply frame offered t accepted m same odd;
        bench = λ bench room r room' takes. altered_silent frame offered t accepted m same odd bench room takes;
        of_host_desk = λ desk room r room' wide gives.
            let kept = altered_reply frame offered t accepted m same odd desk room gives.0 room' wide gives.1 in (
              ap (λ (a : AfterDeskReply). a.answer) gives.2 ∙ ap reply_given kept.0,
              ap (λ (a : AfterDeskReply). a.desk) gives.2 ∙ kept.1,
              kept.2,
            );
        of_host_bench = λ bench room r room' gives.
            let kept = altered_silent frame offered t accepted m same odd bench room gives.1 in (
              ap (λ (a : AfterBenchTake). a.answer) gives.2 ∙ ap take_given kept.0,
              ap (λ (a : AfterBenchTake). a.bench) gives.2 ∙ kept.1,
              kept.2,
            );
      }
    where
      seven : (room : List ℕ) (a : Reading) (room' : List ℕ) → 240 ≤ length room → Reads (framed m) room a room'
          → (a ≡ Err CheckFault) × (room' ≡ room)
      seven = altered_reads frame offered t accepted m same odd

  -- "altered in an odd number of bits"
  pub odd_noise : AlteredOddly (message_of frame) m → CheckFaultFor m
  odd_noise a = any_noise a.same_length (odd_seen a)

  -- "altered in exactly two bits, anywhere in its up to 1,968 bits"
  pub two_noise : AlteredInTwo (message_of frame) m → CheckFaultFor m
  two_noise a = any_noise a.same_length (two_seen a (omega (arith, (telegram_facts frame offered t accepted).3)))

  -- demand 3: "alter one or more bits, all within 16 neighbouring bits"
  pub nearby_noise : AlteredNearby (message_of frame) m → CheckFaultFor m
  nearby_noise a = any_noise a.same_length (burst_seen (combined (message_of frame) m) (nearby_burst a))

-- every message that was written is such a one, with up to 240 bytes of data: altered in any of the three ways it is refused
module _ (d s t r : ℕ) (bytes room : List ℕ) (n : ℕ) (room' : List ℕ) (written : Writes d s t r bytes room (Ok n) room') (m : List ℕ) where
  taken : read_frame (take n room') (length bytes) ≡ Ok (fields_for d s t r bytes)
  taken =
      let o = reads_settled (take n room') bytes in
      sym o.is_allowed_lem.0 ∙ (reads_back d s t r bytes room n room' written bytes o.outcome.0 o.outcome.1 (omega arith) o.is_allowed_lem).0

  stands : message_of (take n room') ≡ message_for d s t r bytes
  stands = ap message_of (written_fields d s t r bytes room n room' written).5 ∙ message_of_framed (message_for d s t r bytes)

  pub written_odd : AlteredOddly (message_for d s t r bytes) m → CheckFaultFor m
  written_odd a = odd_noise (take n room') (length bytes) (fields_for d s t r bytes) taken m (rw stands a)

  pub written_two : AlteredInTwo (message_for d s t r bytes) m → CheckFaultFor m
  written_two a = two_noise (take n room') (length bytes) (fields_for d s t r bytes) taken m (rw stands a)

  pub written_nearby : AlteredNearby (message_for d s t r bytes) m → CheckFaultFor m
  written_nearby a = nearby_noise (take n room') (length bytes) (fields_for d s t r bytes) taken m (rw stands a)

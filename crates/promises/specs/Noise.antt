-- What comes of an altered message. Demand 3: "Frame it again and offer it with 240 bytes of room. It is refused as a check fault, closes no
-- ticket and changes no register." 02, #111: "Premises and consequences are those of the mission's third demand."
-- Assumes nothing.
use Rattle.std.specs.Prelude.{◌≡◌, List, ℕ, ◌≤◌, length, Err}
use Rattle.frame.specs.Frame.{framed}
use Rattle.telegram.specs.Read.{Reads}
use Rattle.telegram.specs.declared.Fault.TheVariants.{CheckFault}
use Rattle.telegram.specs.Answers.{Reading}
use Rattle.bench.specs.Take.{Takes}
use Rattle.bench.specs.declared.AfterTake.{AfterTake}
use Rattle.bench.specs.declared.Bench.{Bench}
use Rattle.bench.specs.declared.Fault.TheVariants as silence
use Rattle.desk.specs.Reply.{Replies}
use Rattle.desk.specs.declared.AfterReply.{AfterReply}
use Rattle.desk.specs.declared.Desk.{Desk}
use Rattle.desk.specs.declared.Fault.TheVariants as refusal
use Rattle.kamzhor.specs.Bench.{GivesTake, take_number}
use Rattle.kamzhor.specs.Desk.{GivesReply, reply_number}
use Rattle.kamzhor.specs.Host.{frame_number, GivesFrame}
use Rattle.kamzhor.specs.declared.FrameAnswer.{FrameAnswer}
use Rattle.kamzhor.specs.declared.host_bench.AfterBenchTake.{AfterBenchTake}
use Rattle.kamzhor.specs.declared.host_desk.AfterDeskReply.{AfterDeskReply}

-- the message m, framed, is refused as a check fault wherever it is offered, and changes nothing there
pub record CheckFaultFor (m : List ℕ) : Type 0 where
  -- the reader, and the lent buffer stays
  pub reader : (room : List ℕ) (a : Reading) (room' : List ℕ) → 240 ≤ length room → Reads (framed m) room a room'
      → (a ≡ Err CheckFault) × (room' ≡ room)
  -- in C too: number 7, and every other field is 0
  pub host : (room : List ℕ) (a : FrameAnswer) (room' : List ℕ) → 240 ≤ length room → GivesFrame (framed m) room a room'
      → (a ≡ frame_number 7 0) × (room' ≡ room)
  -- "closes no ticket": the whole desk stays, and so does the lent buffer
  pub desk : (d : Desk) (room : List ℕ) (r : AfterReply) (room' : List ℕ) → 240 ≤ length room → Replies d (framed m) room r room'
      → (r.answer ≡ Err (refusal.Unread CheckFault)) × (r.desk ≡ d) × (room' ≡ room)
  -- "and changes no register": the whole bench stays, and there is no answer, with any reply buffer
  pub bench : (b : Bench) (room : List ℕ) (r : AfterTake) (room' : List ℕ) → Takes b (framed m) room r room'
      → (r.answer ≡ Err (silence.Unread CheckFault)) × (r.bench ≡ b) × (room' ≡ room)
  -- in C too, of a desk and of a bench: number 7, every other field is 0, and desk or bench and the lent buffer stay
  pub of_host_desk : (d : Desk) (room : List ℕ) (r : AfterDeskReply) (room' : List ℕ) → 240 ≤ length room → GivesReply d (framed m) room r room'
      → (r.answer ≡ reply_number 7 0) × (r.desk ≡ d) × (room' ≡ room)
  pub of_host_bench : (b : Bench) (room : List ℕ) (r : AfterBenchTake) (room' : List ℕ) → GivesTake b (framed m) room r room'
      → (r.answer ≡ take_number 7 0) × (r.bench ≡ b) × (room' ≡ room)

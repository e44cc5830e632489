-- What the C capture host is answered: numbers only. Each answer is what the proved function answers, told in numbers.
-- Assumes nothing.
use Rattle.std.specs.Prelude.{◌≡◌, cond, List, ℕ, ◌+◌, ◌^◌, ◌<◌, eqb, ℤ, pos, neg_ℤ, length, Ok, Err, Some, None}
use Rattle.std.proofs.Math.Option.{Option, some, none}
use Rattle.remainder.specs.Remainder.{remainder_of}
use Rattle.telegram.specs.Read.{read_frame, read_refusal, room_after, data_in}
use Rattle.telegram.specs.Answers.{Reading as FrameReading}
use Rattle.telegram.specs.declared.Fields.{Fields}
use Rattle.values.specs.Values.{read_value}
use Rattle.values.specs.Answers.{Reading as ValueReading}
use Rattle.values.specs.declared.Value.{Value}
use Rattle.values.specs.declared.Value.TheVariants.{Natural, Negative}
use Rattle.lines.specs.declared.Event.{Event}
use Rattle.lines.specs.declared.Placed.{Placed}
use Rattle.receiver.specs.declared.Receiver.{Receiver}
use Rattle.tally.specs.Tally.{step_refusal, stepped_by, tally_by}
use Rattle.tally.specs.Answers.{Answer}
use Rattle.tally.specs.declared.Stepped.{Stepped}
use Rattle.tally.specs.declared.Tally.{Tally}
use Rattle.kamzhor.specs.declared.FrameAnswer.{FrameAnswer}
use Rattle.kamzhor.specs.declared.ValueAnswer.{ValueAnswer}
use Rattle.kamzhor.specs.declared.StepAnswer.{StepAnswer}
use Rattle.telegram.specs.Read as telegram
use Rattle.values.specs.Values as values
use Rattle.lines.specs.declared.Event.TheVariants as event
use Rattle.receiver.specs.Receiver as receiver
use Rattle.tally.specs.Tally as tally

-- the number that an answer tells: none where its refusal is 0
abbrev pub told : ℕ → Option ℕ
told refusal = cond (eqb refusal 0) none (some refusal)

-- ---- the frame reader

-- a number, and with 3 the place in the frame (02, #105): every other field is 0
abbrev pub frame_number : ℕ → ℕ → FrameAnswer
frame_number n place = record { refusal = n; destination = 0; source = 0; sort = 0; register = 0; size = 0; place = place }

abbrev pub frame_fields : Fields → FrameAnswer
frame_fields t =
    record {
      refusal = 0;
      destination = t.destination;
      source = t.source;
      sort = t.sort;
      register = t.register;
      size = t.size;
      place = 0;
    }

abbrev pub frame_given : FrameReading → FrameAnswer
frame_given (Err f) = frame_number (telegram.fault_number f) (telegram.fault_place f)
frame_given (Ok t) = frame_fields t

-- ---- the value reader

abbrev pub value_number : ℕ → ValueAnswer
value_number n = record { refusal = n; negative = 0; magnitude = 0 }

-- a sign and a magnitude: Negative n is the number -(n + 1)
abbrev pub sign_of : Value → ℕ
sign_of (Natural n) = 0
sign_of (Negative n) = 1

abbrev pub magnitude_of : Value → ℕ
magnitude_of (Natural n) = n
magnitude_of (Negative n) = n + 1

abbrev pub value_found : Value → ValueAnswer
value_found v = record { refusal = 0; negative = sign_of v; magnitude = magnitude_of v }

abbrev pub value_given : ValueReading → ValueAnswer
value_given (Err f) = value_number (values.fault_number f)
value_given (Ok v) = value_found v

-- the integer that the host takes an answer for
abbrev pub meant : ValueAnswer → ℤ
meant r = cond (eqb r.negative 1) (neg_ℤ (pos r.magnitude)) (pos r.magnitude)

-- its magnitude has 64 bits, as that of every value that is read
abbrev pub is_small : Value → Type 0
is_small (Natural n) = Unit {0}
is_small (Negative n) = n + 1 < 2 ^ 64

-- ---- the receiver

-- what became of a line's frame. No step tells 4: an open frame has its line at the capture's end
abbrev pub line_kind : Event → ℕ
line_kind (event.Read t) = 1
line_kind (event.Refused f) = 2
line_kind event.Dropped = 3
line_kind event.Open = 4

-- one where a line is of that kind
abbrev pub one_if : ℕ → ℕ → ℕ
one_if line kind = cond (eqb line kind) 1 0

-- what a line says of its frame: the frame reader's answer, where there is one
abbrev pub line_frame : Event → FrameAnswer
line_frame (event.Read t) = frame_given (Ok t)
line_frame (event.Refused f) = frame_given (Err f)
line_frame event.Dropped = frame_number 0 0
line_frame event.Open = frame_number 0 0

abbrev pub no_line : Receiver → ℕ → ℕ → StepAnswer
no_line r taken refusal = record { refusal = refusal; line = 0; taken = taken; place = 0; frame = frame_number 0 0; receiver = r }

abbrev pub with_line : Receiver → ℕ → Placed → StepAnswer
with_line r taken e =
    record { refusal = 0; line = line_kind e.event; taken = taken; place = e.place; frame = line_frame e.event; receiver = r }

abbrev pub answer_given : Receiver → ℕ → Answer → StepAnswer
answer_given r taken (Ok None) = no_line r taken 0
answer_given r taken (Err f) = no_line r taken (tally.fault_number f)
answer_given r taken (Ok (Some e)) = with_line r taken e

abbrev pub step_given : Stepped → StepAnswer
step_given s = answer_given s.receiver s.taken s.answer

-- ---- the contracts

abbrev pub GivesRemainder : List ℕ → ℕ → Type 0
GivesRemainder bytes r = r ≡ remainder_of bytes

-- `kamzhor_read_frame`: the reader's answer and the reader's buffer
abbrev pub GivesFrame : List ℕ → List ℕ → FrameAnswer → List ℕ → Type 0
GivesFrame frame room r room' =
    (r ≡ frame_given (read_frame frame (length room)))
    × (room' ≡ room_after (read_refusal frame (length room)) (data_in frame) room)

-- `kamzhor_read_value`: `kind` and `element` are any numbers
abbrev pub GivesValue : ℕ → List ℕ → ℕ → ValueAnswer → Type 0
GivesValue kind bytes element r = r ≡ value_given (read_value kind bytes element)

-- `kamzhor_receiver`: outside a frame, before the byte at that place
abbrev pub GivesReceiver : ℕ → Receiver → Type 0
GivesReceiver place r = r ≡ receiver.outside_at place

-- `kamzhor_step`: a step of any receiver, one that no call made too, with any tally, and the receiver and the tally behind it
abbrev pub GivesStep : Receiver → Tally → List ℕ → StepAnswer → Tally → Type 0
GivesStep r t chunk a t' = (a ≡ step_given (stepped_by (step_refusal t r chunk) r chunk)) × (t' ≡ tally_by (step_refusal t r chunk) t r chunk)

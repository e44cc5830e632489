-- The frame reader: rows 1 to 9 as conditions on the frame and its message, and what is answered.
-- Assumes nothing.
use Rattle.std.specs.Prelude.{◌≡◌, ◌≢◌, ◌⊎◌, Bool, true, false, not, ◌||◌, ◌&&◌, List, [], ◌∷◌, ℕ, ◌+◌, ◌-◌, ◌≤◌, ◌<◌, eqb, ltb, length, get_or, take, drop, Ok, Err}
use Rattle.std.proofs.Math.Option.{Option, some, none}
use Rattle.first.specs.First.{first_place}
use Rattle.lent.specs.Lent.{over}
use Rattle.remainder.specs.Remainder.{remainder_of}
use Rattle.rows.specs.Rows.{Row, row, Test, test, first_row_of, or_later}
use Rattle.frame.specs.Frame.{framed, between, message_of}
use Rattle.telegram.specs.declared.Fault.{Fault}
use Rattle.telegram.specs.declared.Fault.TheVariants.{NotFramed, StrayEnd, BadSubstitution, ShortMessage, LongMessage, NoRoom, CheckFault, ZeroAddress, UnknownType}
use Rattle.telegram.specs.Answers.{Judged}
use Rattle.telegram.specs.declared.Fields.{Fields}
use Rattle.telegram.specs.Answers.{Reading}

-- the byte at a place
abbrev pub byte : List ℕ → ℕ → ℕ
byte xs i = get_or xs i 0

-- a place between the frame's ends
abbrev pub Between : List ℕ → ℕ → Type 0
Between frame i = (1 ≤ i) × (i + 1 < length frame)

-- ---- the rows

-- 1: "frame under 2 bytes, or not from 13 to 10"
unfoldable pub IsNotFramed : List ℕ → Type 0
IsNotFramed frame = (length frame < 2) ⊎ ((byte frame 0 ≢ 13) ⊎ (byte frame (length frame - 1) ≢ 10))

-- 2: "a 10 or 13 between the ends"
unfoldable pub HasStrayEnd : List ℕ → Type 0
HasStrayEnd frame = (i : ℕ) × Between frame i × ((byte frame i ≡ 10) ⊎ (byte frame i ≡ 13))

-- a place with "a 94 between the ends whose next byte isn't 74, 77 or 158 (so also a 94 just before the end byte)"
abbrev pub FaultyAt : List ℕ → ℕ → Type 0
FaultyAt frame i =
    Between frame i × (byte frame i ≡ 94) × ((byte frame (i + 1) ≢ 74) × (byte frame (i + 1) ≢ 77) × (byte frame (i + 1) ≢ 158))

-- 3: there is such a 94
unfoldable pub HasBadSubstitution : List ℕ → Type 0
HasBadSubstitution frame = (i : ℕ) × FaultyAt frame i

-- 02, #105: "the place in the frame of the first faulty 94, counted from the frame's start byte as 0"
unfoldable pub FirstFaulty : List ℕ → ℕ → Type 0
FirstFaulty frame place = FaultyAt frame place × ((i : ℕ) → i < place → FaultyAt frame i → ⊥)

-- 4 to 9 speak of the frame's message
abbrev pub OfMessage : List ℕ → (List ℕ → Type 0) → Type 0
OfMessage frame p = (message : List ℕ) × (frame ≡ framed message) × p message

-- 4: "message under 6 bytes"
unfoldable pub IsShort : List ℕ → Type 0
IsShort message = length message < 6

-- 5: "message over 246 bytes"
unfoldable pub IsLong : List ℕ → Type 0
IsLong message = 246 < length message

-- 6: "lent buffer shorter than the data"
unfoldable pub OverRoom : ℕ → List ℕ → Type 0
OverRoom room message = room < length message - 6

-- 7: "remainder of the message is not 0"
unfoldable pub IsWrong : List ℕ → Type 0
IsWrong message = remainder_of message ≢ 0

-- 8: "destination or source 0"
unfoldable pub HasZeroAddress : List ℕ → Type 0
HasZeroAddress message = (byte message 0 ≡ 0) ⊎ (byte message 1 ≡ 0)

-- 9: "type over 9"
unfoldable pub HasUnknownType : List ℕ → Type 0
HasUnknownType message = 9 < byte message 2

-- 94 stands for 10, 13 or 94 only with one of these after it
abbrev pub is_substitute : ℕ → Bool
is_substitute b = eqb b 74 || (eqb b 77 || eqb b 158)

-- where the first faulty 94 is found: in a frame from 13 to 10 neither end is a 94
abbrev pub is_faulty : List ℕ → ℕ → Bool
is_faulty frame i = eqb (byte frame i) 94 && not (is_substitute (byte frame (i + 1)))

unfoldable pub bad_place : List ℕ → ℕ
bad_place frame = first_place (is_faulty frame) (length frame)

-- in the reader's order
unfoldable pub read_rows : List ℕ → ℕ → List (Row Fault)
read_rows frame room =
    row (IsNotFramed frame) NotFramed
    ∷ row (HasStrayEnd frame) StrayEnd
    ∷ row (HasBadSubstitution frame) (BadSubstitution (bad_place frame))
    ∷ row (OfMessage frame IsShort) ShortMessage
    ∷ row (OfMessage frame IsLong) LongMessage
    ∷ row (OfMessage frame (OverRoom room)) NoRoom
    ∷ row (OfMessage frame IsWrong) CheckFault
    ∷ row (OfMessage frame HasZeroAddress) ZeroAddress
    ∷ row (OfMessage frame HasUnknownType) UnknownType
    ∷ []

-- the paper's number of each refusal
abbrev pub fault_number : Fault → ℕ
fault_number NotFramed = 1
fault_number StrayEnd = 2
fault_number (BadSubstitution place) = 3
fault_number ShortMessage = 4
fault_number LongMessage = 5
fault_number NoRoom = 6
fault_number CheckFault = 7
fault_number ZeroAddress = 8
fault_number UnknownType = 9

-- the place that comes with 3. The other numbers have none, which is told as 0, where the start byte stands
abbrev pub fault_place : Fault → ℕ
fault_place NotFramed = 0
fault_place StrayEnd = 0
fault_place (BadSubstitution place) = place
fault_place ShortMessage = 0
fault_place LongMessage = 0
fault_place NoRoom = 0
fault_place CheckFault = 0
fault_place ZeroAddress = 0
fault_place UnknownType = 0

-- the number that a reading tells, or none
abbrev pub read_told : Reading → Option ℕ
read_told (Err f) = some (fault_number f)
read_told (Ok t) = none

-- the place that a reading tells; 0 for none
abbrev pub read_place : Reading → ℕ
read_place (Err f) = fault_place f
read_place (Ok t) = 0

-- ---- how the rows are tested

abbrev pub not_framed : List ℕ → Bool
not_framed frame = ltb (length frame) 2 || (not (eqb (byte frame 0) 13) || not (eqb (byte frame (length frame - 1)) 10))

unfoldable pub has_stray_end : List ℕ → Bool
has_stray_end [] = false
has_stray_end (b ∷ rest) = (eqb b 10 || eqb b 13) || has_stray_end rest

abbrev pub is_bad : Bool → ℕ → Bool
is_bad true b = not (is_substitute b)
is_bad false b = false

-- the flag says that a 94 came last; what stands between the ends is followed by the end byte
unfoldable pub has_bad_substitution : Bool → List ℕ → Bool
has_bad_substitution after [] = after
has_bad_substitution after (b ∷ rest) = is_bad after b || has_bad_substitution (eqb b 94) rest

abbrev pub frame_tests : List ℕ → List (Test Fault)
frame_tests frame =
    test (not_framed frame) NotFramed
    ∷ test (has_stray_end (between frame)) StrayEnd
    ∷ test (has_bad_substitution false (between frame)) (BadSubstitution (bad_place frame))
    ∷ []

abbrev pub length_tests : ℕ → ℕ → List (Test Fault)
length_tests n room = test (ltb n 6) ShortMessage ∷ test (ltb 246 n) LongMessage ∷ test (ltb room (n - 6)) NoRoom ∷ []

abbrev pub message_tests : List ℕ → List (Test Fault)
message_tests message =
    test (not (eqb (remainder_of message) 0)) CheckFault
    ∷ test (eqb (byte message 0) 0 || eqb (byte message 1) 0) ZeroAddress
    ∷ test (ltb 9 (byte message 2)) UnknownType
    ∷ []

-- the answer of a group of tests
abbrev pub judged : Option Fault → Judged
judged (some f) = Err f
judged none = Ok tt

-- what refuses a message that is offered with so much room, if anything does: rows 4 to 9
unfoldable pub message_refusal : List ℕ → ℕ → Option Fault
message_refusal message room = or_later (first_row_of (length_tests (length message) room)) (first_row_of (message_tests message))

-- what refuses a frame: rows 1 to 9
unfoldable pub read_refusal : List ℕ → ℕ → Option Fault
read_refusal frame room = or_later (first_row_of (frame_tests frame)) (message_refusal (message_of frame) room)

-- ---- what is answered

unfoldable pub fields_of : List ℕ → Fields
fields_of message =
    record {
      destination = byte message 0;
      source = byte message 1;
      sort = byte message 2;
      register = byte message 3;
      size = length message - 6;
    }

-- the data bytes stand between the four fields and the remainder
unfoldable pub data_of : List ℕ → List ℕ
data_of message = take (length message - 6) (drop 4 message)

-- what a frame says, and the data that it carries
abbrev pub fields_in : List ℕ → Fields
fields_in frame = fields_of (message_of frame)

abbrev pub data_in : List ℕ → List ℕ
data_in frame = data_of (message_of frame)

abbrev pub read_answer : Option Fault → Fields → Reading
read_answer (some f) t = Err f
read_answer none t = Ok t

-- a refusal leaves every byte of the buffer; the data take its first bytes
abbrev pub room_after : Option Fault → List ℕ → List ℕ → List ℕ
room_after (some f) bytes room = room
room_after none bytes room = over bytes room

unfoldable pub read_frame : List ℕ → ℕ → Reading
read_frame frame room = read_answer (read_refusal frame room) (fields_in frame)

-- ---- the contracts

-- `read`: a frame and a lent buffer
abbrev pub Reads : List ℕ → List ℕ → Reading → List ℕ → Type 0
Reads frame room r room' =
    (r ≡ read_frame frame (length room)) × (room' ≡ room_after (read_refusal frame (length room)) (data_in frame) room)

-- `examine`: the same judgement with so much room, and no buffer
abbrev pub Judges : List ℕ → ℕ → Reading → Type 0
Judges frame room r = r ≡ read_frame frame room

abbrev pub Numbers : Fault → ℕ → Type 0
Numbers fault r = r ≡ fault_number fault

-- `place`
abbrev pub Places : Fault → ℕ → Type 0
Places fault r = r ≡ fault_place fault

-- `why`: the refusal of a reading that is one; a telegram has none, and is answered as row 1 would be
abbrev pub why_not : Reading → Fault
why_not (Err f) = f
why_not (Ok t) = NotFramed

abbrev pub Tells : Reading → Fault → Type 0
Tells reading r = r ≡ why_not reading

-- A telegram for the bench: what it does and what is answered, or which number keeps it silent.
-- Assumes nothing.
use Rattle.std.specs.Prelude.{◌≡◌, ◌≢◌, ◌⊎◌, Bool, cond, not, ◌||◌, List, [], ◌∷◌, ◌++◌, ℕ, ◌≤◌, ◌<◌, eqb, ltb, length, Ok, Err}
use Rattle.std.proofs.Math.Option.{Option, some, none}
use Rattle.lent.specs.Lent.{over}
use Rattle.rows.specs.Rows.{Row, row, Test, test, first_row_of, or_later, passed_up, raised}
use Rattle.telegram.specs.Read.{read_rows, read_refusal, read_frame, fields_in, data_in}
use Rattle.telegram.specs.Write.{telegram_for}
use Rattle.telegram.specs.declared.Fields.{Fields}
use Rattle.values.specs.Values.{bytes_of}
use Rattle.deeds.specs.Deeds.{nack, held_deed}
use Rattle.deeds.specs.declared.Deed.{Deed}
use Rattle.bench.specs.declared.Bench.{Bench}
use Rattle.bench.specs.declared.Fault.{Fault}
use Rattle.bench.specs.declared.Fault.TheVariants.{Unread, OtherAddress, NotARequest, NoRoom}
use Rattle.bench.specs.Answers.{Taking}
use Rattle.bench.specs.declared.AfterTake.{AfterTake}
use Rattle.bench.specs.Register.{named, place_of, is_held, with_value, fault_number, fault_place}

-- ---- what a request does and what is answered

-- "an unknown register included"
unfoldable pub deed_of : Bench → Fields → List ℕ → Deed
deed_of bench t bytes =
    cond (is_held bench t.register) (held_deed (named bench t.register) t.sort bytes) (nack 0)

-- "A telegram for it is answered to the telegram's source": from the bench's own address, with the register
unfoldable pub reply_for : Bench → Fields → Deed → List ℕ
reply_for bench t deed = telegram_for t.source bench.address deed.sort t.register (bytes_of deed.size deed.value)

unfoldable pub reply_of : Bench → Fields → List ℕ → List ℕ
reply_of bench t bytes = reply_for bench t (deed_of bench t bytes)

-- ---- rows 35 to 37

-- 35: "telegram for another address"
unfoldable pub IsOtherAddress : Bench → Fields → Type 0
IsOtherAddress bench t = t.destination ≢ bench.address

-- 36: "type 0, 1, 2, 3 or 8"
unfoldable pub IsNotARequest : Fields → Type 0
IsNotARequest t = (t.sort ≡ 0) ⊎ ((t.sort ≡ 1) ⊎ ((t.sort ≡ 2) ⊎ ((t.sort ≡ 3) ⊎ (t.sort ≡ 8))))

-- 37: "buffer shorter than the reply"
unfoldable pub IsNoRoom : List ℕ → ℕ → Type 0
IsNoRoom reply room = room < length reply

unfoldable pub take_rows : Bench → Fields → List ℕ → ℕ → List (Row Fault)
take_rows bench t bytes room =
    row (IsOtherAddress bench t) OtherAddress ∷ row (IsNotARequest t) NotARequest ∷ row (IsNoRoom (reply_of bench t bytes) room) NoRoom ∷ []

-- what means silence, in the call's order: the reader's rows, passed up whole ("It reads with 240 bytes of room of its own"), and then 35 to 37
unfoldable pub silence_rows : Bench → List ℕ → ℕ → List (Row Fault)
silence_rows bench frame room = passed_up Unread (read_rows frame 240) ++ take_rows bench (fields_in frame) (data_in frame) room

abbrev pub is_answer : ℕ → Bool
is_answer sort = eqb sort 0 || (eqb sort 1 || (eqb sort 2 || (eqb sort 3 || eqb sort 8)))

abbrev pub take_tests : Bench → Fields → List ℕ → ℕ → List (Test Fault)
take_tests bench t bytes room =
    test (not (eqb t.destination bench.address)) OtherAddress
    ∷ test (is_answer t.sort) NotARequest
    ∷ test (ltb room (length (reply_of bench t bytes))) NoRoom
    ∷ []

-- what keeps the bench silent once the telegram was read: rows 35 to 37
unfoldable pub request_refusal : Bench → Fields → List ℕ → ℕ → Option Fault
request_refusal bench t bytes room = first_row_of (take_tests bench t bytes room)

-- row 37 alone
abbrev pub room_refusal : List ℕ → ℕ → Option Fault
room_refusal reply room = first_row_of (test (ltb room (length reply)) NoRoom ∷ [])

unfoldable pub take_refusal : Bench → List ℕ → ℕ → Option Fault
take_refusal bench frame room = or_later (raised Unread (read_refusal frame 240)) (request_refusal bench (fields_in frame) (data_in frame) room)

-- ---- the answer, the bench and the buffer, each from the refusal

abbrev pub take_answer : Option Fault → List ℕ → Taking
take_answer (some f) reply = Err f
take_answer none reply = Ok (length reply)

-- the number that an answer tells, or none
abbrev pub take_told : Taking → Option ℕ
take_told (Err f) = some (fault_number f)
take_told (Ok n) = none

-- the place that it tells, with the reader's 3; 0 for none
abbrev pub take_place : Taking → ℕ
take_place (Err f) = fault_place f
take_place (Ok n) = 0

-- the register's value afterwards; where the register is not held, nothing changes
unfoldable pub done_to : Bench → ℕ → Deed → Bench
done_to bench number deed = cond (is_held bench number) (with_value bench (place_of bench number) deed.value) bench

abbrev pub take_bench : Option Fault → Bench → Bench → Bench
take_bench (some f) before after = before
take_bench none before after = after

abbrev pub take_room : Option Fault → List ℕ → List ℕ → List ℕ
take_room (some f) reply room = room
take_room none reply room = over reply room

-- a telegram is answered, or refused: what the call hands back, and what the lent room holds then
abbrev pub Answers : Option Fault → Bench → Bench → List ℕ → List ℕ → AfterTake → List ℕ → Type 0
Answers refusal bench after reply room r room' =
    (r.answer ≡ take_answer refusal reply) × (r.bench ≡ take_bench refusal bench after) × (room' ≡ take_room refusal reply room)

-- of a telegram that was read
abbrev pub Requests : Bench → Fields → List ℕ → List ℕ → AfterTake → List ℕ → Type 0
Requests bench t bytes room r room' =
    Answers (request_refusal bench t bytes (length room)) bench (done_to bench t.register (deed_of bench t bytes)) (reply_of bench t bytes) room r room'

-- the contract of `take`
abbrev pub Takes : Bench → List ℕ → List ℕ → AfterTake → List ℕ → Type 0
Takes bench frame room r room' =
    Answers (take_refusal bench frame (length room)) bench
    (done_to bench (fields_in frame).register (deed_of bench (fields_in frame) (data_in frame)))
    (reply_of bench (fields_in frame) (data_in frame)) room r room'

-- ---- a telegram that the bench answers

-- it was read, it is for this bench, it is a request, and there is room for the reply
pub record Answerable (bench : Bench) (frame : List ℕ) (t : Fields) (room : ℕ) : Type 0 where
  pub read : read_frame frame 240 ≡ Ok t
  pub ours : t.destination ≡ bench.address
  pub asks : IsNotARequest t → ⊥
  pub roomy : length (reply_of bench t (data_in frame)) ≤ room

-- the reply goes "to the telegram's source", from the bench's address, with the register, a type and data; the bench is then `after`
abbrev pub Gives : Bench → Fields → List ℕ → ℕ → List ℕ → Bench → AfterTake → List ℕ → Type 0
Gives bench t room sort bytes after r room' =
    (r.answer ≡ Ok (length (telegram_for t.source bench.address sort t.register bytes)))
    × (r.bench ≡ after)
    × (room' ≡ over (telegram_for t.source bench.address sort t.register bytes) room)

-- "numbers 1 to 5, 7 to 9 and 35 to 37 mean silence"
abbrev pub MeansSilence : ℕ → Type 0
MeansSilence n = ((1 ≤ n) × (n ≤ 5)) ⊎ (((7 ≤ n) × (n ≤ 9)) ⊎ ((35 ≤ n) × (n ≤ 37)))

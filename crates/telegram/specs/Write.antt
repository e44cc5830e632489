-- The frame writer: rows 5, 8, 9 and 6 in its order, and what is written.
-- Assumes nothing.
use Rattle.std.specs.Prelude.{◌≡◌, ◌⊎◌, ◌||◌, List, [], ◌∷◌, ◌++◌, ℕ, ◌/◌, ◌%◌, ◌<◌, eqb, ltb, length, Ok, Err}
use Rattle.std.proofs.Math.Option.{Option, some, none}
use Rattle.remainder.specs.Remainder.{remainder_of}
use Rattle.rows.specs.Rows.{Row, row, Test, test, first_row_of}
use Rattle.frame.specs.Frame.{framed}
use Rattle.telegram.specs.Read.{room_after, fault_number}
use Rattle.telegram.specs.declared.Fault.{Fault}
use Rattle.telegram.specs.declared.Fault.TheVariants.{LongMessage, NoRoom, ZeroAddress, UnknownType}
use Rattle.telegram.specs.declared.Fields.{Fields}
use Rattle.telegram.specs.Answers.{Writing}

-- what stands before the remainder: "destination, source, type, register, 0 to 240 data bytes"
abbrev pub unsealed : ℕ → ℕ → ℕ → ℕ → List ℕ → List ℕ
unsealed destination source sort register bytes = destination ∷ source ∷ sort ∷ register ∷ bytes

-- bytes followed by their remainder, "remainder high byte, remainder low byte"
unfoldable pub sealed : List ℕ → List ℕ
sealed bytes = bytes ++ (remainder_of bytes / 256 ∷ remainder_of bytes % 256 ∷ [])

-- the message, and its telegram
abbrev pub message_for : ℕ → ℕ → ℕ → ℕ → List ℕ → List ℕ
message_for destination source sort register bytes = sealed (unsealed destination source sort register bytes)

abbrev pub telegram_for : ℕ → ℕ → ℕ → ℕ → List ℕ → List ℕ
telegram_for destination source sort register bytes = framed (message_for destination source sort register bytes)

-- what its reader is to answer
abbrev pub fields_for : ℕ → ℕ → ℕ → ℕ → List ℕ → Fields
fields_for destination source sort register bytes =
    record { destination = destination; source = source; sort = sort; register = register; size = length bytes }

-- ---- the rows

-- 5: "writer: data over 240"
unfoldable pub IsTooMuch : List ℕ → Type 0
IsTooMuch bytes = 240 < length bytes

-- 8: "destination or source 0"
unfoldable pub IsZeroAddress : ℕ → ℕ → Type 0
IsZeroAddress destination source = (destination ≡ 0) ⊎ (source ≡ 0)

-- 9: "type over 9"
unfoldable pub IsUnknownType : ℕ → Type 0
IsUnknownType sort = 9 < sort

-- 6: "lent buffer shorter than [..] the telegram"
unfoldable pub IsOverRoom : List ℕ → ℕ → Type 0
IsOverRoom telegram room = room < length telegram

-- "The writer's order is 5, 8, 9, 6."
unfoldable pub write_rows : ℕ → ℕ → ℕ → ℕ → List ℕ → ℕ → List (Row Fault)
write_rows destination source sort register bytes room =
    row (IsTooMuch bytes) LongMessage
    ∷ row (IsZeroAddress destination source) ZeroAddress
    ∷ row (IsUnknownType sort) UnknownType
    ∷ row (IsOverRoom (telegram_for destination source sort register bytes) room) NoRoom
    ∷ []

-- the number that a writing tells, or none
abbrev pub write_told : Writing → Option ℕ
write_told (Err f) = some (fault_number f)
write_told (Ok n) = none

-- ---- how they are tested, and what is answered

-- 6 of a message
unfoldable pub room_refusal : List ℕ → ℕ → Option Fault
room_refusal message room = first_row_of (test (ltb room (length (framed message))) NoRoom ∷ [])

abbrev pub write_tests : ℕ → ℕ → ℕ → ℕ → List ℕ → ℕ → List (Test Fault)
write_tests destination source sort register bytes room =
    test (ltb 240 (length bytes)) LongMessage
    ∷ test (eqb destination 0 || eqb source 0) ZeroAddress
    ∷ test (ltb 9 sort) UnknownType
    ∷ test (ltb room (length (telegram_for destination source sort register bytes))) NoRoom
    ∷ []

unfoldable pub write_refusal : ℕ → ℕ → ℕ → ℕ → List ℕ → ℕ → Option Fault
write_refusal destination source sort register bytes room = first_row_of (write_tests destination source sort register bytes room)

abbrev pub write_answer : Option Fault → ℕ → Writing
write_answer (some f) n = Err f
write_answer none n = Ok n

-- a message is sent: what is answered, and what the room holds then
abbrev pub Sends : List ℕ → List ℕ → Writing → List ℕ → Type 0
Sends message room r room' =
    (r ≡ write_answer (room_refusal message (length room)) (length (framed message)))
    × (room' ≡ room_after (room_refusal message (length room)) (framed message) room)

-- the contract of `write`
abbrev pub Writes : ℕ → ℕ → ℕ → ℕ → List ℕ → List ℕ → Writing → List ℕ → Type 0
Writes destination source sort register bytes room r room' =
    (r ≡ write_answer (write_refusal destination source sort register bytes (length room)) (length (telegram_for destination source sort register bytes)))
    × (room' ≡ room_after (write_refusal destination source sort register bytes (length room)) (telegram_for destination source sort register bytes) room)

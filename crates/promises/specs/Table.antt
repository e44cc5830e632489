-- "What is proved by table": twelve facts, each with its inputs and what is expected, and one test of a fact over the definitions that the
-- contracts name.
-- Assumes nothing.
use Rattle.std.specs.Prelude.{Bool, true, false, ◌&&◌, List, [], ◌∷◌, ℕ, eqb, Ok, Err}
use Rattle.ticket.specs.Ticket.{new_ticket}
use Rattle.frame.specs.Frame.{framed}
use Rattle.remainder.specs.Remainder.{remainder_of}
use Rattle.telegram.specs.Read.{read_frame, fault_number}
use Rattle.telegram.specs.Answers.{Reading}
use Rattle.ticket.specs.Due.{is_due}
use Rattle.values.specs.Values.{read_value, toggle_bits}
use Rattle.values.specs.Answers.{Reading as ValueReading}
use Rattle.values.specs.declared.Value.{Value}
use Rattle.values.specs.declared.Value.TheVariants.{Natural, Negative}

-- a fact of the table
pub data Fact : Type 0 where
  -- the remainder of these bytes
  leaves : (bytes : List ℕ) (is : ℕ) → Fact
  -- a message, and what it becomes substituted and framed
  becomes : (message frame : List ℕ) → Fact
  -- a frame, and the number that refuses it with 240 bytes of room
  refused : (frame : List ℕ) (number : ℕ) → Fact
  -- the first element of these bytes, of a kind
  reads : (kind : ℕ) (bytes : List ℕ) (value : Value) → Fact
  -- whether a ticket that was opened then, with that wait, is due at the clock
  due : (opened wait clock : ℕ) (is : Bool) → Fact
  -- a value toggled with a mask
  toggled : (value mask is : ℕ) → Fact

-- ---- the test of a fact

abbrev pub same_bytes : List ℕ → List ℕ → Bool
same_bytes [] [] = true
same_bytes [] (y ∷ ys) = false
same_bytes (x ∷ xs) [] = false
same_bytes (x ∷ xs) (y ∷ ys) = eqb x y && same_bytes xs ys

abbrev pub refused_with : Reading → ℕ → Bool
refused_with (Err f) number = eqb (fault_number f) number
refused_with (Ok t) number = false

abbrev pub same_value : Value → Value → Bool
same_value (Natural m) (Natural n) = eqb m n
same_value (Natural m) (Negative n) = false
same_value (Negative m) (Natural n) = false
same_value (Negative m) (Negative n) = eqb m n

abbrev pub is_value : ValueReading → Value → Bool
is_value (Err f) value = false
is_value (Ok found) value = same_value found value

abbrev pub same_bool : Bool → Bool → Bool
same_bool true b = b
same_bool false true = false
same_bool false false = true

-- the fact holds, by the definitions of the contracts
unfoldable pub holds : Fact → Bool
holds (leaves bytes is) = eqb (remainder_of bytes) is
holds (becomes message frame) = same_bytes (framed message) frame
holds (refused frame number) = refused_with (read_frame frame 240) number
holds (reads kind bytes value) = is_value (read_value kind bytes 0) value
holds (due opened wait clock is) = same_bool (is_due clock (new_ticket (record { job = 1; unit = 1; sort = 4; register = 0; wait = wait; folder = 0 }) opened)) is
holds (toggled value mask is) = eqb (toggle_bits value mask) is

unfoldable pub all_hold : List Fact → Bool
all_hold [] = true
all_hold (fact ∷ facts) = holds fact && all_hold facts

-- ---- the table

abbrev pub table : List Fact
table =
    -- T1: "remainder of 0F A2 04 66 is C7B6"
    leaves (0x0F ∷ 0xA2 ∷ 0x04 ∷ 0x66 ∷ []) 0xC7B6
    -- T2: "of 0F A2 05 30 03 is BCE1"
    ∷ leaves (0x0F ∷ 0xA2 ∷ 0x05 ∷ 0x30 ∷ 0x03 ∷ []) 0xBCE1
    -- T3: "of 0A A2 05 23 88 13 is 3B55"
    ∷ leaves (0x0A ∷ 0xA2 ∷ 0x05 ∷ 0x23 ∷ 0x88 ∷ 0x13 ∷ []) 0x3B55
    -- T4: "of A2 0A 08 11 5E 91 is 637E"
    ∷ leaves (0xA2 ∷ 0x0A ∷ 0x08 ∷ 0x11 ∷ 0x5E ∷ 0x91 ∷ []) 0x637E
    -- T5: "substituted and framed, 0A 42 05 32 0D 9C F0 becomes 0D 5E 4A 42 05 32 5E 4D 9C F0 0A"
    ∷ becomes (0x0A ∷ 0x42 ∷ 0x05 ∷ 0x32 ∷ 0x0D ∷ 0x9C ∷ 0xF0 ∷ [])
    (0x0D ∷ 0x5E ∷ 0x4A ∷ 0x42 ∷ 0x05 ∷ 0x32 ∷ 0x5E ∷ 0x4D ∷ 0x9C ∷ 0xF0 ∷ 0x0A ∷ [])
    -- T6: "frame 0D 0A: number 4"
    ∷ refused (0x0D ∷ 0x0A ∷ []) 4
    -- T7: "frame 0D 5E 41 0A: number 3"
    ∷ refused (0x0D ∷ 0x5E ∷ 0x41 ∷ 0x0A ∷ []) 3
    -- T8: "0F A2 04 66 C7 B7, framed: number 7"
    ∷ refused (framed (0x0F ∷ 0xA2 ∷ 0x04 ∷ 0x66 ∷ 0xC7 ∷ 0xB7 ∷ [])) 7
    -- T9: "I16 of 00 80 is -32768", which is Negative 32767
    ∷ reads 4 (0x00 ∷ 0x80 ∷ []) (Negative 32767)
    -- T10: "U16 of 5E 91 is 37214"
    ∷ reads 3 (0x5E ∷ 0x91 ∷ []) (Natural 37214)
    -- T11: "opened 4294967290, wait 100: not due at 93, due at 94"
    ∷ due 4294967290 100 93 false
    ∷ due 4294967290 100 94 true
    -- T12: "toggling 0401h with 0400h gives 0001h"
    ∷ toggled 0x0401 0x0400 0x0001
    ∷ []

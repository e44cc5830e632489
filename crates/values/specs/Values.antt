-- Register values: the seven kinds, what a register's bytes mean, when a value is refused, and what a mask does to stored bytes.
-- Assumes nothing.
use Rattle.std.specs.Prelude.{◌≡◌, ◌⊎◌, Bool, true, false, cond, not, ◌||◌, ◌&&◌, List, [], ◌∷◌, ℕ, zero, suc, ◌+◌, ◌-◌, ◌*◌, ◌/◌, ◌%◌, ◌^◌, ◌≤◌, ◌<◌, eqb, leb, ltb, ℤ, pos, negsuc, neg_ℤ, length, get_or, take, drop, ◌≤ℤ◌, Ok, Err}
use Rattle.std.proofs.Math.Option.{Option, some, none}
use Rattle.std.specs.Int.Bits.{bit_and, bit_or, bit_xor}
use Rattle.std.proofs.Math.IntN.{suc_ℤ, pred_ℤ}
use Rattle.lent.specs.Lent.{over}
use Rattle.rows.specs.Rows.{Row, row, Test, test, first_row_of}
use Rattle.values.specs.declared.Value.{Value}
use Rattle.values.specs.declared.Value.TheVariants.{Natural, Negative}
use Rattle.values.specs.declared.Fault.{Fault}
use Rattle.values.specs.declared.Fault.TheVariants.{UnknownKind, WrongLength, NoSuchElement, DoesNotFit, ShortBuffer}
use Rattle.values.specs.Answers.{Stored}
use Rattle.values.specs.Answers.{Reading}
use Rattle.values.specs.Answers.{Writing}

-- ---- "Kinds: 1 U8, 2 I8, 3 U16, 4 I16, 5 U32, 6 I32, 7 U64, sizes 1, 1, 2, 2, 4, 4, 8."

-- by kind, from 0 on, which is none
abbrev pub sizes : List ℕ
sizes = 0 ∷ 1 ∷ 1 ∷ 2 ∷ 2 ∷ 4 ∷ 4 ∷ 8 ∷ []

-- I8, I16 and I32
abbrev pub signs : List Bool
signs = false ∷ false ∷ true ∷ false ∷ true ∷ false ∷ true ∷ false ∷ []

-- the size of a kind, in bytes; 0 of what is no kind
unfoldable pub size_of : ℕ → ℕ
size_of kind = get_or sizes kind 0

unfoldable pub is_signed : ℕ → Bool
is_signed kind = get_or signs kind false

-- ---- "Lowest byte first; signed kinds are two's complement."

-- the number that these bytes are, lowest first
unfoldable pub natural : List ℕ → ℕ
natural [] = 0
natural (b ∷ rest) = b + 256 * natural rest

-- the n bytes of a number, lowest first
unfoldable pub bytes_of : ℕ → ℕ → List ℕ
bytes_of zero v = []
bytes_of (suc n) v = v % 256 ∷ bytes_of n (v / 256)

-- the integer that a value is
unfoldable pub integer : Value → ℤ
integer (Natural n) = pos n
integer (Negative n) = negsuc n

-- the value of n bytes that are the number v: of a signed kind the upper half of the numbers stands for those 2^(8n) lower
unfoldable pub value_at : Bool → ℕ → ℕ → Value
value_at false n v = Natural v
value_at true n v = cond (ltb v (2 ^ (8 * n - 1))) (Natural v) (Negative (2 ^ (8 * n) - 1 - v))

-- the number whose n bytes have that value, where it fits
unfoldable pub stored_at : ℕ → Value → ℕ
stored_at n (Natural v) = v
stored_at n (Negative m) = 2 ^ (8 * n) - 1 - m

-- each of these numbers is a byte
abbrev pub Bytes : List ℕ → Type 0
Bytes xs = (i : ℕ) → get_or xs i 0 < 256

-- there are n bytes that have this value
pub record Held (signed : Bool) (n : ℕ) (value : Value) : Type 0 where
  pub bytes : List ℕ
  pub many : length bytes ≡ n
  pub each : Bytes bytes
  pub mean : value_at signed n (natural bytes) ≡ value

-- the same by the ends of the range: n bytes can hold the value, signed or not
unfoldable pub Holds : Bool → ℕ → Value → Type 0
Holds false n (Natural v) = v < 2 ^ (8 * n)
Holds false n (Negative m) = ⊥
Holds true n (Natural v) = v < 2 ^ (8 * n - 1)
Holds true n (Negative m) = m < 2 ^ (8 * n - 1)

-- ---- rows 40 to 44

-- 40: "kind not 1 to 7"
unfoldable pub NoKind : ℕ → Type 0
NoKind kind = (1 ≤ kind) × (kind ≤ 7) → ⊥

-- 41: "length 0 or no multiple of the kind's size"
unfoldable pub BadLength : ℕ → List ℕ → Type 0
BadLength kind bytes = (length bytes ≡ 0) ⊎ ((q : ℕ) × (length bytes ≡ q * size_of kind) → ⊥)

-- 42: "no such element"; elements count from 0
unfoldable pub NoElement : ℕ → List ℕ → ℕ → Type 0
NoElement kind bytes element = length bytes < (element + 1) * size_of kind

-- 43: "value does not fit the kind"
unfoldable pub Unfit : ℕ → Value → Type 0
Unfit kind value = Holds (is_signed kind) (size_of kind) value → ⊥

-- 44: "buffer shorter than the kind's size"
unfoldable pub NoRoom : ℕ → List ℕ → Type 0
NoRoom kind room = length room < size_of kind

-- "Reading a value gives 40, 41 or 42."
unfoldable pub read_rows : ℕ → List ℕ → ℕ → List (Row Fault)
read_rows kind bytes element =
    row (NoKind kind) UnknownKind ∷ row (BadLength kind bytes) WrongLength ∷ row (NoElement kind bytes element) NoSuchElement ∷ []

-- the stored form of a value gives 40 or 43
unfoldable pub stored_rows : ℕ → Value → List (Row Fault)
stored_rows kind value = row (NoKind kind) UnknownKind ∷ row (Unfit kind value) DoesNotFit ∷ []

-- "Writing gives 40, 43 or 44, whatever multiple the buffer's length is."
unfoldable pub write_rows : ℕ → Value → List ℕ → List (Row Fault)
write_rows kind value room =
    row (NoKind kind) UnknownKind ∷ row (Unfit kind value) DoesNotFit ∷ row (NoRoom kind room) ShortBuffer ∷ []

-- the paper's number of each refusal
abbrev pub fault_number : Fault → ℕ
fault_number UnknownKind = 40
fault_number WrongLength = 41
fault_number NoSuchElement = 42
fault_number DoesNotFit = 43
fault_number ShortBuffer = 44

-- ---- how the rows are tested

unfoldable pub is_kind : ℕ → Bool
is_kind kind = not (eqb (size_of kind) 0)

-- the greatest number that the kind holds; a signed one holds as many numbers below 0 as from 0 on
unfoldable pub greatest : ℕ → ℕ
greatest kind = cond (is_signed kind) (2 ^ (8 * size_of kind - 1) - 1) (2 ^ (8 * size_of kind) - 1)

unfoldable pub fits : ℕ → Value → Bool
fits kind (Natural v) = leb v (greatest kind)
fits kind (Negative m) = cond (is_signed kind) (leb m (greatest kind)) false

-- ---- the ends of each kind in plain figures

pub record Ends : Type 0 where
  pub least : ℤ
  pub most : ℤ

-- from 0, or from minus a number, to a number
abbrev pub up_to : ℕ → Ends
up_to most = record { least = pos 0; most = pos most }

abbrev pub from_minus : ℕ → ℕ → Ends
from_minus least most = record { least = neg_ℤ (pos least); most = pos most }

-- by kind, from 1 on
abbrev pub ends : List Ends
ends =
    up_to 255
    ∷ from_minus 128 127
    ∷ up_to 65535
    ∷ from_minus 32768 32767
    ∷ up_to 4294967295
    ∷ from_minus 2147483648 2147483647
    ∷ up_to 18446744073709551615
    ∷ []

abbrev pub ends_of : ℕ → Ends
ends_of kind = get_or ends (kind - 1) (up_to 0)

abbrev pub Within : Ends → ℤ → Type 0
Within e z = (e.least ≤ℤ z) × (z ≤ℤ e.most)

-- the kind takes an integer
unfoldable pub takes : ℕ → ℤ → Bool
takes kind (pos n) = fits kind (Natural n)
takes kind (negsuc n) = fits kind (Negative n)

-- it takes both ends, and neither the number below the least nor the one above the greatest
unfoldable pub takes_ends : ℕ → Ends → Bool
takes_ends kind e = takes kind e.least && (takes kind e.most && (not (takes kind (pred_ℤ e.least)) && not (takes kind (suc_ℤ e.most))))

-- so do this kind and those after it
unfoldable pub all_take_ends : ℕ → List Ends → Bool
all_take_ends kind [] = true
all_take_ends kind (e ∷ rest) = takes_ends kind e && all_take_ends (suc kind) rest

-- ---- the calls' tests

abbrev pub read_tests : ℕ → List ℕ → ℕ → List (Test Fault)
read_tests kind bytes element =
    test (not (is_kind kind)) UnknownKind
    ∷ test (eqb (length bytes) 0 || not (eqb (length bytes % size_of kind) 0)) WrongLength
    ∷ test (ltb (length bytes) ((element + 1) * size_of kind)) NoSuchElement
    ∷ []

unfoldable pub read_refusal : ℕ → List ℕ → ℕ → Option Fault
read_refusal kind bytes element = first_row_of (read_tests kind bytes element)

abbrev pub stored_tests : ℕ → Value → List (Test Fault)
stored_tests kind value = test (not (is_kind kind)) UnknownKind ∷ test (not (fits kind value)) DoesNotFit ∷ []

unfoldable pub stored_refusal : ℕ → Value → Option Fault
stored_refusal kind value = first_row_of (stored_tests kind value)

abbrev pub write_tests : ℕ → Value → ℕ → List (Test Fault)
write_tests kind value room =
    test (not (is_kind kind)) UnknownKind ∷ test (not (fits kind value)) DoesNotFit ∷ test (ltb room (size_of kind)) ShortBuffer ∷ []

unfoldable pub write_refusal : ℕ → Value → ℕ → Option Fault
write_refusal kind value room = first_row_of (write_tests kind value room)

-- ---- the calls' answers, each from its refusal

-- the bytes of an element
unfoldable pub element_of : ℕ → List ℕ → ℕ → List ℕ
element_of size bytes element = take size (drop (element * size) bytes)

abbrev pub read_answer : Option Fault → Value → Reading
read_answer (some f) v = Err f
read_answer none v = Ok v

-- the number that an answer tells, or none
abbrev pub read_told : Reading → Option ℕ
read_told (Err f) = some (fault_number f)
read_told (Ok v) = none

unfoldable pub read_value : ℕ → List ℕ → ℕ → Reading
read_value kind bytes element =
    read_answer (read_refusal kind bytes element) (value_at (is_signed kind) (size_of kind) (natural (element_of (size_of kind) bytes element)))

abbrev pub stored_answer : Option Fault → ℕ → Stored
stored_answer (some f) v = Err f
stored_answer none v = Ok v

abbrev pub stored_told : Stored → Option ℕ
stored_told (Err f) = some (fault_number f)
stored_told (Ok v) = none

unfoldable pub stored_value : ℕ → Value → Stored
stored_value kind value = stored_answer (stored_refusal kind value) (stored_at (size_of kind) value)

abbrev pub write_answer : Option Fault → Writing
write_answer (some f) = Err f
write_answer none = Ok tt

abbrev pub write_told : Writing → Option ℕ
write_told (Err f) = some (fault_number f)
write_told (Ok _) = none

-- a refusal leaves every byte of the buffer; a written value takes its first bytes
unfoldable pub room_after : Option Fault → List ℕ → List ℕ → List ℕ
room_after (some f) bytes room = room
room_after none bytes room = over bytes room

-- ---- "A one in the mask sets, clears or inverts that bit, a zero keeps it."

abbrev pub set_bits : ℕ → ℕ → ℕ
set_bits v mask = bit_or v mask

-- and-not: the 64 bits of `mask` turned round
abbrev pub clear_bits : ℕ → ℕ → ℕ
clear_bits v mask = bit_and v (2 ^ 64 - 1 - mask)

abbrev pub toggle_bits : ℕ → ℕ → ℕ
toggle_bits v mask = bit_xor v mask

-- the bit at a place, 0 the lowest
abbrev pub bit_at : ℕ → ℕ → ℕ
bit_at v place = v / 2 ^ place % 2

-- what these bits weigh, those of the first n places
unfoldable pub weighed : (ℕ → ℕ) → ℕ → ℕ
weighed bit zero = 0
weighed bit (suc n) = weighed bit n + bit n * 2 ^ n

-- ---- the contracts

abbrev pub Numbers : Fault → ℕ → Type 0
Numbers fault r = r ≡ fault_number fault

abbrev pub Sizes : ℕ → ℕ → Type 0
Sizes kind r = r ≡ size_of kind

abbrev pub Loads : List ℕ → ℕ → Type 0
Loads bytes r = r ≡ natural (take 8 bytes)

abbrev pub Stores : ℕ → ℕ → List ℕ → List ℕ → Type 0
Stores v size room room' = room' ≡ over (bytes_of size v) room

abbrev pub Keeps : ℕ → Value → Stored → Type 0
Keeps kind value r = r ≡ stored_value kind value

abbrev pub Reads : ℕ → List ℕ → ℕ → Reading → Type 0
Reads kind bytes element r = r ≡ read_value kind bytes element

abbrev pub Writes : ℕ → Value → List ℕ → Writing → List ℕ → Type 0
Writes kind value room r room' =
    (r ≡ write_answer (write_refusal kind value (length room)))
    × (room' ≡ room_after (write_refusal kind value (length room)) (bytes_of (size_of kind) (stored_at (size_of kind) value)) room)

abbrev pub Sets : ℕ → ℕ → ℕ → Type 0
Sets v mask r = r ≡ set_bits v mask

abbrev pub Clears : ℕ → ℕ → ℕ → Type 0
Clears v mask r = r ≡ clear_bits v mask

abbrev pub Toggles : ℕ → ℕ → ℕ → Type 0
Toggles v mask r = r ≡ toggle_bits v mask

-- a bit of 64: places from 64 on have none
abbrev pub TestsBit : ℕ → ℕ → Bool → Type 0
TestsBit v place r = r ≡ eqb (bit_at v place) 1

-- The definitions of a sheet's text and of its calls, said out.
-- Assumes nothing.
use mathlib.Core.Path.{◌≡◌, refl, ap}
use mathlib.Core.List.{List, [], ◌∷◌, ◌++◌}
use Prim.Native.Nat.{ℕ, ◌+◌, ◌*◌}
use native.Mathlib.Omega.{arith}
use lib.ListN.{length, replicate}
use Rattle.request.specs.declared.Request.{Request}
use Rattle.text.specs.Text.{ascii, decimal_by, decimal}
use Rattle.values.specs.Values.{size_of, is_signed, is_kind, natural, value_at, element_of, read_refusal, read_value}
use Rattle.numerals.specs.Numerals.{spelt}
use Rattle.setting.specs.declared.Fault.{Fault as SheetFault}
use Rattle.setting.specs.Setting.{head, Setting, setting, fault_number as sheet_number}
use Rattle.sheet_line.specs.Line.{name_of, element_text, elements_from, line_of}
use Rattle.sheet_teller.specs.declared.Order.{Order}
use Rattle.sheet_teller.specs.declared.Form.{Form}
use Rattle.sheet_teller.specs.declared.Form.TheVariants.{Lines, Calls}
use Rattle.sheet_teller.specs.declared.Fault.TheVariants.{WrongSheet, NoJob, WrongWait}
use Rattle.sheet_teller.specs.Teller.{hex_digit, hex_of, zeros, call_of, piece_of, pieces_of, text_of, Numbers}
use Rattle.sheet_teller.specs.Asked.{request_of}

-- ---- "lower-case hex", two digits for each byte, the high one first

pub hex_digits : hex_of (1 ∷ 35 ∷ 69 ∷ 103 ∷ 137 ∷ 171 ∷ 205 ∷ 239 ∷ []) ≡ ascii "0123456789abcdef"
unfolding hex_of hex_digit
hex_digits = refl

pub hex_on : (b : ℕ) (rest : List ℕ) → (hex_of [] ≡ []) × (hex_of (b ∷ rest) ≡ hex_of (b ∷ []) ++ hex_of rest)
unfolding hex_of
hex_on b rest = (refl, refl)

-- ---- "14 and 2 for each data byte", each of two digits

pub zeros_plainly : (size : ℕ) → zeros size ≡ replicate (2 * (14 + 2 * size)) 48
zeros_plainly size = let e : 28 + 4 * size ≡ 2 * (14 + 2 * size) = omega arith in ap (λ (n : ℕ). replicate n 48) e

-- ---- "`desk.open JOB MODULE 5 REGISTER DATA WAIT 0 CLOCK BUF`": the call is that of the request

abbrev pub asking : Request → List ℕ → ℕ → List ℕ
asking q bytes clock =
    ascii "desk.open " ++ (decimal q.job ++ (ascii " " ++ (decimal q.unit ++ (ascii " " ++ (decimal q.sort ++ (ascii " " ++ (decimal q.register
    ++ (ascii " " ++ (hex_of bytes ++ (ascii " " ++ (decimal q.wait ++ (ascii " " ++ (decimal q.folder ++ (ascii " " ++ (decimal clock
    ++ (ascii " " ++ zeros (length bytes)))))))))))))))))

pub call_asks : (order : Order) (s : Setting) → call_of order s ≡ asking (request_of order s.named) s.value order.clock
unfolding call_of decimal decimal_by
call_asks order s = refl

pub request_plainly : (order : Order) (unit register kind count : ℕ)
    → request_of order (head unit register kind count) ≡ record { job = order.job; unit = unit; sort = 5; register = register; wait = order.wait; folder = 0 }
request_plainly order unit register kind count = refl

-- ---- "a newline ends each line", the settings in their order

pub pieces_plainly : (form : Form) (order : Order) (s : Setting) (rest : List Setting)
    → (pieces_of form [] ≡ []) × (pieces_of form (s ∷ rest) ≡ piece_of form s ++ pieces_of form rest)
    × (piece_of Lines s ≡ line_of s ++ (10 ∷ [])) × (piece_of (Calls order) s ≡ call_of order s ++ (10 ∷ [])) × (text_of (s ∷ rest) ≡ pieces_of Lines (s ∷ rest))
unfolding pieces_of piece_of
pieces_plainly form order s rest = (refl, refl, refl, refl, refl)

pub two_lines : text_of (setting (head 15 48 3 1) (52 ∷ 18 ∷ []) ∷ setting (head 16 49 4 1) (255 ∷ 255 ∷ []) ∷ [])
    ≡ ascii "15 48 U16 1 4660" ++ (10 ∷ (ascii "16 49 I16 1 -1" ++ (10 ∷ [])))
unfolding pieces_of piece_of line_of name_of elements_from element_text spelt decimal decimal_by read_value read_refusal is_kind size_of is_signed natural value_at element_of
two_lines = refl

-- ---- the numbers

pub numbers_plainly : (f : SheetFault) → Numbers (WrongSheet f) (sheet_number f) × Numbers NoJob 10 × Numbers WrongWait 14
numbers_plainly f = (refl, refl, refl)

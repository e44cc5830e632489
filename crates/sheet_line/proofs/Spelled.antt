-- The laws of a line that is written.
-- Assumes nothing.
use Rattle.std.specs.Prelude.{Ok, Err}
use mathlib.Core.Path.{◌≡◌, refl}
use mathlib.Core.List.{List, [], ◌∷◌}
use Prim.Native.Nat.{ℕ, zero, suc, ◌+◌, ◌*◌, ◌≤◌}
use native.Mathlib.Omega.{arith}
use lib.ListN.{length, length-append}
use Rattle.rows.proofs.Settled.{settled_with}
use Rattle.rows.specs.Settled.{Settled}
use Rattle.text.specs.Text.{ascii, decimal, decimal_by}
use Rattle.text.proofs.Laws.{decimal_short}
use Rattle.values.specs.Values.{size_of, is_signed, is_kind, natural, value_at, element_of, read_refusal, read_value}
use Rattle.values.specs.declared.Value.TheVariants.{Natural, Negative}
use Rattle.values.specs.Answers.{Reading}
use Rattle.numerals.specs.Numerals.{spelt}
use Rattle.setting.specs.declared.Head.{Head}
use Rattle.setting.specs.Setting.{head, Setting, setting}
use Rattle.sheet_line.proofs.Pieces.{name_short}
use Rattle.sheet_line.specs.Line.{name_of, element_text, elements_from, line_of, Writes}

-- ---- how much room a line takes, for whoever lends it

element_short : (r : Reading) → length (element_text r) ≤ 21
unfolding element_text spelt
element_short (Ok (Natural n)) = omega (arith, decimal_short n)
element_short (Ok (Negative n)) = omega (arith, decimal_short (suc n))
element_short (Err f) = omega arith

elements_short : (kind : ℕ) (value : List ℕ) (k n : ℕ) → length (elements_from kind value k n) ≤ 22 * n
unfolding elements_from
elements_short kind value k zero = omega arith
elements_short kind value k (suc n) =
    rw (length-append (element_text (read_value kind value k)) (elements_from kind value (suc k) n))
    (omega (arith, element_short (read_value kind value k), elements_short kind value (suc k) n))

pub line_long : (s : Setting) → length (line_of s) ≤ 66 + 22 * s.named.count
unfolding line_of
line_long s =
    simp length-append
    (omega (
      arith,
      decimal_short s.named.unit,
      decimal_short s.named.register,
      name_short s.named.kind,
      decimal_short s.named.count,
      elements_short s.named.kind s.value 0 s.named.count,
    ))

-- ---- 01: "Show that any two outcomes allowed by it are equal."

pub writes_settled : (h : Head) (value room : List ℕ) → Settled {A = ℕ × List ℕ} (λ o. Writes h value room o.0 o.1)
writes_settled h value room = settled_with _ _

-- ---- computed: every word in its place, and numbers below 0

pub one_element : line_of (setting (head 15 48 3 1) (52 ∷ 18 ∷ [])) ≡ ascii "15 48 U16 1 4660"
unfolding line_of name_of elements_from element_text spelt decimal decimal_by read_value read_refusal is_kind size_of is_signed natural value_at element_of
one_element = refl

pub three_elements : line_of (setting (head 16 49 4 3) (255 ∷ 255 ∷ 0 ∷ 0 ∷ 255 ∷ 127 ∷ [])) ≡ ascii "16 49 I16 3 -1 0 32767"
unfolding line_of name_of elements_from element_text spelt decimal decimal_by read_value read_refusal is_kind size_of is_signed natural value_at element_of
three_elements = refl

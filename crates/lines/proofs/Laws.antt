-- The laws of the listing's lines.
-- Assumes nothing.

-- ---- how much room a line takes, for whoever lends it
use mathlib.Core.Path.{◌≡◌, refl, ap, ◌∙◌}
use mathlib.Core.Bool.{Bool, true, false, cond}
use mathlib.Core.List.{List, [], ◌∷◌, ◌++◌, append-nil, append_assoc}
use mathlib.Core.Logic.{◌≢◌}
use Prim.Native.Nat.{ℕ, ◌+◌, ◌≤◌}
use native.Mathlib.Omega.{arith}
use borrow.Author.Tests.{ne_eqb}
use lib.Dec.{eqb}
use lib.ListN.{length, length-append}
use Rattle.rows.proofs.Settled.{settled_with}
use Rattle.rows.specs.Settled.{Settled}
use Rattle.lent.proofs.Laws.{length_over}
use Rattle.telegram.specs.Read.{fault_number, fault_place}
use Rattle.telegram.specs.declared.Fault.{Fault}
use Rattle.telegram.specs.declared.Fields.{Fields}
use Rattle.telegram.specs.declared.Fault.TheVariants.{BadSubstitution}
use Rattle.text.proofs.Laws.{decimal_short}
use Rattle.text.specs.Text.{ascii, newline, decimal, decimal_by}
use Rattle.lines.specs.Lines.{header_text, labelled, place_text, event_text, line_text, totals_text, ending_text, Writes}
use Rattle.lines.specs.declared.Event.{Event}
use Rattle.lines.specs.declared.Event.TheVariants.{Read, Refused, Dropped, Open}

event_short : (e : Event) → length (event_text e) ≤ 125
event_short (Read t) =
    simp length-append
    (omega (arith, decimal_short t.destination, decimal_short t.source, decimal_short t.sort, decimal_short t.register, decimal_short t.size))
event_short (Refused f) =
    rw (length-append (labelled (ascii " refused") (fault_number f)) (place_text (fault_number f) (fault_place f)))
    (go (eqb (fault_number f) 3))
  where
    go : (b : Bool) → length (labelled (ascii " refused") (fault_number f)) + length (cond b (labelled (ascii " in") (fault_place f)) []) ≤ 125
    go true = omega (arith, decimal_short (fault_number f), decimal_short (fault_place f))
    go false = omega (arith, decimal_short (fault_number f))
event_short Dropped = omega arith
event_short Open = omega arith

pub line_short : (place : ℕ) (e : Event) → length (line_text place e) ≤ 150
unfolding line_text
line_short place e = simp length-append (omega (arith, decimal_short place, event_short e))

totals_short : (ok refused dropped : ℕ) → length (totals_text ok refused dropped) ≤ 100
unfolding totals_text
totals_short ok refused dropped = simp length-append (omega (arith, decimal_short ok, decimal_short refused, decimal_short dropped))

pub ending_short : (inside : Bool) (start ok refused dropped : ℕ) → length (ending_text inside start ok refused dropped) ≤ 250
unfolding ending_text
ending_short inside start ok refused dropped =
    rw (length-append (cond inside (line_text start Open) []) (totals_text ok refused dropped)) (go inside (totals_short ok refused dropped))
  where
    go : (t : Bool) → length (totals_text ok refused dropped) ≤ 100 → length (cond t (line_text start Open) []) + length (totals_text ok refused dropped) ≤ 250
    go true h = let l : length (line_text start Open) ≤ 150 = line_short start Open in omega arith
    go false h = omega arith

pub header_short : length header_text ≤ 50
unfolding header_text
header_short = omega arith

-- a text that fits the room stands in it whole
pub writes_within : (text room : List ℕ) (r most : ℕ) (room' : List ℕ) → Writes text room r room' → length text ≤ most → most ≤ length room → r ≤ length room'
writes_within text room r most room' w short fits = rw (w.1, length_over text room) (omega (arith, w.0))

-- ---- 01: "Show that any two outcomes allowed by it are equal."

pub writes_settled : (text room : List ℕ) → Settled {A = ℕ × List ℕ} (λ o. Writes text room o.0 o.1)
writes_settled text room = settled_with _ _

-- ---- computed: every word, and every number in its place

pub read_line : line_text 12 (Read (record { destination = 1; source = 2; sort = 3; register = 4; size = 5 })) ≡ ascii "at 12 ok 1 2 3 4 5" ++ newline
unfolding line_text decimal decimal_by
read_line = refl

-- ---- every line, spelled

-- with 3 the place, with any other number none
pub refused_line : (place q : ℕ) → line_text place (Refused (BadSubstitution q)) ≡ ascii "at " ++ (decimal place ++ (ascii " refused 3 in " ++ (decimal q ++ newline)))
unfolding line_text decimal decimal_by
refused_line place q = refl

pub other_refused_line : (place : ℕ) (f : Fault) → fault_number f ≢ 3
    → line_text place (Refused f) ≡ ascii "at " ++ (decimal place ++ (ascii " refused " ++ (decimal (fault_number f) ++ newline)))
unfolding line_text
other_refused_line place f other = ap (λ (x : List ℕ). labelled (ascii "at") place ++ (x ++ newline)) none_there
  where
    none_there : event_text (Refused f) ≡ labelled (ascii " refused") (fault_number f)
    none_there = rw (ne_eqb (fault_number f) 3 other) (append-nil (labelled (ascii " refused") (fault_number f)))

pub read_line_spelled : (place : ℕ) (t : Fields)
    → line_text place (Read t)
    ≡ ascii "at " ++ (decimal place ++ (ascii " ok " ++ (decimal t.destination ++ (ascii " " ++ (decimal t.source ++ (ascii " " ++ (decimal t.sort
    ++ (ascii " " ++ (decimal t.register ++ (ascii " " ++ (decimal t.size ++ newline)))))))))))
unfolding line_text
read_line_spelled place t =
    ap (λ (x : List ℕ). ascii "at " ++ (decimal place ++ (ascii " ok " ++ x)))
    (five (decimal t.destination) (decimal t.source) (decimal t.sort) (decimal t.register) (decimal t.size))
  where
    -- five words with a blank between, and a newline
    five : (a b c d e : List ℕ) → (a ++ (32 ∷ (b ++ (32 ∷ (c ++ (32 ∷ (d ++ (32 ∷ e)))))))) ++ newline ≡ a ++ (32 ∷ (b ++ (32 ∷ (c ++ (32 ∷ (d ++ (32 ∷ (e ++ newline))))))))
    five a b c d e =
        append_assoc a _ newline
        ∙ ap (λ (x : List ℕ). a ++ (32 ∷ x))
        (append_assoc b _ newline ∙ ap (λ (x : List ℕ). b ++ (32 ∷ x)) (append_assoc c _ newline ∙ ap (λ (x : List ℕ). c ++ (32 ∷ x)) (append_assoc d (32 ∷ e) newline)))

pub other_lines_spelled : (place : ℕ)
    → (line_text place Dropped ≡ ascii "at " ++ (decimal place ++ (ascii " dropped" ++ newline)))
    × (line_text place Open ≡ ascii "at " ++ (decimal place ++ (ascii " open" ++ newline)))
unfolding line_text
other_lines_spelled place = (refl, refl)

pub totals_spelled : (ok refused dropped : ℕ)
    → totals_text ok refused dropped ≡ ascii "ok " ++ (decimal ok ++ (ascii " refused " ++ (decimal refused ++ (ascii " dropped " ++ (decimal dropped ++ newline)))))
unfolding totals_text
totals_spelled ok refused dropped = refl

pub dropped_line : line_text 7 Dropped ≡ ascii "at 7 dropped" ++ newline
unfolding line_text decimal decimal_by
dropped_line = refl

pub totals_line : totals_text 1 2 3 ≡ ascii "ok 1 refused 2 dropped 3" ++ newline
unfolding totals_text decimal decimal_by
totals_line = refl

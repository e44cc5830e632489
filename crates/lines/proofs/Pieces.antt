-- How a text is put together from its pieces in a lent room.
-- Assumes nothing.
use mathlib.Core.Path.{◌≡◌, sym, ap, subst, ◌∙◌}
use mathlib.Core.Logic.{◌≢◌}
use borrow.Author.Tests.{eq-eqb, ne_eqb}
use mathlib.Core.List.{append-nil, List, [], ◌∷◌, ◌++◌}
use mathlib.Core.Bool.{true, false, Bool}
use Prim.Native.Nat.{ℕ, ◌+◌, ◌≤◌}
use native.Mathlib.Omega.{arith}
use native.Mathlib.Nat.{zero-add}
use lib.ListN.{length}
use Rattle.lent.proofs.Laws.{over_at_zero}
use Rattle.text.specs.Text.{decimal, Spells, ascii, Puts}
use Rattle.text.proofs.Laws.{puts_then, spelled_short}
use Rattle.telegram.specs.Read.{fault_number, fault_place}
use Rattle.telegram.specs.declared.Fault.{Fault}
use Rattle.lines.specs.declared.Event.{Event}
use Rattle.lines.specs.Lines.{Writes, field, event_text, labelled, line_text, totals_text, ending_text}
use Rattle.lines.specs.declared.Event.TheVariants.{Refused, Open}

-- a text from the room's first byte on
pub puts_writes : (text : List ℕ) (r : ℕ) (room room' : List ℕ) → Puts text 0 room r room' → Writes text room r room'
puts_writes text r room room' p = (p.0 ∙ zero-add (length text), p.1 ∙ over_at_zero text room)

pub writes_puts : (text : List ℕ) (r : ℕ) (room room' : List ℕ) → Writes text room r room' → Puts text 0 room r room'
writes_puts text r room room' p = (p.0 ∙ sym (zero-add (length text)), p.1 ∙ sym (over_at_zero text room))

-- ---- a number

pub field_put : (n at a r : ℕ) (room room₁ room₂ : List ℕ) → Puts (32 ∷ []) at room a room₁ → Spells n a room₁ r room₂
    → Puts (field n) at room (a + r) room₂ × (a + r ≤ at + 21)
field_put n at a r room room₁ room₂ p s = (
  puts_then (32 ∷ []) (decimal n) at a (a + r) room room₁ room₂ p (ap (λ (k : ℕ). a + k) s.0, s.1),
  omega (arith, p.0, spelled_short n a r room₁ room₂ s),
)

-- where the pieces before it end at most at 400, its end is a place too
pub field_fits : (n a r : ℕ) (room room' : List ℕ) → a ≤ 500 → Spells n a room r room' → a + r ≤ 520
field_fits n a r room room' h s = omega (arith, spelled_short n a r room room' s)

-- ---- an event

pub event_put : (event known : Event) (at r : ℕ) (room room' : List ℕ) → event ≡ known → Puts (event_text known) at room r room' → Puts (event_text event) at room r room'
event_put event known at r room room' e p = rw e p

-- a refused frame's number, and its place where there is one
module _ (fault : Fault) (n at a : ℕ) (room room₁ : List ℕ) (e : n ≡ fault_number fault) (p : Puts (labelled (ascii " refused") n) at room a room₁) where
  pub placed_put : (place r : ℕ) (room₂ : List ℕ) → n ≡ 3 → place ≡ fault_place fault → Puts (labelled (ascii " in") place) a room₁ r room₂
      → Puts (event_text (Refused fault)) at room r room₂
  placed_put place r room₂ three is q =
      rw (← e, eq-eqb n 3 three, ← is) (puts_then (labelled (ascii " refused") n) (labelled (ascii " in") place) at a r room room₁ room₂ p q)

  pub unplaced_put : n ≢ 3 → Puts (event_text (Refused fault)) at room a room₁
  unplaced_put other =
      let text : event_text (Refused fault) ≡ labelled (ascii " refused") n = rw (← e, ne_eqb n 3 other) (append-nil (labelled (ascii " refused") n)) in
      subst (λ (x : List ℕ). Puts x at room a room₁) (sym text) p

-- ---- the end

module _ (start ok refused dropped : ℕ) where
  pub ending_open : (inside : Bool) (at r : ℕ) (room room₁ room₂ : List ℕ) → inside ≡ true → Writes (line_text start Open) room at room₁
      → Puts (totals_text ok refused dropped) at room₁ r room₂ → Writes (ending_text inside start ok refused dropped) room r room₂
  unfolding ending_text
  ending_open inside at r room room₁ room₂ e p q =
      rw e
      (puts_writes (line_text start Open ++ totals_text ok refused dropped) r room room₂
      (puts_then (line_text start Open) (totals_text ok refused dropped) 0 at r room room₁ room₂ (writes_puts (line_text start Open) at room room₁ p) q))

  pub ending_closed : (inside : Bool) (r : ℕ) (room room' : List ℕ) → inside ≡ false
      → Puts (totals_text ok refused dropped) 0 room r room' → Writes (ending_text inside start ok refused dropped) room r room'
  unfolding ending_text
  ending_closed inside r room room' e p = rw e (puts_writes (totals_text ok refused dropped) r room room' p)

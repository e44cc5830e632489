-- Events, their lines and their totals, joined.
-- Assumes nothing.
use mathlib.Core.Path.{◌≡◌, refl, sym, ap, ◌∙◌}
use mathlib.Core.Bool.{cond}
use mathlib.Core.List.{List, [], ◌∷◌, ◌++◌, append_assoc, append-nil}
use Prim.Native.Nat.{ℕ, suc, ◌+◌}
use native.Mathlib.Nat.{add-zero, zero-add}
use native.Mathlib.Omega.{arith}
use lib.Dec.{eqb}
use Rattle.lines.specs.declared.Event.{Event}
use Rattle.lines.specs.declared.Event.TheVariants.{Read, Refused, Dropped, Open}
use Rattle.lines.specs.declared.Placed.{Placed}
use Rattle.lines.specs.Lines.{line_text}
use Rattle.listing.specs.Events.{placed, event_of, events_from, total, is_ok, is_refused, is_dropped, is_open}
use Rattle.listing.specs.Listing.{lines_text}

pub no_line_lem : lines_text [] ≡ []
unfolding lines_text
no_line_lem = refl

pub one_line : (e : Placed) → lines_text (e ∷ []) ≡ line_text e.place e.event
unfolding lines_text
one_line e = append-nil (line_text e.place e.event)

pub lines-append : (a b : List Placed) → lines_text (a ++ b) ≡ lines_text a ++ lines_text b
unfolding lines_text
lines-append [] b = refl
lines-append (e ∷ a) b =
    ap (λ (l : List ℕ). line_text e.place e.event ++ l) (lines-append a b) ∙ sym (append_assoc (line_text e.place e.event) (lines_text a) (lines_text b))

pub no_total : (counts : Event → ℕ) → total counts [] ≡ 0
unfolding total
no_total counts = refl

pub one_total : (counts : Event → ℕ) (e : Placed) → total counts (e ∷ []) ≡ counts e.event
unfolding total
one_total counts e = add-zero (counts e.event)

pub total-append : (counts : Event → ℕ) (a b : List Placed) → total counts (a ++ b) ≡ total counts a + total counts b
unfolding total
total-append counts [] b = sym (zero-add (total counts b))
total-append counts (e ∷ a) b = let ih : total counts (a ++ b) ≡ total counts a + total counts b = total-append counts a b in omega arith

-- an event is of one kind
pub one_kind : (e : Event) → is_ok e + (is_refused e + (is_dropped e + is_open e)) ≡ 1
one_kind (Read t) = refl
one_kind (Refused f) = refl
one_kind Dropped = refl
one_kind Open = refl

pub events_none : (from : ℕ) → events_from from [] ≡ []
unfolding events_from
events_none from = refl

pub events_cons : (from b : ℕ) (rest : List ℕ) → events_from from (b ∷ rest) ≡ cond (eqb b 13) (placed from (event_of rest) ∷ []) [] ++ events_from (suc from) rest
unfolding events_from
events_cons from b rest = refl

-- "each number equal to the count of such lines since it was cleared": over any steps and clearings.
-- Assumes nothing.
use mathlib.Core.Path.{◌≡◌, refl, sym, ap, ◌∙◌}
use mathlib.Core.List.{List, [], ◌∷◌, ◌++◌}
use mathlib.Core.Logic.{◌↔◌}
use Prim.Native.Nat.{ℕ, ◌+◌}
use native.Mathlib.Omega.{arith}
use Rattle.lines.specs.declared.Event.{Event}
use Rattle.lines.specs.declared.Placed.{Placed}
use Rattle.listing.specs.Events.{total, is_ok, is_refused, is_dropped}
use Rattle.listing.proofs.Events.{total-append}
use Rattle.receiver.specs.declared.Receiver.{Receiver}
use Rattle.tally.specs.declared.Stepped.{Stepped}
use Rattle.tally.specs.declared.Tally.{Tally}
use Rattle.tally.specs.Tally.{Clears, CountsWhere}
use Rattle.tally.specs.Count.{line_told, Tallies, Adds, Call, a_step, a_clearing, Goes, lines_since}
use Rattle.tally.proofs.Laws.{step_adds}

-- ---- lines behind lines

pub tallies_then : (a b : List Placed) (t t' : Tally) → Tallies a t → Adds t b t' → Tallies (a ++ b) t'
tallies_then a b t t' h d = (on is_ok h.0 d.0, on is_refused h.1 d.1, on is_dropped h.2 d.2)
  where
    on : (counts : Event → ℕ) {n m : ℕ} → n ≡ total counts a → m ≡ n + total counts b → m ≡ total counts (a ++ b)
    on counts e f = f ∙ ap (λ (n : ℕ). n + total counts b) e ∙ sym (total-append counts a b)

pub adds_then : (a b : List Placed) (t t' t'' : Tally) → Adds t a t' → Adds t' b t'' → Adds t (a ++ b) t''
adds_then a b t t' t'' h d = (on is_ok t.read h.0 d.0, on is_refused t.refused h.1 d.1, on is_dropped t.dropped h.2 d.2)
  where
    on : (counts : Event → ℕ) (k : ℕ) {n m : ℕ} → n ≡ k + total counts a → m ≡ n + total counts b → m ≡ k + total counts (a ++ b)
    on counts k e f = let both : total counts (a ++ b) ≡ total counts a + total counts b = total-append counts a b in omega arith

cleared_tallies : {t : Tally} → Clears t → Tallies [] t
unfolding total
cleared_tallies c = rw c (refl, refl, refl)

-- ---- whatever was counted before

pub since_before : (before : List Placed) (t : Tally) (calls : List Call) (end : Tally) → Tallies before t → Goes t calls end → Tallies (lines_since before calls) end
unfolding Goes lines_since
since_before before t [] end h g = rw g h
since_before before t (a_step r chunk s after ∷ calls) end h g =
    since_before (before ++ line_told s.answer) after calls end (tallies_then before (line_told s.answer) t after h (step_adds t r chunk g.0)) g.1
since_before before t (a_clearing after ∷ calls) end h g = since_before [] after calls end (cleared_tallies g.0) g.1

-- ---- from a tally that was cleared on: each number is the count of such lines since the last clearing

pub since_cleared : (t : Tally) (calls : List Call) (end : Tally) → Clears t → Goes t calls end → Tallies (lines_since [] calls) end
since_cleared t calls end c g = since_before [] t calls end (cleared_tallies c) g

-- said out
pub since_plainly : (t : Tally) (calls : List Call) (end : Tally) → Clears t → Goes t calls end
    → (end.read ≡ total is_ok (lines_since [] calls)) × (end.refused ≡ total is_refused (lines_since [] calls)) × (end.dropped ≡ total is_dropped (lines_since [] calls))
since_plainly t calls end c g = since_cleared t calls end c g

-- and so behind any clearing, whatever the tally was before it
pub behind_clearing : (t : Tally) (calls : List Call) (after : Tally) (later : List Call) (end : Tally) → Goes t (calls ++ (a_clearing after ∷ later)) end → Tallies (lines_since [] later) end
unfolding Goes
behind_clearing t [] after later end g = since_cleared after later end g.0 g.1
behind_clearing t (a_step r chunk s next ∷ calls) after later end g = behind_clearing next calls after later end g.1
behind_clearing t (a_clearing next ∷ calls) after later end g = behind_clearing next calls after later end g.1

-- ---- what those lines are: those that the steps told, in order, behind the last clearing; a clearing forgets all that was told

pub since_none : (before : List Placed) → lines_since before [] ≡ before
unfolding lines_since
since_none before = refl

pub since_step : (before : List Placed) (r : Receiver) (chunk : List ℕ) (s : Stepped) (after : Tally) (calls : List Call)
    → lines_since before (a_step r chunk s after ∷ calls) ≡ lines_since (before ++ line_told s.answer) calls
unfolding lines_since
since_step before r chunk s after calls = refl

pub since_clearing : (before : List Placed) (after : Tally) (calls : List Call) → lines_since before (a_clearing after ∷ calls) ≡ lines_since [] calls
unfolding lines_since
since_clearing before after calls = refl

-- and what it is that the calls go as their contracts allow

pub goes_none : (t end : Tally) → Goes t [] end ↔ (end ≡ t)
unfolding Goes
goes_none t end = ((λ g. g), (λ g. g))

pub goes_step : (t : Tally) (r : Receiver) (chunk : List ℕ) (s : Stepped) (after : Tally) (calls : List Call) (end : Tally)
    → Goes t (a_step r chunk s after ∷ calls) end ↔ (CountsWhere t r chunk s after × Goes after calls end)
unfolding Goes
goes_step t r chunk s after calls end = ((λ g. g), (λ g. g))

pub goes_clearing : (t after : Tally) (calls : List Call) (end : Tally) → Goes t (a_clearing after ∷ calls) end ↔ (Clears after × Goes after calls end)
unfolding Goes
goes_clearing t after calls end = ((λ g. g), (λ g. g))

-- What the definitions over several steps say, written out.
-- Assumes nothing.
use Rattle.std.specs.Prelude.{Ok, Err, Some, None}
use mathlib.Core.Path.{◌≡◌, refl}
use mathlib.Core.List.{List, [], ◌∷◌}
use mathlib.Core.Logic.{◌↔◌}
use Prim.Native.Nat.{ℕ, ◌+◌}
use Rattle.lines.specs.declared.Placed.{Placed}
use Rattle.listing.specs.Events.{total, is_ok, is_refused, is_dropped}
use Rattle.receiver.specs.Receiver.{largest, outside_at, no_bytes, next, told, step_from, Steps}
use Rattle.receiver.specs.Chunks.{line_in}
use Rattle.receiver.specs.Answers.{Answer as Ended}
use Rattle.receiver.specs.declared.Receiver.{Receiver}
use Rattle.receiver.specs.declared.Stepped.{Stepped as Ran}
use Rattle.tally.specs.declared.Counted.{Counted}
use Rattle.tally.specs.declared.Fault.{Fault}
use Rattle.tally.specs.declared.Stepped.{Stepped}
use Rattle.tally.specs.declared.Tally.{Tally}
use Rattle.tally.specs.Tally.{clear_tally, fault_number, IsTallyFull, Counts, CountsWhere, step_refusal, stepped_by, tally_by}
use Rattle.tally.specs.Tally as tally
use Rattle.tally.specs.Count.{Tallies, Adds, line_told, number_told, steps_with, feed_with}
use Rattle.tally.proofs.Laws.{receivers_own}

pub counts_by_value : (t : Tally) (r : Receiver) (chunk : List ℕ) {c : Counted} → Counts t r chunk c ↔ CountsWhere t r chunk c.stepped c.tally
counts_by_value t r chunk = ((λ p. p), (λ p. p))

pub tallies_plainly : (lines : List Placed) (t : Tally) → Tallies lines t ↔ ((t.read ≡ total is_ok lines) × (t.refused ≡ total is_refused lines) × (t.dropped ≡ total is_dropped lines))
tallies_plainly lines t = ((λ p. p), (λ p. p))

pub adds_plainly : (t : Tally) (lines : List Placed) (t' : Tally) → Adds t lines t'
    ↔ ((t'.read ≡ t.read + total is_ok lines) × (t'.refused ≡ t.refused + total is_refused lines) × (t'.dropped ≡ t.dropped + total is_dropped lines))
adds_plainly t lines t' = ((λ p. p), (λ p. p))

pub told_plainly : ((line : Placed) → (line_told (Ok (Some line)) ≡ line ∷ []) × (number_told (Ok (Some line)) ≡ [])) × ((line_told (Ok None) ≡ []) × (number_told (Ok None) ≡ []))
    × ((f : Fault) → (line_told (Err f) ≡ []) × (number_told (Err f) ≡ fault_number f ∷ []))
told_plainly = ((λ line. (refl, refl)), (refl, refl), (λ f. (refl, refl)))

same_line : (a : Ended) → line_told (tally.told a) ≡ line_in a
same_line (Ok (Some line)) = refl
same_line (Ok None) = refl
same_line (Err f) = refl

pub own_plainly : (t : Tally) (r : Receiver) (chunk : List ℕ) {s : Stepped} {t' : Tally} {ran : Ran} → (IsTallyFull t r chunk → ⊥)
    → CountsWhere t r chunk s t' → Steps r chunk ran → (s.receiver ≡ ran.receiver) × (s.taken ≡ ran.taken) × (line_told s.answer ≡ line_in ran.answer)
own_plainly t r chunk {ran = ran} n c steps = rw (receivers_own t r chunk n c steps) (refl, refl, same_line ran.answer)

pub fed_60 : (feed_with clear_tally (outside_at largest) ((5 ∷ []) ∷ (13 ∷ 5 ∷ []) ∷ [])).numbers ≡ 60 ∷ 60 ∷ 60 ∷ []
unfolding no_bytes next told step_from step_refusal stepped_by tally_by steps_with feed_with
fed_60 = refl

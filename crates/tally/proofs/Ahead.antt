-- What a step ends with does not depend on where its bytes lie: it may be told of a step that is refused for its places.
-- Assumes nothing.
use Rattle.std.specs.Prelude.{Ok, Err, Some, None}
use mathlib.Core.Path.{◌≡◌, refl, sym, ap, ◌∙◌}
use mathlib.Core.Bool.{Bool, true, false, cond}
use mathlib.Core.List.{List, [], ◌∷◌}
use mathlib.Core.Logic.{⊎_elim}
use Prim.Native.Nat.{ℕ, ◌+◌}
use lib.Dec.{eqb, leb, ltb}
use Rattle.rows.proofs.Laws.{clash}
use Rattle.lent.specs.Lent.{over_at}
use Rattle.lines.specs.declared.Event.{Event}
use Rattle.lines.specs.declared.Event.TheVariants.{Dropped}
use Rattle.listing.specs.Events.{placed}
use Rattle.receiver.specs.Receiver.{no_bytes, outside_at, opened_at, is_inside, passed, grown, next, closing, told, end_or, step_from}
use Rattle.receiver.specs.Answers.{Answer as Ended}
use Rattle.receiver.specs.declared.Fault.{Fault as Unplaced}
use Rattle.receiver.specs.declared.Receiver.{Receiver}
use Rattle.receiver.specs.declared.Stepped.{Stepped as Ran}
use Rattle.receiver.proofs.Goes.{on_or_end, step_cons, step-none}
use Rattle.tally.specs.declared.Tally.{Tally}
use Rattle.tally.specs.Tally.{is_full, full_at, placed_at}

-- a step over a chunk that is not refused refuses nothing
pub never_refused : (r : Receiver) (chunk : List ℕ) (f : Unplaced) → (step_from r chunk).answer ≡ Err f → ⊥
never_refused r [] f e = let n : (Ok None) ≡ Err f = rw (step-none r) at e in clash (cc)
never_refused r (b ∷ rest) f e =
    ⊎_elim
    (λ p. never_refused (next r b) rest f (sym (ap (λ (s : Ran). s.answer) (step_cons r b rest ∙ p.1)) ∙ e))
    (λ p. let line : (step_from r (b ∷ rest)).answer ≡ Ok (Some p.0) = rw (step_cons r b rest) (rw p.1 refl) in clash (cc))
    (on_or_end (told r b) (next r b) (step_from (next r b) rest))

-- the event of what a step ends with, where it ends with a line
abbrev pub event_in : Ended → List Event
event_in (Ok (Some line)) = line.event ∷ []
event_in (Ok None) = []
event_in (Err f) = []

full_by_event : (a b : Ended) (tally : Tally) → event_in a ≡ event_in b → full_at a tally ≡ full_at b tally
full_by_event a b tally e = is a ∙ ap any e ∙ sym (is b)
  where
    any : List Event → Bool
    any [] = false
    any (e ∷ rest) = is_full e tally

    is : (a : Ended) → full_at a tally ≡ any (event_in a)
    is (Ok (Some line)) = refl
    is (Ok None) = refl
    is (Err f) = refl

-- a receiver by its parts
abbrev holding : ℕ → ℕ → ℕ → List ℕ → Receiver
holding place start size bytes = record { place = place; start = start; size = size; bytes = bytes }

-- a step whose first byte is told by these tests: is it inside a frame, a 13, a 10
abbrev end_by : Bool → Bool → Bool → Receiver → ℕ → (Receiver → Ran) → Ended
end_by inside start end r b rest =
    (end_or
    (cond inside (cond start (Ok (Some (placed r.start Dropped))) (cond end (Ok (Some (placed r.start (closing r)))) (Ok None))) (Ok None))
    (cond start (opened_at r.place) (cond inside (cond end (outside_at (r.place + 1)) (grown r b)) (passed r)))
    (rest (cond start (opened_at r.place) (cond inside (cond end (outside_at (r.place + 1)) (grown r b)) (passed r))))).answer

by_tests : (r : Receiver) (b : ℕ) (rest : List ℕ) → (step_from r (b ∷ rest)).answer ≡ end_by (is_inside r) (eqb b 13) (eqb b 10) r b (λ s. step_from s rest)
unfolding step_from told next
by_tests r b rest = refl

-- two receivers that differ in their places end a step with the same event
same_event : (chunk : List ℕ) (p s p' s' size : ℕ) (bytes : List ℕ)
    → event_in (step_from (holding p s size bytes) chunk).answer ≡ event_in (step_from (holding p' s' size bytes) chunk).answer
unfolding closing
same_event [] p s p' s' size bytes = rw (step-none (holding p s size bytes), step-none (holding p' s' size bytes)) refl
same_event (b ∷ rest) p s p' s' size bytes =
    ap event_in (by_tests (holding p s size bytes) b rest)
    ∙ go (ltb 0 size) (eqb b 13) (eqb b 10) (same_event rest)
    ∙ sym (ap event_in (by_tests (holding p' s' size bytes) b rest))
  where
    go : (inside start end : Bool)
        → ((p s p' s' size : ℕ) (bytes : List ℕ) → event_in (step_from (holding p s size bytes) rest).answer ≡ event_in (step_from (holding p' s' size bytes) rest).answer)
        → event_in (end_by inside start end (holding p s size bytes) b (λ s. step_from s rest))
        ≡ event_in (end_by inside start end (holding p' s' size bytes) b (λ s. step_from s rest))
    go true true end ih = refl
    go true false true ih = refl
    go true false false ih = ih (p + 1) s (p' + 1) s' (cond (leb 494 size) size (size + 1)) (over_at size (b ∷ []) bytes)
    go false true end ih = ih (p + 1) p (p' + 1) p' 1 (over_at 0 (13 ∷ []) no_bytes)
    go false false end ih = ih (p + 1) s (p' + 1) s' size bytes

pub same_anywhere : (r : Receiver) (place : ℕ) (chunk : List ℕ) → event_in (step_from (placed_at r place) chunk).answer ≡ event_in (step_from r chunk).answer
same_anywhere r place chunk = same_event chunk place r.start r.place r.start r.size r.bytes

-- so whether the line's number is full may be asked at any place
pub full_anywhere : (tally : Tally) (r : Receiver) (place : ℕ) (chunk : List ℕ) → full_at (step_from (placed_at r place) chunk).answer tally ≡ full_at (step_from r chunk).answer tally
full_anywhere tally r place chunk = full_by_event (step_from (placed_at r place) chunk).answer (step_from r chunk).answer tally (same_anywhere r place chunk)

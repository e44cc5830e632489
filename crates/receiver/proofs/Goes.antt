-- How far a step goes.
-- Assumes nothing.
use Rattle.std.specs.Prelude.{Ok, Err, Some, None}
use mathlib.Core.Path.{◌≡◌, refl, sym, ap, ◌∙◌}
use mathlib.Core.Bool.{Bool, true, false, cond}
use mathlib.Core.List.{List, [], ◌∷◌}
use mathlib.Core.Logic.{◌⊎◌, inl, inr, ⊎_elim}
use Prim.Native.Nat.{ℕ, ◌+◌, ◌≤◌, ◌<◌}
use native.Mathlib.Nat.{add-zero, not-suc-le-zero}
use native.Mathlib.Omega.{arith}
use lib.Dec.{eqb}
use lib.ListN.{length}
use Rattle.lines.specs.declared.Placed.{Placed}
use Rattle.receiver.specs.declared.Receiver.{Receiver}
use Rattle.receiver.specs.Answers.{Answer}
use Rattle.receiver.specs.declared.Stepped.{Stepped}
use Rattle.receiver.specs.Receiver.{outside_at, opened_at, is_inside, passed, grown, next, told, stepped, one_more, end_or, step_from}
use Rattle.receiver.specs.Chunks.{line_in}

pub next_place : (r : Receiver) (b : ℕ) → (next r b).place ≡ r.place + 1
unfolding next
next_place r b = go (eqb b 13) (is_inside r) (eqb b 10)
  where
    go : (s t u : Bool) → (cond s (opened_at r.place) (cond t (cond u (outside_at (r.place + 1)) (grown r b)) (passed r))).place ≡ r.place + 1
    go true t u = refl
    go false true true = refl
    go false true false = refl
    go false false u = refl

-- where a byte ends no line the step goes on
pub on_or_end : (a : Answer) (r : Receiver) (later : Stepped) → ((line_in a ≡ []) × (end_or a r later ≡ one_more later)) ⊎ ((e : Placed) × (a ≡ Ok (Some e)))
on_or_end (Ok (Some e)) r later = inr (e, refl)
on_or_end (Ok None) r later = inl (refl, refl)
on_or_end (Err f) r later = inl (refl, refl)

pub step_cons : (r : Receiver) (b : ℕ) (rest : List ℕ) → step_from r (b ∷ rest) ≡ end_or (told r b) (next r b) (step_from (next r b) rest)
unfolding step_from
step_cons r b rest = refl

pub step-none : (r : Receiver) → step_from r [] ≡ stepped r 0 (Ok None)
unfolding step_from
step-none r = refl

-- how far a step goes
abbrev pub Goes : Receiver → List ℕ → Stepped → Type 0
Goes r chunk s = (s.taken ≤ length chunk) × (s.receiver.place ≡ r.place + s.taken)

pub step_goes : (r : Receiver) (chunk : List ℕ) → Goes r chunk (step_from r chunk)
step_goes r [] = rw (step-none r) (omega arith, sym (add-zero r.place))
step_goes r (b ∷ rest) =
    rw (step_cons r b rest)
    (⊎_elim
    (λ p. rw p.1 (further (step_goes (next r b) rest)))
    (λ p. rw p.1 (omega arith, next_place r b)) (on_or_end (told r b) (next r b) (step_from (next r b) rest)))
  where
    one_on : (p t : ℕ) → p + 1 + t ≡ p + (t + 1)
    one_on p t = omega arith

    further : Goes (next r b) rest (step_from (next r b) rest) → Goes r (b ∷ rest) (one_more (step_from (next r b) rest))
    further ih = (
      omega (arith, ih.0),
      ih.1 ∙ ap (λ (p : ℕ). p + (step_from (next r b) rest).taken) (next_place r b) ∙ one_on r.place (step_from (next r b) rest).taken,
    )

-- a step on some bytes takes at least one
pub step_takes : (r : Receiver) (chunk : List ℕ) → 0 < length chunk → 0 < (step_from r chunk).taken
step_takes r [] h = absurd (not-suc-le-zero h)
step_takes r (b ∷ rest) h =
    rw (step_cons r b rest)
    (⊎_elim (λ p. rw p.1 (omega arith)) (λ p. rw p.1 (omega arith)) (on_or_end (told r b) (next r b) (step_from (next r b) rest)))

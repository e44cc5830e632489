-- The lines of a text, as the library's `split` gives them.
-- Assumes nothing.
use mathlib.Core.Path.{◌≡◌, refl, sym, ap, ◌∙◌}
use mathlib.Core.Bool.{Bool, true, false, cond}
use mathlib.Core.List.{List, [], ◌∷◌}
use Prim.Native.Nat.{ℕ, suc, ◌+◌, ◌<◌}
use native.Mathlib.Omega.{arith}
use native.Mathlib.Nat.{zero-add}
use native.Mathlib.Numerals.{add-one}
use lib.Dec.{eqb}
use lib.ListN.{length, get_or, drop, drop_of_length-le}
use lib.Seq.{drop-cons}
use Rattle.std.specs.List.{slice_split, onto_first, enumerate_from}
use Rattle.std.proofs.lemmas.List.FromFn.{length-enumerate_from, get_or-enumerate_from}
use Rattle.sheet_maker.specs.Maker.{in_front, lines_of}

front_split : (t : Bool) (b : ℕ) (lines : List (List ℕ)) → cond t ([] ∷ lines) (onto_first b lines) ≡ in_front t b lines
unfolding in_front
front_split true b lines = refl
front_split false b [] = refl
front_split false b (line ∷ lines) = refl

pub lines_split : (text : List ℕ) → slice_split (λ b. eqb b 10) text ≡ lines_of text
unfolding lines_of
lines_split [] = refl
lines_split (b ∷ rest) = rw (lines_split rest) (front_split (eqb b 10) b (lines_of rest))

-- the number of a turn, its line, and those behind it
pub turn : (lines : List (List ℕ)) (k : ℕ) (here : ℕ × List ℕ) → (k < length (enumerate_from 0 lines)) × (here ≡ get_or (enumerate_from 0 lines) k here)
    → (here.0 ≡ k) × (drop k lines ≡ here.1 ∷ drop (k + 1) lines)
turn lines k here t =
    let under : k < length lines = omega (arith, t.0, length-enumerate_from 0 lines) in
    let is : here ≡ (0 + k, get_or lines k here.1) = t.1 ∙ get_or-enumerate_from 0 lines k here under in (
      ap (λ (p : ℕ × List ℕ). p.0) is ∙ zero-add k,
      rw (add-one k) (drop-cons lines k here.1 under ∙ ap (λ (l : List ℕ). l ∷ drop (suc k) lines) (sym (ap (λ (p : ℕ × List ℕ). p.1) is))),
    )

-- and at the end none is left
pub none_left : (lines : List (List ℕ)) (k : ℕ) → k ≡ length (enumerate_from 0 lines) → drop k lines ≡ []
none_left lines k all = drop_of_length-le lines (omega (arith, all, length-enumerate_from 0 lines))

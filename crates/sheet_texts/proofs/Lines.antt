-- The lines of a text: how it is cut, and that they are all of it.
-- Assumes nothing.
use mathlib.Core.Path.{◌≡◌, refl, sym, ap, ◌∙◌}
use mathlib.Core.Bool.{Bool, true, false}
use mathlib.Core.List.{List, [], ◌∷◌, ◌++◌, append_assoc}
use mathlib.Core.Logic.{◌≢◌}
use Prim.Native.Nat.{ℕ}
use native.Mathlib.Omega.{arith}
use borrow.Author.Tests.{eqb-true, eqb-false, ne_eqb}
use lib.Dec.{eqb}
use lib.ListN.{length, take, length-append}
use lib.Seq.{take_at}
use Rattle.sheet_line.proofs.Joined.{Every}
use Rattle.sheet_maker.specs.Maker.{in_front, lines_of}

-- no newline stands in it
abbrev pub Plain : List ℕ → Type 0
Plain line = Every (λ (b : ℕ). b ≢ 10) line

-- ---- how a text is cut

pub lines_none : lines_of [] ≡ [] ∷ []
unfolding lines_of
lines_none = refl

pub lines_cut : (line rest : List ℕ) → Plain line → lines_of (line ++ (10 ∷ rest)) ≡ line ∷ lines_of rest
unfolding lines_of in_front
lines_cut [] rest plain = refl
lines_cut (b ∷ line) rest plain = rw (ne_eqb b 10 plain.0, lines_cut line rest plain.1) refl

pub lines_last : (line : List ℕ) → Plain line → lines_of line ≡ line ∷ []
unfolding lines_of in_front
lines_last [] plain = refl
lines_last (b ∷ line) plain = rw (ne_eqb b 10 plain.0, lines_last line plain.1) refl

pub lines_plain : (text : List ℕ) → Every Plain (lines_of text)
unfolding lines_of in_front
lines_plain [] = (tt, tt)
lines_plain (b ∷ rest) = go (eqb b 10) refl (lines_of rest) (lines_plain rest)
  where
    go : (t : Bool) → eqb b 10 ≡ t → (lines : List (List ℕ)) → Every Plain lines → Every Plain (in_front t b lines)
    go true e lines each = (tt, each)
    go false e [] each = ((eqb-false b 10 e, tt), tt)
    go false e (line ∷ lines) each = ((eqb-false b 10 e, each.0), each.1)

-- ---- they are all of it

-- lines with a newline behind each
abbrev pub ended : List (List ℕ) → List ℕ
ended [] = []
ended (line ∷ lines) = line ++ (10 ∷ ended lines)

-- what ends with a newline is not nothing
some_text : (text : List ℕ) → [] ≡ text ++ (10 ∷ []) → ⊥
some_text [] e = let z : ◌≡◌ {A = ℕ} 0 1 = ap length e in omega arith
some_text (b ∷ text) e = omega (arith, ap length e)

pub lines_ended : (text : List ℕ) → ended (lines_of text) ≡ text ++ (10 ∷ [])
unfolding lines_of in_front
lines_ended [] = refl
lines_ended (b ∷ rest) = go (eqb b 10) refl (lines_of rest) (lines_ended rest)
  where
    go : (t : Bool) → eqb b 10 ≡ t → (lines : List (List ℕ)) → ended lines ≡ rest ++ (10 ∷ []) → ended (in_front t b lines) ≡ b ∷ (rest ++ (10 ∷ []))
    go true e lines so = rw (eqb-true b 10 e, so) refl
    go false e [] so = absurd (some_text rest so)
    go false e (line ∷ lines) so = ap (λ (l : List ℕ). b ∷ l) so

ended_append : (xs ys : List (List ℕ)) → ended (xs ++ ys) ≡ ended xs ++ ended ys
ended_append [] ys = refl
ended_append (line ∷ xs) ys = ap (λ (l : List ℕ). line ++ (10 ∷ l)) (ended_append xs ys) ∙ sym (append_assoc line (10 ∷ ended xs) (ended ys))

same_before : (xs ys : List ℕ) → xs ++ (10 ∷ []) ≡ ys ++ (10 ∷ []) → xs ≡ ys
same_before xs ys e =
    let same : length xs ≡ length ys = omega (arith, ap length e, length-append xs (10 ∷ []), length-append ys (10 ∷ [])) in
    sym (take_at xs (10 ∷ []) (length xs) refl) ∙ (ap (take (length xs)) e ∙ take_at ys (10 ∷ []) (length xs) (sym same))

-- a text whose last line is empty is the other lines with a newline behind each
pub text_ended : (text : List ℕ) (lines : List (List ℕ)) → lines_of text ≡ lines ++ ([] ∷ []) → ended lines ≡ text
text_ended text lines cut = same_before (ended lines) text (sym (ended_append lines ([] ∷ [])) ∙ (ap ended (sym cut) ∙ lines_ended text))

-- and behind a newline at the end stands one more line, an empty one
pub lines_end : (text : List ℕ) → lines_of (text ++ (10 ∷ [])) ≡ lines_of text ++ ([] ∷ [])
unfolding lines_of in_front
lines_end [] = refl
lines_end (b ∷ rest) = rw (lines_end rest) (go (eqb b 10) (lines_of rest) (lines_ended rest))
  where
    go : (t : Bool) (lines : List (List ℕ)) → ended lines ≡ rest ++ (10 ∷ []) → in_front t b (lines ++ ([] ∷ [])) ≡ in_front t b lines ++ ([] ∷ [])
    go true lines so = refl
    go false [] so = absurd (some_text rest so)
    go false (line ∷ lines) so = refl

-- The laws of `over` and `over_at` that whoever lends or fills a buffer may cite.
-- Assumes nothing.
use mathlib.Core.Path.{◌≡◌, refl, sym, ap, ap₂, ◌∙◌}
use mathlib.Core.List.{List, [], ◌∷◌, ◌++◌, append-nil}
use Prim.Native.Nat.{ℕ, zero, suc, ◌+◌, ◌-◌, ◌≤◌, ◌<◌}
use native.Mathlib.Nat.{le_of_suc-le-suc, not-suc-le-zero, add-suc, suc-add}
use native.Mathlib.Numerals.{add-one}
use native.Mathlib.Omega.{arith}
use lib.ListN.{length, get_or, take, drop, set, length-drop, drop_of_length-le}
use lib.Seq.{drop-cons, drop-drop, take_all}
use Rattle.rows.proofs.Settled.{settled}
use Rattle.rows.specs.Settled.{Settled}
use Rattle.lent.specs.Lent.{over, over_at, Lays, Moves}

-- a walk along a list, one step on
pub drop-next : (xs : List ℕ) (i : ℕ) → i < length xs → drop i xs ≡ get_or xs i 0 ∷ drop (i + 1) xs
drop-next xs i h = rw (add-one, drop-cons xs i 0)

-- no buffer grows or shrinks
pub length_over : (xs d : List ℕ) → length (over xs d) ≡ length d
unfolding over
length_over [] d = refl
length_over (x ∷ xs) [] = refl
length_over (x ∷ xs) (y ∷ d) = ap suc (length_over xs d)

pub length-over_at : (k : ℕ) (xs d : List ℕ) → length (over_at k xs d) ≡ length d
unfolding over_at
length-over_at zero xs d = length_over xs d
length-over_at (suc k) xs [] = refl
length-over_at (suc k) xs (y ∷ d) = ap suc (length-over_at k xs d)

-- with room for all: xs, and then what stood behind
pub over_is : (xs d : List ℕ) → length xs ≤ length d → over xs d ≡ xs ++ drop (length xs) d
unfolding over
over_is [] d h = refl
over_is (x ∷ xs) [] h = absurd (not-suc-le-zero h)
over_is (x ∷ xs) (y ∷ d) h = ap (λ (l : List ℕ). x ∷ l) (over_is xs d (le_of_suc-le-suc h))

pub take-over : (xs d : List ℕ) → length xs ≤ length d → take (length xs) (over xs d) ≡ xs
unfolding over
take-over [] d h = refl
take-over (x ∷ xs) [] h = absurd (not-suc-le-zero h)
take-over (x ∷ xs) (y ∷ d) h = ap (λ (l : List ℕ). x ∷ l) (take-over xs d (le_of_suc-le-suc h))

-- nothing laid, or nothing where it could be laid
pub over_at_none : (k : ℕ) (d : List ℕ) → over_at k [] d ≡ d
unfolding over_at over
over_at_none zero d = refl
over_at_none (suc k) [] = refl
over_at_none (suc k) (y ∷ d) = ap (λ (l : List ℕ). y ∷ l) (over_at_none k d)

pub over_at_past : (k : ℕ) (xs d : List ℕ) → length d ≤ k → over_at k xs d ≡ d
unfolding over_at over
over_at_past zero [] [] h = refl
over_at_past zero (x ∷ xs) [] h = refl
over_at_past zero xs (y ∷ d) h = absurd (omega arith)
over_at_past (suc k) xs [] h = refl
over_at_past (suc k) xs (y ∷ d) h = ap (λ (l : List ℕ). y ∷ l) (over_at_past k xs d (le_of_suc-le-suc h))

-- one byte more
pub over_at_set : (k x : ℕ) (xs d : List ℕ) → k < length d → over_at (suc k) xs (set d k x) ≡ over_at k (x ∷ xs) d
unfolding over_at over
over_at_set k x xs [] h = absurd (not-suc-le-zero h)
over_at_set zero x xs (y ∷ d) h = refl
over_at_set (suc k) x xs (y ∷ d) h = ap (λ (l : List ℕ). y ∷ l) (over_at_set k x xs d (le_of_suc-le-suc h))

-- what is laid right behind xs is laid with it
pub over_at_append : (k : ℕ) (xs ys d : List ℕ) → over_at (k + length xs) ys (over_at k xs d) ≡ over_at k (xs ++ ys) d
unfolding over_at over
over_at_append zero [] ys d = refl
over_at_append zero (x ∷ xs) ys [] = rw (add-suc 0 (length xs)) refl
over_at_append zero (x ∷ xs) ys (y ∷ d) = rw (add-suc 0 (length xs)) (ap (λ (l : List ℕ). x ∷ l) (over_at_append zero xs ys d))
over_at_append (suc k) xs ys [] = rw (suc-add k (length xs)) refl
over_at_append (suc k) xs ys (y ∷ d) = rw (suc-add k (length xs)) (ap (λ (l : List ℕ). y ∷ l) (over_at_append k xs ys d))

pub over_at_zero : (xs d : List ℕ) → over_at 0 xs d ≡ over xs d
unfolding over_at
over_at_zero xs d = refl

-- what is laid over the part of a room from a place on is laid over the room from there on
lay_from : (at : ℕ) (xs room : List ℕ) → at ≤ length room → take at room ++ over xs (drop at room) ≡ over_at at xs room
unfolding over_at
lay_from zero xs room h = refl
lay_from (suc at) xs [] h = absurd (not-suc-le-zero h)
lay_from (suc at) xs (y ∷ room) h = ap (λ (l : List ℕ). y ∷ l) (lay_from at xs room (le_of_suc-le-suc h))

-- what is laid where there is room for all of it stands between what was before and behind that place
pub over_at_is : (at : ℕ) (xs room : List ℕ) → at + length xs ≤ length room → over_at at xs room ≡ take at room ++ (xs ++ drop (at + length xs) room)
over_at_is at xs room h =
    sym (lay_from at xs room (omega (arith, h)))
    ∙ ap (λ (l : List ℕ). take at room ++ l) (over_is xs (drop at room) (rw (length-drop at room) (omega (arith, h))))
    ∙ ap (λ (l : List ℕ). take at room ++ (xs ++ l)) (drop-drop (length xs) at room)

-- as what `&mut room[at..]` lends comes back
pub lay_part : (at : ℕ) (xs room part : List ℕ) → at ≤ length room → part ≡ over xs (take (length room - at) (drop at room))
    → take at room ++ (part ++ drop (length room - at) (drop at room)) ≡ over_at at xs room
lay_part at xs room part h laid =
    let left : length (drop at room) ≤ length room - at = rw (length-drop at room) (omega arith) in
    let none_left : drop (length room - at) (drop at room) ≡ [] = drop_of_length-le (drop at room) {i = length room - at} left in
    ap₂ (λ (a b : List ℕ). take at room ++ (a ++ b)) (laid ∙ ap (over xs) (take_all (length room - at) (drop at room) left)) none_left
    ∙ ap (λ (l : List ℕ). take at room ++ l) (append-nil (over xs (drop at room))) ∙ lay_from at xs room h

-- "Show that any two outcomes allowed by it are equal."
pub lays_settled : (bytes : List ℕ) (at : ℕ) (room : List ℕ) → Settled (Lays bytes at room)
lays_settled bytes at room = settled _

pub moves_settled : (room : List ℕ) (from to size : ℕ) → Settled (Moves room from to size)
moves_settled room from to size = settled _

-- What laying bytes and moving them within a buffer comes to, and what is laid over what was laid.
-- Assumes nothing.
use mathlib.Core.Path.{◌≡◌, refl, sym, ap, ◌∙◌}
use mathlib.Core.List.{List, [], ◌∷◌, ◌++◌, append_assoc}
use mathlib.Core.Bool.{Bool, true, false, cond}
use mathlib.Core.Logic.{◌⊎◌, inl, inr, ⊎_elim}
use Prim.Native.Nat.{ℕ, zero, suc, ◌+◌, ◌-◌, ◌≤◌, ◌<◌, min}
use native.Mathlib.Nat.{le_of_suc-le-suc, not-suc-le-zero, add-suc, suc-add}
use native.Mathlib.Omega.{arith}
use borrow.Author.Tests.{leb-true, leb-false}
use lib.Dec.{leb}
use lib.ListN.{length, get_or, take, drop, length-drop, length-take, drop_of_length-le}
use lib.Seq.{take_all, take-nil, length-take-le, paste, get_or-take, get_or-drop}
use Rattle.std.specs.List.{copy_within}
use Rattle.lent.specs.Lent.{over, over_at, Moves}
use Rattle.lent.proofs.Laws.{over_at_none, over_at_past, over_at_is, length-over_at}

-- a part of a part
pub drop-take : (j m : ℕ) (l : List ℕ) → j ≤ m → drop j (take m l) ≡ take (m - j) (drop j l)
drop-take zero m l h = let e : m ≡ m - 0 = omega arith in ap (λ (i : ℕ). take i l) e
drop-take (suc j) zero l h = absurd (not-suc-le-zero h)
drop-take (suc j) (suc m) [] h = sym (take-nil (suc m - suc j))
drop-take (suc j) (suc m) (x ∷ l) h =
    let e : m - j ≡ suc m - suc j = omega arith in
    drop-take j m l (le_of_suc-le-suc h) ∙ ap (λ (i : ℕ). take i (drop j l)) e

-- ---- what was laid leaves what stands before and behind it

pub drop_past : (j k : ℕ) (xs d : List ℕ) → k + length xs ≤ j → drop j (over_at k xs d) ≡ drop j d
unfolding over_at over
drop_past j zero [] d h = refl
drop_past zero zero (x ∷ xs) d h = absurd (omega (arith, h))
drop_past (suc j) zero (x ∷ xs) [] h = refl
drop_past (suc j) zero (x ∷ xs) (y ∷ d) h = drop_past j zero xs d (omega (arith, h))
drop_past j (suc k) xs [] h = refl
drop_past zero (suc k) xs (y ∷ d) h = absurd (omega (arith, h))
drop_past (suc j) (suc k) xs (y ∷ d) h = drop_past j k xs d (omega (arith, h))

pub get_d_before : (j k : ℕ) (xs d : List ℕ) → j < k → get_or (over_at k xs d) j 0 ≡ get_or d j 0
unfolding over_at
get_d_before j zero xs d h = absurd (not-suc-le-zero h)
get_d_before j (suc k) xs [] h = refl
get_d_before zero (suc k) xs (y ∷ d) h = refl
get_d_before (suc j) (suc k) xs (y ∷ d) h = get_d_before j k xs d (le_of_suc-le-suc h)

-- a stretch that ends before it
pub take_before : (m k : ℕ) (xs d : List ℕ) → m ≤ k → take m (over_at k xs d) ≡ take m d
unfolding over_at
take_before zero k xs d h = refl
take_before (suc m) zero xs d h = absurd (not-suc-le-zero h)
take_before (suc m) (suc k) xs [] h = refl
take_before (suc m) (suc k) xs (y ∷ d) h = ap (λ (l : List ℕ). y ∷ l) (take_before m k xs d (le_of_suc-le-suc h))

pub drop_before : (j k : ℕ) (xs d : List ℕ) → drop j (over_at (j + k) xs d) ≡ over_at k xs (drop j d)
unfolding over_at
drop_before zero k xs d = let e : 0 + k ≡ k = omega arith in ap (λ (i : ℕ). over_at i xs d) e
drop_before (suc j) k xs [] =
    ap (λ (i : ℕ). drop (suc j) (over_at i xs [])) (suc-add j k) ∙ sym (over_at_past k xs [] (omega arith))
drop_before (suc j) k xs (y ∷ d) = ap (λ (i : ℕ). drop (suc j) (over_at i xs (y ∷ d))) (suc-add j k) ∙ drop_before j k xs d

pub stretch_before : (m j k : ℕ) (xs d : List ℕ) → j + m ≤ k → take m (drop j (over_at k xs d)) ≡ take m (drop j d)
stretch_before m j k xs d h =
    let e : k ≡ j + (k - j) = omega (arith, h) in
    ap (λ (i : ℕ). take m (drop j (over_at i xs d))) e
    ∙ ap (take m) (drop_before j (k - j) xs d)
    ∙ take_before m (k - j) xs (drop j d) (omega (arith, h))

-- what is laid, with what stands before it
pub take_laid : (k : ℕ) (xs ys d : List ℕ) → k + length xs ≤ length d → take (k + length xs) (over_at k (xs ++ ys) d) ≡ take k d ++ xs
unfolding over_at over
take_laid zero [] ys d h = refl
take_laid zero (x ∷ xs) ys [] h = absurd (omega (arith, h))
take_laid zero (x ∷ xs) ys (y ∷ d) h =
    ap (λ (i : ℕ). take i (x ∷ over (xs ++ ys) d)) (add-suc 0 (length xs)) ∙ ap (λ (l : List ℕ). x ∷ l) (take_laid zero xs ys d (omega (arith, h)))
take_laid (suc k) xs ys [] h = absurd (omega (arith, h))
take_laid (suc k) xs ys (y ∷ d) h =
    ap (λ (i : ℕ). take i (y ∷ over_at k (xs ++ ys) d)) (suc-add k (length xs)) ∙ ap (λ (l : List ℕ). y ∷ l) (take_laid k xs ys d (omega (arith, h)))

-- ---- laid ahead of what was laid, and over it

pub over_at_ahead : (k : ℕ) (xs ys d : List ℕ) → over_at k xs (over_at (k + length xs) ys d) ≡ over_at k (xs ++ ys) d
unfolding over_at over
over_at_ahead zero [] ys d = refl
over_at_ahead zero (x ∷ xs) ys [] = rw (add-suc 0 (length xs)) refl
over_at_ahead zero (x ∷ xs) ys (y ∷ d) = rw (add-suc 0 (length xs)) (ap (λ (l : List ℕ). x ∷ l) (over_at_ahead zero xs ys d))
over_at_ahead (suc k) xs ys [] = rw (suc-add k (length xs)) refl
over_at_ahead (suc k) xs ys (y ∷ d) = rw (suc-add k (length xs)) (ap (λ (l : List ℕ). y ∷ l) (over_at_ahead k xs ys d))

pub over_covers : (ys : List ℕ) (k : ℕ) (xs d : List ℕ) → k + length xs ≤ length ys → over ys (over_at k xs d) ≡ over ys d
unfolding over_at over
over_covers ys zero [] d h = refl
over_covers [] zero (x ∷ xs) d h = absurd (omega (arith, h))
over_covers (y ∷ ys) zero (x ∷ xs) [] h = refl
over_covers (y ∷ ys) zero (x ∷ xs) (z ∷ d) h = ap (λ (l : List ℕ). y ∷ l) (over_covers ys zero xs d (omega (arith, h)))
over_covers ys (suc k) xs [] h = refl
over_covers [] (suc k) xs (z ∷ d) h = absurd (omega (arith, h))
over_covers (y ∷ ys) (suc k) xs (z ∷ d) h = ap (λ (l : List ℕ). y ∷ l) (over_covers ys k xs d (omega (arith, h)))

-- ---- no more of it than there is room for

over_at_room : (k m : ℕ) (xs d : List ℕ) → length d ≤ k + m → over_at k (take m xs) d ≡ over_at k xs d
unfolding over_at over
over_at_room zero zero [] d h = refl
over_at_room zero zero (x ∷ xs) [] h = refl
over_at_room zero zero (x ∷ xs) (y ∷ d) h = absurd (omega (arith, h))
over_at_room zero (suc m) [] d h = refl
over_at_room zero (suc m) (x ∷ xs) [] h = refl
over_at_room zero (suc m) (x ∷ xs) (y ∷ d) h = ap (λ (l : List ℕ). x ∷ l) (over_at_room zero m xs d (omega (arith, h)))
over_at_room (suc k) m xs [] h = refl
over_at_room (suc k) m xs (y ∷ d) h = ap (λ (l : List ℕ). y ∷ l) (over_at_room k m xs d (omega (arith, h)))

-- the least of what is asked for, what there is and what there is room for
abbrev Least : ℕ → ℕ → ℕ → Type 0
Least r a b = (r ≤ a) × (r ≤ b) × ((r ≡ a) ⊎ (r ≡ b))

least_is : (a b : ℕ) → Least (cond (leb a b) a b) a b
least_is a b = go (leb a b) refl
  where
    go : (t : Bool) → leb a b ≡ t → Least (cond t a b) a b
    go true e = let l = leb-true a b e in (omega arith, omega (arith, l), inl refl)
    go false e = let l = leb-false a b e in (omega (arith, l), omega arith, inr refl)

pub least_of : (r a b : ℕ) → r ≡ cond (leb a b) a b → Least r a b
least_of r a b e = rw e (least_is a b)

-- so neither stretch goes past the end
pub both_within : (end from to size there n : ℕ) → from < end → to < end → there ≡ cond (leb size (end - from)) size (end - from)
    → n ≡ cond (leb there (end - to)) there (end - to) → (from + n ≤ end) × (to + n ≤ end)
both_within end from to size there n source target e f =
    let one = (least_of there size (end - from) e).1 in
    let two = least_of n there (end - to) f in
    let by_there = two.0 in
    let by_room = two.1 in
    (omega (arith, one, by_there, source), omega (arith, by_room, target))

all_there : (size from there : ℕ) (room : List ℕ) → Least there size (length room - from) → take there (drop from room) ≡ take size (drop from room)
all_there size from there room least =
    ⊎_elim (λ e. ap (λ (n : ℕ). take n (drop from room)) e)
    (λ e.
    let long = length-drop from room in
    let under = least.0 in
    take_all there (drop from room) (omega (arith, e, long)) ∙ sym (take_all size (drop from room) (omega (arith, e, long, under)))) least.2

pub as_many : (room : List ℕ) (from to size there n : ℕ) (room' : List ℕ) → there ≡ cond (leb size (length room - from)) size (length room - from)
    → n ≡ cond (leb there (length room - to)) there (length room - to) → Moves room from to n room' → Moves room from to size room'
as_many room from to size there n room' p q moved =
    moved ∙ ⊎_elim (λ e. ap (λ (m : ℕ). over_at to (take m (drop from room)) room) e ∙ ap (λ (l : List ℕ). over_at to l room) (all_there size from there room first))
    (λ e. over_at_room to n (drop from room) room (omega (arith, e)) ∙ sym (by_size e)) second.2
  where
    first : Least there size (length room - from)
    first = least_of there size (length room - from) p

    second : Least n there (length room - to)
    second = least_of n there (length room - to) q

    by_size : n ≡ length room - to → over_at to (take size (drop from room)) room ≡ over_at to (drop from room) room
    by_size e =
        let one = first.0 in
        let two = second.0 in
        over_at_room to size (drop from room) room (omega (arith, e, one, two))

-- ---- the calls that move nothing

pub none_there : (room : List ℕ) (from to size : ℕ) → length room ≤ from → Moves room from to size room
none_there room from to size h =
    sym (over_at_none to room) ∙ ap (λ (l : List ℕ). over_at to l room) (sym (ap (take size) (drop_of_length-le room {i = from} h) ∙ take-nil size))

pub no_place : (room : List ℕ) (from to size : ℕ) → length room ≤ to → Moves room from to size room
no_place room from to size h = sym (over_at_past to (take size (drop from room)) room h)

-- ---- what the library's copies do is to lay

-- so many bytes put in the place of as many
pasted : (room xs : List ℕ) (at n : ℕ) → n ≤ length xs → at + n ≤ length room → paste room at xs n ≡ over_at at (take n xs) room
pasted room xs at n there fits =
    let many : length (take n xs) ≡ n = length-take-le n xs there in
    append_assoc (take at room) (take n xs) (drop (at + n) room)
    ∙ ap (λ (m : ℕ). take at room ++ (take n xs ++ drop (at + m) room)) (sym many)
    ∙ sym (over_at_is at (take n xs) room (omega (arith, many, fits)))

pub moved : (room : List ℕ) (from to size there n : ℕ) (room' : List ℕ) → from < length room → to < length room
    → there ≡ cond (leb size (length room - from)) size (length room - from) → n ≡ cond (leb there (length room - to)) there (length room - to)
    → room' ≡ copy_within room from (from + n) to → Moves room from to size room'
moved room from to size there n room' source target p q copied =
    let within = both_within (length room) from to size there n source target p q in
    let many : from + n - from ≡ n = omega arith in
    as_many room from to size there n room' p q
    (copied ∙ ap (λ (m : ℕ). paste room to (drop from room) m) many
    ∙ pasted room (drop from room) to n (rw (length-drop from room) (omega (arith, within.0))) within.1)

-- ---- what a move is, place by place

get_d_laid : (k : ℕ) (xs d : List ℕ) (i : ℕ) → i < length xs → k + i < length d → get_or (over_at k xs d) (k + i) 0 ≡ get_or xs i 0
unfolding over_at over
get_d_laid zero [] d i h l = absurd (not-suc-le-zero h)
get_d_laid zero (x ∷ xs) [] i h l = absurd (omega (arith, l))
get_d_laid zero (x ∷ xs) (y ∷ d) zero h l = refl
get_d_laid zero (x ∷ xs) (y ∷ d) (suc i) h l =
    ap (λ (j : ℕ). get_or (x ∷ over xs d) j 0) (add-suc 0 i) ∙ get_d_laid zero xs d i (le_of_suc-le-suc h) (omega (arith, l))
get_d_laid (suc k) xs [] i h l = absurd (omega (arith, l))
get_d_laid (suc k) xs (y ∷ d) i h l = ap (λ (j : ℕ). get_or (y ∷ over_at k xs d) j 0) (suc-add k i) ∙ get_d_laid k xs d i h (omega (arith, l))

get_d_behind : (k : ℕ) (xs d : List ℕ) (j : ℕ) → k + length xs ≤ j → get_or (over_at k xs d) j 0 ≡ get_or d j 0
get_d_behind k xs d j h =
    let e : j + 0 ≡ j = omega arith in
    ap (λ (i : ℕ). get_or (over_at k xs d) i 0) (sym e)
    ∙ (sym (get_or-drop j (over_at k xs d) 0 0)
    ∙ (ap (λ (l : List ℕ). get_or l 0 0) (drop_past j k xs d h) ∙ (get_or-drop j d 0 0 ∙ ap (λ (i : ℕ). get_or d i 0) e)))

-- the moved bytes stand where they were moved to, as they stood before; every other byte is as it was, and so is one for which there is none
pub moves_plainly : (room : List ℕ) (from to size : ℕ) (room' : List ℕ) → Moves room from to size room'
    → (length room' ≡ length room)
    × ((i : ℕ) → i < size → from + i < length room → to + i < length room → get_or room' (to + i) 0 ≡ get_or room (from + i) 0)
    × ((i : ℕ) → length room ≤ from + i → get_or room' (to + i) 0 ≡ get_or room (to + i) 0)
    × ((j : ℕ) → (j < to) ⊎ (to + size ≤ j) → get_or room' j 0 ≡ get_or room j 0)
moves_plainly room from to size room' moved = (
  ap length moved ∙ length-over_at to (take size (drop from room)) room,
  λ i few source target.
      ap (λ (l : List ℕ). get_or l (to + i) 0) moved
      ∙ (get_d_laid to (take size (drop from room)) room i (let t = taken in omega (arith, t, few, source)) target
      ∙ (get_or-take size (drop from room) i 0 few ∙ get_or-drop from room i 0)),
  λ i past. ap (λ (l : List ℕ). get_or l (to + i) 0) moved ∙ get_d_behind to (take size (drop from room)) room (to + i) (let t = taken in omega (arith, t, past)),
  λ j elsewhere.
      ap (λ (l : List ℕ). get_or l j 0) moved
      ∙ ⊎_elim (λ low. get_d_before j to (take size (drop from room)) room low)
      (λ high. get_d_behind to (take size (drop from room)) room j (let t = taken in omega (arith, t, high))) elsewhere,
)
  where
    taken : length (take size (drop from room)) ≡ min size (length room - from)
    taken = length-take size (drop from room) ∙ ap (min size) (length-drop from room)

-- The laws of decimal text.
-- Assumes nothing.
use mathlib.Core.Path.{◌≡◌, refl, sym, ap, ap₂, ◌∙◌}
use mathlib.Core.Bool.{Bool, true, false, cond}
use mathlib.Core.List.{List, [], ◌∷◌, ◌++◌, append-nil}
use Prim.Native.Nat.{ℕ, zero, suc, ◌+◌, ◌-◌, ◌*◌, ◌/◌, ◌%◌, ◌^◌, ◌≤◌, ◌<◌}
use native.Mathlib.Nat.{le_of_suc-le-suc, not-suc-le-zero, le_of_eq, pow-suc}
use native.Mathlib.Numerals.{add-one}
use native.Mathlib.Omega.{arith}
use borrow.Author.Tests.{lt-ltb, le-ltb}
use lib.Dec.{ltb}
use lib.ListN.{length, take, drop, set, length-append, length-drop, drop_of_length-le}
use lib.Seq.{append_snoc, take_all}
use Rattle.rows.proofs.Settled.{settled_with}
use Rattle.rows.specs.Settled.{Settled}
use Rattle.lent.specs.Lent.{over_at}
use Rattle.lent.proofs.Laws.{over_at_append}
use Rattle.text.specs.Text.{ascii, decimal_by, decimal, Spells, Puts}

-- ---- one digit

decimal_more : (k n : ℕ) → 10 ≤ n → decimal_by (suc k) n ≡ decimal_by k (n / 10) ++ ((48 + n % 10) ∷ [])
unfolding decimal_by
decimal_more k n h = simp (le-ltb n 10 h)

decimal_last : (k n : ℕ) → n < 10 → decimal_by (suc k) n ≡ (48 + n % 10) ∷ []
unfolding decimal_by
decimal_last k n h = simp (lt-ltb n 10 h)

drop-set : (xs : List ℕ) (i d : ℕ) → i < length xs → drop i (set xs i d) ≡ d ∷ drop (suc i) xs
drop-set [] i d h = absurd (not-suc-le-zero h)
drop-set (x ∷ xs) zero d h = refl
drop-set (x ∷ xs) (suc i) d h = drop-set xs i d (le_of_suc-le-suc h)

-- ---- the walk from the lowest digit up: what is still to be spelt, and then what is spelt already, are the number's digits

abbrev pub Spelt : List ℕ → ℕ → ℕ → ℕ → Type 0
Spelt digits i rest n = decimal_by (i + 1) rest ++ drop (i + 1) digits ≡ decimal n

pub spelt_none : (digits : List ℕ) (n : ℕ) → length digits ≡ 20 → decimal_by 20 n ++ drop 20 digits ≡ decimal n
unfolding decimal
spelt_none digits n h = let end : drop 20 digits ≡ [] = drop_of_length-le digits (le_of_eq h) in rw end (append-nil (decimal_by 20 n))

pub spelt_more : (digits digits' : List ℕ) (i rest n d : ℕ) → 1 ≤ i → i < length digits → 10 ≤ rest → d ≡ 48 + rest % 10
    → digits' ≡ set digits i d → Spelt digits i rest n → Spelt digits' (i - 1) (rest / 10) n
spelt_more digits digits' i rest n d lo h t ed es inv =
    let e : i - 1 + 1 ≡ i = omega arith in
    rw (e, es, drop-set digits i d h, ed)
    (sym (append_snoc (decimal_by i (rest / 10)) (48 + rest % 10) (drop (suc i) digits)) ∙ (rw (add-one i, decimal_more i rest t) at inv))

pub spelt_last : (digits digits' : List ℕ) (i rest n d : ℕ) → i < length digits → rest < 10 → d ≡ 48 + rest % 10
    → digits' ≡ set digits i d → Spelt digits i rest n → drop i digits' ≡ decimal n
spelt_last digits digits' i rest n d h t ed es inv = rw (es, drop-set digits i d h, ed) (rw (add-one i, decimal_last i rest t) at inv)

-- what is left has so many digits at most
pub rest_fits : (i rest : ℕ) → 1 ≤ i → rest < 10 ^ (i + 1) → rest / 10 < 10 ^ (i - 1 + 1)
rest_fits zero rest lo h = absurd (omega arith)
rest_fits (suc i) rest lo h =
    let e : suc i - 1 + 1 ≡ i + 1 = omega arith in
    let p : 10 ^ (suc i + 1) ≡ 10 ^ (i + 1) * 10 = rw (add-one i, add-one (suc i)) (pow-suc 10 (suc i)) in
    rw e (omega arith)

pub more_left : (i rest : ℕ) → rest < 10 ^ (i + 1) → 10 ≤ rest → 1 ≤ i
more_left zero rest h t = absurd (omega arith)
more_left (suc i) rest h t = omega arith

-- the part of the space that is laid is the number's digits, all of them
pub spelt_laid : (digits room room' : List ℕ) (from n at : ℕ) → length digits ≡ 20 → drop from digits ≡ decimal n
    → room' ≡ over_at at (take (20 - from) (drop from digits)) room → Spells n at room (20 - from) room'
spelt_laid digits room room' from n at h e laid =
    let long : length (drop from digits) ≡ 20 - from = rw (length-drop from digits, h) refl in
    let all : take (20 - from) (drop from digits) ≡ decimal n = take_all (20 - from) (drop from digits) (omega arith) ∙ e in
    (sym long ∙ ap length e, laid ∙ ap (λ (l : List ℕ). over_at at l room) all)

-- ---- how long it can be

short_by : (k n : ℕ) → length (decimal_by k n) ≤ k
unfolding decimal_by
short_by zero n = omega arith
short_by (suc k) n = go (ltb n 10) (short_by k (n / 10))
  where
    go : (t : Bool) → length (decimal_by k (n / 10)) ≤ k → length (cond t [] (decimal_by k (n / 10)) ++ ((48 + n % 10) ∷ [])) ≤ suc k
    go true h = omega arith
    go false h = rw (length-append (decimal_by k (n / 10)) ((48 + n % 10) ∷ [])) (omega arith)

pub decimal_short : (n : ℕ) → length (decimal n) ≤ 20
unfolding decimal
decimal_short n = short_by 20 n

-- ---- pieces of a text

-- a piece, and the next one at the place behind it
pub puts_then : (x y : List ℕ) (at a b : ℕ) (room room₁ room₂ : List ℕ) → Puts x at room a room₁ → Puts y a room₁ b room₂ → Puts (x ++ y) at room b room₂
puts_then x y at a b room room₁ room₂ p q = (count, laid)
  where
    count : b ≡ at + length (x ++ y)
    count = let joined : length (x ++ y) ≡ length x + length y = length-append x y in omega (arith, p.0, q.0)

    laid : room₂ ≡ over_at at (x ++ y) room
    laid = q.1 ∙ ap₂ (λ (k : ℕ) (l : List ℕ). over_at k y l) p.0 p.1 ∙ over_at_append at x y room

pub spelled_short : (n at r : ℕ) (room room' : List ℕ) → Spells n at room r room' → r ≤ 20
spelled_short n at r room room' s = omega (arith, s.0, decimal_short n)

-- ---- computed: no leading zero, and all digits of the greatest number of 64 bits

pub spelt_so : (decimal 0 ≡ ascii "0") × (decimal 10305 ≡ ascii "10305") × (decimal 18446744073709551615 ≡ ascii "18446744073709551615")
unfolding decimal decimal_by
spelt_so = (refl, refl, refl)

-- ---- 01: "Show that any two outcomes allowed by it are equal."

pub spells_settled : (n at : ℕ) (room : List ℕ) → Settled {A = ℕ × List ℕ} (λ o. Spells n at room o.0 o.1)
spells_settled n at room = settled_with _ _

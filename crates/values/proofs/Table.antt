-- A rule of a table, shown at each of its places by one test that is computed over the whole.
-- Assumes nothing.
use mathlib.Core.Bool.{Bool, true, false, ◌&&◌}
use mathlib.Core.List.{List, [], ◌∷◌}
use Prim.Native.Nat.{ℕ, zero, suc, ◌<◌}
use native.Mathlib.Nat.{le_of_suc-le-suc, not-suc-le-zero}
use lib.Dec.{T}
use lib.ListN.{length, get_or}

pub both_left : (a b : Bool) → T (a && b) → T a
both_left true b t = tt
both_left false b t = absurd t

pub both_right : (a b : Bool) → T (a && b) → T b
both_right true b t = t
both_right false b t = absurd t

module _ {A : Type 0} (p : A → Bool) where
  abbrev pub every : List A → Bool
  every [] = true
  every (x ∷ xs) = p x && every xs

  pub at : (xs : List A) (d : A) → T (every xs) → (k : ℕ) → k < length xs → T (p (get_or xs k d))
  at [] d t k h = absurd (not-suc-le-zero h)
  at (x ∷ xs) d t zero h = both_left (p x) (every xs) t
  at (x ∷ xs) d t (suc k) h = at xs d (both_right (p x) (every xs) t) k (le_of_suc-le-suc h)

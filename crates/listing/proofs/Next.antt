-- The next byte of a kind.
-- Assumes nothing.
use mathlib.Core.Path.{◌≡◌, refl}
use mathlib.Core.Bool.{Bool, true, false, cond}
use mathlib.Core.List.{List, [], ◌∷◌}
use Prim.Native.Nat.{ℕ, zero, suc, ◌≤◌, ◌<◌}
use native.Mathlib.Nat.{le_of_suc-le-suc, not-suc-le-zero}
use lib.ListN.{length, get_or}
use Rattle.listing.specs.Events.{to_next}

module _ (is : ℕ → Bool) where
  pub next-none : to_next is [] ≡ 0
  unfolding to_next
  next-none = refl

  -- a byte before it is not one
  pub before_next : (b : ℕ) (rest : List ℕ) (k : ℕ) → suc k ≤ to_next is (b ∷ rest) → (is b ≡ false) × (k ≤ to_next is rest)
  unfolding to_next
  before_next b rest k h = go (is b) refl h
    where
      go : (t : Bool) → is b ≡ t → suc k ≤ cond t 0 (suc (to_next is rest)) → (is b ≡ false) × (k ≤ to_next is rest)
      go true e l = absurd (not-suc-le-zero l)
      go false e l = (e, le_of_suc-le-suc l)

  pub none_before : (xs : List ℕ) (i : ℕ) → i < to_next is xs → is (get_or xs i 0) ≡ false
  unfolding to_next
  none_before [] i h = absurd (not-suc-le-zero h)
  none_before (b ∷ rest) zero h = (before_next b rest 0 h).0
  none_before (b ∷ rest) (suc i) h = none_before rest i (before_next b rest (suc i) h).1

  -- and there stands one
  pub next_there : (xs : List ℕ) → to_next is xs < length xs → is (get_or xs (to_next is xs) 0) ≡ true
  unfolding to_next
  next_there [] h = absurd (not-suc-le-zero h)
  next_there (b ∷ rest) h = go (is b) refl (next_there rest) h
    where
      go : (t : Bool) → is b ≡ t → (to_next is rest < length rest → is (get_or rest (to_next is rest) 0) ≡ true) → cond t 0 (suc (to_next is rest)) < suc (length rest)
          → is (get_or (b ∷ rest) (cond t 0 (suc (to_next is rest))) 0) ≡ true
      go true e ih l = e
      go false e ih l = ih (le_of_suc-le-suc l)

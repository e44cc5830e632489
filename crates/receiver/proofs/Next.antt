-- The next byte of a kind, as the library's `position` finds it.
-- Assumes nothing.
use mathlib.Core.Path.{◌≡◌, refl, sym}
use mathlib.Core.Bool.{Bool, true, false}
use mathlib.Core.List.{List, [], ◌∷◌}
use Prim.Native.Nat.{ℕ, suc, ◌+◌, ◌≤◌, ◌<◌}
use native.Mathlib.Omega.{arith}
use lib.ListN.{length}
use Rattle.std.proofs.Common.{Option, None, Some, MatchOption, HoldsAt, unwrap_or}
use Rattle.std.specs.List.{AllWithin}
use Rattle.std.proofs.lemmas.Iterator.{index_from_first}
use Rattle.listing.specs.Events.{to_next}

next_here : (is : ℕ → Bool) (b : ℕ) (rest : List ℕ) → is b ≡ true → to_next is (b ∷ rest) ≡ 0
unfolding to_next
next_here is b rest e = rw e

next_past : (is : ℕ → Bool) (b : ℕ) (rest : List ℕ) → is b ≡ false → to_next is (b ∷ rest) ≡ to_next is rest + 1
unfolding to_next
next_past is b rest e = let on : suc (to_next is rest) ≡ to_next is rest + 1 = omega arith in rw e on

none_there : (is : ℕ → Bool) → to_next is [] ≡ 0
unfolding to_next
none_there is = refl

-- its answer, or the length where there is none
pub next_found : (is : ℕ → Bool) (xs : List ℕ) (r : Option ℕ)
    → MatchOption r (AllWithin (λ b. is b ≡ false) xs 0 (length xs)) (λ i. (i < length xs) × HoldsAt (λ b. is b ≡ true) xs i × AllWithin (λ b. is b ≡ false) xs 0 i)
    → (unwrap_or r (length xs) ≡ to_next is xs) × (unwrap_or r (length xs) ≤ length xs)
next_found is xs None found = (sym (index_from_first (to_next is) (λ b. is b ≡ true) (λ b. is b ≡ false) (none_there is) (next_here is) (next_past is) xs None found), omega arith)
next_found is xs (Some i) found = (sym (index_from_first (to_next is) (λ b. is b ≡ true) (λ b. is b ≡ false) (none_there is) (next_here is) (next_past is) xs (Some i) found), omega (arith, found.0))

-- Each kind's ends in plain figures: one test of the whole list, and what follows of every number.
-- Assumes nothing.
use mathlib.Core.Path.{◌≡◌, refl, sym, ap, ap₂, ◌∙◌}
use mathlib.Core.Bool.{Bool, true, false, cond, not, ◌&&◌, true≢false}
use mathlib.Core.List.{List, [], ◌∷◌}
use Prim.Native.Nat.{ℕ, zero, suc, ◌+◌, ◌-◌, ◌≤◌, ◌<◌}
use native.Mathlib.Nat.{le_of_suc-le-suc, not-suc-le-zero}
use native.Mathlib.Omega.{arith}
use borrow.Author.Tests.{leb-true, leb-false, not-true}
use lib.Dec.{T, leb, leb-zero}
use lib.IntN.{ℤ, pos, negsuc, pred_ℤ, suc_ℤ}
use lib.ListN.{length, get_or}
use lib.Signed.{le_z_yes}
use Rattle.rows.proofs.Laws.{Decides, decides_as, told_true}
use Rattle.values.specs.Values.{size_of, is_signed, greatest, fits, integer, Ends, up_to, ends, ends_of, Within, takes, takes_ends, all_take_ends}
use Rattle.values.specs.declared.Value.{Value}
use Rattle.values.specs.declared.Value.TheVariants.{Natural, Negative}
use Rattle.values.proofs.Table.{both_left, both_right}

-- the one test of the whole list
pub checked : T (all_take_ends 1 ends)
unfolding all_take_ends takes_ends takes fits greatest size_of is_signed
checked = tt

ends_at : (kind : ℕ) (es : List Ends) → T (all_take_ends kind es) → (k n : ℕ) → n ≡ kind + k → k < length es → T (takes_ends n (get_or es k (up_to 0)))
unfolding all_take_ends
ends_at kind [] t k n is h = absurd (not-suc-le-zero h)
ends_at kind (e ∷ es) t zero n is h =
    let same : n ≡ kind = omega arith in
    rw same (both_left (takes_ends kind e) (all_take_ends (suc kind) es) t)
ends_at kind (e ∷ es) t (suc k) n is h =
    ends_at (suc kind) es (both_right (takes_ends kind e) (all_take_ends (suc kind) es) t) k n (omega arith) (le_of_suc-le-suc h)

ends_taken : (kind : ℕ) → 1 ≤ kind → kind ≤ 7 → T (takes_ends kind (ends_of kind))
ends_taken kind low high = ends_at 1 ends checked (kind - 1) kind (omega arith) (omega arith)

-- ---- the numbers that a kind takes lie between two ends

-- the ends by the sign and the greatest number
abbrev between : Bool → ℕ → Ends
between true g = record { least = negsuc g; most = pos g }
between false g = up_to g

abbrev inside : Bool → ℕ → ℤ → Bool
inside s g (pos n) = leb n g
inside s g (negsuc n) = cond s (leb n g) false

decides_T : (b : Bool) → Decides b (T b)
decides_T true = record { so = λ e. tt; not_so = λ e. absurd (true≢false e) }
decides_T false = record { so = λ e. absurd (true≢false (sym e)); not_so = λ e h. h }

decides_inside : (s : Bool) (g : ℕ) (z : ℤ) → Decides (inside s g z) (Within (between s g) z)
decides_inside true g (pos n) = decides_as (decides_T (leb n g)) (λ t. (le_z_yes tt, le_z_yes t)) (λ w. w.1.le)
decides_inside true g (negsuc n) = decides_as (decides_T (leb n g)) (λ t. (le_z_yes t, le_z_yes tt)) (λ w. w.0.le)
decides_inside false g (pos n) = decides_as (decides_T (leb n g)) (λ t. (le_z_yes ((decides_T (leb 0 n)).so (leb-zero n)), le_z_yes t)) (λ w. w.1.le)
decides_inside false g (negsuc n) = record { so = λ e. absurd (true≢false (sym e)); not_so = λ e w. w.0.le }

-- where an end is taken and the next number is not, it is that end
least_is : (s : Bool) (g : ℕ) (z : ℤ) → inside s g z ≡ true → inside s g (pred_ℤ z) ≡ false → z ≡ (between s g).least
least_is s g (pos (suc n)) t f = absurd (omega (arith, leb-true (suc n) g t, leb-false n g f))
least_is true g (pos zero) t f = absurd (true≢false (sym (leb-zero g) ∙ f))
least_is false g (pos zero) t f = refl
least_is true g (negsuc n) t f = let same : n ≡ g = omega (arith, leb-true n g t, leb-false (suc n) g f) in ap negsuc same
least_is false g (negsuc n) t f = absurd (true≢false (sym t))

most_is : (s : Bool) (g : ℕ) (z : ℤ) → inside s g z ≡ true → inside s g (suc_ℤ z) ≡ false → z ≡ (between s g).most
most_is true g (pos n) t f = let same : n ≡ g = omega (arith, leb-true n g t, leb-false (suc n) g f) in ap pos same
most_is false g (pos n) t f = let same : n ≡ g = omega (arith, leb-true n g t, leb-false (suc n) g f) in ap pos same
most_is s g (negsuc zero) t f = absurd (true≢false (sym (leb-zero g) ∙ f))
most_is true g (negsuc (suc n)) t f = absurd (omega (arith, leb-true (suc n) g t, leb-false n g f))
most_is false g (negsuc (suc n)) t f = absurd (true≢false (sym t))

-- ---- so a kind takes what lies between its ends

takes_inside : (kind : ℕ) (z : ℤ) → takes kind z ≡ inside (is_signed kind) (greatest kind) z
unfolding takes fits
takes_inside kind (pos n) = refl
takes_inside kind (negsuc n) = refl

fits_inside : (kind : ℕ) (value : Value) → fits kind value ≡ inside (is_signed kind) (greatest kind) (integer value)
unfolding fits integer
fits_inside kind (Natural n) = refl
fits_inside kind (Negative n) = refl

ends_between : (kind : ℕ) (e : Ends) → T (takes_ends kind e) → e ≡ between (is_signed kind) (greatest kind)
unfolding takes_ends
ends_between kind e t =
    ap₂ (λ (l m : ℤ). record { least = l; most = m })
    (least_is _ _ e.least (taken e.least first) (missed (pred_ℤ e.least) (both_left (not below) _ third)))
    (most_is _ _ e.most (taken e.most (both_left (takes kind e.most) _ second)) (missed (suc_ℤ e.most) (both_right (not below) _ third)))
  where
    below : Bool
    below = takes kind (pred_ℤ e.least)

    first : T (takes kind e.least)
    first = both_left (takes kind e.least) _ t

    second : T (takes kind e.most && (not below && not (takes kind (suc_ℤ e.most))))
    second = both_right (takes kind e.least) _ t

    third : T (not below && not (takes kind (suc_ℤ e.most)))
    third = both_right (takes kind e.most) _ second

    taken : (z : ℤ) → T (takes kind z) → inside (is_signed kind) (greatest kind) z ≡ true
    taken z h = sym (takes_inside kind z) ∙ told_true (decides_T (takes kind z)) h

    missed : (z : ℤ) → T (not (takes kind z)) → inside (is_signed kind) (greatest kind) z ≡ false
    missed z h = sym (takes_inside kind z) ∙ not-true _ (told_true (decides_T (not (takes kind z))) h)

pub decides_within : (kind : ℕ) (value : Value) → 1 ≤ kind → kind ≤ 7 → Decides (fits kind value) (Within (ends_of kind) (integer value))
decides_within kind value low high =
    rw (fits_inside kind value, ends_between kind (ends_of kind) (ends_taken kind low high))
    (decides_inside (is_signed kind) (greatest kind) (integer value))

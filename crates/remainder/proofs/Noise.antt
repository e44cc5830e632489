-- 02, #111: an odd number of altered bits is seen, and so are two that stand less than 32767 places apart; no further.
-- Assumes nothing.
use mathlib.Core.Path.{◌≡◌, refl, sym, ap, ◌∙◌}
use mathlib.Core.Logic.{◌≢◌, ◌↔◌}
use mathlib.Core.List.{List, [], ◌∷◌, ◌++◌, append_assoc}
use Prim.Native.Nat.{ℕ, zero, suc, ◌+◌, ◌-◌, ◌*◌, ◌%◌, ◌^◌, ◌≤◌, ◌<◌}
use native.Mathlib.Nat.{suc_inj, one-mul}
use native.Mathlib.Omega.{arith}
use native.Mathlib.Decide.{ℕ_discrete}
use borrow.Author.Tests.{eq-eqb, ne_eqb}
use lib.Bits.{xor_self, xor_shifted}
use lib.ListN.{length, get_or, length-append}
use lib.Pow.{pow-add, pow-lt}
use lib.Seq.{get_or-append_seam}
use Rattle.remainder.specs.Remainder.{◌⊕◌, bits_of, bits, polynomial, Leaves, times_xs, remainder_of, combined, DifferAt, AlteredNearby}
use Rattle.remainder.specs.Noise.{differing, bits_altered, AlteredOddly, AlteredInTwo}
use Rattle.remainder.proofs.Sum.{sum-zero, unlike_digits}
use Rattle.remainder.proofs.Division.{leaves_one, leaves_self, leaves_sum, leaves_times_xs, unshifts}
use Rattle.remainder.proofs.Bytes.{Digits, polynomial_zeros, length-bits, digits_bits, bits_append, bits_combined, length-combined}
use Rattle.remainder.proofs.Laws.{is_remainder, only_remainder, zeros_stay, same_bits, bit_combined, differ_one}
use Rattle.remainder.proofs.Nearby.{seventeen_not}
use Rattle.remainder.proofs.Parity.{ones, parity_seen}
use Rattle.remainder.proofs.Order.{order_32767, order_least}

-- ---- 02, #111: "in an odd number of bits", "in exactly two bits": in how many places two lists of bits differ, place by place; in none where they
-- are the same; and either way round

pub differing_none : differing [] [] ≡ 0
unfolding differing
differing_none = refl

pub differing_alike : (c : ℕ) (cs ds : List ℕ) → differing (c ∷ cs) (c ∷ ds) ≡ differing cs ds
unfolding differing
differing_alike c cs ds = rw (eq-eqb c c refl) (omega arith)

pub differing_unlike : (c d : ℕ) (cs ds : List ℕ) → c ≢ d → differing (c ∷ cs) (d ∷ ds) ≡ differing cs ds + 1
unfolding differing
differing_unlike c d cs ds n = rw (ne_eqb c d n) (omega arith)

pub differing_same : (cs : List ℕ) → differing cs cs ≡ 0
differing_same [] = differing_none
differing_same (c ∷ cs) = differing_alike c cs cs ∙ differing_same cs

pub differing_sym : (cs ds : List ℕ) → length cs ≡ length ds → differing cs ds ≡ differing ds cs
differing_sym [] [] e = refl
differing_sym [] (d ∷ ds) e = absurd (omega arith)
differing_sym (c ∷ cs) [] e = absurd (omega arith)
differing_sym (c ∷ cs) (d ∷ ds) e =
    let rest : differing cs ds ≡ differing ds cs = differing_sym cs ds (suc_inj e) in
    elim (ℕ_discrete c d) [
      | yes alike ↦ rw alike (differing_alike d cs ds ∙ rest ∙ sym (differing_alike d ds cs))
      | no unlike ↦
          differing_unlike c d cs ds unlike ∙ ap (λ (n : ℕ). n + 1) rest
          ∙ sym (differing_unlike d c ds cs (λ e. unlike (sym e)))
    ]

-- the altered bits are the ones of the difference

differing_ones : (cs ds : List ℕ) → length cs ≡ length ds → Digits cs → Digits ds → differing cs ds ≡ ones (combined cs ds)
unfolding combined ones
differing_ones [] [] e hc hd = differing_none
differing_ones [] (d ∷ ds) e hc hd = absurd (omega arith)
differing_ones (c ∷ cs) [] e hc hd = absurd (omega arith)
differing_ones (c ∷ cs) (d ∷ ds) e hc hd =
    let rest : differing cs ds ≡ ones (combined cs ds) = differing_ones cs ds (suc_inj e) (λ i. hc (suc i)) (λ i. hd (suc i)) in
    elim (ℕ_discrete c d) [
      | yes alike ↦
          let none : c ⊕ d ≡ 0 = ap (λ (x : ℕ). x ⊕ d) alike ∙ xor_self d in
          let count : differing (c ∷ cs) (d ∷ ds) ≡ differing cs ds = rw alike (differing_alike d cs ds) in
          omega arith
      | no unlike ↦
          let one : c ⊕ d ≡ 1 = unlike_digits c d (hc 0) (hd 0) unlike in
          let count : differing (c ∷ cs) (d ∷ ds) ≡ differing cs ds + 1 = differing_unlike c d cs ds unlike in
          omega arith
    ]

altered_ones : (xs ys : List ℕ) → length xs ≡ length ys → bits_altered xs ys ≡ ones (bits (combined xs ys))
altered_ones xs ys same =
    differing_ones (bits xs) (bits ys) (same_bits xs ys same) (digits_bits xs) (digits_bits ys)
    ∙ ap ones (sym (bits_combined xs ys same))

-- ---- 02, #111: "altered in an odd number of bits": seen, for a string of any length

pub odd_seen : {xs ys : List ℕ} → AlteredOddly xs ys → remainder_of (combined xs ys) ≢ 0
odd_seen {xs} {ys} a =
    parity_seen (combined xs ys) (ap (λ (n : ℕ). n % 2) (sym (altered_ones xs ys a.same_length)) ∙ a.odd)

-- ---- one one, or two, among some bits

-- a one at i, and no other
abbrev OneOne : List ℕ → ℕ → Type 0
OneOne cs i = (get_or cs i 0 ≡ 1) × ((k : ℕ) → k ≢ i → get_or cs k 0 ≡ 0)

-- a one at i and a one at j, and no other
abbrev pub TwoOnes : List ℕ → ℕ → ℕ → Type 0
TwoOnes cs i j = (get_or cs i 0 ≡ 1) × (get_or cs j 0 ≡ 1) × ((k : ℕ) → k ≢ i → k ≢ j → get_or cs k 0 ≡ 0)

-- how many they are, and what they are as a polynomial

zeros_counted : (cs : List ℕ) → ((k : ℕ) → get_or cs k 0 ≡ 0) → ones cs ≡ 0
unfolding ones
zeros_counted [] z = refl
zeros_counted (c ∷ cs) z = omega (arith, z 0, zeros_counted cs (λ k. z (suc k)))

one_counted : (cs : List ℕ) (i : ℕ) → OneOne cs i → (k : ℕ) × (length cs ≡ i + suc k) × (polynomial cs ≡ 2 ^ k) × (ones cs ≡ 1)
unfolding polynomial ones
one_counted [] i o = absurd (omega (arith, o.0))
one_counted (c ∷ cs) zero o =
    let one : c ≡ 1 = o.0 in
    let rest : (k : ℕ) → get_or cs k 0 ≡ 0 = λ k. o.1 (suc k) (λ e. omega (arith, e)) in
    (length cs, omega arith, rw (one, polynomial_zeros cs rest) (omega arith), omega (arith, one, zeros_counted cs rest))
one_counted (c ∷ cs) (suc i) o =
    let none : c ≡ 0 = o.1 0 (λ e. omega (arith, e)) in
    let w = one_counted cs i (o.0, λ k n. o.1 (suc k) (λ e. n (suc_inj e))) in
    (w.0, omega (arith, w.1), rw (none, w.2) (omega arith), omega (arith, none, w.3))

two_counted : (cs : List ℕ) (i j : ℕ) → i < j → TwoOnes cs i j
    → (d : ℕ) × (k : ℕ) × (i + d ≡ j) × (polynomial cs ≡ (2 ^ d + 1) * 2 ^ k) × (ones cs ≡ 2)
unfolding polynomial ones
two_counted [] i j h o = absurd (omega (arith, o.0))
two_counted (c ∷ cs) i zero h o = absurd (omega arith)
two_counted (c ∷ cs) zero (suc j) h o =
    let one : c ≡ 1 = o.0 in
    let w = one_counted cs j (o.1, λ k n. o.2 (suc k) (λ e. omega (arith, e)) (λ e. n (suc_inj e))) in
    let far : length cs ≡ suc j + w.0 = omega (arith, w.1) in (
      suc j,
      w.0,
      omega arith,
      rw (one, far, w.2, pow-add 2 (suc j) w.0) (regroup (2 ^ suc j) (2 ^ w.0)),
      omega (arith, one, w.3),
    )
  where
    regroup : (p q : ℕ) → 1 * (p * q) + q ≡ (p + 1) * q
    regroup p q = omega arith
two_counted (c ∷ cs) (suc i) (suc j) h o =
    let none : c ≡ 0 = o.2 0 (λ e. omega (arith, e)) (λ e. omega (arith, e)) in
    let w = two_counted cs i j (omega arith) (o.0, o.1, λ k m n. o.2 (suc k) (λ e. m (suc_inj e)) (λ e. n (suc_inj e))) in
    (w.0, w.1, omega (arith, w.2), rw (none, w.3) (omega arith), omega (arith, none, w.4))

-- and where they stand

none_there : (cs : List ℕ) → ones cs ≡ 0 → (k : ℕ) → get_or cs k 0 ≡ 0
unfolding ones
none_there [] e k = refl
none_there (c ∷ cs) e zero = omega arith
none_there (c ∷ cs) e (suc k) = none_there cs (omega arith) k

-- of the first place, and of those behind it
at_each : (P : ℕ → Type 0) → P 0 → ((k : ℕ) → P (suc k)) → (k : ℕ) → P k
at_each P first behind zero = first
at_each P first behind (suc k) = behind k

one_there : (cs : List ℕ) → ones cs ≡ 1 → (i : ℕ) × (i < length cs) × OneOne cs i
unfolding ones
one_there [] e = absurd (omega arith)
one_there (zero ∷ cs) e =
    let w = one_there cs (omega arith) in
    (suc w.0, omega (arith, w.1), (w.2.0, at_each _ (λ n. refl) (λ k n. w.2.1 k (λ e. n (ap suc e)))))
one_there (suc zero ∷ cs) e = (0, omega arith, (refl, at_each _ (λ n. absurd (n refl)) (λ k n. none_there cs (omega arith) k)))
one_there (suc (suc c) ∷ cs) e = absurd (omega arith)

two_there : (cs : List ℕ) → Digits cs → ones cs ≡ 2 → (i : ℕ) × (j : ℕ) × (i < j) × (j < length cs) × TwoOnes cs i j
unfolding ones
two_there [] d e = absurd (omega arith)
two_there (zero ∷ cs) d e =
    let w = two_there cs (λ i. d (suc i)) (omega arith) in
    let others : (k : ℕ) → k ≢ suc w.0 → k ≢ suc w.1 → get_or (zero ∷ cs) k 0 ≡ 0 =
    at_each _ (λ m n. refl) (λ k m n. w.4.2 k (λ e. m (ap suc e)) (λ e. n (ap suc e))) in
    (suc w.0, suc w.1, omega (arith, w.2), omega (arith, w.3), (w.4.0, w.4.1, others))
two_there (suc zero ∷ cs) d e =
    let w = one_there cs (omega arith) in
    let others : (k : ℕ) → k ≢ 0 → k ≢ suc w.0 → get_or (1 ∷ cs) k 0 ≡ 0 =
    at_each _ (λ m n. absurd (m refl)) (λ k m n. w.2.1 k (λ e. n (ap suc e))) in
    (0, suc w.0, omega arith, omega (arith, w.1), (refl, w.2.0, others))
two_there (suc (suc c) ∷ cs) d e = absurd (let h : suc (suc c) < 2 = d 0 in omega arith)

-- ---- two ones have the remainder 0 exactly when x to their distance leaves 1

distance_leaves : (d : ℕ) → 0 < d → Leaves (2 ^ d + 1) (times_xs d 1 ⊕ 1)
distance_leaves d pos =
    let e : 1 * 2 ^ d ⊕ 1 ≡ 2 ^ d + 1 = xor_shifted 1 d 1 (pow-lt {i = 0} {j = d} pos) ∙ ap (λ (x : ℕ). x + 1) (one-mul (2 ^ d)) in
    let one : Leaves 1 1 = leaves_self 1 (omega arith) in
    rw e at (leaves_sum (leaves_times_xs d one) one)

pub two_ones : (es : List ℕ) (i j : ℕ) → i < j → TwoOnes (bits es) i j → (remainder_of es ≡ 0) ↔ (times_xs (j - i) 1 ≡ 1)
two_ones es i j apart o =
    let w = two_counted (bits es) i j apart o in
    let far : w.0 ≡ j - i = omega (arith, w.2) in
    let left : Leaves (2 ^ (j - i) + 1) (times_xs (j - i) 1 ⊕ 1) = distance_leaves (j - i) (omega arith) in
    let whole : polynomial (bits es) ≡ (2 ^ (j - i) + 1) * 2 ^ w.1 = rw far at w.3 in (
      λ none.
          let divided : Leaves ((2 ^ (j - i) + 1) * 2 ^ w.1) 0 = rw whole at (unshifts 16 (rw none at (is_remainder es))) in
          sum-zero (times_xs (j - i) 1) 1 (leaves_one left (unshifts w.1 divided)),
      λ one.
          let divided : Leaves (2 ^ (j - i) + 1) 0 = rw one at left in
          let shifted : Leaves (polynomial (bits es)) 0 = rw (whole, ← zeros_stay w.1) (leaves_times_xs w.1 divided) in
          sym (only_remainder es (rw (← zeros_stay 16) (leaves_times_xs 16 shifted))),
    )

-- less than 32767 places apart they are seen
pub two_apart : (es : List ℕ) (i j : ℕ) → i < j → j < i + 32767 → TwoOnes (bits es) i j → remainder_of es ≢ 0
two_apart es i j apart near o none = order_least (j - i) (omega arith) (omega arith) ((two_ones es i j apart o).0 none)

-- ---- 02, #111: "one altered in exactly two bits, anywhere": which two places

-- the strings differ at i and at j, and nowhere else
abbrev pub DifferOnlyAt : List ℕ → List ℕ → ℕ → ℕ → Type 0
DifferOnlyAt xs ys i j = DifferAt xs ys i × DifferAt xs ys j × ((k : ℕ) → k ≢ i → k ≢ j → get_or (bits xs) k 0 ≡ get_or (bits ys) k 0)

module _ (xs ys : List ℕ) (same : length xs ≡ length ys) where
  alike_zero : (k : ℕ) → get_or (bits xs) k 0 ≡ get_or (bits ys) k 0 → get_or (bits (combined xs ys)) k 0 ≡ 0
  alike_zero k e = bit_combined xs ys same k ∙ ap (λ (c : ℕ). c ⊕ get_or (bits ys) k 0) e ∙ xor_self (get_or (bits ys) k 0)

  two_ones_of : (i j : ℕ) → DifferOnlyAt xs ys i j → TwoOnes (bits (combined xs ys)) i j
  two_ones_of i j w = ((differ_one xs ys same i).0 w.0, (differ_one xs ys same j).0 w.1, λ k m n. alike_zero k (w.2 k m n))

  -- exactly one altered bit is an odd number of them
  pub odd_one : (i : ℕ) → DifferAt xs ys i → ((k : ℕ) → k ≢ i → get_or (bits xs) k 0 ≡ get_or (bits ys) k 0) → AlteredOddly xs ys
  odd_one i differs others =
      let w = one_counted (bits (combined xs ys)) i ((differ_one xs ys same i).0 differs, λ k n. alike_zero k (others k n)) in
      record { same_length = same; odd = ap (λ (n : ℕ). n % 2) (altered_ones xs ys same ∙ w.3) }

  in_two : (i j : ℕ) → i < j → DifferOnlyAt xs ys i j → AlteredInTwo xs ys
  in_two i j apart w =
      record { same_length = same; two = altered_ones xs ys same ∙ (two_counted (bits (combined xs ys)) i j apart (two_ones_of i j w)).4 }

-- both ways, and nothing else is asked: two equally long strings that differ in an odd number of places
pub odd_plainly : (xs ys : List ℕ) → AlteredOddly xs ys ↔ ((length xs ≡ length ys) × (differing (bits xs) (bits ys) % 2 ≡ 1))
odd_plainly xs ys = (λ a. (a.same_length, a.odd), λ p. record { same_length = p.0; odd = p.1 })

-- any two places will do, written out
pub two_anywhere : (xs ys : List ℕ) → length xs ≡ length ys → (i j : ℕ) → i < j
    → get_or (bits xs) i 0 ≢ get_or (bits ys) i 0 → get_or (bits xs) j 0 ≢ get_or (bits ys) j 0
    → ((k : ℕ) → k ≢ i → k ≢ j → get_or (bits xs) k 0 ≡ get_or (bits ys) k 0) → AlteredInTwo xs ys
two_anywhere xs ys same i j apart here there others = in_two xs ys same i j apart (here, there, others)

-- both ways: two equally long strings that differ in exactly two places
pub two_plainly : (xs ys : List ℕ) → AlteredInTwo xs ys
    ↔ ((length xs ≡ length ys) × (i : ℕ) × (j : ℕ) × (i < j) × (j < 8 * length xs) × DifferOnlyAt xs ys i j)
two_plainly xs ys = (there, λ p. in_two xs ys p.0 p.1 p.2 p.3 p.5)
  where
    there : AlteredInTwo xs ys → (length xs ≡ length ys) × (i : ℕ) × (j : ℕ) × (i < j) × (j < 8 * length xs) × DifferOnlyAt xs ys i j
    there a =
        let same : length xs ≡ length ys = a.same_length in
        let w = two_there (bits (combined xs ys)) (digits_bits (combined xs ys)) (sym (altered_ones xs ys same) ∙ a.two) in
        let alike : (k : ℕ) → k ≢ w.0 → k ≢ w.1 → get_or (bits xs) k 0 ≡ get_or (bits ys) k 0 =
        λ k m n. sum-zero _ _ (sym (bit_combined xs ys same k) ∙ w.4.2 k m n) in (
          same,
          w.0,
          w.1,
          w.2,
          omega (arith, w.3, length-bits (combined xs ys), length-combined xs ys same),
          ((differ_one xs ys same w.0).1 w.4.0, (differ_one xs ys same w.1).1 w.4.1, alike),
        )

-- ---- 02, #111: "one altered in exactly two bits, anywhere in its up to 1,968 bits": seen, for a string of up to 32767 bits

pub two_seen : {xs ys : List ℕ} → AlteredInTwo xs ys → 8 * length xs ≤ 32767 → remainder_of (combined xs ys) ≢ 0
two_seen {xs} {ys} a short =
    let w = (two_plainly xs ys).0 a in
    two_apart (combined xs ys) w.1 w.2 w.3 (omega (arith, w.4)) (two_ones_of xs ys w.0 w.1 w.2 w.5)

-- so any two bits of 4095 bytes are
pub seen_below : {xs ys : List ℕ} → AlteredInTwo xs ys → length xs ≡ 4095 → remainder_of (combined xs ys) ≢ 0
seen_below a long = two_seen a (omega arith)

-- where the bound lies: two bits exactly 32767 places apart are not seen
pub unseen_apart : (xs ys : List ℕ) → length xs ≡ length ys → (i : ℕ) → DifferOnlyAt xs ys i (i + 32767)
    → AlteredInTwo xs ys × (remainder_of (combined xs ys) ≡ 0)
unseen_apart xs ys same i w =
    let apart : i < i + 32767 = omega arith in
    let far : i + 32767 - i ≡ 32767 = omega arith in (
      in_two xs ys same i (i + 32767) apart w,
      (two_ones (combined xs ys) i (i + 32767) apart (two_ones_of xs ys same i (i + 32767) w)).1 (rw far order_32767),
    )

-- so the first and the last bit of 4096 bytes, altered, are not, whatever stands between them
module _ (between : List ℕ) (long : length between ≡ 4094) where
  middle : List ℕ
  middle = 0 ∷ 0 ∷ 0 ∷ 0 ∷ 0 ∷ 0 ∷ 0 ∷ (bits between ++ 0 ∷ 0 ∷ 0 ∷ 0 ∷ 0 ∷ 0 ∷ 0 ∷ [])

  neither : bits (0 ∷ between ++ 0 ∷ []) ≡ 0 ∷ middle ++ 0 ∷ []
  unfolding bits bits_of middle
  neither =
      ap (λ (r : List ℕ). 0 ∷ 0 ∷ 0 ∷ 0 ∷ 0 ∷ 0 ∷ 0 ∷ 0 ∷ r)
      (bits_append between (0 ∷ []) ∙ sym (append_assoc (bits between) (0 ∷ 0 ∷ 0 ∷ 0 ∷ 0 ∷ 0 ∷ 0 ∷ []) (0 ∷ [])))

  both : bits (128 ∷ between ++ 1 ∷ []) ≡ 1 ∷ middle ++ 1 ∷ []
  unfolding bits bits_of middle
  both =
      ap (λ (r : List ℕ). 1 ∷ 0 ∷ 0 ∷ 0 ∷ 0 ∷ 0 ∷ 0 ∷ 0 ∷ r)
      (bits_append between (1 ∷ []) ∙ sym (append_assoc (bits between) (0 ∷ 0 ∷ 0 ∷ 0 ∷ 0 ∷ 0 ∷ 0 ∷ []) (1 ∷ [])))

  last : length middle ≡ 32766
  unfolding middle
  last = omega (arith, length-append (bits between) (0 ∷ 0 ∷ 0 ∷ 0 ∷ 0 ∷ 0 ∷ 0 ∷ []), length-bits between)

  at_last : (c : ℕ) → get_or (c ∷ middle ++ c ∷ []) 32767 0 ≡ c
  at_last c = let e : 32767 ≡ suc (length middle) = omega (arith, last) in rw e (get_or-append_seam middle c [] 0)

  pub unseen_ends : AlteredInTwo (0 ∷ between ++ 0 ∷ []) (128 ∷ between ++ 1 ∷ [])
      × (remainder_of (combined (0 ∷ between ++ 0 ∷ []) (128 ∷ between ++ 1 ∷ [])) ≡ 0)
  unseen_ends =
      unseen_apart (0 ∷ between ++ 0 ∷ []) (128 ∷ between ++ 1 ∷ []) lengths 0
      (rw (neither, both) (λ e. omega (arith, e), λ e. omega (arith, e, at_last 0, at_last 1), others))
    where
      lengths : length (0 ∷ between ++ 0 ∷ []) ≡ length (128 ∷ between ++ 1 ∷ [])
      lengths = ap suc (length-append between (0 ∷ []) ∙ sym (length-append between (1 ∷ [])))

      but_last : (cs : List ℕ) (k : ℕ) → k ≢ length cs → get_or (cs ++ 0 ∷ []) k 0 ≡ get_or (cs ++ 1 ∷ []) k 0
      but_last [] zero n = absurd (n refl)
      but_last [] (suc k) n = refl
      but_last (c ∷ cs) zero n = refl
      but_last (c ∷ cs) (suc k) n = but_last cs k (λ e. n (ap suc e))

      others : (k : ℕ) → k ≢ 0 → k ≢ 32767 → get_or (0 ∷ middle ++ 0 ∷ []) k 0 ≡ get_or (1 ∷ middle ++ 1 ∷ []) k 0
      others = at_each _ (λ m n. absurd (m refl)) (λ k m n. but_last middle k (λ e. n (omega (arith, e, last))))

-- ---- computed

-- T8 of 01: the message of T1 with its last bit altered
pub one_altered : AlteredOddly (15 ∷ 162 ∷ 4 ∷ 102 ∷ 199 ∷ 182 ∷ []) (15 ∷ 162 ∷ 4 ∷ 102 ∷ 199 ∷ 183 ∷ [])
unfolding differing bits bits_of
one_altered = record { same_length = refl; odd = refl }

-- three bits, the first and the last of them 16 places apart
pub three_altered : AlteredOddly (0 ∷ 0 ∷ 0 ∷ []) (128 ∷ 1 ∷ 128 ∷ []) × (AlteredInTwo (0 ∷ 0 ∷ 0 ∷ []) (128 ∷ 1 ∷ 128 ∷ []) → ⊥)
unfolding differing bits bits_of
three_altered = (record { same_length = refl; odd = refl }, λ a. omega (arith, a.two))

-- two bits 16 places apart: neither an odd number of bits nor within 16 neighbouring ones
pub two_altered : AlteredInTwo (0 ∷ 0 ∷ 0 ∷ []) (128 ∷ 0 ∷ 128 ∷ []) × (AlteredOddly (0 ∷ 0 ∷ 0 ∷ []) (128 ∷ 0 ∷ 128 ∷ []) → ⊥)
    × (AlteredNearby (0 ∷ 0 ∷ 0 ∷ []) (128 ∷ 0 ∷ 128 ∷ []) → ⊥)
unfolding differing bits bits_of
two_altered = (record { same_length = refl; two = refl }, λ a. omega (arith, a.odd), seventeen_not)

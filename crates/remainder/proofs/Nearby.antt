-- An alteration within 16 neighbouring bits, by the first and the last bit that differ, and examples of it.
-- Assumes nothing.
use mathlib.Core.Path.{◌≡◌, refl, sym, ap, ◌∙◌}
use mathlib.Core.Logic.{◌≢◌, ◌↔◌}
use mathlib.Core.List.{List, [], ◌∷◌}
use Prim.Native.Nat.{ℕ, zero, suc, ◌+◌, ◌-◌, ◌≤◌, ◌<◌}
use native.Mathlib.Omega.{arith}
use native.Mathlib.Decide.{dec_lt, ℕ_discrete}
use lib.ListN.{length, get_or, take, drop}
use lib.Seq.{get_or-take, get_or-drop}
use Rattle.remainder.specs.Remainder.{bits_of, bits, AlteredNearby, DifferAt, FirstToLast}

-- ---- the first and the last place where two lists differ, among n places

module _ (cs ds : List ℕ) where
  abbrev Differ : ℕ → Type 0
  Differ i = get_or cs i 0 ≢ get_or ds i 0

  first_differ : (n from i : ℕ) → Differ i → i < from + n → ((j : ℕ) → Differ j → from ≤ j)
      → (first : ℕ) × (from ≤ first) × Differ first × ((j : ℕ) → Differ j → first ≤ j)
  first_differ zero from i d h low = absurd (let l : from ≤ i = low i d in omega arith)
  first_differ (suc n) from i d h low = elim (ℕ_discrete (get_or cs from 0) (get_or ds from 0)) [
    | yes same ↦
        let later : (j : ℕ) → Differ j → suc from ≤ j = λ j e. let l : from ≤ j = low j e in elim (ℕ_discrete from j) [
          | yes at ↦ absurd (e (rw at at same))
          | no other ↦ omega arith
        ] in
        let f = first_differ n (suc from) i d (omega arith) later in
        (f.0, omega (arith, f.1), f.2, f.3)
    | no other ↦ (from, omega arith, other, low)
  ]

  last_differ : (n from i : ℕ) → Differ i → from ≤ i → ((j : ℕ) → Differ j → j < from + n)
      → (last : ℕ) × (last < from + n) × Differ last × ((j : ℕ) → Differ j → j ≤ last)
  last_differ zero from i d h high = absurd (let l : i < from + 0 = high i d in omega arith)
  last_differ (suc n) from i d h high = elim (ℕ_discrete (get_or cs (from + n) 0) (get_or ds (from + n) 0)) [
    | yes same ↦
        let sooner : (j : ℕ) → Differ j → j < from + n = λ j e. let l : j < from + suc n = high j e in elim (ℕ_discrete (from + n) j) [
          | yes at ↦ absurd (e (rw at at same))
          | no other ↦ omega arith
        ] in
        let f = last_differ n from i d h sooner in
        (f.0, omega (arith, f.1), f.2, f.3)
    | no other ↦ (from + n, omega arith, other, λ j e. let l : j < from + suc n = high j e in omega arith)
  ]

-- ---- both ways

pub nearby_plainly : (xs ys : List ℕ) → AlteredNearby xs ys ↔ FirstToLast xs ys
nearby_plainly xs ys = (there, back)
  where
    there : AlteredNearby xs ys → FirstToLast xs ys
    there a =
        let i : ℕ = a.some_bit.0 in
        let d : DifferAt xs ys i = a.some_bit.1 in
        let f = first_differ (bits xs) (bits ys) 16 a.from i d (a.near i d).1 (λ j e. (a.near j e).0) in
        let l = last_differ (bits xs) (bits ys) 16 a.from i d (a.near i d).0 (λ j e. (a.near j e).1) in
        record {
          same_length = a.same_length;
          first = f.0;
          last = l.0;
          first_differs = f.2;
          last_differs = l.2;
          between = λ j e. (f.3 j e, l.3 j e);
          apart = omega (arith, f.1, l.1);
        }

    back : FirstToLast xs ys → AlteredNearby xs ys
    back p =
        record {
          same_length = p.same_length;
          some_bit = (p.first, p.first_differs);
          from = p.first;
          near = λ i d. let w = p.between i d in (w.0, omega (arith, w.1, p.apart));
        }

-- ---- computed

-- lists that begin alike, or end alike, differ only behind that, or before
differ_behind : (n : ℕ) (cs ds : List ℕ) → take n cs ≡ take n ds → (i : ℕ) → get_or cs i 0 ≢ get_or ds i 0 → n ≤ i
differ_behind n cs ds e i d = elim (dec_lt i n) [
  | yes h ↦ absurd (d (sym (get_or-take n cs i 0 h) ∙ ap (λ (l : List ℕ). get_or l i 0) e ∙ get_or-take n ds i 0 h))
  | no h ↦ omega arith
]

differ_before : (n : ℕ) (cs ds : List ℕ) → drop n cs ≡ drop n ds → (i : ℕ) → get_or cs i 0 ≢ get_or ds i 0 → i < n
differ_before n cs ds e i d = elim (dec_lt i n) [
  | yes h ↦ h
  | no h ↦
      let k : n + (i - n) ≡ i = omega arith in
      absurd (d (rw k at (sym (get_or-drop n cs (i - n) 0) ∙ ap (λ (l : List ℕ). get_or l (i - n) 0) e ∙ get_or-drop n ds (i - n) 0)))
]

altered_from_to : (first last : ℕ) {xs ys : List ℕ} → length xs ≡ length ys → DifferAt xs ys first → DifferAt xs ys last
    → take first (bits xs) ≡ take first (bits ys) → drop (last + 1) (bits xs) ≡ drop (last + 1) (bits ys) → last < first + 16 → FirstToLast xs ys
altered_from_to first last {xs} {ys} same low high before behind near =
    record { same_length = same; first = first; last = last; first_differs = low; last_differs = high; between = within; apart = near }
  where
    within : (i : ℕ) → DifferAt xs ys i → (first ≤ i) × (i ≤ last)
    within i d =
        let h : i < last + 1 = differ_before (last + 1) (bits xs) (bits ys) behind i d in
        (differ_behind first (bits xs) (bits ys) before i d, omega arith)

-- T8 of 01: the message of T1 with its last bit, place 47, altered
pub last_bit_nearby : FirstToLast (15 ∷ 162 ∷ 4 ∷ 102 ∷ 199 ∷ 182 ∷ []) (15 ∷ 162 ∷ 4 ∷ 102 ∷ 199 ∷ 183 ∷ [])
unfolding bits bits_of
last_bit_nearby = altered_from_to 47 47 refl (λ e. omega (arith, e)) (λ e. omega (arith, e)) refl refl (omega arith)

-- the first and the last of 16 neighbouring bits
pub sixteen_nearby : FirstToLast (0 ∷ 0 ∷ []) (128 ∷ 1 ∷ [])
unfolding bits bits_of
sixteen_nearby = altered_from_to 0 15 refl (λ e. omega (arith, e)) (λ e. omega (arith, e)) refl refl (omega arith)

-- bits 16 places apart are no such alteration
pub seventeen_not : AlteredNearby (0 ∷ 0 ∷ 0 ∷ []) (128 ∷ 0 ∷ 128 ∷ []) → ⊥
unfolding bits bits_of
seventeen_not a =
    let low = a.near 0 (λ e. omega (arith, e)) in
    let high = a.near 16 (λ e. omega (arith, e)) in
    omega (arith, low.0, high.1)

-- The definitions of settings said in other words, in figures.
-- Assumes nothing.
use mathlib.Core.Path.{◌≡◌, refl, ap, ◌∙◌}
use mathlib.Core.List.{List, ◌∷◌}
use mathlib.Core.Logic.{inl, inr, ⊎_elim, ◌↔◌}
use Prim.Native.Nat.{ℕ, zero, suc, ◌+◌, ◌*◌, ◌/◌, ◌≤◌, ◌<◌}
use native.Mathlib.Decide.{dec_le}
use native.Mathlib.Omega.{arith}
use borrow.Author.Tests.{lt-ltb, le-ltb}
use lib.ListN.{length, get_or, drop}
use Rattle.values.specs.Values.{size_of, natural}
use Rattle.setting.specs.declared.Head.{Head}
use Rattle.setting.specs.declared.Fault.{Fault}
use Rattle.setting.specs.declared.Fault.TheVariants.{ShortSheet, OtherVersion, WrongHeader, OutOfOrder, NotAllowed, WrongPlaces, NoSuchRecord, NoRoom, TooMany}
use Rattle.setting.specs.Setting.{most_elements, head, length_of, lengths_to, Above, Allowed, Falls, Unfit, head_of, tail_of, rows_in, heads, tails, fault_number, Numbers}

-- "by module, then register": as one number of two bytes
pub above_plainly : (a b : Head) → a.register < 256 → b.register < 256 → Above a b ↔ (256 * a.unit + a.register < 256 * b.unit + b.register)
unfolding Above
above_plainly a b p q = (
  ⊎_elim (λ l. omega arith) (λ s. omega (arith, s.0, s.1)),
  λ l. elim (dec_le b.unit a.unit) [ yes h ↦ inr (omega arith, omega arith) | no h ↦ inl (omega arith) ],
)

most_elements_lem : (kind count : ℕ) → 1 ≤ kind → kind ≤ 7 → (count * size_of kind ≤ 240) ↔ (count ≤ get_or most_elements kind 0)
unfolding size_of
most_elements_lem zero count l h = absurd (omega arith)
most_elements_lem (suc zero) count l h = (λ p. omega arith, λ p. omega arith)
most_elements_lem (suc (suc zero)) count l h = (λ p. omega arith, λ p. omega arith)
most_elements_lem (suc (suc (suc zero))) count l h = (λ p. omega arith, λ p. omega arith)
most_elements_lem (suc (suc (suc (suc zero)))) count l h = (λ p. omega arith, λ p. omega arith)
most_elements_lem (suc (suc (suc (suc (suc zero))))) count l h = (λ p. omega arith, λ p. omega arith)
most_elements_lem (suc (suc (suc (suc (suc (suc zero)))))) count l h = (λ p. omega arith, λ p. omega arith)
most_elements_lem (suc (suc (suc (suc (suc (suc (suc zero))))))) count l h = (λ p. omega arith, λ p. omega arith)
most_elements_lem (suc (suc (suc (suc (suc (suc (suc (suc k)))))))) count l h = absurd (omega arith)

most_240 : (kind count : ℕ) → 1 ≤ kind → kind ≤ 7 → count ≤ get_or most_elements kind 0 → count ≤ 240
most_240 zero count l h p = absurd (omega arith)
most_240 (suc zero) count l h p = p
most_240 (suc (suc zero)) count l h p = p
most_240 (suc (suc (suc zero))) count l h p = omega arith
most_240 (suc (suc (suc (suc zero)))) count l h p = omega arith
most_240 (suc (suc (suc (suc (suc zero))))) count l h p = omega arith
most_240 (suc (suc (suc (suc (suc (suc zero)))))) count l h p = omega arith
most_240 (suc (suc (suc (suc (suc (suc (suc zero))))))) count l h p = omega arith
most_240 (suc (suc (suc (suc (suc (suc (suc (suc k)))))))) count l h p = absurd (omega arith)

pub allowed_plainly : (unit register kind count : ℕ)
    → Allowed (head unit register kind count)
    ↔ (((1 ≤ unit) × (unit ≤ 160)) × (((1 ≤ kind) × (kind ≤ 7)) × ((1 ≤ count) × (count ≤ get_or most_elements kind 0))))
unfolding Allowed length_of
allowed_plainly unit register kind count = (
  λ a. (a.0, (a.1.0, (a.1.1.0.0, (most_elements_lem kind count a.1.0.0 a.1.0.1).0 a.1.1.1))),
  λ b. (
    b.0,
    (
      b.1.0,
      (
        (b.1.1.0, most_240 kind count b.1.0.0 b.1.0.1 b.1.1.1),
        (most_elements_lem kind count b.1.0.0 b.1.0.1).1 b.1.1.1,
      ),
    ),
  ),
)

pub length_plainly : (unit register kind count : ℕ) → length_of (head unit register kind count) ≡ count * size_of kind
unfolding length_of
length_plainly unit register kind count = refl

pub head_plainly : (unit register kind count : ℕ)
    → ((head unit register kind count).unit ≡ unit) × ((head unit register kind count).register ≡ register)
    × ((head unit register kind count).kind ≡ kind) × ((head unit register kind count).count ≡ count)
head_plainly unit register kind count = (refl, refl, refl, refl)

-- the lengths before a row
pub lengths_plainly : (at : ℕ → Head) (k : ℕ) → (lengths_to at 0 ≡ 0) × (lengths_to at (suc k) ≡ lengths_to at k + length_of (at k))
unfolding lengths_to
lengths_plainly at k = (refl, refl)

-- rows are whole, and beyond them stand zeros
pub rows_plainly : (rows : List ℕ) (k : ℕ) → (rows_in rows ≡ length rows / 8)
    × (k < rows_in rows → (heads rows k ≡ head_of (drop (8 * k) rows)) × (tails rows k ≡ tail_of (drop (8 * k) rows)))
    × (rows_in rows ≤ k → (heads rows k ≡ head 0 0 0 0) × (tails rows k ≡ 0))
unfolding rows_in heads tails
rows_plainly rows k = (refl, (λ h. rw (lt-ltb k (length rows / 8) h) (refl, refl)), (λ h. rw (le-ltb k (length rows / 8) h) (refl, refl)))

-- a row of 8 bytes, byte by byte
pub row_plainly : (a b c d e f g h : ℕ) (rest : List ℕ)
    → (head_of (a ∷ b ∷ c ∷ d ∷ e ∷ f ∷ g ∷ h ∷ rest) ≡ head a b c d) × (tail_of (a ∷ b ∷ c ∷ d ∷ e ∷ f ∷ g ∷ h ∷ rest) ≡ e + 256 * (f + 256 * (g + 256 * h)))
unfolding head_of tail_of natural
row_plainly a b c d e f g h rest = (refl, omega arith)

-- what rows 68 and 69 find
pub falls_plainly : (at : ℕ → Head) (k : ℕ) → (Falls at 0 → ⊥) × (Falls at (suc k) ↔ (Above (at k) (at (suc k)) → ⊥))
unfolding Falls
falls_plainly at k = (λ f. f, (λ f. f, λ f. f))

pub unfit_plainly : (at : ℕ → Head) (k : ℕ) → Unfit at k ↔ (Allowed (at k) → ⊥)
unfolding Unfit
unfit_plainly at k = (λ f. f, λ f. f)

-- the numbers, as the call `number` gives them
pub numbers_are : (f : Fault) (r : ℕ) → Numbers f r
    → (f ≡ ShortSheet → r ≡ 65) × (f ≡ OtherVersion → r ≡ 66) × (f ≡ WrongHeader → r ≡ 67) × (f ≡ OutOfOrder → r ≡ 68) × (f ≡ NotAllowed → r ≡ 69)
    × (f ≡ WrongPlaces → r ≡ 70) × (f ≡ NoSuchRecord → r ≡ 56) × (f ≡ NoRoom → r ≡ 57) × (f ≡ TooMany → r ≡ 79)
numbers_are f r p = (is, is, is, is, is, is, is, is, is)
  where
    is : {g : Fault} → f ≡ g → r ≡ fault_number g
    is e = p ∙ ap fault_number e

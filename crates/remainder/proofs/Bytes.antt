-- The bits of bytes, and the polynomial that they are.
-- Assumes nothing.
use mathlib.Core.Path.{◌≡◌, refl, sym, ap, ap₂, ◌∙◌}
use mathlib.Core.List.{List, [], ◌∷◌, ◌++◌}
use Prim.Native.Nat.{ℕ, zero, suc, ◌+◌, ◌*◌, ◌/◌, ◌%◌, ◌^◌, ◌<◌}
use native.Mathlib.Nat.{suc_inj, mul-one, add-zero, mul-pos, eq-zero-or-pos}
use native.Mathlib.Omega.{arith}
use lib.Arith.{digits_lt}
use lib.Bits.{bit_xor, xor_shr, xor_mod, xor_block}
use lib.ListN.{length, get_or, length-append}
use lib.Pow.{pow_pos, pow-add, mod-pow-add}
use mathlib.Core.Logic.{⊎_elim}
use Rattle.remainder.specs.Remainder.{◌⊕◌, bits_of, bits, polynomial, combined}

-- ---- lists of bits

pub polynomial_append : (cs ds : List ℕ) → polynomial (cs ++ ds) ≡ polynomial cs * 2 ^ length ds + polynomial ds
unfolding polynomial
polynomial_append [] ds = omega arith
polynomial_append (c ∷ cs) ds =
    ap₂ (λ (x y : ℕ). c * x + y) (ap (λ (n : ℕ). 2 ^ n) (length-append cs ds) ∙ pow-add 2 (length cs) (length ds)) (polynomial_append cs ds)
    ∙ regroup c (2 ^ length cs) (2 ^ length ds) (polynomial cs) (polynomial ds)
  where
    regroup : (a p q r s : ℕ) → a * (p * q) + (r * q + s) ≡ (a * p + r) * q + s
    regroup a p q r s = omega arith

-- each of these numbers is a bit
abbrev pub Digits : List ℕ → Type 0
Digits cs = (i : ℕ) → get_or cs i 0 < 2

pub polynomial_lt : (cs : List ℕ) → Digits cs → polynomial cs < 2 ^ length cs
unfolding polynomial
polynomial_lt [] d = omega arith
polynomial_lt (c ∷ cs) d =
    let l : polynomial cs < 2 ^ length cs = polynomial_lt cs (λ i. d (suc i)) in
    let h : c < 2 = d 0 in
    rw (two_powers (length cs)) (digits_lt h l)
  where
    two_powers : (n : ℕ) → 2 ^ suc n ≡ 2 * 2 ^ n
    two_powers n = omega arith

-- a polynomial that is 0 has no coefficient but 0
pub polynomial_none : (cs : List ℕ) → polynomial cs ≡ 0 → (i : ℕ) → get_or cs i 0 ≡ 0
unfolding polynomial
polynomial_none [] e i = refl
polynomial_none (c ∷ cs) e zero =
    ⊎_elim (λ z. z) (λ p. let q : 0 < c * 2 ^ length cs = mul-pos p (pow_pos (length cs)) in absurd (omega arith)) (eq-zero-or-pos c)
polynomial_none (c ∷ cs) e (suc i) = polynomial_none cs (omega arith) i

pub polynomial_zeros : (cs : List ℕ) → ((i : ℕ) → get_or cs i 0 ≡ 0) → polynomial cs ≡ 0
unfolding polynomial
polynomial_zeros [] z = refl
polynomial_zeros (c ∷ cs) z =
    let head : c ≡ 0 = z 0 in
    let tail : polynomial cs ≡ 0 = polynomial_zeros cs (λ i. z (suc i)) in
    rw head (omega arith)

-- ---- the bits of bytes

pub length-bits : (xs : List ℕ) → length (bits xs) ≡ 8 * length xs
unfolding bits bits_of
length-bits [] = refl
length-bits (x ∷ xs) = let ih : length (bits xs) ≡ 8 * length xs = length-bits xs in omega arith

pub bits_append : (xs ys : List ℕ) → bits (xs ++ ys) ≡ bits xs ++ bits ys
unfolding bits bits_of
bits_append [] ys = refl
bits_append (x ∷ xs) ys = ap (λ (r : List ℕ). bits_of x ++ r) (bits_append xs ys)

digits_of : (b i : ℕ) (rest : List ℕ) → Digits rest → get_or (bits_of b ++ rest) i 0 < 2
unfolding bits_of
digits_of b zero rest d = omega arith
digits_of b (suc zero) rest d = omega arith
digits_of b (suc (suc zero)) rest d = omega arith
digits_of b (suc (suc (suc zero))) rest d = omega arith
digits_of b (suc (suc (suc (suc zero)))) rest d = omega arith
digits_of b (suc (suc (suc (suc (suc zero))))) rest d = omega arith
digits_of b (suc (suc (suc (suc (suc (suc zero)))))) rest d = omega arith
digits_of b (suc (suc (suc (suc (suc (suc (suc zero))))))) rest d = omega arith
digits_of b (suc (suc (suc (suc (suc (suc (suc (suc i)))))))) rest d = d i

pub digits_bits : (xs : List ℕ) → Digits (bits xs)
unfolding bits
digits_bits [] i = omega arith
digits_bits (x ∷ xs) i = digits_of x i (bits xs) (digits_bits xs)

byte_value : (b : ℕ) → polynomial (bits_of b) ≡ b % 256
unfolding bits_of polynomial
byte_value b =
    rw (
      mod-pow-add b 1 7,
      mod-pow-add b 1 6,
      mod-pow-add b 1 5,
      mod-pow-add b 1 4,
      mod-pow-add b 1 3,
      mod-pow-add b 1 2,
      mod-pow-add b 1 1,
      mul-one (b % 2),
      add-zero (b % 2),
    )

-- the polynomial of the bits of some bytes
abbrev pub number : List ℕ → ℕ
number xs = polynomial (bits xs)

pub number_cons : (x : ℕ) (xs : List ℕ) → number (x ∷ xs) ≡ x % 256 * 2 ^ (8 * length xs) + number xs
unfolding bits
number_cons x xs =
    polynomial_append (bits_of x) (bits xs)
    ∙ ap₂ (λ (v n : ℕ). v * 2 ^ n + number xs) (byte_value x) (length-bits xs)

pub number_lt : (xs : List ℕ) → number xs < 2 ^ (8 * length xs)
number_lt xs = rw (length-bits xs) at (polynomial_lt (bits xs) (digits_bits xs))

pub number_append : (xs ys : List ℕ) → number (xs ++ ys) ≡ number xs * 2 ^ (8 * length ys) + number ys
number_append xs ys =
    ap polynomial (bits_append xs ys) ∙ polynomial_append (bits xs) (bits ys)
    ∙ ap (λ (n : ℕ). number xs * 2 ^ n + number ys) (length-bits ys)

-- ---- byte strings combined

bit_sum : (k x y : ℕ) → (x ⊕ y) / 2 ^ k % 2 ≡ x / 2 ^ k % 2 ⊕ y / 2 ^ k % 2
bit_sum k x y = ap (λ (n : ℕ). n % 2) (xor_shr x y k) ∙ xor_mod (x / 2 ^ k) (y / 2 ^ k) 1

bits_of_sum : (x y : ℕ) (cs ds : List ℕ) → combined (bits_of x ++ cs) (bits_of y ++ ds) ≡ bits_of (x ⊕ y) ++ combined cs ds
unfolding bits_of combined
bits_of_sum x y cs ds =
    sym (cc (bit_sum 7 x y, bit_sum 6 x y, bit_sum 5 x y, bit_sum 4 x y, bit_sum 3 x y, bit_sum 2 x y, bit_sum 1 x y, xor_mod x y 1))

pub bits_combined : (xs ys : List ℕ) → length xs ≡ length ys → bits (combined xs ys) ≡ combined (bits xs) (bits ys)
unfolding bits combined
bits_combined [] [] e = refl
bits_combined [] (y ∷ ys) e = absurd (omega arith)
bits_combined (x ∷ xs) [] e = absurd (omega arith)
bits_combined (x ∷ xs) (y ∷ ys) e =
    ap (λ (r : List ℕ). bits_of (x ⊕ y) ++ r) (bits_combined xs ys (suc_inj e)) ∙ sym (bits_of_sum x y (bits xs) (bits ys))

pub length-combined : (xs ys : List ℕ) → length xs ≡ length ys → length (combined xs ys) ≡ length xs
unfolding combined
length-combined [] ys e = refl
length-combined (x ∷ xs) [] e = absurd (omega arith)
length-combined (x ∷ xs) (y ∷ ys) e = ap suc (length-combined xs ys (suc_inj e))

pub at_combined : (cs ds : List ℕ) → length cs ≡ length ds → (i : ℕ) → get_or (combined cs ds) i 0 ≡ get_or cs i 0 ⊕ get_or ds i 0
unfolding combined
at_combined [] [] e i = refl
at_combined [] (d ∷ ds) e i = absurd (omega arith)
at_combined (c ∷ cs) [] e i = absurd (omega arith)
at_combined (c ∷ cs) (d ∷ ds) e zero = refl
at_combined (c ∷ cs) (d ∷ ds) e (suc i) = at_combined cs ds (suc_inj e) i

pub number_combined : (xs ys : List ℕ) → length xs ≡ length ys → number (combined xs ys) ≡ number xs ⊕ number ys
unfolding combined bits polynomial
number_combined [] [] e = refl
number_combined [] (y ∷ ys) e = absurd (omega arith)
number_combined (x ∷ xs) [] e = absurd (omega arith)
number_combined (x ∷ xs) (y ∷ ys) e =
    let same : length xs ≡ length ys = suc_inj e in
    number_cons (x ⊕ y) (combined xs ys)
    ∙ ap₂ (λ (v n : ℕ). v * 2 ^ (8 * n) + number (combined xs ys)) (xor_mod x y 8) (length-combined xs ys same)
    ∙ ap (λ (r : ℕ). (x % 256 ⊕ y % 256) * 2 ^ (8 * length xs) + r) (number_combined xs ys same)
    ∙ sym (ap₂ bit_xor (number_cons x xs) (number_cons y ys ∙ ap (λ (n : ℕ). y % 256 * 2 ^ (8 * n) + number ys) (sym same))
    ∙ xor_block (8 * length xs) (x % 256) (y % 256) (number xs) (number ys) (number_lt xs) (rw same (number_lt ys)))

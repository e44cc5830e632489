-- Numbers and their bytes, lowest first.
-- Assumes nothing.
use mathlib.Core.Path.{◌≡◌, refl, sym, ap, ap₂, ◌∙◌}
use mathlib.Core.List.{List, [], ◌∷◌}
use Prim.Native.Nat.{ℕ, zero, suc, ◌+◌, ◌-◌, ◌*◌, ◌/◌, ◌%◌, ◌^◌, ◌≤◌, ◌<◌}
use native.Mathlib.Decide.{dec_lt}
use native.Mathlib.Nat.{lt_of_lt_of_le, div-one, le_of_suc-le-suc}
use native.Mathlib.Omega.{arith}
use lib.ListN.{length, get_or, take, drop, length-drop, get_or-eq_default, length-take}
use lib.Pow.{pow-add, pow_mono, shr-shr}
use lib.Seq.{drop-cons, get_or-take, get_or-drop}
use Rattle.values.specs.Values.{Bytes, natural, bytes_of, element_of}

pub bytes_take : (n : ℕ) (xs : List ℕ) → Bytes xs → Bytes (take n xs)
bytes_take n xs b i = elim (dec_lt i n) [
  | yes h ↦ rw (get_or-take n xs i 0 h) (b i)
  | no h ↦ rw (get_or-eq_default (take n xs) 0 {n = i} (omega (arith, length-take n xs))) (omega arith)
]

pub bytes_drop : (n : ℕ) (xs : List ℕ) → Bytes xs → Bytes (drop n xs)
bytes_drop n xs b i = rw (get_or-drop n xs i 0) (b (n + i))

-- the bytes of an element
pub bytes_element : (n : ℕ) (xs : List ℕ) (k : ℕ) → Bytes xs → Bytes (element_of n xs k)
unfolding element_of
bytes_element n xs k b = bytes_take n (drop (k * n) xs) (bytes_drop (k * n) xs b)

pub length_element : (n : ℕ) (xs : List ℕ) (k : ℕ) → k * n + n ≤ length xs → length (element_of n xs k) ≡ n
unfolding element_of
length_element n xs k h = omega (arith, length-take n (drop (k * n) xs), length-drop (k * n) xs)

-- one byte more
pub power_byte : (n : ℕ) → 2 ^ (8 * suc n) ≡ 256 * 2 ^ (8 * n)
power_byte n = ap (λ (k : ℕ). 2 ^ k) (more n) ∙ pow-add 2 8 (8 * n)
  where
    more : (n : ℕ) → 8 * suc n ≡ 8 + 8 * n
    more n = omega arith

pub natural_lt : (xs : List ℕ) → Bytes xs → natural xs < 2 ^ (8 * length xs)
unfolding natural
natural_lt [] b = omega arith
natural_lt (x ∷ xs) b =
    let h : x < 256 = b 0 in
    let l : natural xs < 2 ^ (8 * length xs) = natural_lt xs (λ i. b (suc i)) in
    rw (power_byte (length xs)) (omega arith)

pub element_lt : (n : ℕ) (xs : List ℕ) (k : ℕ) → Bytes xs → k * n + n ≤ length xs → natural (element_of n xs k) < 2 ^ (8 * n)
element_lt n xs k b h = rw (length_element n xs k h) at (natural_lt (element_of n xs k) (bytes_element n xs k b))

pub length-bytes_of : (n v : ℕ) → length (bytes_of n v) ≡ n
unfolding bytes_of
length-bytes_of zero v = refl
length-bytes_of (suc n) v = ap suc (length-bytes_of n (v / 256))

pub bytes_bytes_of : (n v : ℕ) → Bytes (bytes_of n v)
unfolding bytes_of
bytes_bytes_of zero v i = omega arith
bytes_bytes_of (suc n) v zero = omega arith
bytes_bytes_of (suc n) v (suc i) = bytes_bytes_of n (v / 256) i

-- the bytes of a number and the number of the bytes are inverse
pub natural_bytes_of : (n v : ℕ) → v < 2 ^ (8 * n) → natural (bytes_of n v) ≡ v
unfolding natural bytes_of
natural_bytes_of zero v h = omega arith
natural_bytes_of (suc n) v h =
    let l : v < 256 * 2 ^ (8 * n) = rw (power_byte n) at h in
    let ih : natural (bytes_of n (v / 256)) ≡ v / 256 = natural_bytes_of n (v / 256) (omega arith) in
    omega arith

pub bytes_of_natural : (xs : List ℕ) → Bytes xs → bytes_of (length xs) (natural xs) ≡ xs
unfolding natural bytes_of
bytes_of_natural [] b = refl
bytes_of_natural (x ∷ xs) b =
    let h : x < 256 = b 0 in
    let low : (x + 256 * natural xs) % 256 ≡ x = omega arith in
    let rest : (x + 256 * natural xs) / 256 ≡ natural xs = omega arith in
    ap₂ (λ (y : ℕ) (ys : List ℕ). y ∷ ys) low (ap (bytes_of (length xs)) rest ∙ bytes_of_natural xs (λ i. b (suc i)))

-- byte j of a number
pub byte_at : (n v j : ℕ) → j < n → get_or (bytes_of n v) j 0 ≡ v / 2 ^ (8 * j) % 256
unfolding bytes_of
byte_at zero v j h = absurd (omega arith)
byte_at (suc n) v zero h = ap (λ (x : ℕ). x % 256) (sym (div-one v))
byte_at (suc n) v (suc j) h =
    byte_at n (v / 256) j (le_of_suc-le-suc h)
    ∙ ap (λ (x : ℕ). x % 256) (shr-shr v 8 (8 * j) ∙ ap (λ (k : ℕ). v / 2 ^ k) (more j))
  where
    more : (j : ℕ) → 8 + 8 * j ≡ 8 * suc j
    more j = omega arith

-- ---- from the highest byte down

pub natural_from : (xs : List ℕ) (i v : ℕ) → 0 < i → i ≤ length xs → v ≡ natural (drop i xs)
    → v * 256 + get_or xs (i - 1) 0 ≡ natural (drop (i - 1) xs)
unfolding natural
natural_from xs zero v p h e = absurd (omega arith)
natural_from xs (suc i) v p h e =
    let back : suc i - 1 ≡ i = omega arith in
    let more : i < length xs = omega arith in
    rw (back, drop-cons xs i 0 more, e) (omega arith)

-- under 8 bytes leave room for one more
pub natural_room : (xs : List ℕ) (i : ℕ) → Bytes xs → 0 < i → length xs ≤ 8 → natural (drop i xs) < 2 ^ 56
natural_room xs i b p h =
    lt_of_lt_of_le (natural_lt (drop i xs) (bytes_drop i xs b)) (pow_mono {j = 56} (omega (arith, length-drop i xs)))

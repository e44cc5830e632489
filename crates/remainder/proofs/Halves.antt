-- 02, #103: "Work the remainder out by half bytes from a table of 16 entries."
-- Assumes nothing.
use mathlib.Core.Path.{◌≡◌, refl, sym, ap, ap₂, ◌∙◌}
use mathlib.Core.Bool.{Bool, true, ◌&&◌}
use mathlib.Core.List.{List, [], ◌∷◌}
use Prim.Native.Nat.{ℕ, zero, suc, ◌+◌, ◌*◌, ◌/◌, ◌%◌, ◌^◌, ◌<◌}
use native.Mathlib.Omega.{arith}
use lib.Bits.{bit_xor, xor_comm, xor_lt, xor_shifted, xor_block, xor_zero_r}
use lib.Dec.{eqb}
use lib.ListN.{length, get_or}
use Rattle.rows.proofs.Laws.{decides_eq, decides_and, decides_set}
use Rattle.remainder.specs.Remainder.{◌⊕◌, Leaves, times_x, times_xs, with_byte}
use Rattle.remainder.proofs.Sum.{sum_shift}
use Rattle.remainder.proofs.Division.{leaves_one, leaves_self, leaves_sum, leaves_times_xs}

-- ---- the table's rule, checked once over the whole table

-- the table of the code
abbrev pub table : List ℕ
table =
    0x0000 ∷ 0x1021 ∷ 0x2042 ∷ 0x3063 ∷ 0x4084 ∷ 0x50A5 ∷ 0x60C6 ∷ 0x70E7 ∷ 0x8108 ∷ 0x9129 ∷ 0xA14A ∷ 0xB16B ∷ 0xC18C ∷ 0xD1AD ∷ 0xE1CE ∷ 0xF1EF ∷ []

-- what j as four bits leaves
abbrev left : ℕ → ℕ
left j = times_xs 4 (j * 2 ^ 12)

-- an entry is that, and its highest four bits are j
abbrev is_right : ℕ → ℕ → Bool
is_right j entry = eqb entry (left j) && eqb (entry / 2 ^ 12) j

-- each of these entries is right, where the first of them is entry j
abbrev all_right : ℕ → List ℕ → Bool
all_right j [] = true
all_right j (entry ∷ rest) = is_right j entry && all_right (suc j) rest

checked : all_right 0 table ≡ true
unfolding times_xs times_x
checked = refl

-- ---- what it means for each entry

each : (j : ℕ) (es : List ℕ) → all_right j es ≡ true → (i : ℕ) → i < length es → (get_or es i 0 ≡ left (j + i)) × (get_or es i 0 / 2 ^ 12 ≡ j + i)
each j [] right i h = absurd (omega arith)
each j (e ∷ es) right zero h =
    let both = (decides_and (decides_set (is_right j e)) (decides_set (all_right (suc j) es))).so right in
    let same : j + 0 ≡ j = omega arith in
    rw same ((decides_and (decides_eq e (left j)) (decides_eq (e / 2 ^ 12) j)).so both.0)
each j (e ∷ es) right (suc i) h =
    let both = (decides_and (decides_set (is_right j e)) (decides_set (all_right (suc j) es))).so right in
    let same : j + suc i ≡ suc j + i = omega arith in
    rw same (each (suc j) es both.1 i (omega arith))

entry_is : (j : ℕ) → j < 16 → (get_or table j 0 ≡ left j) × (get_or table j 0 / 2 ^ 12 ≡ j)
entry_is j h = let same : 0 + j ≡ j = omega arith in rw same at (each 0 table checked j h)

pub table_right : (j : ℕ) → j < 16 → get_or table j 0 ≡ times_xs 4 (j * 2 ^ 12)
table_right j h = (entry_is j h).0

-- entry j is the remainder of j as four bits: j times x^16 leaves it
pub entry_leaves : (j : ℕ) → j < 16 → Leaves (j * 2 ^ 16) (get_or table j 0)
entry_leaves j h =
    let same : j * 2 ^ 12 * 2 ^ 4 ≡ j * 2 ^ 16 = omega arith in
    rw (table_right j h) (rw same at (leaves_times_xs 4 (leaves_self (j * 2 ^ 12) (omega arith))))

-- its highest four bits are j
top_four : (j : ℕ) → j < 16 → left j ≡ j * 2 ^ 12 + left j % 2 ^ 12
top_four j h = split (left j) j (ap (λ (e : ℕ). e / 2 ^ 12) (sym (table_right j h)) ∙ (entry_is j h).1)
  where
    split : (e k : ℕ) → e / 2 ^ 12 ≡ k → e ≡ k * 2 ^ 12 + e % 2 ^ 12
    split e k p = omega arith

-- an entry of any table that has the rule fits in two bytes
pub entry_under : (es : List ℕ) → ((j : ℕ) → j < 16 → get_or es j 0 ≡ times_xs 4 (j * 2 ^ 12)) → (j : ℕ) → j < 16 → get_or es j 0 < 2 ^ 16
entry_under es right j h = rw (right j h) (leaves_times_xs 4 (leaves_self (j * 2 ^ 12) (omega arith))).under

-- ---- half a byte more

shifts_sum : (n a b : ℕ) → a < 2 ^ 16 → b < 2 ^ 16 → times_xs n (a ⊕ b) ≡ times_xs n a ⊕ times_xs n b
shifts_sum n a b ha hb =
    leaves_one (leaves_times_xs n (leaves_sum (leaves_self a ha) (leaves_self b hb)))
    (rw (sum_shift n a b) (leaves_sum (leaves_times_xs n (leaves_self a ha)) (leaves_times_xs n (leaves_self b hb))))

-- where the highest four bits fall out, what they leave comes in
half_more : (j low : ℕ) → j < 16 → low < 2 ^ 12 → times_xs 4 (j * 2 ^ 12 + low) ≡ left j ⊕ low * 2 ^ 4
half_more j low hj hl =
    ap (times_xs 4) (sym (xor_shifted j 12 low hl))
    ∙ shifts_sum 4 (j * 2 ^ 12) low (omega arith) (omega arith)
    ∙ ap (λ (x : ℕ). left j ⊕ x) (leaves_one (leaves_times_xs 4 (leaves_self low (omega arith))) (leaves_self (low * 2 ^ 4) (omega arith)))

-- ---- a byte is two of them

twice_four : (v : ℕ) → times_xs 8 v ≡ times_xs 4 (times_xs 4 v)
unfolding times_xs
twice_four v = refl

pub byte_under : (s b : ℕ) → s < 2 ^ 16 → with_byte s b < 2 ^ 16
unfolding with_byte
byte_under s b hs = (leaves_times_xs 8 (leaves_self (s ⊕ b % 256 * 2 ^ 8) (xor_lt 16 s (b % 256 * 2 ^ 8) hs (omega arith)))).under

module _ (s b : ℕ) (hs : s < 2 ^ 16) (hb : b < 2 ^ 8) where
  -- what falls out at the top, with the byte
  abbrev out : ℕ
  out = s / 256 ⊕ b

  out_under : out < 2 ^ 8
  out_under = xor_lt 8 (s / 256) b (omega arith) hb

  -- the two places in the table
  pub high_under : out / 16 < 16
  high_under = omega (arith, out_under)

  pub low_under : out % 16 ⊕ out / 16 < 16
  low_under = xor_lt 4 (out % 16) (out / 16) (omega arith) high_under

  joined : s ⊕ b % 256 * 2 ^ 8 ≡ out / 16 * 2 ^ 12 + (out % 16 * 2 ^ 8 + s % 256)
  joined =
      ap₂ bit_xor (let e : s ≡ s / 256 * 2 ^ 8 + s % 256 = omega arith in e) (let e : b % 256 * 2 ^ 8 ≡ b * 2 ^ 8 + 0 = omega arith in e)
      ∙ xor_block 8 (s / 256) b (s % 256) 0 (omega arith) (omega arith)
      ∙ ap (λ (x : ℕ). out * 2 ^ 8 + x) (xor_zero_r (s % 256))
      ∙ parted out (s % 256)
    where
      parted : (x y : ℕ) → x * 2 ^ 8 + y ≡ x / 16 * 2 ^ 12 + (x % 16 * 2 ^ 8 + y)
      parted x y = omega arith

  -- after the first half the four bits of the second one stand at the top
  first_half : times_xs 4 (s ⊕ b % 256 * 2 ^ 8) ≡ (out % 16 ⊕ out / 16) * 2 ^ 12 + (s % 256 * 2 ^ 4 ⊕ left (out / 16) % 2 ^ 12)
  first_half =
      ap (times_xs 4) joined
      ∙ half_more (out / 16) (out % 16 * 2 ^ 8 + s % 256) high_under (omega arith)
      ∙ xor_comm (left (out / 16)) ((out % 16 * 2 ^ 8 + s % 256) * 2 ^ 4)
      ∙ ap₂ bit_xor (shifted (out % 16) (s % 256)) (top_four (out / 16) high_under)
      ∙ xor_block 12 (out % 16) (out / 16) (s % 256 * 2 ^ 4) (left (out / 16) % 2 ^ 12) (omega arith) (omega arith)
    where
      shifted : (x y : ℕ) → (x * 2 ^ 8 + y) * 2 ^ 4 ≡ x * 2 ^ 12 + y * 2 ^ 4
      shifted x y = omega arith

  by_halves : s % 256 * 256 ⊕ left (out / 16) % 4096 * 16 ⊕ left (out % 16 ⊕ out / 16) ≡ with_byte s b
  unfolding with_byte
  by_halves =
      xor_comm (s % 256 * 256 ⊕ left (out / 16) % 4096 * 16) (left (out % 16 ⊕ out / 16))
      ∙ ap (λ (x : ℕ). left (out % 16 ⊕ out / 16) ⊕ x) (pulled (s % 256) (left (out / 16) % 4096))
      ∙ sym (half_more (out % 16 ⊕ out / 16) (s % 256 * 2 ^ 4 ⊕ left (out / 16) % 2 ^ 12) low_under
      (xor_lt 12 (s % 256 * 2 ^ 4) (left (out / 16) % 2 ^ 12) (omega arith) (omega arith)))
      ∙ ap (times_xs 4) (sym first_half)
      ∙ sym (twice_four (s ⊕ b % 256 * 2 ^ 8))
    where
      pulled : (x y : ℕ) → x * 256 ⊕ y * 16 ≡ (x * 2 ^ 4 ⊕ y) * 2 ^ 4
      pulled x y = ap (λ (z : ℕ). z ⊕ y * 16) (let e : x * 256 ≡ x * 2 ^ 4 * 2 ^ 4 = omega arith in e) ∙ sym (sum_shift 4 (x * 2 ^ 4) y)

  -- by any table that has the rule
  pub by_table : (es : List ℕ) → ((j : ℕ) → j < 16 → get_or es j 0 ≡ times_xs 4 (j * 2 ^ 12))
      → s % 256 * 256 ⊕ get_or es (out / 16) 0 % 4096 * 16 ⊕ get_or es (out % 16 ⊕ out / 16) 0 ≡ with_byte s b
  by_table es right = rw (right (out / 16) high_under, right (out % 16 ⊕ out / 16) low_under) by_halves

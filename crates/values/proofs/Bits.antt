-- Set, clear and toggle, run of bits by run of bits.
-- Assumes nothing.
use mathlib.Core.Path.{◌≡◌, refl, sym, ap, ap₂, ◌∙◌}
use Prim.Native.Nat.{ℕ, zero, suc, ◌+◌, ◌-◌, ◌*◌, ◌/◌, ◌%◌, ◌^◌, ◌≤◌, ◌<◌}
use native.Mathlib.Nat.{add-mul, mod-lt}
use native.Mathlib.Omega.{arith}
use lib.Bits.{bit_and, bit_or, bit_xor}
use lib.ListN.{get_or}
use lib.Pow.{pow_pos, split, high, low, shr_lt, ones_split, ones_sub-lt}
use Rattle.values.specs.Values.{bytes_of}
use Rattle.values.proofs.Bytes.{byte_at}

-- ---- an operation that goes bit by bit goes so in every run of bits

module _ (op : ℕ → ℕ → ℕ)
    (shr : (a b k : ℕ) → op a b / 2 ^ k ≡ op (a / 2 ^ k) (b / 2 ^ k))
    (rem : (a b k : ℕ) → op a b % 2 ^ k ≡ op (a % 2 ^ k) (b % 2 ^ k)) where
  -- the w bits from place k on
  pub run : (k w a b : ℕ) → op a b / 2 ^ k % 2 ^ w ≡ op (a / 2 ^ k % 2 ^ w) (b / 2 ^ k % 2 ^ w)
  run k w a b = ap (λ (x : ℕ). x % 2 ^ w) (shr a b k) ∙ rem (a / 2 ^ k) (b / 2 ^ k) w

  pub byte_run : (n j a b : ℕ) → j < n → get_or (bytes_of n (op a b)) j 0 ≡ op (get_or (bytes_of n a) j 0) (get_or (bytes_of n b) j 0)
  byte_run n j a b h = byte_at n (op a b) j h ∙ run (8 * j) 8 a b ∙ sym (ap₂ op (byte_at n a j h) (byte_at n b j h))

-- ---- all bits turned round

-- the lowest k bits and those above, apart
not_split : (j k m : ℕ) → m < 2 ^ (j + k) → 2 ^ (j + k) - 1 - m ≡ (2 ^ j - 1 - m / 2 ^ k) * 2 ^ k + (2 ^ k - 1 - m % 2 ^ k)
not_split j k m h =
    parts (2 ^ j - 1 - m / 2 ^ k) (m / 2 ^ k) (2 ^ j - 1) (2 ^ k) (m % 2 ^ k) m (2 ^ (j + k))
    (omega (arith, shr_lt {n = m} j k h)) (mod-lt m (pow_pos k)) (split m k) (ones_split j k)
  where
    parts : (x q a p l m w : ℕ) → x + q ≡ a → l < p → q * p + l ≡ m → w - 1 ≡ a * p + (p - 1) → w - 1 - m ≡ x * p + (p - 1 - l)
    parts x q a p l m w whole under is ones = omega (arith, ap (λ (n : ℕ). n * p) (sym whole) ∙ add-mul x q p)

pub not_shr : (j k m : ℕ) → m < 2 ^ (j + k) → (2 ^ (j + k) - 1 - m) / 2 ^ k ≡ 2 ^ j - 1 - m / 2 ^ k
not_shr j k m h = ap (λ (x : ℕ). x / 2 ^ k) (not_split j k m h) ∙ high (2 ^ j - 1 - m / 2 ^ k) k (ones_sub-lt k (m % 2 ^ k))

pub not_mod : (j k m : ℕ) → m < 2 ^ (j + k) → (2 ^ (j + k) - 1 - m) % 2 ^ k ≡ 2 ^ k - 1 - m % 2 ^ k
not_mod j k m h = ap (λ (x : ℕ). x % 2 ^ k) (not_split j k m h) ∙ low (2 ^ j - 1 - m / 2 ^ k) k (ones_sub-lt k (m % 2 ^ k))

-- the w bits from place k on, of 64
pub not_run : (k w m : ℕ) → k + w ≤ 64 → m < 2 ^ 64 → (2 ^ 64 - 1 - m) / 2 ^ k % 2 ^ w ≡ 2 ^ w - 1 - m / 2 ^ k % 2 ^ w
not_run k w m h l =
    let all : 64 ≡ 64 - (k + w) + w + k = omega arith in
    runs (64 - (k + w)) 64 all l
  where
    runs : (j n : ℕ) → n ≡ j + w + k → m < 2 ^ n → (2 ^ n - 1 - m) / 2 ^ k % 2 ^ w ≡ 2 ^ w - 1 - m / 2 ^ k % 2 ^ w
    runs j n e h =
        let under : m < 2 ^ (j + w + k) = rw e at h in
        rw e (ap (λ (x : ℕ). x % 2 ^ w) (not_shr (j + w) k m under) ∙ not_mod j w (m / 2 ^ k) (shr_lt {n = m} (j + w) k under))

-- ---- one bit against a bit of the mask

pub or_one : (b : ℕ) → b < 2 → bit_or b 1 ≡ 1
or_one zero h = refl
or_one (suc zero) h = refl
or_one (suc (suc b)) h = absurd (omega arith)

pub and_one : (b : ℕ) → b < 2 → bit_and b 1 ≡ b
and_one zero h = refl
and_one (suc zero) h = refl
and_one (suc (suc b)) h = absurd (omega arith)

pub xor_one : (b : ℕ) → b < 2 → bit_xor b 1 ≡ 1 - b
xor_one zero h = refl
xor_one (suc zero) h = refl
xor_one (suc (suc b)) h = absurd (omega arith)

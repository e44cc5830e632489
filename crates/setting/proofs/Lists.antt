-- Rows and the settings that they name, one after the other.
-- Assumes nothing.
use mathlib.Core.Path.{◌≡◌, refl, sym, ap, ap₂, ◌∙◌}
use mathlib.Core.List.{List}
use Prim.Native.Nat.{ℕ, zero, suc, ◌+◌, ◌*◌, ◌≤◌, ◌<◌}
use native.Mathlib.Nat.{le_of_suc-le-suc}
use native.Mathlib.Decide.{dec_le}
use native.Mathlib.Omega.{arith}
use lib.ListN.{length, get_or, take, drop}
use lib.Seq.{drop-drop}
use Rattle.setting.specs.declared.Head.{Head}
use Rattle.setting.specs.Setting.{Setting, setting, length_of, lengths_to, head_of, settings_in}

-- the head of the row at k, wherever the rows end
abbrev pub head_from : List ℕ → ℕ → Head
head_from rows k = head_of (drop (8 * k) rows)

-- one row on
pub row_on : (rows : List ℕ) (k : ℕ) → drop (8 * k) (drop 8 rows) ≡ drop (8 * suc k) rows
row_on rows k =
    let e : 8 + 8 * k ≡ 8 * suc k = omega arith in
    drop-drop (8 * k) 8 rows ∙ ap (λ (i : ℕ). drop i rows) e

pub no_lengths : (at : ℕ → Head) → 0 ≡ lengths_to at 0
unfolding lengths_to
no_lengths at = refl

pub lengths_next : (at : ℕ → Head) (k : ℕ) → lengths_to at (suc k) ≡ lengths_to at k + length_of (at k)
unfolding lengths_to
lengths_next at k = refl

-- lengths go by what the heads are, up to where they are added
pub lengths_same : (at other : ℕ → Head) (n : ℕ) → ((k : ℕ) → k < n → at k ≡ other k) → lengths_to at n ≡ lengths_to other n
unfolding lengths_to
lengths_same at other zero same = refl
lengths_same at other (suc n) same =
    ap₂ (λ (a b : ℕ). a + b) (lengths_same at other n (λ k h. same k (omega arith))) (ap length_of (same n (omega arith)))

-- the first, and the others
pub lengths_on : (at : ℕ → Head) (n : ℕ) → lengths_to at (suc n) ≡ length_of (at 0) + lengths_to (λ k. at (suc k)) n
unfolding lengths_to
lengths_on at zero = omega arith
lengths_on at (suc n) =
    let ih : lengths_to at (suc n) ≡ length_of (at 0) + lengths_to (λ k. at (suc k)) n = lengths_on at n in
    omega (arith, ih)

pub lengths_row : (rows : List ℕ) (n : ℕ) → lengths_to (head_from rows) (suc n) ≡ length_of (head_of rows) + lengths_to (head_from (drop 8 rows)) n
lengths_row rows n =
    lengths_on (head_from rows) n
    ∙ ap (λ (m : ℕ). length_of (head_of rows) + m)
    (lengths_same (λ k. head_from rows (suc k)) (head_from (drop 8 rows)) n (λ k h. ap head_of (sym (row_on rows k))))

pub lengths_mono : (at : ℕ → Head) (k n : ℕ) → k ≤ n → lengths_to at k ≤ lengths_to at n
unfolding lengths_to
lengths_mono at k zero h = let e : k ≡ 0 = omega arith in rw e (omega arith)
lengths_mono at k (suc n) h = elim (dec_le k n) [
  | yes l ↦ let ih : lengths_to at k ≤ lengths_to at n = lengths_mono at k n l in omega arith
  | no l ↦ let e : k ≡ suc n = omega arith in rw e (omega arith)
]

-- as many settings as rows are asked for
pub length_settings : (n : ℕ) (rows values : List ℕ) → length (settings_in n rows values) ≡ n
unfolding settings_in
length_settings zero rows values = refl
length_settings (suc n) rows values = ap suc (length_settings n (drop 8 rows) (drop (length_of (head_of rows)) values))

-- the setting at k: what its row begins with, and so many bytes behind the values before it
pub setting_at : (n : ℕ) (rows values : List ℕ) (d : Setting) (k : ℕ) → k < n
    → get_or (settings_in n rows values) k d
    ≡ setting (head_from rows k) (take (length_of (head_from rows k)) (drop (lengths_to (head_from rows) k) values))
unfolding settings_in lengths_to
setting_at zero rows values d k h = absurd (omega arith)
setting_at (suc n) rows values d zero h = refl
setting_at (suc n) rows values d (suc k) h =
    let first = length_of (head_of rows) in
    let there : head_from (drop 8 rows) k ≡ head_from rows (suc k) = ap head_of (row_on rows k) in
    let before : drop (lengths_to (head_from (drop 8 rows)) k) (drop first values) ≡ drop (lengths_to (head_from rows) (suc k)) values =
    drop-drop (lengths_to (head_from (drop 8 rows)) k) first values ∙ ap (λ (i : ℕ). drop i values) (sym (lengths_row rows k)) in
    setting_at n (drop 8 rows) (drop first values) d k (le_of_suc-le-suc h)
    ∙ ap₂ (λ (h : Head) (v : List ℕ). setting h (take (length_of h) v)) there before

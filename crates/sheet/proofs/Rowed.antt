-- Rows that name settings, each with some number behind the head: a sheet's records, and settings that are handed over.
-- Assumes nothing.
use mathlib.Core.Path.{◌≡◌, refl, sym, ap, ap₂, ◌∙◌}
use mathlib.Core.List.{List, [], ◌∷◌, ◌++◌}
use Prim.Native.Nat.{ℕ, zero, suc, ◌+◌, ◌*◌, ◌^◌, ◌<◌}
use native.Mathlib.Nat.{le_of_suc-le-suc}
use native.Mathlib.Omega.{arith}
use lib.ListN.{length, take, drop, length-append}
use lib.Seq.{take_at, drop_at}
use Rattle.values.specs.Values.{natural, bytes_of}
use Rattle.values.proofs.Bytes.{length-bytes_of, natural_bytes_of}
use Rattle.setting.specs.declared.Head.{Head}
use Rattle.setting.specs.Setting.{Setting, setting, length_of, lengths_to, head_of, tail_of, rows_in, heads, tails, settings_in}
use Rattle.setting.proofs.Laws.{heads_at, tails-at, rows_whole}
use Rattle.setting.proofs.Lists.{head_from, row_on, lengths_on}
use Rattle.sheet.specs.Sheet.{record_for, records_for, values_for, named, valued}
use Rattle.sheet.specs.Promised.{Sized}

unfoldable pub rows_by : (ℕ → ℕ) → List Setting → List ℕ
rows_by number [] = []
rows_by number (s ∷ rest) = record_for s.named (number 0) ++ rows_by (λ k. number (suc k)) rest

pub length_record : (h : Head) (number : ℕ) → length (record_for h number) ≡ 8
unfolding record_for bytes_of
length_record h number = refl

pub length-rows : (number : ℕ → ℕ) (settings : List Setting) → length (rows_by number settings) ≡ 8 * length settings
unfolding rows_by
length-rows number [] = refl
length-rows number (s ∷ rest) =
    let ih : length (rows_by (λ k. number (suc k)) rest) ≡ 8 * length rest = length-rows (λ k. number (suc k)) rest in
    omega (arith, length-append (record_for s.named (number 0)) (rows_by (λ k. number (suc k)) rest), length_record s.named (number 0), ih)

pub many_rows : (number : ℕ → ℕ) (settings : List Setting) → rows_in (rows_by number settings) ≡ length settings
many_rows number settings = rows_whole (rows_by number settings) (length settings) (length-rows number settings)

-- the numbers behind the heads are all that can differ
pub rows_same : (a b : ℕ → ℕ) (settings : List Setting) → ((k : ℕ) → k < length settings → a k ≡ b k) → rows_by a settings ≡ rows_by b settings
unfolding rows_by
rows_same a b [] same = refl
rows_same a b (s ∷ rest) same =
    ap₂ (λ (x y : List ℕ). x ++ y) (ap (record_for s.named) (same 0 (omega arith))) (rows_same (λ k. a (suc k)) (λ k. b (suc k)) rest (λ k h. same (suc k) (omega arith)))

-- ---- each row names its setting, and says its number

one_on : (number : ℕ → ℕ) (s : Setting) (rest : List Setting) → drop 8 (rows_by number (s ∷ rest)) ≡ rows_by (λ k. number (suc k)) rest
unfolding rows_by
one_on number s rest = drop_at (record_for s.named (number 0)) (rows_by (λ k. number (suc k)) rest) 8 (length_record s.named (number 0))

row_from : (number : ℕ → ℕ) (s : Setting) (rest : List Setting) (k : ℕ)
    → drop (8 * suc k) (rows_by number (s ∷ rest)) ≡ drop (8 * k) (rows_by (λ k. number (suc k)) rest)
row_from number s rest k = sym (row_on (rows_by number (s ∷ rest)) k) ∙ ap (drop (8 * k)) (one_on number s rest)

first_head : (number : ℕ → ℕ) (s : Setting) (rest : List Setting) → head_of (rows_by number (s ∷ rest)) ≡ s.named
unfolding head_of rows_by record_for
first_head number s rest = refl

first_named : (s : Setting) (rest : List Setting) → named (s ∷ rest) 0 ≡ s.named
unfolding named
first_named s rest = refl

named_on : (s : Setting) (rest : List Setting) (k : ℕ) → named rest k ≡ named (s ∷ rest) (suc k)
unfolding named
named_on s rest k = refl

heads_from : (number : ℕ → ℕ) (settings : List Setting) (k : ℕ) → k < length settings → head_from (rows_by number settings) k ≡ named settings k
heads_from number [] k h = absurd (omega arith)
heads_from number (s ∷ rest) zero h = first_head number s rest ∙ sym (first_named s rest)
heads_from number (s ∷ rest) (suc k) h =
    ap head_of (row_from number s rest k) ∙ (heads_from (λ k. number (suc k)) rest k (le_of_suc-le-suc h) ∙ named_on s rest k)

first_tail : (number : ℕ → ℕ) (s : Setting) (rest : List Setting) → number 0 < 2 ^ 32 → tail_of (rows_by number (s ∷ rest)) ≡ number 0
unfolding tail_of rows_by record_for
first_tail number s rest small =
    ap natural (take_at (bytes_of 4 (number 0)) (rows_by (λ k. number (suc k)) rest) 4 (length-bytes_of 4 (number 0))) ∙ natural_bytes_of 4 (number 0) small

tails_from : (number : ℕ → ℕ) (settings : List Setting) (k : ℕ) → k < length settings → number k < 2 ^ 32 → tail_of (drop (8 * k) (rows_by number settings)) ≡ number k
tails_from number [] k h small = absurd (omega arith)
tails_from number (s ∷ rest) zero h small = first_tail number s rest small
tails_from number (s ∷ rest) (suc k) h small =
    ap tail_of (row_from number s rest k) ∙ tails_from (λ k. number (suc k)) rest k (le_of_suc-le-suc h) small

pub heads_by : (number : ℕ → ℕ) (settings : List Setting) (k : ℕ) → k < length settings → heads (rows_by number settings) k ≡ named settings k
heads_by number settings k h = heads_at (rows_by number settings) k (rw (many_rows number settings) h) ∙ heads_from number settings k h

pub tails_by : (number : ℕ → ℕ) (settings : List Setting) (k : ℕ) → k < length settings → number k < 2 ^ 32 → tails (rows_by number settings) k ≡ number k
tails_by number settings k h small = tails-at (rows_by number settings) k (rw (many_rows number settings) h) ∙ tails_from number settings k h small

-- ---- the settings are read back

pub sized_on : (s : Setting) (rest : List Setting) → Sized (s ∷ rest) → Sized rest
unfolding valued named
sized_on s rest each k h = each (suc k) (omega arith)

pub sized_first : (s : Setting) (rest : List Setting) → Sized (s ∷ rest) → length s.value ≡ length_of s.named
unfolding valued named
sized_first s rest each = each 0 (omega arith)

pub lengths_named : (s : Setting) (rest : List Setting) (n : ℕ) → lengths_to (named (s ∷ rest)) (suc n) ≡ length_of s.named + lengths_to (named rest) n
unfolding named
lengths_named s rest n = lengths_on (named (s ∷ rest)) n

none_back : (rows values : List ℕ) → settings_in 0 rows values ≡ []
unfolding settings_in
none_back rows values = refl

one_back : (n : ℕ) (rows values : List ℕ)
    → settings_in (suc n) rows values
    ≡ setting (head_of rows) (take (length_of (head_of rows)) values) ∷ settings_in n (drop 8 rows) (drop (length_of (head_of rows)) values)
unfolding settings_in
one_back n rows values = refl

first_value : (s : Setting) (rest : List Setting) → length s.value ≡ length_of s.named → take (length_of s.named) (values_for (s ∷ rest)) ≡ s.value
unfolding values_for
first_value s rest e = take_at s.value (values_for rest) (length_of s.named) e

other_values : (s : Setting) (rest : List Setting) → length s.value ≡ length_of s.named → drop (length_of s.named) (values_for (s ∷ rest)) ≡ values_for rest
unfolding values_for
other_values s rest e = drop_at s.value (values_for rest) (length_of s.named) e

pub settings_back : (number : ℕ → ℕ) (settings : List Setting) → Sized settings
    → settings_in (length settings) (rows_by number settings) (values_for settings) ≡ settings
settings_back number [] each = none_back (rows_by number []) (values_for [])
settings_back number (s ∷ rest) each =
    let size : length s.value ≡ length_of s.named = sized_first s rest each in
    rw (
      one_back (length rest) (rows_by number (s ∷ rest)) (values_for (s ∷ rest)),
      first_head number s rest,
      one_on number s rest,
      first_value s rest size,
      other_values s rest size,
      settings_back (λ k. number (suc k)) rest (sized_on s rest each),
    )

-- ---- a sheet's records are such rows: each says how long the values before it are

no_length : (n : ℕ) (at : ℕ → Head) → n + lengths_to at 0 ≡ n
unfolding lengths_to
no_length n at = omega arith

records_from : (offset : ℕ) (settings : List Setting) → Sized settings → records_for offset settings ≡ rows_by (λ k. offset + lengths_to (named settings) k) settings
unfolding records_for rows_by
records_from offset [] each = refl
records_from offset (s ∷ rest) each =
    ap₂ (λ (x y : List ℕ). x ++ y) (ap (record_for s.named) (sym (no_length offset (named (s ∷ rest)))))
    (records_from (offset + length s.value) rest (sized_on s rest each) ∙ rows_same _ _ rest (λ k h. next k))
  where
    next : (k : ℕ) → offset + length s.value + lengths_to (named rest) k ≡ offset + lengths_to (named (s ∷ rest)) (suc k)
    next k = omega (arith, sized_first s rest each, lengths_named s rest k)

pub records_by : (settings : List Setting) → Sized settings → records_for 0 settings ≡ rows_by (lengths_to (named settings)) settings
records_by settings each = records_from 0 settings each ∙ rows_same _ _ settings (λ k h. omega arith)

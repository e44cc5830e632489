-- What the code's steps need: bytes read from rows, and bounds of lengths.
-- Assumes nothing.
use mathlib.Core.Path.{◌≡◌, refl, sym, ap, ◌∙◌}
use mathlib.Core.Bool.{Bool, true, false, cond, not}
use mathlib.Core.List.{List}
use Prim.Native.Nat.{ℕ, zero, suc, ◌+◌, ◌-◌, ◌*◌, ◌/◌, ◌^◌, ◌≤◌, ◌<◌}
use native.Mathlib.Decide.{dec_le}
use native.Mathlib.Nat.{mul-le-mul_left, add-zero}
use native.Mathlib.Numerals.{add-one}
use native.Mathlib.Omega.{arith}
use borrow.Author.Tests.{lt-ltb, le-ltb}
use lib.Dec.{ltb}
use lib.ListN.{length, get_or, take, drop, length-take}
use lib.Seq.{get_or-drop, take_all, drop-drop}
use Rattle.std.specs.Option.{MatchOption, unwrap_or}
use Rattle.std.specs.declared.option.Option.{Option}
use Rattle.std.specs.declared.option.Option.TheVariants.{None, Some}
use Rattle.values.specs.Values.{Bytes, size_of, natural}
use Rattle.values.proofs.Bytes.{bytes_drop}
use Rattle.values.proofs.Sized.{size-le}
use Rattle.setting.specs.declared.Head.{Head}
use Rattle.setting.specs.Setting.{head, length_of, lengths_to, head_of, tail_of, rows_in, heads, tails, is_above, falls, some_of}
use Rattle.first.specs.First.{first_place}
use Rattle.first.proofs.Laws.{first_at, first-none}
use Rattle.setting.proofs.Laws.{heads_at, tails-at}
use Rattle.setting.proofs.Lists.{lengths_next}

pub size_most : (kind : ℕ) → size_of kind ≤ 8
size_most kind = elim (dec_le 1 (size_of kind)) [ yes h ↦ size-le kind h | no h ↦ omega arith ]

-- 255 elements of 8 bytes
pub length_most : (h : Head) → h.count < 256 → length_of h ≤ 2040
unfolding length_of
length_most h l =
    let least : h.count * size_of h.kind ≤ h.count * 8 = mul-le-mul_left h.count (size_most h.kind) in
    omega arith

-- so it is far from wrapping
pub measure_fits : (h : Head) (size : ℕ) → h.count < 256 → size ≡ size_of h.kind → h.count * size < 2 ^ 64
unfolding length_of
measure_fits h size l e = let most : h.count * size_of h.kind ≤ 2040 = length_most h l in rw e (omega arith)

row_count : (rows : List ℕ) (k : ℕ) → Bytes rows → (heads rows k).count < 256
unfolding heads head_of
row_count rows k b = by (ltb k (rows_in rows))
  where
    by : (t : Bool) → (cond t (head (get_or (drop (8 * k) rows) 0 0) (get_or (drop (8 * k) rows) 1 0) (get_or (drop (8 * k) rows) 2 0) (get_or (drop (8 * k) rows) 3 0)) (head 0 0 0 0)).count < 256
    by true = bytes_drop (8 * k) rows b 3
    by false = omega arith

pub head_read : (rows : List ℕ) (k : ℕ) → k < length rows / 8
    → head (get_or rows (8 * k) 0) (get_or rows (8 * k + 1) 0) (get_or rows (8 * k + 2) 0) (get_or rows (8 * k + 3) 0) ≡ heads rows k
unfolding rows_in head_of
head_read rows k h =
    sym (heads_at rows k h ∙ (rw (get_or-drop (8 * k) rows 0 0, get_or-drop (8 * k) rows 1 0, get_or-drop (8 * k) rows 2 0, get_or-drop (8 * k) rows 3 0, add-zero (8 * k))))

pub head_none : (rows : List ℕ) (k : ℕ) → length rows / 8 ≤ k → head 0 0 0 0 ≡ heads rows k
unfolding heads rows_in
head_none rows k h = rw (le-ltb k (length rows / 8) h)

pub tail-read : (rows : List ℕ) (k from to : ℕ) → k < length rows / 8 → from ≡ 8 * k + 4 → to ≡ from + 4
    → natural (take 8 (take (to - from) (drop from rows))) ≡ tails rows k
unfolding rows_in tail_of
tail-read rows k from to h f t =
    let four : to - from ≡ 4 = omega arith in
    let all : take 8 (take 4 (drop (8 * k + 4) rows)) ≡ take 4 (drop (8 * k + 4) rows) =
    take_all 8 (take 4 (drop (8 * k + 4) rows)) (omega (arith, length-take 4 (drop (8 * k + 4) rows))) in
    rw (four, f, all) (ap (λ (l : List ℕ). natural (take 4 l)) (sym (drop-drop 4 (8 * k) rows)) ∙ sym (tails-at rows k h))

pub tail_none : (rows : List ℕ) (k : ℕ) → length rows / 8 ≤ k → 0 ≡ tails rows k
unfolding tails rows_in
tail_none rows k h = rw (le-ltb k (length rows / 8) h)

-- ---- the searches

-- a row that has one before it
pub falls_behind : (at : ℕ → Head) (k : ℕ) → 1 ≤ k → falls at k ≡ not (is_above (at (k - 1)) (at k))
unfolding falls
falls_behind at zero l = absurd (omega arith)
falls_behind at (suc k) l = let back : suc k - 1 ≡ k = omega arith in rw back

pub first_falls : (rows : List ℕ) → falls (heads rows) 0 ≡ false
unfolding falls
first_falls rows = refl

pub found : (p : ℕ → Bool) (rows : List ℕ) (k : ℕ) → k < length rows / 8 → ((j : ℕ) → j < k → p j ≡ false) → p k ≡ true → k ≡ first_place p (rows_in rows)
unfolding rows_in
found p rows k h before there = sym (first_at p (length rows / 8) k h before there)

pub none_found : (p : ℕ → Bool) (rows : List ℕ) (k : ℕ) → length rows / 8 ≤ k → ((j : ℕ) → j < k → p j ≡ false) → length rows / 8 ≡ first_place p (rows_in rows)
unfolding rows_in
none_found p rows k h before = sym (first-none p (length rows / 8) (λ j l. before j (omega arith)))

-- what a test tells of the rows from one on
abbrev pub Told : (ℕ → Bool) → ℕ → Bool → ℕ → Type 0
Told p from t k = from ≤ k → p k ≡ t

-- what `find` answers over the rows from one on, where none before it fits
pub sought : (p : ℕ → Bool) (rows : List ℕ) (from : ℕ) (r : Option ℕ) → ((j : ℕ) → j < from → p j ≡ false)
    → MatchOption r ((k : ℕ) → from ≤ k → k < length rows / 8 → Told p from false k)
    (λ i. (from ≤ i) × (i < length rows / 8) × Told p from true i × ((k : ℕ) → from ≤ k → k < i → Told p from false k))
    → unwrap_or r (length rows / 8) ≡ first_place p (rows_in rows)
sought p rows from None before none =
    none_found p rows (length rows / 8) (omega arith) (λ j l. elim (dec_le from j) [ yes h ↦ none j h l h | no h ↦ before j (omega arith) ])
sought p rows from (Some i) before at =
    found p rows i at.1 (λ j l. elim (dec_le from j) [ yes h ↦ at.3 j h l h | no h ↦ before j (omega arith) ]) (at.2 at.0)

-- a row's value is at most 255 elements of 8 bytes
pub row_most : (rows : List ℕ) (k : ℕ) → Bytes rows → length_of (heads rows k) ≤ 2040
row_most rows k b = length_most (heads rows k) (row_count rows k b)

-- a search that ended before the last row found some
pub some_found : (p : ℕ → Bool) (n r : ℕ) → r ≡ first_place p n → r < n → some_of p n ≡ true
unfolding some_of
some_found p n r e h = rw (← e) (lt-ltb r n h)

pub nothing_found : (p : ℕ → Bool) (n r : ℕ) → r ≡ first_place p n → n ≤ r → some_of p n ≡ false
unfolding some_of
nothing_found p n r e h = rw (← e) (le-ltb r n h)

pub some_at : (p : ℕ → Bool) (n k : ℕ) → k < n → ((j : ℕ) → j < k → p j ≡ false) → p k ≡ true → some_of p n ≡ true
some_at p n k h before there = some_found p n k (sym (first_at p n k h before there)) h

pub some-none : (p : ℕ → Bool) (n : ℕ) → ((j : ℕ) → j < n → p j ≡ false) → some_of p n ≡ false
some-none p n before = nothing_found p n n (sym (first-none p n before)) (omega arith)

-- ---- lengths, added row by row

pub end_on : (rows : List ℕ) (k end size : ℕ) {h : Head} → end ≡ lengths_to (heads rows) k → h ≡ heads rows k → size ≡ length_of h
    → end + size ≡ lengths_to (heads rows) (k + 1)
end_on rows k end size e p q = rw (e, q, p, add-one k) (sym (lengths_next (heads rows) k))

pub end_room : (rows : List ℕ) (k end size : ℕ) {h : Head} → Bytes rows → end ≤ 2040 * k → h ≡ heads rows k → size ≡ length_of h → end + size ≤ 2040 * (k + 1)
end_room rows k end size b l p q = rw (q, p) (omega (arith, row_most rows k b))

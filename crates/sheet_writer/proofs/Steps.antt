-- What the code's steps need.
-- Assumes nothing.
use Rattle.std.specs.Prelude.{Ok, Err}
use mathlib.Core.Path.{◌≡◌, refl, sym, ap, ◌∙◌}
use mathlib.Core.Bool.{Bool, true, false, not}
use mathlib.Core.List.{List, [], ◌∷◌, ◌++◌, append_assoc}
use mathlib.Core.Logic.{◌≢◌}
use Prim.Native.Nat.{ℕ, zero, suc, ◌+◌, ◌-◌, ◌*◌, ◌/◌, ◌%◌, ◌≤◌, ◌<◌}
use native.Mathlib.Nat.{le_antisymm}
use native.Mathlib.Numerals.{add-one}
use native.Mathlib.Omega.{arith}
use borrow.Author.Tests.{lt-ltb, le-ltb, eq-eqb, ne_eqb}
use lib.Dec.{eqb}
use lib.ListN.{length, take, drop, length-append, length-drop}
use lib.Seq.{length-take-le, drop-drop}
use Rattle.lent.specs.Lent.{over, over_at}
use Rattle.lent.proofs.Laws.{over_at_none, over_at_append, over_at_zero}
use Rattle.lent.proofs.Moving.{drop_past, drop-take, over_at_ahead}
use Rattle.first.specs.First.{first_place}
use Rattle.values.specs.Values.{Bytes, bytes_of}
use Rattle.values.proofs.Bytes.{bytes_take, bytes_drop}
use Rattle.setting.specs.declared.Head.{Head}
use Rattle.setting.specs.declared.Fault.TheVariants.{OutOfOrder, NotAllowed, NoRoom, TooMany}
use Rattle.setting.specs.Setting.{length_of, lengths_to, head_of, rows_in, heads, tails, falls, unfit, some_of}
use Rattle.setting.proofs.Laws.{heads_at}
use Rattle.setting.proofs.Steps.{some_found, nothing_found, some_at, some-none}
use Rattle.sheet.specs.Sheet.{header_for, record_for, sheet_of}
use Rattle.sheet.proofs.Rowed.{length_record}
use Rattle.sheet.proofs.Written.{length_header}
use Rattle.sheet_writer.specs.Writer.{handed, misstated, is_misstated, write_refusal, laid_from, Writes, Lays, LaysAgain}
use Rattle.sheet_writer.specs.Answers.{Writing}
use Rattle.sheet_writer.proofs.Handed.{Stated, stated, decides_lengths, sheet_laid, length_laid}

-- ---- the lengths that are stated

pub rows_broken : (rows : List ℕ) (size : ℕ) → length rows ≢ 8 * (length rows / 8) → true ≡ is_misstated rows size
unfolding is_misstated rows_in
rows_broken rows size w = rw (ne_eqb (length rows) (8 * (length rows / 8)) w)

pub well_stated : (rows : List ℕ) (k size : ℕ) {h : Head} {t : ℕ} → h ≡ heads rows k → size ≡ length_of h → t ≡ tails rows k → t ≡ size → misstated rows k ≡ false
well_stated rows k size p q r e = rw (eq-eqb (tails rows k) (length_of (heads rows k)) (sym r ∙ (e ∙ (q ∙ ap length_of p))))

pub ill_stated : (rows : List ℕ) (whole k size : ℕ) {h : Head} {t : ℕ} → k < length rows / 8 → ((j : ℕ) → j < k → misstated rows j ≡ false)
    → h ≡ heads rows k → size ≡ length_of h → t ≡ tails rows k → t ≢ size → length rows ≡ 8 * (length rows / 8) → true ≡ is_misstated rows whole
unfolding is_misstated rows_in
ill_stated rows whole k size l before p q r w e =
    let here : misstated rows k ≡ true = rw (ne_eqb (tails rows k) (length_of (heads rows k)) (λ z. w (r ∙ (z ∙ sym (q ∙ ap length_of p))))) in
    rw (eq-eqb (length rows) (8 * (length rows / 8)) e, some_at (misstated rows) (length rows / 8) k l before here)

pub all_stated : (rows : List ℕ) (size k end : ℕ) → k ≤ length rows / 8 → length rows / 8 ≤ k → ((j : ℕ) → j < k → misstated rows j ≡ false)
    → end ≡ lengths_to (heads rows) k → length rows ≡ 8 * (length rows / 8) → not (eqb size end) ≡ is_misstated rows size
unfolding is_misstated rows_in
all_stated rows size k end h l before e w =
    let n : k ≡ length rows / 8 = le_antisymm h l in
    let none : some_of (misstated rows) (length rows / 8) ≡ false = some-none (misstated rows) (length rows / 8) (λ j m. before j (omega arith)) in
    rw (eq-eqb (length rows) (8 * (length rows / 8)) w, none, e, n)

-- ---- what is laid

pub header_bytes : (n : ℕ) → n ≤ 255
    → 1 ∷ 0 ∷ n ∷ 0 ∷ 12 ∷ 0 ∷ 0 ∷ 0 ∷ (12 + 8 * n) % 256 ∷ (12 + 8 * n) / 256 ∷ 0 ∷ 0 ∷ [] ≡ header_for n
unfolding header_for bytes_of
header_bytes n h =
    let a : n % 256 ≡ n = omega arith in
    let b : n / 256 % 256 ≡ 0 = omega arith in
    let c : (12 + 8 * n) / 256 % 256 ≡ (12 + 8 * n) / 256 = omega arith in
    let d : (12 + 8 * n) / 256 / 256 % 256 ≡ 0 = omega arith in
    let e : (12 + 8 * n) / 256 / 256 / 256 % 256 ≡ 0 = omega arith in
    rw (a, b, e, d, c)

laid_step : (at : ℕ → Head) (k m : ℕ) → record_for (at k) (lengths_to at k) ++ laid_from at (k + 1) m ≡ laid_from at k (suc m)
unfolding laid_from
laid_step at k m = rw (add-one k)

none_laid : (at : ℕ → Head) (k : ℕ) → laid_from at k 0 ≡ []
unfolding laid_from
none_laid at k = refl

-- the records that are still to be laid, of n, give the result
pub again_start : (at : ℕ → Head) (n : ℕ) (room : List ℕ) → over_at (12 + 8 * 0) (laid_from at 0 (n - 0)) room ≡ over_at 12 (laid_from at 0 n) room
again_start at n room =
    let all : n - 0 ≡ n = omega arith in
    rw all

pub laid_on : (at : ℕ → Head) (n k offset : ℕ) (room room' w : List ℕ) {h : Head} → k < n → offset ≡ lengths_to at k → h ≡ at k
    → over_at (12 + 8 * k) (laid_from at k (n - k)) room ≡ w → room' ≡ over_at (12 + 8 * k) (record_for h offset) room
    → over_at (12 + 8 * (k + 1)) (laid_from at (k + 1) (n - (k + 1))) room' ≡ w
laid_on at n k offset room room' w {h} l e p inv laid =
    let left : n - k ≡ suc (n - (k + 1)) = omega arith in
    let one : record_for h offset ≡ record_for (at k) (lengths_to at k) = rw (p, e) in
    let place : 12 + 8 * k + length (record_for h offset) ≡ 12 + 8 * (k + 1) = omega (arith, length_record h offset) in
    ap (λ (d : List ℕ). over_at (12 + 8 * (k + 1)) (laid_from at (k + 1) (n - (k + 1))) d) laid
    ∙ (ap (λ (i : ℕ). over_at i (laid_from at (k + 1) (n - (k + 1))) (over_at (12 + 8 * k) (record_for h offset) room)) (sym place)
    ∙ (over_at_append (12 + 8 * k) (record_for h offset) (laid_from at (k + 1) (n - (k + 1))) room
    ∙ (ap (λ (r : List ℕ). over_at (12 + 8 * k) (r ++ laid_from at (k + 1) (n - (k + 1))) room) one
    ∙ (ap (λ (r : List ℕ). over_at (12 + 8 * k) r room) (laid_step at k (n - (k + 1))) ∙ (rw left at inv)))))

pub laid_all : (at : ℕ → Head) (n k : ℕ) (room w : List ℕ) → n ≤ k → over_at (12 + 8 * k) (laid_from at k (n - k)) room ≡ w → room ≡ w
laid_all at n k room w h inv =
    let none : n - k ≡ 0 = omega arith in
    sym (over_at_none (12 + 8 * k) room) ∙ (rw (none, none_laid at k) at inv)

pub laid_start : (rows room : List ℕ) → over_at (12 + 8 * 0) (laid_from (heads rows) 0 (length rows / 8 - 0)) room ≡ over_at 12 (laid_from (heads rows) 0 (rows_in rows)) room
unfolding rows_in
laid_start rows room = again_start (heads rows) (length rows / 8) room

pub length_laid_from : (at : ℕ → Head) (k n : ℕ) → length (laid_from at k n) ≡ 8 * n
unfolding laid_from
length_laid_from at k zero = refl
length_laid_from at k (suc n) =
    let ih : length (laid_from at (suc k) n) ≡ 8 * n = length_laid_from at (suc k) n in
    omega (arith, length-append (record_for (at k) (lengths_to at k)) (laid_from at (suc k) n), length_record (at k) (lengths_to at k), ih)

-- ---- what is laid again, where the rows stand already

-- the rows of a room, and the head of one of them, by what stands behind those before it
pub rows_again : (room : List ℕ) (n : ℕ) → 12 + 8 * n ≤ length room → (length (take (8 * n) (drop 12 room)) ≡ 8 * n) × (length (take (8 * n) (drop 12 room)) / 8 ≡ n)
rows_again room n h =
    let long : length (take (8 * n) (drop 12 room)) ≡ 8 * n = length-take-le (8 * n) (drop 12 room) (omega (arith, length-drop 12 room, h)) in
    (long, omega (arith, long))

pub head_again : (before room : List ℕ) (n k : ℕ) {h : Head} → 12 + 8 * n ≤ length before → length room ≡ length before → k < n
    → drop (12 + 8 * k) room ≡ drop (12 + 8 * k) before → h ≡ heads (take (12 + 8 * n - 12) (drop 12 room)) k → h ≡ heads (take (8 * n) (drop 12 before)) k
unfolding rows_in
head_again before room n k h long l same is =
    let e : 12 + 8 * n - 12 ≡ 8 * n = omega arith in
    is ∙ (ap (λ (i : ℕ). heads (take i (drop 12 room)) k) e ∙ (from room (omega (arith, h, long)) ∙ (ap (λ (x : List ℕ). head_of (take (8 * n - 8 * k) x)) same ∙ sym (from before h))))
  where
    from : (x : List ℕ) → 12 + 8 * n ≤ length x → heads (take (8 * n) (drop 12 x)) k ≡ head_of (take (8 * n - 8 * k) (drop (12 + 8 * k) x))
    from x w =
        heads_at (take (8 * n) (drop 12 x)) k (let t = (rows_again x n w).1 in omega (arith, t, l))
        ∙ ap head_of (drop-take (8 * k) (8 * n) (drop 12 x) (omega (arith, l)) ∙ ap (take (8 * n - 8 * k)) (drop-drop (8 * k) 12 x))

pub bytes_again : (room : List ℕ) (n : ℕ) → Bytes room → Bytes (take (8 * n) (drop 12 room))
bytes_again room n b = bytes_take (8 * n) (drop 12 room) (bytes_drop 12 room b)

-- what stands behind a record that was laid stays
pub behind_again : (before room room' : List ℕ) (k offset : ℕ) (h : Head) → drop (12 + 8 * k) room ≡ drop (12 + 8 * k) before
    → room' ≡ over_at (12 + 8 * k) (record_for h offset) room → drop (12 + 8 * (k + 1)) room' ≡ drop (12 + 8 * (k + 1)) before
behind_again before room room' k offset h same laid =
    ap (drop (12 + 8 * (k + 1))) laid
    ∙ (drop_past (12 + 8 * (k + 1)) (12 + 8 * k) (record_for h offset) room (omega (arith, length_record h offset))
    ∙ (further room ∙ (ap (drop 8) same ∙ sym (further before))))
  where
    further : (x : List ℕ) → drop (12 + 8 * (k + 1)) x ≡ drop 8 (drop (12 + 8 * k) x)
    further x = let e : 12 + 8 * (k + 1) ≡ 12 + 8 * k + 8 = omega arith in ap (λ (i : ℕ). drop i x) e ∙ sym (drop-drop 8 (12 + 8 * k) x)

-- header ahead of the records: the contract of `lay_again`
pub again_short : (n : ℕ) (room : List ℕ) → length room < 12 + 8 * n → LaysAgain n room room
again_short n room h = rw (lt-ltb (length room) (12 + 8 * n) h) refl

pub again_laid : (n : ℕ) (room one two : List ℕ) → 12 + 8 * n ≤ length room → one ≡ over_at 12 (laid_from (heads (take (8 * n) (drop 12 room))) 0 n) room
    → two ≡ over_at 0 (header_for n) one → LaysAgain n room two
again_laid n room one two h a b =
    let laid = laid_from (heads (take (8 * n) (drop 12 room))) 0 n in
    let place : 12 ≡ 0 + length (header_for n) = omega (arith, length_header n) in
    rw (le-ltb (length room) (12 + 8 * n) h)
    (b
    ∙ (ap (over_at 0 (header_for n)) (a ∙ ap (λ (i : ℕ). over_at i laid room) place)
    ∙ (over_at_ahead 0 (header_for n) laid room ∙ over_at_zero (header_for n ++ laid) room)))

-- ---- header, records and values, one behind the other, are the sheet

sheet_laid_over : (rows values room one two three : List ℕ) → Stated rows values → one ≡ over_at 0 (header_for (rows_in rows)) room
    → two ≡ over_at 12 (laid_from (heads rows) 0 (rows_in rows)) one → three ≡ over_at (12 + 8 * rows_in rows) values two
    → three ≡ over (sheet_of (handed rows values)) room
sheet_laid_over rows values room one two three s a b c =
    let header = header_for (rows_in rows) in
    let laid = laid_from (heads rows) 0 (rows_in rows) in
    let first : two ≡ over_at 0 (header ++ laid) room =
    b ∙ (ap (over_at 12 laid) a ∙ (ap (λ (i : ℕ). over_at i laid (over_at 0 header room)) (sym (after_header (rows_in rows))) ∙ over_at_append 0 header laid room)) in
    let place : 0 + length (header ++ laid) ≡ 12 + 8 * rows_in rows =
    omega (arith, length-append header laid, length_header (rows_in rows), length_laid_from (heads rows) 0 (rows_in rows)) in
    c ∙ (ap (over_at (12 + 8 * rows_in rows) values) first
    ∙ (ap (λ (i : ℕ). over_at i values (over_at 0 (header ++ laid) room)) (sym place)
    ∙ (over_at_append 0 (header ++ laid) values room
    ∙ (over_at_zero (header ++ laid ++ values) room ∙ ap (λ (l : List ℕ). over l room) (append_assoc header laid values ∙ sym (sheet_laid rows values s.all))))))
  where
    after_header : (n : ℕ) → 0 + length (header_for n) ≡ 12
    after_header n = omega (arith, length_header n)

pub sheet_over : (rows values room one two three : List ℕ) → Stated rows values → one ≡ over_at 0 (header_for (length rows / 8)) room
    → two ≡ over_at 12 (laid_from (heads rows) 0 (rows_in rows)) one → three ≡ over_at (12 + 8 * (length rows / 8)) values two
    → three ≡ over (sheet_of (handed rows values)) room
unfolding rows_in
sheet_over rows values room one two three s a b c = sheet_laid_over rows values room one two three s a b c

-- ---- the answer where the settings are allowed

pub right_lengths : (rows values : List ℕ) → is_misstated rows (length values) ≡ false → Stated rows values
right_lengths rows values e = stated rows values ((decides_lengths rows values).not_so e)

pub lay_narrow : (rows values room : List ℕ) (size : ℕ) → Stated rows values → size ≡ 12 + 8 * (length rows / 8) + length values → length room < size
    → Lays (sheet_of (handed rows values)) room (Err NoRoom) room
unfolding rows_in
lay_narrow rows values room size s e h =
    let long : length (sheet_of (handed rows values)) ≡ size = length_laid rows values s.all ∙ sym e in
    rw (long, lt-ltb (length room) size h) (refl, refl)

pub lay_done : (rows values room room' : List ℕ) (size : ℕ) → Stated rows values → size ≡ 12 + 8 * (length rows / 8) + length values → size ≤ length room
    → room' ≡ over (sheet_of (handed rows values)) room → Lays (sheet_of (handed rows values)) room (Ok size) room'
unfolding rows_in
lay_done rows values room room' size s e h laid =
    let long : length (sheet_of (handed rows values)) ≡ size = length_laid rows values s.all ∙ sym e in
    rw (long, le-ltb (length room) size h) (refl, laid)

-- ---- the whole call, row by row

pub write_many : (rows values room : List ℕ) → 128 < length rows / 8 → Writes rows values room (Err TooMany) room
unfolding write_refusal rows_in
write_many rows values room h = rw (lt-ltb 128 (length rows / 8) h) (refl, refl)

pub write_falls : (rows values room : List ℕ) (r : ℕ) → length rows / 8 ≤ 128 → r ≡ first_place (falls (heads rows)) (rows_in rows) → r < length rows / 8
    → Writes rows values room (Err OutOfOrder) room
unfolding write_refusal rows_in
write_falls rows values room r few e h = rw (le-ltb 128 (length rows / 8) few, some_found (falls (heads rows)) (length rows / 8) r e h) (refl, refl)

pub write_unfit : (rows values room : List ℕ) (r q : ℕ) → length rows / 8 ≤ 128 → r ≡ first_place (falls (heads rows)) (rows_in rows) → length rows / 8 ≤ r
    → q ≡ first_place (unfit (heads rows)) (rows_in rows) → q < length rows / 8 → Writes rows values room (Err NotAllowed) room
unfolding write_refusal rows_in
write_unfit rows values room r q few e h f g =
    rw (
      le-ltb 128 (length rows / 8) few,
      nothing_found (falls (heads rows)) (length rows / 8) r e h,
      some_found (unfit (heads rows)) (length rows / 8) q f g,
    ) (refl, refl)

pub write_misstated : (rows values room : List ℕ) (r q : ℕ) {t : Bool} → length rows / 8 ≤ 128 → r ≡ first_place (falls (heads rows)) (rows_in rows) → length rows / 8 ≤ r
    → q ≡ first_place (unfit (heads rows)) (rows_in rows) → length rows / 8 ≤ q → t ≡ is_misstated rows (length values) → t ≡ true
    → Writes rows values room (Err NotAllowed) room
unfolding write_refusal rows_in
write_misstated rows values room r q few e h f g m t =
    rw (
      le-ltb 128 (length rows / 8) few,
      nothing_found (falls (heads rows)) (length rows / 8) r e h,
      nothing_found (unfit (heads rows)) (length rows / 8) q f g,
      ← m,
      t,
    ) (refl, refl)

pub write_laid : (rows values room room' : List ℕ) (r q : ℕ) {t : Bool} {w : Writing} → length rows / 8 ≤ 128
    → r ≡ first_place (falls (heads rows)) (rows_in rows) → length rows / 8 ≤ r → q ≡ first_place (unfit (heads rows)) (rows_in rows) → length rows / 8 ≤ q
    → t ≡ is_misstated rows (length values) → t ≡ false → Lays (sheet_of (handed rows values)) room w room' → Writes rows values room w room'
unfolding write_refusal rows_in
write_laid rows values room room' r q few e h f g m t laid =
    rw (
      le-ltb 128 (length rows / 8) few,
      nothing_found (falls (heads rows)) (length rows / 8) r e h,
      nothing_found (unfit (heads rows)) (length rows / 8) q f g,
      ← m,
      t,
    ) laid

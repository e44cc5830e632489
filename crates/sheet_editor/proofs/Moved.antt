-- What the moves within the room come to: records and values of the new sheet, one behind the other, over the room as it was. Nothing that is
-- still needed is overwritten: each stretch is what stood there before the call.
-- Assumes nothing.
use mathlib.Core.Path.{◌≡◌, refl, sym, ap, ap₂, ◌∙◌}
use mathlib.Core.Bool.{cond, not}
use mathlib.Core.List.{List, [], ◌∷◌, ◌++◌, append_assoc}
use mathlib.Core.Option.{none}
use Prim.Native.Nat.{ℕ, ◌+◌, ◌-◌, ◌*◌, ◌≤◌, ◌<◌}
use native.Mathlib.Decide.{dec_lt}
use native.Mathlib.Omega.{arith}
use borrow.Author.Tests.{le-ltb, lt-ltb}
use lib.Dec.{ltb}
use lib.ListN.{length, take, drop, length-append, length-drop, take-append-drop}
use lib.Seq.{take-append-le, drop-append-le, take-append-add, take_at, drop-drop, take-take, take_all, length-take-le}
use Rattle.first.specs.First.{first_place}
use Rattle.first.proofs.Laws.{first-same}
use Rattle.lent.specs.Lent.{over, over_at, Moves, Lays}
use Rattle.lent.proofs.Laws.{over_at_append, over_at_zero, length-over_at}
use Rattle.lent.proofs.Moving.{drop_past, drop-take, drop_before, stretch_before, take_laid, over_at_ahead, over_covers}
use Rattle.setting.specs.declared.Head.{Head}
use Rattle.setting.specs.Setting.{Setting, setting, length_of, lengths_to, head_of, rows_in, heads, tails, settings_in, is_above, not_below}
use Rattle.setting.proofs.Laws.{rows_whole}
use Rattle.setting.proofs.Lists.{head_from, lengths_mono}
use Rattle.rows.proofs.Laws.{done_exactly}
use Rattle.sheet.specs.Sheet.{header_for, record_for, values_for, sheet_of, named, Writable, check_rows, check_refusal, count_in, records_in, values_in, held}
use Rattle.sheet.specs.Promised.{Whole}
use Rattle.sheet.proofs.Right.{check_ranked}
use Rattle.sheet.proofs.Steps.{right_none}
use Rattle.sheet.proofs.Rowed.{length_record}
use Rattle.sheet.proofs.Written.{length_header, length_sheet, held_long, held_named, held_writable}
use Rattle.sheet_writer.specs.Writer.{handed, laid_from, LaysAgain}
use Rattle.sheet_writer.proofs.Handed.{sheet_laid, length_laid, lengths_from}
use Rattle.sheet_writer.proofs.Steps.{length_laid_from}
use Rattle.sheet_editor.specs.Editor.{cut_out, put_in}
use Rattle.sheet_editor.proofs.Parts.{lengths_split, lengths_joined, settings_joined, those_before, those_behind, front_lengths, front_long, front_sized}

-- ---- a right sheet in the room: its records, its values, and what stands behind it

abbrev pub rows_of : List ℕ → ℕ → List ℕ
rows_of room n = take (8 * n) (drop 12 room)

abbrev pub values_of : List ℕ → ℕ → ℕ → List ℕ
values_of room size n = take (size - (12 + 8 * n)) (drop (12 + 8 * n) room)

pub record Stands (room : List ℕ) (size n : ℕ) : Type 0 where
  pub within : size ≤ length room
  pub few : n ≤ 128
  pub reaches : 12 + 8 * n ≤ size
  pub long : length (rows_of room n) ≡ 8 * n
  pub sized : length (values_of room size n) ≡ lengths_to (head_from (rows_of room n)) n
  pub placed : (k : ℕ) → k < n → tails (rows_of room n) k ≡ lengths_to (head_from (rows_of room n)) k
  pub holds : held (take size room) ≡ settings_in n (rows_of room n) (values_of room size n)
  pub many : length (held (take size room)) ≡ n
  pub names : (k : ℕ) → k < n → heads (rows_of room n) k ≡ named (held (take size room)) k
  pub can : Writable (held (take size room))

module _ (room : List ℕ) (size n : ℕ) (fits : size ≤ length room) (right : check_refusal (take size room) ≡ none) (count : n ≡ count_in (take size room)) where
  w : Whole (take size room)
  w = right_none (take size room) right

  stated : length (take size room) ≡ size
  stated = length-take-le size room fits

  reaching : 12 + 8 * n ≤ size
  reaching = let f = w.header.reaches in let l = stated in omega (arith, f, count, l)

  rows_in_room : records_in (take size room) ≡ rows_of room n
  unfolding records_in
  rows_in_room =
      let r = reaching in
      rw (← count) (ap (take (8 * n)) (drop-take 12 size room (omega (arith, r))) ∙ take-take (8 * n) (size - 12) (drop 12 room) (omega (arith, r)))

  values_in_lem : values_in (take size room) ≡ values_of room size n
  unfolding values_in
  values_in_lem = rw (← count) (drop-take (12 + 8 * n) size room reaching)

  held_in : held (take size room) ≡ settings_in n (rows_of room n) (values_of room size n)
  unfolding held
  held_in =
      ap (λ (i : ℕ). settings_in i (records_in (take size room)) (values_in (take size room))) (sym count)
      ∙ ap₂ (λ (x y : List ℕ). settings_in n x y) rows_in_room values_in_lem

  rows_long : length (rows_of room n) ≡ 8 * n
  rows_long = let r = reaching in length-take-le (8 * n) (drop 12 room) (omega (arith, length-drop 12 room, r, fits))

  many_rows : rows_in (rows_of room n) ≡ n
  many_rows = rows_whole (rows_of room n) n rows_long

  by_heads : (k : ℕ) → k ≤ n → lengths_to (heads (records_in (take size room))) k ≡ lengths_to (head_from (rows_of room n)) k
  by_heads k l = ap (λ (x : List ℕ). lengths_to (heads x) k) rows_in_room ∙ sym (lengths_from (rows_of room n) k (let m = many_rows in omega (arith, m, l)))

  all_sized_in : length (values_of room size n) ≡ lengths_to (head_from (rows_of room n)) n
  all_sized_in =
      let r = reaching in
      let l = length-take-le (size - (12 + 8 * n)) (drop (12 + 8 * n) room) (omega (arith, length-drop (12 + 8 * n) room, r, fits)) in
      let e = w.ends in
      let s = stated in
      let h = ap (λ (i : ℕ). lengths_to (heads (records_in (take size room))) i) (sym count) ∙ by_heads n (omega arith) in
      l ∙ omega (arith, e, s, h, count)

  pub stands : Stands room size n
  stands =
      record {
        within = fits;
        few = (let f = w.header.few in omega (arith, f, count));
        reaches = reaching;
        long = rows_long;
        sized = all_sized_in;
        placed = λ k l. ap (λ (x : List ℕ). tails x k) (sym rows_in_room) ∙ (w.placed k (omega (arith, l, count)) ∙ by_heads k (omega (arith, l)));
        holds = held_in;
        many = held_long (take size room) ∙ sym count;
        names = λ k l. ap (λ (x : List ℕ). heads x k) (sym rows_in_room) ∙ sym (held_named (take size room) w.header k (omega (arith, l, count)));
        can = held_writable (take size room) ((done_exactly (check_rows (take size room)) (check_refusal (take size room)) (check_ranked (take size room))).0 right);
      }

module _ (room : List ℕ) (size n : ℕ) (s : Stands room size n) where
  -- the values before a place, as the code finds them
  pub start_of : (k start : ℕ) → k ≤ n → start ≡ cond (ltb k n) (tails (rows_of room n) k) (size - (12 + 8 * n)) → start ≡ lengths_to (head_from (rows_of room n)) k
  start_of k start within is = elim (dec_lt k n) [
    | yes l ↦ is ∙ (rw (lt-ltb k n l) (s.placed k l))
    | no l ↦
        let e : k ≡ n = omega (arith, l, within) in
        let values_long : length (values_of room size n) ≡ size - (12 + 8 * n) =
        length-take-le (size - (12 + 8 * n)) (drop (12 + 8 * n) room)
        (let f = s.within in let r = s.reaches in omega (arith, length-drop (12 + 8 * n) room, f, r)) in
        is ∙ (rw (le-ltb k n (omega (arith, l))) (sym values_long ∙ (s.sized ∙ ap (lengths_to (head_from (rows_of room n))) (sym e))))
  ]

  values_sized : length (values_of room size n) ≡ size - (12 + 8 * n)
  values_sized =
      let f = s.within in
      let r = s.reaches in
      length-take-le (size - (12 + 8 * n)) (drop (12 + 8 * n) room) (omega (arith, length-drop (12 + 8 * n) room, f, r))

  -- no place's values begin past the end, and a later place's begin no earlier
  pub starts_within : (k : ℕ) → k ≤ n → lengths_to (head_from (rows_of room n)) k ≤ size - (12 + 8 * n)
  starts_within k within =
      let m = lengths_mono (head_from (rows_of room n)) k n within in
      let v = values_sized in
      let w = s.sized in
      omega (arith, m, v, w)

  -- what stands behind the sheet
  tail : List ℕ
  tail = drop (size - (12 + 8 * n)) (drop (12 + 8 * n) room)

  behind_header : drop 12 room ≡ rows_of room n ++ (values_of room size n ++ tail)
  unfolding tail
  behind_header =
      sym (take-append-drop (8 * n) (drop 12 room))
      ∙ ap (λ (l : List ℕ). rows_of room n ++ l)
      (drop-drop (8 * n) 12 room ∙ sym (take-append-drop (size - (12 + 8 * n)) (drop (12 + 8 * n) room)))

  behind_rows : drop (12 + 8 * n) room ≡ values_of room size n ++ tail
  unfolding tail
  behind_rows = sym (take-append-drop (size - (12 + 8 * n)) (drop (12 + 8 * n) room))

  -- the records from a place on, and the values before another one: one stretch
  pub stretch : (k start : ℕ) → k ≤ n → start ≤ size - (12 + 8 * n)
      → take (8 * (n - k) + start) (drop (12 + 8 * k) room) ≡ drop (8 * k) (rows_of room n) ++ take start (values_of room size n)
  stretch k start within below =
      let l = s.long in
      let v = values_sized in
      let rest : length (drop (8 * k) (rows_of room n)) ≡ 8 * (n - k) = length-drop (8 * k) (rows_of room n) ∙ (omega (arith, l, within)) in
      ap (take (8 * (n - k) + start))
      (sym (drop-drop (8 * k) 12 room)
      ∙ (ap (drop (8 * k)) behind_header ∙ drop-append-le (8 * k) (rows_of room n) (values_of room size n ++ tail) (omega (arith, l, within))))
      ∙ (ap (λ (i : ℕ). take (i + start) (drop (8 * k) (rows_of room n) ++ (values_of room size n ++ tail))) (sym rest)
      ∙ (take-append-add (drop (8 * k) (rows_of room n)) (values_of room size n ++ tail) start
      ∙ ap (λ (l : List ℕ). drop (8 * k) (rows_of room n) ++ l) (take-append-le start (values_of room size n) tail (omega (arith, v, below)))))

  -- the values from a place on, to the sheet's end
  pub values_from : (start : ℕ) → start ≤ size - (12 + 8 * n)
      → take (size - (12 + 8 * n + start)) (drop (12 + 8 * n + start) room) ≡ drop start (values_of room size n)
  values_from start below =
      let v = values_sized in
      ap (take (size - (12 + 8 * n + start)))
      (sym (drop-drop start (12 + 8 * n) room)
      ∙ (ap (drop start) behind_rows ∙ drop-append-le start (values_of room size n) tail (omega (arith, v, below))))
      ∙ take_at (drop start (values_of room size n)) tail (size - (12 + 8 * n + start)) (length-drop start (values_of room size n) ∙ omega (arith, v))

  -- a place among the rows is one among the settings
  pub place_among : (h : Head) (r : ℕ) → r ≡ first_place (not_below h (heads (rows_of room n))) n
      → r ≡ first_place (not_below h (named (held (take size room)))) (length (held (take size room)))
  place_among h r e =
      e
      ∙ (first-same (not_below h (heads (rows_of room n))) (not_below h (named (held (take size room)))) n (λ i l. ap (λ (x : Head). not (is_above x h)) (s.names i l))
      ∙ ap (first_place (not_below h (named (held (take size room))))) (sym s.many))

  -- the sheet that stands there is as long as was stated
  pub stated_long : length (sheet_of (held (take size room))) ≡ size
  unfolding handed
  stated_long =
      let many = rows_whole (rows_of room n) n s.long in
      let v = values_sized in
      let r = s.reaches in
      let long = length_laid (rows_of room n) (values_of room size n) (rw many (s.sized ∙ lengths_from (rows_of room n) n (omega (arith, many)))) in
      ap (λ (x : List Setting). length (sheet_of x)) (s.holds ∙ ap (λ (i : ℕ). settings_in i (rows_of room n) (values_of room size n)) (sym many))
      ∙ (long ∙ omega (arith, many, v, r))

  -- the rows before a place, in the room
  pub rows_before : (k : ℕ) → k ≤ n → take (8 * k) (drop 12 room) ≡ take (8 * k) (rows_of room n)
  rows_before k within = sym (take-take (8 * k) (8 * n) (drop 12 room) (omega (arith, within)))

-- ---- records and values of the new sheet are in their places: header and offsets make it the sheet of these settings

module _ (room : List ℕ) (k m : ℕ) (rows values two three : List ℕ) (moved : two ≡ over_at (12 + 8 * k) (rows ++ values) room)
    (long : 8 * k + length rows ≡ 8 * m) (fits : 12 + 8 * m + length values ≤ length room) (again : LaysAgain m two three)
    (sized : length values ≡ lengths_to (head_from (take (8 * k) (drop 12 room) ++ rows)) m) where
  all_rows : List ℕ
  all_rows = take (8 * k) (drop 12 room) ++ rows

  front : length (take (8 * k) (drop 12 room)) ≡ 8 * k
  front = length-take-le (8 * k) (drop 12 room) (omega (arith, length-drop 12 room, long, fits))

  all_long : length all_rows ≡ 8 * m
  unfolding all_rows
  all_long = let f = front in omega (arith, length-append (take (8 * k) (drop 12 room)) rows, f, long)

  many : rows_in all_rows ≡ m
  many = rows_whole all_rows m all_long

  two_long : length two ≡ length room
  two_long = ap length moved ∙ length-over_at (12 + 8 * k) (rows ++ values) room

  there : take (8 * m) (drop 12 two) ≡ all_rows
  unfolding all_rows
  there =
      ap (λ (l : List ℕ). take (8 * m) (drop 12 l)) moved
      ∙ (ap (take (8 * m)) (drop_before 12 (8 * k) (rows ++ values) room)
      ∙ (ap (λ (i : ℕ). take i (over_at (8 * k) (rows ++ values) (drop 12 room))) (sym long)
      ∙ take_laid (8 * k) rows values (drop 12 room) (omega (arith, length-drop 12 room, long, fits))))

  laid : List ℕ
  laid = header_for m ++ laid_from (heads all_rows) 0 m

  laid_long : length laid ≡ 12 + 8 * m
  unfolding laid
  laid_long = omega (arith, length-append (header_for m) (laid_from (heads all_rows) 0 m), length_header m, length_laid_from (heads all_rows) 0 m)

  all_sized : length values ≡ lengths_to (heads all_rows) (rows_in all_rows)
  unfolding all_rows
  all_sized = let e = many in rw e (sized ∙ lengths_from all_rows m (omega (arith, e)))

  sheet_is : sheet_of (settings_in m (take (8 * k) (drop 12 room) ++ rows) values) ≡ laid ++ values
  unfolding laid handed all_rows
  sheet_is =
      ap (λ (i : ℕ). sheet_of (settings_in i all_rows values)) (sym many)
      ∙ (sheet_laid all_rows values all_sized
      ∙ (ap (λ (i : ℕ). header_for i ++ (laid_from (heads all_rows) 0 i ++ values)) many ∙ sym (append_assoc (header_for m) (laid_from (heads all_rows) 0 m) values)))

  sheet_long : length (sheet_of (settings_in m (take (8 * k) (drop 12 room) ++ rows) values)) ≡ 12 + 8 * m + length values
  sheet_long = let l = laid_long in ap length sheet_is ∙ (length-append laid values ∙ omega (arith, l))

  sheet_laid_again : three ≡ over (sheet_of (settings_in m (take (8 * k) (drop 12 room) ++ rows) values)) room
  unfolding laid
  sheet_laid_again =
      let w = two_long in
      let l = laid_long in
      let named : three ≡ over laid two = (rw (le-ltb (length two) (12 + 8 * m) (omega (arith, w, fits)), there) at again) in
      let place : 12 + 8 * k + length rows ≡ 0 + length laid = omega (arith, l, long) in
      named
      ∙ (ap (over laid) (moved ∙ (sym (over_at_append (12 + 8 * k) rows values room) ∙ ap (λ (i : ℕ). over_at i values (over_at (12 + 8 * k) rows room)) place))
      ∙ (sym (over_at_zero laid (over_at (0 + length laid) values (over_at (12 + 8 * k) rows room)))
      ∙ (over_at_ahead 0 laid values (over_at (12 + 8 * k) rows room)
      ∙ (over_at_zero (laid ++ values) (over_at (12 + 8 * k) rows room)
      ∙ (over_covers (laid ++ values) (12 + 8 * k) rows room (omega (arith, length-append laid values, l, long))
      ∙ ap (λ (x : List ℕ). over x room) (sym sheet_is))))))

-- ---- a cut

module _ (room : List ℕ) (size n : ℕ) (s : Stands room size n) (from to : ℕ) (rise : from ≤ to) (within : to ≤ n) where
  -- where the values begin that go, and those behind them
  abbrev a : ℕ
  a = lengths_to (head_from (rows_of room n)) from

  abbrev b : ℕ
  b = lengths_to (head_from (rows_of room n)) to

  rows_left : List ℕ
  rows_left = drop (8 * to) (rows_of room n)

  values_left : List ℕ
  values_left = take (lengths_to (head_from (rows_of room n)) from) (values_of room size n) ++ drop (lengths_to (head_from (rows_of room n)) to) (values_of room size n)

  a_b : (a ≤ b) × (b ≤ size - (12 + 8 * n))
  a_b = (lengths_mono (head_from (rows_of room n)) from to rise, starts_within room size n s to within)

  rows_left_long : length rows_left ≡ 8 * (n - to)
  unfolding rows_left
  rows_left_long = let l = s.long in length-drop (8 * to) (rows_of room n) ∙ omega (arith, l)

  front_part : length (take a (values_of room size n)) ≡ a
  front_part = front_sized n (rows_of room n) (values_of room size n) from (omega (arith, rise, within)) s.long s.sized

  values_left_long : length values_left ≡ a + (size - (12 + 8 * n + b))
  unfolding values_left
  values_left_long =
      let f = front_part in
      let v = values_sized room size n s in
      omega (
        arith,
        length-append (take a (values_of room size n)) (drop b (values_of room size n)),
        f,
        length-drop b (values_of room size n),
        v,
      )

  -- the settings that are left are those of the rows and values that are left
  cut_settings : cut_out from to (held (take size room)) ≡ settings_in (n - (to - from)) (take (8 * from) (drop 12 room) ++ rows_left) values_left
  unfolding cut_out rows_left values_left
  cut_settings =
      let e : from + (n - to) ≡ n - (to - from) = omega (arith, rise, within) in
      let under : from ≤ n = omega (arith, rise, within) in
      ap (cut_out from to) s.holds
      ∙ (ap₂ (λ (x y : List Setting). x ++ y)
      (those_before n (rows_of room n) (values_of room size n) from under s.long s.sized)
      (those_behind n (rows_of room n) (values_of room size n) to within s.long s.sized)
      ∙ (sym
      (settings_joined from (n - to) (take (8 * from) (rows_of room n)) (drop (8 * to) (rows_of room n))
      (take (lengths_to (head_from (rows_of room n)) from) (values_of room size n)) (drop (lengths_to (head_from (rows_of room n)) to) (values_of room size n))
      (front_long n (rows_of room n) (values_of room size n) from under s.long s.sized)
      (front_sized n (rows_of room n) (values_of room size n) from under s.long s.sized
      ∙ sym (front_lengths n (rows_of room n) (values_of room size n) from under s.long s.sized)))
      ∙ ap₂ (λ (i : ℕ) (x : List ℕ). settings_in i (x ++ drop (8 * to) (rows_of room n)) values_left) e (sym (rows_before room size n s from under))))

  cut_sized : length values_left ≡ lengths_to (head_from (take (8 * from) (drop 12 room) ++ rows_left)) (n - (to - from))
  unfolding rows_left
  cut_sized =
      let e : from + (n - to) ≡ n - (to - from) = omega (arith, rise, within) in
      let whole : to + (n - to) ≡ n = omega (arith, within) in
      let under : from ≤ n = omega (arith, rise, within) in
      let l = values_left_long in
      let bounds = a_b in
      let up = bounds.0 in
      let end = bounds.1 in
      let split = lengths_split (rows_of room n) to (n - to) in
      let v = values_sized room size n s in
      let total = s.sized in
      let parts : lengths_to (head_from (take (8 * from) (rows_of room n) ++ drop (8 * to) (rows_of room n))) (from + (n - to))
      ≡ lengths_to (head_from (rows_of room n)) from + lengths_to (head_from (drop (8 * to) (rows_of room n))) (n - to) =
      lengths_joined (take (8 * from) (rows_of room n)) (drop (8 * to) (rows_of room n)) from (n - to)
      (front_long n (rows_of room n) (values_of room size n) from under s.long s.sized)
      ∙ ap (λ (x : ℕ). x + lengths_to (head_from (drop (8 * to) (rows_of room n))) (n - to))
      (front_lengths n (rows_of room n) (values_of room size n) from under s.long s.sized) in
      let all : lengths_to (head_from (rows_of room n)) n
      ≡ lengths_to (head_from (rows_of room n)) to + lengths_to (head_from (drop (8 * to) (rows_of room n))) (n - to) =
      ap (lengths_to (head_from (rows_of room n))) (sym whole) ∙ split in
      l
      ∙ (omega (arith, up, end, v, total, all, parts)
      ∙ (sym parts
      ∙ ap₂ (λ (i : ℕ) (x : List ℕ). lengths_to (head_from (x ++ drop (8 * to) (rows_of room n))) i) e (sym (rows_before room size n s from under))))

  -- the two moves
  module _ (one two three : List ℕ) (first : Moves room (12 + 8 * to) (12 + 8 * from) (8 * (n - to) + a) one)
      (second : Moves one (12 + 8 * n + b) (12 + 8 * (n - (to - from)) + a) (size - (12 + 8 * n + b)) two) (again : LaysAgain (n - (to - from)) two three) where
    one_is : one ≡ over_at (12 + 8 * from) (rows_left ++ take a (values_of room size n)) room
    unfolding rows_left
    one_is =
        let bounds = a_b in
        let up = bounds.0 in
        let end = bounds.1 in
        first ∙ ap (λ (l : List ℕ). over_at (12 + 8 * from) l room) (stretch room size n s to a within (omega (arith, up, end)))

    laid_first : length (rows_left ++ take a (values_of room size n)) ≡ 8 * (n - to) + a
    laid_first =
        let r = rows_left_long in
        let f = front_part in
        omega (arith, length-append rows_left (take a (values_of room size n)), r, f)

    two_is : two ≡ over_at (12 + 8 * from) (rows_left ++ values_left) room
    unfolding values_left
    two_is =
        let bounds = a_b in
        let up = bounds.0 in
        let end = bounds.1 in
        let l = laid_first in
        let still : drop (12 + 8 * n + b) one ≡ drop (12 + 8 * n + b) room =
        ap (drop (12 + 8 * n + b)) one_is
        ∙ drop_past (12 + 8 * n + b) (12 + 8 * from) (rows_left ++ take a (values_of room size n)) room (omega (arith, l, up, rise, within)) in
        let place : 12 + 8 * (n - (to - from)) + a ≡ 12 + 8 * from + length (rows_left ++ take a (values_of room size n)) = omega (arith, l, rise, within) in
        second
        ∙ (ap (λ (x : List ℕ). over_at (12 + 8 * (n - (to - from)) + a) (take (size - (12 + 8 * n + b)) x) one) still
        ∙ (ap (λ (x : List ℕ). over_at (12 + 8 * (n - (to - from)) + a) x one) (values_from room size n s b end)
        ∙ (ap₂ (λ (i : ℕ) (x : List ℕ). over_at i (drop b (values_of room size n)) x) place one_is
        ∙ (over_at_append (12 + 8 * from) (rows_left ++ take a (values_of room size n)) (drop b (values_of room size n)) room
        ∙ ap (λ (x : List ℕ). over_at (12 + 8 * from) x room) (append_assoc rows_left (take a (values_of room size n)) (drop b (values_of room size n)))))))

    long_then : 8 * from + length rows_left ≡ 8 * (n - (to - from))
    long_then = let r = rows_left_long in omega (arith, r, rise, within)

    fits_then : 12 + 8 * (n - (to - from)) + length values_left ≤ length room
    fits_then =
        let v = values_left_long in
        let bounds = a_b in
        let up = bounds.0 in
        let end = bounds.1 in
        let f = s.within in
        let r = s.reaches in
        omega (arith, v, up, end, f, r, rise, within)

    pub cut_room : three ≡ over (sheet_of (cut_out from to (held (take size room)))) room
    cut_room =
        sheet_laid_again room from (n - (to - from)) rows_left values_left two three two_is long_then fits_then again cut_sized
        ∙ ap (λ (x : List Setting). over (sheet_of x) room) (sym cut_settings)

    pub cut_long : length (sheet_of (cut_out from to (held (take size room)))) ≡ 12 + 8 * (n - (to - from)) + a + (size - (12 + 8 * n + b))
    cut_long =
        let v = values_left_long in
        ap (λ (x : List Setting). length (sheet_of x)) cut_settings
        ∙ (sheet_long room from (n - (to - from)) rows_left values_left two three two_is long_then fits_then again cut_sized ∙ omega (arith, v))

-- ---- a setting put in

-- how long the sheet gets, whatever room there is
values_joined : (xs ys : List Setting) → values_for (xs ++ ys) ≡ values_for xs ++ values_for ys
unfolding values_for
values_joined [] ys = refl
values_joined (x ∷ xs) ys = ap (λ (l : List ℕ). x.value ++ l) (values_joined xs ys) ∙ sym (append_assoc x.value (values_for xs) (values_for ys))

values_one : (x : Setting) (ys : List Setting) → values_for (x ∷ ys) ≡ x.value ++ values_for ys
unfolding values_for
values_one x ys = refl

pub longer : (at : ℕ) (new : Setting) (settings : List Setting) → at ≤ length settings
    → length (sheet_of (put_in at new settings)) ≡ length (sheet_of settings) + 8 + length new.value
unfolding put_in
longer at new settings within =
    let front = length-take-le at settings within in
    let back = length-drop at settings in
    let parts = ap values_for (sym (take-append-drop at settings)) ∙ values_joined (take at settings) (drop at settings) in
    let put = values_joined (take at settings) (new ∷ drop at settings) ∙ ap (λ (l : List ℕ). values_for (take at settings) ++ l) (values_one new (drop at settings)) in
    omega (
      arith,
      length_sheet settings,
      length_sheet (take at settings ++ (new ∷ drop at settings)),
      length-append (take at settings) (new ∷ drop at settings),
      front,
      back,
      within,
      ap length parts,
      ap length put,
      length-append (values_for (take at settings)) (values_for (drop at settings)),
      length-append (values_for (take at settings)) (new.value ++ values_for (drop at settings)),
      length-append new.value (values_for (drop at settings)),
    )

-- one row names one setting
one_setting : (h : Head) (value : List ℕ) → length value ≡ length_of h → settings_in 1 (record_for h 0) value ≡ setting h value ∷ []
unfolding settings_in head_of record_for
one_setting h value e = ap (λ (v : List ℕ). setting h v ∷ []) (take_all (length_of h) value (omega (arith, e)))

one_length : (h : Head) → lengths_to (head_from (record_for h 0)) 1 ≡ length_of h
unfolding lengths_to head_of record_for
one_length h = omega arith

module _ (room : List ℕ) (size n : ℕ) (s : Stands room size n) (at : ℕ) (within : at ≤ n) (h : Head) (value : List ℕ) (exact : length value ≡ length_of h)
    (fits : size + (8 + length value) ≤ length room) where
  abbrev start : ℕ
  start = lengths_to (head_from (rows_of room n)) at

  rows_then : List ℕ
  rows_then = record_for h 0 ++ drop (8 * at) (rows_of room n)

  values_then : List ℕ
  values_then =
      take (lengths_to (head_from (rows_of room n)) at) (values_of room size n) ++ (value ++ drop (lengths_to (head_from (rows_of room n)) at) (values_of room size n))

  start_in : start ≤ size - (12 + 8 * n)
  start_in = starts_within room size n s at within

  start_part : length (take start (values_of room size n)) ≡ start
  start_part = front_sized n (rows_of room n) (values_of room size n) at within s.long s.sized

  rest_rows : length (drop (8 * at) (rows_of room n)) ≡ 8 * (n - at)
  rest_rows = let l = s.long in length-drop (8 * at) (rows_of room n) ∙ omega (arith, l)

  rows_then_long : length rows_then ≡ 8 + 8 * (n - at)
  unfolding rows_then
  rows_then_long = let r = rest_rows in omega (arith, length-append (record_for h 0) (drop (8 * at) (rows_of room n)), length_record h 0, r)

  values_then_long : length values_then ≡ size - (12 + 8 * n) + length value
  unfolding values_then
  values_then_long =
      let p = start_part in
      let v = values_sized room size n s in
      let i = start_in in
      omega (
        arith,
        length-append (take start (values_of room size n)) (value ++ drop start (values_of room size n)),
        length-append value (drop start (values_of room size n)),
        length-drop start (values_of room size n),
        p,
        v,
        i,
      )

  put_settings : put_in at (setting h value) (held (take size room)) ≡ settings_in (n + 1) (take (8 * at) (drop 12 room) ++ rows_then) values_then
  unfolding put_in rows_then values_then
  put_settings =
      let e : at + (1 + (n - at)) ≡ n + 1 = omega (arith, within) in
      ap (put_in at (setting h value)) s.holds
      ∙ (ap₂ (λ (x y : List Setting). x ++ (setting h value ∷ y))
      (those_before n (rows_of room n) (values_of room size n) at within s.long s.sized)
      (those_behind n (rows_of room n) (values_of room size n) at within s.long s.sized)
      ∙ (ap (λ (x : List Setting). settings_in at (take (8 * at) (rows_of room n)) (take (lengths_to (head_from (rows_of room n)) at) (values_of room size n))
      ++ (x ++ settings_in (n - at) (drop (8 * at) (rows_of room n)) (drop (lengths_to (head_from (rows_of room n)) at) (values_of room size n))))
      (sym (one_setting h value exact))
      ∙ (ap (λ (x : List Setting). settings_in at (take (8 * at) (rows_of room n)) (take (lengths_to (head_from (rows_of room n)) at) (values_of room size n)) ++ x)
      (sym (settings_joined 1 (n - at) (record_for h 0) (drop (8 * at) (rows_of room n)) value
      (drop (lengths_to (head_from (rows_of room n)) at) (values_of room size n)) (length_record h 0) (exact ∙ sym (one_length h))))
      ∙ (sym (settings_joined at (1 + (n - at)) (take (8 * at) (rows_of room n)) rows_then
      (take (lengths_to (head_from (rows_of room n)) at) (values_of room size n)) (value ++ drop (lengths_to (head_from (rows_of room n)) at) (values_of room size n))
      (front_long n (rows_of room n) (values_of room size n) at within s.long s.sized)
      (front_sized n (rows_of room n) (values_of room size n) at within s.long s.sized
      ∙ sym (front_lengths n (rows_of room n) (values_of room size n) at within s.long s.sized)))
      ∙ ap₂ (λ (i : ℕ) (x : List ℕ). settings_in i (x ++ rows_then) values_then) e (sym (rows_before room size n s at within))))))

  put_sized : length values_then ≡ lengths_to (head_from (take (8 * at) (drop 12 room) ++ rows_then)) (n + 1)
  unfolding rows_then
  put_sized =
      let e : at + (1 + (n - at)) ≡ n + 1 = omega (arith, within) in
      let whole : at + (n - at) ≡ n = omega (arith, within) in
      let v = values_sized room size n s in
      let total = s.sized in
      let long = values_then_long in
      let split : lengths_to (head_from (rows_of room n)) n
      ≡ lengths_to (head_from (rows_of room n)) at + lengths_to (head_from (drop (8 * at) (rows_of room n))) (n - at) =
      ap (lengths_to (head_from (rows_of room n))) (sym whole) ∙ lengths_split (rows_of room n) at (n - at) in
      let parts = lengths_joined (take (8 * at) (rows_of room n)) rows_then at (1 + (n - at))
      (front_long n (rows_of room n) (values_of room size n) at within s.long s.sized) in
      let front = front_lengths n (rows_of room n) (values_of room size n) at within s.long s.sized in
      let one = lengths_joined (record_for h 0) (drop (8 * at) (rows_of room n)) 1 (n - at) (length_record h 0) in
      let own = one_length h in
      omega (arith, long, v, total, split, parts, front, one, own, exact)
      ∙ ap₂ (λ (i : ℕ) (x : List ℕ). lengths_to (head_from (x ++ rows_then)) i) e (sym (rows_before room size n s at within))

  module _ (one two three four five : List ℕ)
      (first : Moves room (12 + 8 * n + start) (12 + 8 * n + start + 8 + length value) (size - (12 + 8 * n + start)) one)
      (second : Moves one (12 + 8 * at) (12 + 8 * at + 8) (12 + 8 * n + start - (12 + 8 * at)) two)
      (third : Lays (record_for h 0) (12 + 8 * at) two three) (fourth : Lays value (12 + 8 * n + start + 8) three four) (again : LaysAgain (n + 1) four five) where
    middle : List ℕ
    middle = drop (8 * at) (rows_of room n) ++ take start (values_of room size n)

    middle_long : length middle ≡ 8 * (n - at) + start
    unfolding middle
    middle_long = let r = rest_rows in let p = start_part in omega (arith, length-append (drop (8 * at) (rows_of room n)) (take start (values_of room size n)), r, p)

    one_then : one ≡ over_at (12 + 8 * n + start + 8 + length value) (drop start (values_of room size n)) room
    one_then =
        first ∙ ap (λ (x : List ℕ). over_at (12 + 8 * n + start + 8 + length value) x room) (values_from room size n s start start_in)

    two_then : two ≡ over_at (12 + 8 * at + 8) middle one
    unfolding middle
    two_then =
        let e : 12 + 8 * n + start - (12 + 8 * at) ≡ 8 * (n - at) + start = omega (arith, within) in
        second
        ∙ ap (λ (x : List ℕ). over_at (12 + 8 * at + 8) x one)
        (ap₂ (λ (i : ℕ) (x : List ℕ). take i (drop (12 + 8 * at) x)) e one_then
        ∙ (stretch_before (8 * (n - at) + start) (12 + 8 * at) (12 + 8 * n + start + 8 + length value) (drop start (values_of room size n)) room (omega (arith, within))
        ∙ stretch room size n s at start within start_in))

    again_joined : ((record_for h 0 ++ middle) ++ value) ++ drop start (values_of room size n)
        ≡ (record_for h 0 ++ drop (8 * at) (rows_of room n)) ++ (take start (values_of room size n) ++ (value ++ drop start (values_of room size n)))
    unfolding middle
    again_joined =
        append_assoc (record_for h 0 ++ middle) value (drop start (values_of room size n))
        ∙ (ap (λ (x : List ℕ). x ++ (value ++ drop start (values_of room size n)))
        (sym (append_assoc (record_for h 0) (drop (8 * at) (rows_of room n)) (take start (values_of room size n))))
        ∙ append_assoc (record_for h 0 ++ drop (8 * at) (rows_of room n)) (take start (values_of room size n)) (value ++ drop start (values_of room size n)))

    -- the record, the records behind it and the values before its own, its value, and the values behind that
    four_then : four ≡ over_at (12 + 8 * at) (rows_then ++ values_then) room
    unfolding rows_then values_then middle
    four_then =
        let m = middle_long in
        let r = length_record h 0 in
        let three_is : three ≡ over_at (12 + 8 * at) (record_for h 0 ++ middle) one =
        third
        ∙ (ap (over_at (12 + 8 * at) (record_for h 0)) (two_then ∙ ap (λ (i : ℕ). over_at (12 + 8 * at + i) middle one) (sym r))
        ∙ over_at_ahead (12 + 8 * at) (record_for h 0) middle one) in
        let joined : length (record_for h 0 ++ middle) ≡ 8 + (8 * (n - at) + start) = omega (arith, length-append (record_for h 0) middle, r, m) in
        let place : 12 + 8 * n + start + 8 ≡ 12 + 8 * at + length (record_for h 0 ++ middle) = omega (arith, joined, within) in
        let with_value : four ≡ over_at (12 + 8 * at) ((record_for h 0 ++ middle) ++ value) one =
        fourth
        ∙ (ap₂ (λ (i : ℕ) (x : List ℕ). over_at i value x) place three_is ∙ over_at_append (12 + 8 * at) (record_for h 0 ++ middle) value one) in
        let last : 12 + 8 * n + start + 8 + length value ≡ 12 + 8 * at + length ((record_for h 0 ++ middle) ++ value) =
        omega (arith, length-append (record_for h 0 ++ middle) value, joined, within) in
        with_value
        ∙ (ap (over_at (12 + 8 * at) ((record_for h 0 ++ middle) ++ value)) (one_then ∙ ap (λ (i : ℕ). over_at i (drop start (values_of room size n)) room) last)
        ∙ (over_at_ahead (12 + 8 * at) ((record_for h 0 ++ middle) ++ value) (drop start (values_of room size n)) room
        ∙ ap (λ (x : List ℕ). over_at (12 + 8 * at) x room) again_joined))

    long_put : 8 * at + length rows_then ≡ 8 * (n + 1)
    long_put = let r = rows_then_long in omega (arith, r, within)

    fits_put : 12 + 8 * (n + 1) + length values_then ≤ length room
    fits_put = let v = values_then_long in let r = s.reaches in omega (arith, v, r, fits)

    pub put_room : five ≡ over (sheet_of (put_in at (setting h value) (held (take size room)))) room
    put_room =
        sheet_laid_again room at (n + 1) rows_then values_then four five four_then long_put fits_put again put_sized
        ∙ ap (λ (x : List Setting). over (sheet_of x) room) (sym put_settings)

    pub put_long : length (sheet_of (put_in at (setting h value) (held (take size room)))) ≡ size + 8 + length value
    put_long =
        let v = values_then_long in
        let r = s.reaches in
        ap (λ (x : List Setting). length (sheet_of x)) put_settings
        ∙ (sheet_long room at (n + 1) rows_then values_then four five four_then long_put fits_put again put_sized ∙ omega (arith, v, r))

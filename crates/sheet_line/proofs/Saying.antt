-- What a line's words say: the code's returns, one by one.
-- Assumes nothing.
use Rattle.std.specs.Prelude.{Ok, Err, Some, None}
use mathlib.Core.Path.{◌≡◌, refl, sym, ap, ap₂, ◌∙◌}
use mathlib.Core.Bool.{Bool, true, false, not, ◌&&◌}
use mathlib.Core.List.{List, []}
use mathlib.Core.Logic.{◌≢◌}
use mathlib.Core.Option.{Option, some, none}
use Prim.Native.Nat.{ℕ, ◌+◌, ◌-◌, ◌*◌, ◌≤◌, ◌<◌}
use native.Mathlib.Nat.{sub-zero, le_antisymm}
use native.Mathlib.Omega.{arith}
use borrow.Author.Tests.{ne_eqb, lt-ltb, le-ltb, leb-true, eqb-true, eqb-false, not-false}
use lib.Dec.{eqb, leb, ltb}
use lib.ListN.{length, get_or, take, drop, length-drop}
use lib.Seq.{get_or-drop, length-take-le}
use Rattle.first.specs.First.{first_place}
use Rattle.first.proofs.Laws.{ended, first-same}
use Rattle.lent.specs.Lent.{over, over_at}
use Rattle.lent.proofs.Laws.{length_over, take-over, over_at_zero}
use Rattle.rows.specs.Rows.{first_row_of, or_later}
use Rattle.rows.proofs.Laws.{clash, first_false, first_append}
use Rattle.values.specs.Values.{size_of, fits}
use Rattle.values.proofs.Sized.{positive}
use Rattle.numerals.specs.Numerals.{is_number, value_of}
use Rattle.setting.specs.declared.Head.{Head}
use Rattle.setting.specs.Setting.{Allowed, length_of, most_elements, some_of}
use Rattle.setting.proofs.Laws.{length_allowed}
use Rattle.setting.proofs.Plain.{allowed_plainly}
use Rattle.setting.proofs.Steps.{some_found, nothing_found}
use Rattle.sheet_line.specs.Words.{plain, words_in, words_of}
use Rattle.sheet_line.specs.Line.{word_at, small_at, kind_in, head_in, bytes_in, value_in, is_no_number, is_unfit, no_number_at}
use Rattle.sheet_line.specs.Line.{head_tests, value_tests, line_refusal, line_answer, said_by, room_after, Reads}
use Rattle.sheet_line.specs.Parts.{judged_as, AreNumbers, unfit_in, bytes_for, Headed}
use Rattle.sheet_line.specs.declared.Fault.{Fault}
use Rattle.sheet_line.specs.declared.Fault.TheVariants.{FewWords, NoNumber, NotFitting, NoRoom}
use Rattle.sheet_line.specs.Answers.{Line}
use Rattle.sheet_line.proofs.Steps.{both, kind_most}
use Rattle.sheet_line.proofs.Storing.{length-bytes_in}

-- ---- the first four words are right

pub record RightHead (words : List (List ℕ)) : Type 0 where
  pub allowed : Allowed (head_in words)
  pub low : 1 ≤ kind_in words
  pub many : length words ≡ 4 + small_at words 3

pub right_head : (words : List (List ℕ)) → first_row_of (head_tests words) ≡ none → RightHead words
unfolding head_in
right_head words e =
    let one = first_false (not (leb 1 (small_at words 0) && leb (small_at words 0) 160)) _ _ e in
    let two = first_false (ltb 255 (small_at words 1)) _ _ one.1 in
    let three = first_false (eqb (kind_in words) 0) _ _ two.1 in
    let four = first_false (not (leb 1 (small_at words 3) && leb (small_at words 3) (get_or most_elements (kind_in words) 0))) _ _ three.1 in
    let five = first_false (not (eqb (length words) (4 + small_at words 3))) _ _ four.1 in
    let unit = both (leb 1 (small_at words 0)) (leb (small_at words 0) 160) (not-false _ one.0) in
    let count = both (leb 1 (small_at words 3)) (leb (small_at words 3) (get_or most_elements (kind_in words) 0)) (not-false _ four.0) in
    let kind : 1 ≤ kind_in words = positive (kind_in words) (eqb-false (kind_in words) 0 three.0) in
    record {
      allowed =
          (allowed_plainly (small_at words 0) (small_at words 1) (kind_in words) (small_at words 3)).1 (
            (leb-true 1 (small_at words 0) unit.0, leb-true (small_at words 0) 160 unit.1),
            (
              (kind, kind_most (word_at words 2)),
              (leb-true 1 (small_at words 3) count.0, leb-true (small_at words 3) (get_or most_elements (kind_in words) 0) count.1),
            ),
          );
      low = kind;
      many = eqb-true (length words) (4 + small_at words 3) (not-false _ five.0);
    }

-- ---- the values of a line whose first four words are right

module _ (words : List (List ℕ)) (h : Head) (headed : Headed words h) where
  right : RightHead words
  right = right_head words headed.right

  counted : h.count ≡ small_at words 3
  unfolding head_in
  counted = ap (λ (g : Head). g.count) headed.is

  kinded : h.kind ≡ kind_in words
  unfolding head_in
  kinded = ap (λ (g : Head). g.kind) headed.is

  pub kind_right : (1 ≤ h.kind) × (h.kind ≤ 7)
  kind_right = (rw kinded right.low, rw kinded (kind_most (word_at words 2)))

  pub short_enough : length_of h ≤ 240
  short_enough = rw headed.is (length_allowed (head_in words) right.allowed)

  -- the words behind the first four
  module _ (values : List (List ℕ)) (left : values ≡ drop 4 words) where
    many_values : length values ≡ h.count
    many_values = ap length left ∙ (length-drop 4 words ∙ let many : length words ≡ 4 + small_at words 3 = right.many in omega (arith, many, counted))

    value_at_lem : (k : ℕ) → get_or values k [] ≡ word_at words (4 + k)
    value_at_lem k = ap (λ (l : List (List ℕ)). get_or l k []) left ∙ get_or-drop 4 words k []

    not_third : (k : ℕ) → eqb (4 + k) 2 ≡ false
    not_third k = ne_eqb (4 + k) 2 (λ e. omega (arith, e))

    number_told_lem : (k : ℕ) (t : Bool) → (not (eqb (4 + k) 2) && not t) ≡ false → t ≡ true
    number_told_lem k t e = not-false t (rw (not_third k) at e)

    pub are_numbers : AreNumbers values h.count
    unfolding is_no_number
    are_numbers k l =
        ap is_number (value_at_lem k)
        ∙ number_told_lem k (is_number (word_at words (4 + k)))
        ((ended (is_no_number words) (length words)).before (4 + k) (omega (arith, l, headed.numbers, right.many, counted)))

    pub enough : h.count ≤ length values
    enough = omega (arith, many_values)

    -- where the search for one that does not fit ended
    module _ {r : ℕ} (found : r ≡ first_place (unfit_in h.kind values) h.count) where
      found_in : r ≡ first_place (is_unfit words) (small_at words 3)
      unfolding is_unfit unfit_in
      found_in =
          found
          ∙ (first-same (unfit_in h.kind values) (is_unfit words) h.count (λ k l. ap₂ (λ (kind : ℕ) (w : List ℕ). not (fits kind (value_of w))) kinded (value_at_lem k))
          ∙ ap (first_place (is_unfit words)) counted)

      pub not_fitting : (room : ℕ) → r < h.count → Err (NotFitting (r + 5)) ≡ line_answer (first_row_of (value_tests words room)) (head_in words)
      not_fitting room l =
          rw (some_found (is_unfit words) (small_at words 3) r found_in (omega (arith, l, counted))) (ap (λ (n : ℕ). Err (NotFitting (n + 5))) found_in)

      module _ (all : h.count ≤ r) (size : ℕ) (sized : size ≡ length_of h) where
        fitting : some_of (is_unfit words) (small_at words 3) ≡ false
        fitting = nothing_found (is_unfit words) (small_at words 3) r found_in (omega (arith, all, counted))

        long : size ≡ length_of (head_in words)
        long = sized ∙ ap length_of headed.is

        pub no_room : (room : ℕ) → room < size → Err NoRoom ≡ line_answer (first_row_of (value_tests words room)) (head_in words)
        no_room room l = rw (fitting, lt-ltb room (length_of (head_in words)) (omega (arith, l, long)))

        pub is_right : (room : ℕ) → size ≤ room → Ok (Some (record { head = h; size = size })) ≡ line_answer (first_row_of (value_tests words room)) (head_in words)
        is_right room l = rw (fitting, le-ltb room (length_of (head_in words)) (omega (arith, l, long)), ← headed.is, sized) refl

        whole_is : bytes_for h values ≡ value_in words
        unfolding value_in
        whole_is = ap₂ bytes_in kinded (ap₂ (λ (n : ℕ) (l : List (List ℕ)). take n l) counted left)

        whole_long : length (bytes_for h values) ≡ size
        unfolding length_of
        whole_long =
            length-bytes_in h.kind (take h.count values) ∙ (ap (λ (n : ℕ). n * size_of h.kind) (length-take-le h.count values enough) ∙ sym sized)

        -- the space that the values were stored in
        module _ (space space' : List ℕ) (wide : 240 ≤ length space) (stored : r ≡ h.count → space' ≡ over (bytes_for h values) space) where
          all_stored : space' ≡ over (bytes_for h values) space
          all_stored = stored (le_antisymm (rw found (ended (unfit_in h.kind values) h.count).within) all)

          pub space_enough : size ≤ length space'
          space_enough =
              let same : length space' ≡ length space = ap length all_stored ∙ length_over (bytes_for h values) space in
              omega (arith, same, wide, sized, short_enough)

          pub value_over : (room : List ℕ) {room' : List ℕ} → room' ≡ over_at 0 (take (size - 0) (drop 0 space')) room → room' ≡ over (value_in words) room
          value_over room laid =
              let bytes = bytes_for h values in
              let part : take (size - 0) space' ≡ bytes =
              ap₂ (λ (n : ℕ) (l : List ℕ). take n l) (sub-zero size ∙ sym whole_long) all_stored ∙ take-over bytes space (omega (arith, wide, whole_long, sized, short_enough)) in
              laid ∙ (over_at_zero (take (size - 0) space') room ∙ ap (λ (l : List ℕ). over l room) (part ∙ whole_is))

-- ---- a line

pub no_word : (words : List (List ℕ)) (room : ℕ) {many : ℕ} → many ≡ length words → many ≡ 0 → (Ok None) ≡ said_by words room
unfolding said_by
no_word words room e z = rw (← e, z)

module _ (words : List (List ℕ)) (room : ℕ) {many : ℕ} (long : many ≡ length words) (some_word : many ≢ 0) where
  pub few_words : many < 4 → Err FewWords ≡ said_by words room
  unfolding said_by line_refusal
  few_words l = rw (ne_eqb (length words) 0 (λ z. some_word (long ∙ z)), lt-ltb (length words) 4 (omega (arith, long, l)))

  module _ (l : 4 ≤ many) {wrong : ℕ} (found : wrong ≡ no_number_at words) where
    pub no_number : wrong < many → Err (NoNumber (wrong + 1)) ≡ said_by words room
    unfolding said_by line_refusal
    no_number w =
        rw (
          ne_eqb (length words) 0 (λ z. some_word (long ∙ z)),
          le-ltb (length words) 4 (omega (arith, long, l)),
          some_found (is_no_number words) (length words) wrong found (omega (arith, long, w)),
        ) (ap (λ (n : ℕ). Err (NoNumber (n + 1))) found)

    module _ (all : many ≤ wrong) where
      pub all_numbers : no_number_at words ≡ length words
      all_numbers = le_antisymm (ended (is_no_number words) (length words)).within (omega (arith, all, long, found))

      said : said_by words room ≡ line_answer (or_later (first_row_of (head_tests words)) (first_row_of (value_tests words room))) (head_in words)
      unfolding said_by line_refusal
      said =
          rw (
            ne_eqb (length words) 0 (λ z. some_word (long ∙ z)),
            le-ltb (length words) 4 (omega (arith, long, l)),
            nothing_found (is_no_number words) (length words) wrong found (omega (arith, long, all)),
          ) (ap (λ (o : Option Fault). line_answer o (head_in words)) (first_append (head_tests words) (value_tests words room) (first_row_of (value_tests words room)) refl))

      said_by_lem : {o : Option Fault} → first_row_of (head_tests words) ≡ o → said_by words room ≡ line_answer (or_later o (first_row_of (value_tests words room))) (head_in words)
      said_by_lem e = said ∙ ap (λ (p : Option Fault). line_answer (or_later p (first_row_of (value_tests words room))) (head_in words)) e

      wrong_judged : (o : Option Fault) (h : Head) (f : Fault) → Err f ≡ judged_as o h → o ≡ some f
      wrong_judged (some g) h f e = cc
      wrong_judged none h f e = clash (cc)

      pub head_wrong : (f : Fault) → Err f ≡ judged_as (first_row_of (head_tests words)) (head_in words) → Err f ≡ said_by words room
      head_wrong f e = sym (said_by_lem (wrong_judged (first_row_of (head_tests words)) (head_in words) f e))

      right_judged : (o : Option Fault) (h g : Head) → Ok g ≡ judged_as o h → (g ≡ h) × (o ≡ none)
      right_judged (some f) h g e = clash (cc)
      right_judged none h g e = (cc, refl)

      module _ (h : Head) (e : Ok h ≡ judged_as (first_row_of (head_tests words)) (head_in words)) where
        pub head_right : Headed words h
        head_right =
            let so = right_judged (first_row_of (head_tests words)) (head_in words) h e in
            record { is = so.0; right = so.1; numbers = all_numbers }

        pub values_said : {r : Line} → r ≡ line_answer (first_row_of (value_tests words room)) (head_in words) → r ≡ said_by words room
        values_said told = told ∙ sym (said_by_lem head_right.right)

-- ---- a line with its remark

pub without_remark : (text room : List ℕ) (end : ℕ) {r : Line} {room' : List ℕ} → take end text ≡ plain text
    → r ≡ said_by (words_in (take (end - 0) (drop 0 text))) (length room)
    → room' ≡ room_after r (value_in (words_in (take (end - 0) (drop 0 text)))) room → Reads text room r room'
unfolding words_of
without_remark text room end {r} cut said laid =
    let line : take (end - 0) text ≡ plain text = ap (λ (n : ℕ). take n text) (sub-zero end) ∙ cut in
    let same : r ≡ said_by (words_in (plain text)) (length room) = said ∙ ap (λ (l : List ℕ). said_by (words_in l) (length room)) line in
    (same, laid ∙ ap₂ (λ (a : Line) (l : List ℕ). room_after a (value_in (words_in l)) room) same line)

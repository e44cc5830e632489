-- What it means that no test of a line tells, and what a line that reads as a setting says.
-- Assumes nothing.
use Rattle.std.specs.Prelude.{Ok, Some, None}
use mathlib.Core.Path.{◌≡◌, refl, sym, ap, ◌∙◌}
use mathlib.Core.Bool.{Bool, true, false, cond, not, ◌&&◌}
use mathlib.Core.List.{List, [], ◌∷◌, ◌++◌}
use mathlib.Core.Logic.{◌≢◌}
use mathlib.Core.Option.{Option, some, none}
use Prim.Native.Nat.{ℕ, zero, suc, ◌+◌, ◌*◌, ◌≤◌, ◌<◌}
use native.Mathlib.Omega.{arith}
use borrow.Author.Tests.{ltb-false, eqb-true, eqb-false, not-false, eq-eqb, ne_eqb, le-ltb, le-leb}
use lib.Dec.{eqb, leb}
use lib.ListN.{length, get_or, take, drop, length-append, length-drop}
use lib.Seq.{length-take-le}
use Rattle.first.specs.First.{first_place}
use Rattle.first.proofs.Laws.{ended, first-none}
use Rattle.lent.specs.Lent.{over}
use Rattle.lent.proofs.Laws.{take-over}
use Rattle.rows.specs.Rows.{Test, test, first_row_of}
use Rattle.rows.proofs.Laws.{first_false, clash, decides_eq, decides_le, decides_and, decides_set}
use Rattle.values.specs.Values.{size_of, fits, Bytes, bytes_of, stored_at}
use Rattle.values.proofs.Bytes.{length-bytes_of, bytes_bytes_of}
use Rattle.numerals.specs.Numerals.{is_number, value_of}
use Rattle.setting.specs.Setting.{length_of, Allowed, some_of, most_elements}
use Rattle.setting.proofs.Plain.{allowed_plainly, length_plainly}
use Rattle.sheet.specs.declared.Record.{Record}
use Rattle.sheet.specs.Sheet.{record_as}
use Rattle.sheet_line.specs.Words.{same, words_of}
use Rattle.sheet_line.specs.Line.{name_of, kind_of, word_at, small_at, kind_in, head_in, bytes_in, value_in, is_no_number, is_unfit}
use Rattle.sheet_line.specs.Line.{line_tests, line_refusal, line_answer, said_by, room_after, Reads}
use Rattle.sheet_line.specs.declared.Fault.{Fault}
use Rattle.sheet_line.specs.declared.Fault.TheVariants.{FewWords}
use Rattle.sheet_line.specs.Answers.{Line}

-- ---- kinds and their names

same_is : (xs ys : List ℕ) → same xs ys ≡ true → xs ≡ ys
unfolding same
same_is [] [] e = refl
same_is [] (y ∷ ys) e = clash (cc)
same_is (x ∷ xs) [] e = clash (cc)
same_is (x ∷ xs) (y ∷ ys) e =
    let both = (decides_and (decides_eq x y) (decides_set (same xs ys))).so e in
    rw (both.0, same_is xs ys both.1)

-- a number that is no kind's, or the kind that the word names
Named : List ℕ → ℕ → Type 0
Named word kind = kind ≢ 0 → ((1 ≤ kind) × (kind ≤ 7)) × (name_of kind ≡ word)

pub kind_named : (word : List ℕ) → kind_of word ≢ 0 → ((1 ≤ kind_of word) × (kind_of word ≤ 7)) × (name_of (kind_of word) ≡ word)
unfolding kind_of Named
kind_named word =
    by 1 _ (omega arith) (omega arith) (by 2 _ (omega arith) (omega arith) (by 3 _ (omega arith) (omega arith) (by 4 _ (omega arith) (omega arith)
    (by 5 _ (omega arith) (omega arith) (by 6 _ (omega arith) (omega arith) (by 7 _ (omega arith) (omega arith) (λ n. absurd (n refl))))))))
  where
    by : (kind rest : ℕ) → 1 ≤ kind → kind ≤ 7 → Named word rest → Named word (cond (same word (name_of kind)) kind rest)
    by kind rest l h later = go (same word (name_of kind)) refl
      where
        go : (t : Bool) → same word (name_of kind) ≡ t → Named word (cond t kind rest)
        go true e n = ((l, h), sym (same_is word (name_of kind) e))
        go false e n = later n

pub kind_of_name : (kind : ℕ) → 1 ≤ kind → kind ≤ 7 → kind_of (name_of kind) ≡ kind
unfolding kind_of name_of same
kind_of_name zero l h = absurd (omega arith)
kind_of_name (suc zero) l h = refl
kind_of_name (suc (suc zero)) l h = refl
kind_of_name (suc (suc (suc zero))) l h = refl
kind_of_name (suc (suc (suc (suc zero)))) l h = refl
kind_of_name (suc (suc (suc (suc (suc zero))))) l h = refl
kind_of_name (suc (suc (suc (suc (suc (suc zero)))))) l h = refl
kind_of_name (suc (suc (suc (suc (suc (suc (suc zero))))))) l h = refl
kind_of_name (suc (suc (suc (suc (suc (suc (suc (suc k)))))))) l h = absurd (omega arith)

-- ---- words of which no test tells

pub record Sound (words : List (List ℕ)) (room : ℕ) : Type 0 where
  pub four : 4 ≤ length words
  pub numbers : (k : ℕ) → k < length words → k ≢ 2 → is_number (word_at words k) ≡ true
  pub register : small_at words 1 ≤ 255
  pub allowed : Allowed (head_in words)
  pub many : length words ≡ 4 + small_at words 3
  pub fitting : (k : ℕ) → k < small_at words 3 → fits (kind_in words) (value_of (word_at words (4 + k))) ≡ true
  pub roomy : length_of (head_in words) ≤ room

some_false : (p : ℕ → Bool) (n : ℕ) → some_of p n ≡ false → (k : ℕ) → k < n → p k ≡ false
unfolding some_of
some_false p n e k h = (ended p n).before k (omega (arith, ltb-false (first_place p n) n e))

false_some : (p : ℕ → Bool) (n : ℕ) → ((k : ℕ) → k < n → p k ≡ false) → some_of p n ≡ false
unfolding some_of
false_some p n all = rw (first-none p n all) (le-ltb n n (omega arith))

-- no refusal is given exactly where no test tells
untold : (tests : List (Test Fault)) → first_row_of tests ≡ none → (k : ℕ) → (get_or tests k (test false FewWords)).tells ≡ false
untold [] e k = refl
untold (t ∷ ts) e zero = (first_false t.tells t.gives (first_row_of ts) e).0
untold (t ∷ ts) e (suc k) = untold ts (first_false t.tells t.gives (first_row_of ts) e).1 k

passed : {t : Bool} (f : Fault) {o : Option Fault} → t ≡ false → o ≡ none → cond t (some f) o ≡ none
passed f e n = rw (e, n)

-- a test of two ends
between : (a b n : ℕ) → not (leb a n && leb n b) ≡ false → (a ≤ n) × (n ≤ b)
between a b n e = (decides_and (decides_le a n) (decides_le n b)).so (not-false _ e)

not_between : (a b n : ℕ) → a ≤ n → n ≤ b → not (leb a n && leb n b) ≡ false
not_between a b n l h = rw (le-leb a n l, le-leb n b h)

number_told_lem : (words : List (List ℕ)) (k : ℕ) → is_no_number words k ≡ false → k ≢ 2 → is_number (word_at words k) ≡ true
unfolding is_no_number
number_told_lem words k e n = not-false _ (rw (ne_eqb k 2 n) at e)

told_number : (words : List (List ℕ)) (k : ℕ) → (k ≢ 2 → is_number (word_at words k) ≡ true) → is_no_number words k ≡ false
unfolding is_no_number
told_number words k f = go (eqb k 2) refl
  where
    go : (t : Bool) → eqb k 2 ≡ t → (not t && not (is_number (word_at words k))) ≡ false
    go true e = refl
    go false e = rw (f (eqb-false k 2 e))

pub none_sound : (words : List (List ℕ)) (room : ℕ) → line_refusal words room ≡ none → Sound words room
unfolding line_refusal head_in is_unfit
none_sound words room e =
    let u : (k : ℕ) → (get_or (line_tests words room) k (test false FewWords)).tells ≡ false = untold (line_tests words room) e in
    let kind : ((1 ≤ kind_in words) × (kind_in words ≤ 7)) × (name_of (kind_in words) ≡ word_at words 2) = kind_named (word_at words 2) (eqb-false (kind_in words) 0 (u 4)) in
    record {
      four = ltb-false _ _ (u 0);
      numbers = λ k h. number_told_lem words k (some_false (is_no_number words) (length words) (u 1) k h);
      register = ltb-false 255 (small_at words 1) (u 3);
      allowed =
          (allowed_plainly (small_at words 0) (small_at words 1) (kind_in words) (small_at words 3)).1
          (between 1 160 (small_at words 0) (u 2), (kind.0, between 1 (get_or most_elements (kind_in words) 0) (small_at words 3) (u 5)));
      many = eqb-true _ _ (not-false _ (u 6));
      fitting = λ k h. not-false _ (some_false (is_unfit words) (small_at words 3) (u 7) k h);
      roomy = ltb-false _ _ (u 8);
    }

pub sound_none : (words : List (List ℕ)) (room : ℕ) → Sound words room → line_refusal words room ≡ none
unfolding line_refusal head_in is_unfit
sound_none words room s =
    let plainly = (allowed_plainly (small_at words 0) (small_at words 1) (kind_in words) (small_at words 3)).0 s.allowed in
    passed _ (le-ltb _ _ s.four)
    (passed _ (false_some (is_no_number words) (length words) (λ k h. told_number words k (s.numbers k h)))
    (passed _ (not_between 1 160 (small_at words 0) plainly.0.0 plainly.0.1)
    (passed _ (le-ltb 255 (small_at words 1) s.register)
    (passed _ (ne_eqb (kind_in words) 0 (λ z. omega (arith, z, plainly.1.0.0)))
    (passed _ (not_between 1 (get_or most_elements (kind_in words) 0) (small_at words 3) plainly.1.1.0 plainly.1.1.1)
    (passed _ (ap not (eq-eqb (length words) (4 + small_at words 3) s.many))
    (passed _ (false_some (is_unfit words) (small_at words 3) (λ k h. rw (s.fitting k h)))
    (passed _ (le-ltb _ _ s.roomy) refl))))))))

-- so a line says a setting exactly where no test tells, and it is the one that its first words name
pub sound_said : (words : List (List ℕ)) (room : ℕ) → Sound words room → said_by words room ≡ Ok (Some (record_as (head_in words)))
unfolding said_by
sound_said words room s = rw (ne_eqb (length words) 0 (λ z. omega (arith, z, s.four)), sound_none words room s)

pub said_sound : (words : List (List ℕ)) (room : ℕ) (r : Record) → Ok (Some r) ≡ said_by words room → Sound words room × (r ≡ record_as (head_in words))
unfolding said_by
said_sound words room r e = go (eqb (length words) 0) (line_refusal words room) refl e
  where
    go : (t : Bool) (o : Option Fault) → line_refusal words room ≡ o → Ok (Some r) ≡ cond t (Ok None) (line_answer o (head_in words))
        → Sound words room × (r ≡ record_as (head_in words))
    go true o n e = clash (cc)
    go false (some f) n e = clash (cc)
    go false none n e = (none_sound words room n, cc)

-- ---- the value's bytes

pub length-bytes_in : (kind : ℕ) (words : List (List ℕ)) → length (bytes_in kind words) ≡ length words * size_of kind
unfolding bytes_in
length-bytes_in kind [] = omega arith
length-bytes_in kind (word ∷ rest) =
    let first : List ℕ = bytes_of (size_of kind) (stored_at (size_of kind) (value_of word)) in
    omega (arith, length-append first (bytes_in kind rest), length-bytes_of (size_of kind) (stored_at (size_of kind) (value_of word)), length-bytes_in kind rest)

pub bytes_append : (xs ys : List ℕ) → Bytes xs → Bytes ys → Bytes (xs ++ ys)
bytes_append [] ys p q i = q i
bytes_append (x ∷ xs) ys p q zero = p 0
bytes_append (x ∷ xs) ys p q (suc i) = bytes_append xs ys (λ i. p (suc i)) q i

bytes_bytes_in : (kind : ℕ) (words : List (List ℕ)) → Bytes (bytes_in kind words)
unfolding bytes_in
bytes_bytes_in kind [] i = omega arith
bytes_bytes_in kind (word ∷ rest) i =
    bytes_append (bytes_of (size_of kind) (stored_at (size_of kind) (value_of word))) (bytes_in kind rest) (bytes_bytes_of _ _) (bytes_bytes_in kind rest) i

pub bytes_value_in : (words : List (List ℕ)) → Bytes (value_in words)
unfolding value_in
bytes_value_in words = bytes_bytes_in (kind_in words) (take (small_at words 3) (drop 4 words))

pub length-value_in : (words : List (List ℕ)) (room : ℕ) → Sound words room → length (value_in words) ≡ length_of (head_in words)
unfolding value_in head_in
length-value_in words room s =
    let values : length (take (small_at words 3) (drop 4 words)) ≡ small_at words 3 =
    length-take-le (small_at words 3) (drop 4 words) (omega (arith, length-drop 4 words, s.many)) in
    length-bytes_in (kind_in words) (take (small_at words 3) (drop 4 words)) ∙ ap (λ (n : ℕ). n * size_of (kind_in words)) values
    ∙ sym (length_plainly (small_at words 0) (small_at words 1) (kind_in words) (small_at words 3))

-- ---- what a setting that was read from a line is

pub record ReadFrom (words : List (List ℕ)) (r : Record) (room' : List ℕ) : Type 0 where
  pub allowed : Allowed r.head
  pub register : r.head.register < 256
  pub size : r.size ≡ length_of r.head
  pub many : length (value_in words) ≡ length_of r.head
  pub laid : take r.size room' ≡ value_in words
  pub named : r.head ≡ head_in words
  pub bytes : Bytes (value_in words)

pub read_sound : (text room : List ℕ) (r : Record) (room' : List ℕ) → Reads text room (Ok (Some r)) room' → Sound (words_of text) (length room)
read_sound text room r room' reads = (said_sound (words_of text) (length room) r reads.0).0

pub read_allowed : (text room : List ℕ) (r : Record) (room' : List ℕ) → Reads text room (Ok (Some r)) room' → ReadFrom (words_of text) r room'
unfolding head_in
read_allowed text room r room' reads =
    record {
      allowed = rw e s.allowed;
      register = rw e (omega (arith, s.register));
      size = rw e;
      many = rw e many;
      laid = rw (e, ← many, laid) (take-over (value_in words) room (rw many s.roomy));
      named = rw e;
      bytes = bytes_value_in words;
    }
  where
    words : List (List ℕ)
    words = words_of text

    s : Sound words (length room)
    s = read_sound text room r room' reads

    e : r ≡ record_as (head_in words)
    e = (said_sound words (length room) r reads.0).1

    many : length (value_in words) ≡ length_of (head_in words)
    many = length-value_in words (length room) s

    laid : room' ≡ over (value_in words) room
    laid = reads.1 ∙ ap (λ (l : Line). room_after l (value_in words) room) (sound_said words (length room) s)

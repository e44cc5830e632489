-- The definitions of a line, said out: docs/SHEETS.md in plain figures.
-- Assumes nothing.
use Rattle.std.specs.Prelude.{Ok, Err, Some}
use mathlib.Core.Path.{◌≡◌, refl, ap, ◌∙◌}
use mathlib.Core.Bool.{Bool, true, false, ◌||◌}
use mathlib.Core.List.{List, [], ◌∷◌, ◌++◌, append-nil}
use mathlib.Core.Logic.{◌⊎◌, inl, inr, ◌↔◌, ◌≢◌, ⊎_elim}
use Prim.Native.Nat.{ℕ}
use borrow.Author.Tests.{ne_eqb, eqb-true}
use lib.Dec.{eqb}
use lib.ListN.{length, take, drop}
use Rattle.first.specs.First.{first_place, passed_from}
use Rattle.text.specs.Text.{ascii}
use Rattle.values.specs.Values.{size_of, is_signed, fits, greatest, bytes_of, stored_at}
use Rattle.numerals.specs.Numerals.{digit_of, are_digits, worth, is_minus, unsigned_at, is_hex, base_of, figures_at, figures_of, is_number, amount_of, below, value_of, under, limited_to}
use Rattle.lent.specs.Lent.{over}
use Rattle.setting.specs.declared.Head.{Head}
use Rattle.setting.specs.Setting.{head, setting, length_of, some_of}
use Rattle.sheet.specs.Sheet.{record_as}
use Rattle.sheet_line.specs.Words.{plain, is_blank, parts, with_word, onto, parted, words_in, words_of, spaced, joined, same}
use Rattle.sheet_line.specs.Line.{name_of, kind_of, word_at, small_at, head_in, bytes_in, value_in, setting_in, is_no_number, is_unfit, line_refusal, said_by}
use Rattle.sheet_line.specs.Line.{line_of, Numbers, Words, Writes}
use Rattle.sheet_line.specs.declared.Fault.TheVariants.{FewWords, NoNumber, NoModule, NoRegister, NoKind, BadCount, OtherCount, NotFitting, NoRoom}
use Rattle.sheet_line.proofs.Joined.{Whole, parted_word, with_word_lem}

-- ---- "bytes 32, 9 and 13"

either : (p q : Bool) → (p || q) ≡ true → (p ≡ true) ⊎ (q ≡ true)
either true q e = inl refl
either false q e = inr e

pub blank_plainly : (b : ℕ) → (is_blank b ≡ true) ↔ ((b ≡ 32) ⊎ ((b ≡ 9) ⊎ (b ≡ 13)))
unfolding is_blank
blank_plainly b = (
  λ e. ⊎_elim (λ p. inl (eqb-true b 32 p)) (λ q. inr (⊎_elim (λ p. inl (eqb-true b 9 p)) (λ p. inr (eqb-true b 13 p)) (either (eqb b 9) (eqb b 13) q)))
      (either (eqb b 32) (eqb b 9 || eqb b 13) e),
  ⊎_elim (λ p. rw p) (⊎_elim (λ p. rw p) (λ p. rw p)),
)

-- ---- "From the first `#` on, a line is a remark."

pub remark_plainly : (b : ℕ) (rest : List ℕ)
    → (plain [] ≡ []) × (plain (35 ∷ rest) ≡ []) × (b ≢ 35 → plain (b ∷ rest) ≡ b ∷ plain rest) × (words_of (b ∷ rest) ≡ words_in (plain (b ∷ rest)))
unfolding plain words_of
remark_plainly b rest = (refl, refl, λ n. rw (ne_eqb b 35 n), refl)

-- ---- "words, parted by blanks": a blank in front counts for nothing, and a word goes up to the next blank or to the end

pub words_plainly : (word : List ℕ) (b : ℕ) (rest : List ℕ) → Whole word → is_blank b ≡ true
    → (words_in [] ≡ []) × (words_in (b ∷ rest) ≡ words_in rest) × (words_in word ≡ word ∷ []) × (words_in (word ++ (b ∷ rest)) ≡ word ∷ words_in rest)
unfolding words_in parted onto with_word
words_plainly word b rest whole blank = (refl, rw blank, last, first)
  where
    alone : parted word ≡ parts word []
    alone = ap parted (append_nil_back word) ∙ (parted_word word [] whole.1 ∙ ap (λ (l : List ℕ). parts l []) (append-nil word))
      where
        append_nil_back : (l : List ℕ) → l ≡ l ++ []
        append_nil_back [] = refl
        append_nil_back (x ∷ xs) = ap (λ (l : List ℕ). x ∷ l) (append_nil_back xs)

    last : with_word (parted word).word (parted word).behind ≡ word ∷ []
    last = rw alone (with_word_lem word [] whole.0)

    before : parted (word ++ (b ∷ rest)) ≡ parts word (words_in rest)
    before = parted_word word (b ∷ rest) whole.1 ∙ rw (blank, append-nil word)

    first : with_word (parted (word ++ (b ∷ rest))).word (parted (word ++ (b ∷ rest))).behind ≡ word ∷ words_in rest
    first = rw before (with_word_lem word (words_in rest) whole.0)

-- ---- "`U8 I8 U16 I16 U32 I32 U64`, in capitals"

pub names_plainly :
    (name_of 1 ≡ ascii "U8") × (name_of 2 ≡ ascii "I8") × (name_of 3 ≡ ascii "U16") × (name_of 4 ≡ ascii "I16") × (name_of 5 ≡ ascii "U32")
    × (name_of 6 ≡ ascii "I32") × (name_of 7 ≡ ascii "U64")
unfolding name_of
names_plainly = (refl, refl, refl, refl, refl, refl, refl)

-- ---- the table's columns "No." and "Word"

pub numbers_plainly : (k : ℕ)
    → Numbers FewWords 0 × Numbers (NoNumber k) 0 × Numbers NoModule 69 × Numbers NoRegister 0 × Numbers NoKind 69 × Numbers BadCount 69
    × Numbers OtherCount 69 × Numbers (NotFitting k) 43 × Numbers NoRoom 57
numbers_plainly k = (refl, refl, refl, refl, refl, refl, refl, refl, refl)

pub places_plainly : (k : ℕ)
    → Words FewWords 0 × Words (NoNumber k) k × Words NoModule 1 × Words NoRegister 2 × Words NoKind 3 × Words BadCount 4
    × Words OtherCount 0 × Words (NotFitting k) k × Words NoRoom 0
places_plainly k = (refl, refl, refl, refl, refl, refl, refl, refl, refl)

-- ---- what the words name

pub setting_plainly : (words : List (List ℕ)) → setting_in words ≡ setting (head_in words) (value_in words)
unfolding setting_in
setting_plainly words = refl

pub head_plainly : (words : List (List ℕ))
    → head_in words ≡ head (limited_to 255 (word_at words 0)) (limited_to 255 (word_at words 1)) (kind_of (word_at words 2)) (limited_to 255 (word_at words 3))
unfolding head_in small_at
head_plainly words = refl

pub bytes_plainly : (kind : ℕ) (word : List ℕ) (rest : List (List ℕ))
    → (bytes_in kind [] ≡ []) × (bytes_in kind (word ∷ rest) ≡ bytes_of (size_of kind) (stored_at (size_of kind) (value_of word)) ++ bytes_in kind rest)
unfolding bytes_in
bytes_plainly kind word rest = (refl, refl)

-- "`count` values follow"
pub value_plainly : (words : List (List ℕ)) → value_in words ≡ bytes_in (kind_of (word_at words 2)) (take (limited_to 255 (word_at words 3)) (drop 4 words))
unfolding value_in small_at
value_plainly words = refl

-- "one blank between two words and none elsewhere"
pub joined_plainly : (word next : List ℕ) (rest : List (List ℕ))
    → (joined [] ≡ []) × (joined (word ∷ []) ≡ word) × (joined (word ∷ next ∷ rest) ≡ word ++ (32 ∷ joined (next ∷ rest)))
unfolding joined spaced
joined_plainly word next rest = (refl, append-nil word, refl)

-- as much of a line as there is room for, and how long it is
pub writes_plainly : (h : Head) (value room : List ℕ) → Writes h value room (length (line_of (setting h value))) (over (line_of (setting h value)) room)
writes_plainly h value room = (refl, refl)

-- ---- computed: 57, which no text meets, since it is read with room for every value; `sheet_texts/specs: keys_table` has the other rows

pub no_room :
    (said_by (words_of (ascii "15 48 U16 2 1 2")) 3 ≡ Err NoRoom)
    × (said_by (words_of (ascii "15 48 U16 2 1 2")) 4 ≡ Ok (Some (record_as (head 15 48 3 2))))
unfolding said_by line_refusal words_of words_in plain parted onto with_word is_blank head_in small_at kind_of same name_of limited_to under is_number figures_of figures_at unsigned_at is_minus is_hex base_of are_digits digit_of worth amount_of below value_of is_no_number is_unfit some_of fits length_of size_of is_signed greatest first_place passed_from
no_room = (refl, refl)

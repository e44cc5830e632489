-- Words that are joined by blanks are those words again.
-- Assumes nothing.
use mathlib.Core.Path.{◌≡◌, refl, ap, ◌∙◌}
use mathlib.Core.Bool.{false}
use mathlib.Core.List.{List, [], ◌∷◌, ◌++◌, append-nil}
use mathlib.Core.Logic.{◌≢◌}
use Prim.Native.Nat.{ℕ, zero, suc, ◌≤◌, ◌<◌}
use native.Mathlib.Nat.{le_of_suc-le-suc}
use native.Mathlib.Omega.{arith}
use borrow.Author.Tests.{ne_eqb}
use lib.ListN.{length, get_or}
use Rattle.sheet_line.specs.Words.{plain, is_blank, parts, with_word, onto, parted, words_in, words_of, spaced, joined}

-- ---- of every element of a list

abbrev pub Every : {A : Type 0} → (A → Type 0) → List A → Type 0
Every P [] = Unit {0}
Every P (x ∷ xs) = P x × Every P xs

pub every_append : {A : Type 0} (P : A → Type 0) (xs ys : List A) → Every P xs → Every P ys → Every P (xs ++ ys)
every_append P [] ys p q = q
every_append P (x ∷ xs) ys p q = (p.0, every_append P xs ys p.1 q)

pub every_as : {A : Type 0} (P Q : A → Type 0) (xs : List A) → ((x : A) → P x → Q x) → Every P xs → Every Q xs
every_as P Q [] f p = tt
every_as P Q (x ∷ xs) f p = (f x p.0, every_as P Q xs f p.1)

pub every_at : {A : Type 0} (P : A → Type 0) (xs : List A) (d : A) → Every P xs → (k : ℕ) → k < length xs → P (get_or xs k d)
every_at P [] d p k h = absurd (omega arith)
every_at P (x ∷ xs) d p zero h = p.0
every_at P (x ∷ xs) d p (suc k) h = every_at P xs d p.1 k (le_of_suc-le-suc h)

pub at_every : {A : Type 0} (P : A → Type 0) (xs : List A) (d : A) → ((k : ℕ) → k < length xs → P (get_or xs k d)) → Every P xs
at_every P [] d p = tt
at_every P (x ∷ xs) d p = (p 0 (omega arith), at_every P xs d (λ k h. p (suc k) (omega arith)))

-- what holds of a blank and of each word's bytes holds of all that is joined
pub every_spaced : (P : ℕ → Type 0) (words : List (List ℕ)) → P 32 → Every (Every P) words → Every P (spaced words)
unfolding spaced
every_spaced P [] blank each = tt
every_spaced P (word ∷ rest) blank each = (blank, every_append P word (spaced rest) each.0 (every_spaced P rest blank each.1))

pub every_joined : (P : ℕ → Type 0) (words : List (List ℕ)) → P 32 → Every (Every P) words → Every P (joined words)
unfolding joined
every_joined P [] blank each = tt
every_joined P (word ∷ rest) blank each = every_append P word (spaced rest) each.0 (every_spaced P rest blank each.1)

-- ---- a whole word: it is not empty, and no byte of it is a blank or begins a remark

abbrev pub Inside : ℕ → Type 0
Inside b = (is_blank b ≡ false) × (b ≢ 35)

abbrev pub Whole : List ℕ → Type 0
Whole word = (1 ≤ length word) × Every Inside word

plain_all : (line : List ℕ) → Every (λ b. b ≢ 35) line → plain line ≡ line
unfolding plain
plain_all [] each = refl
plain_all (b ∷ rest) each = rw (ne_eqb b 35 each.0) (ap (λ (l : List ℕ). b ∷ l) (plain_all rest each.1))

pub with_word_lem : (word : List ℕ) (behind : List (List ℕ)) → 1 ≤ length word → with_word word behind ≡ word ∷ behind
unfolding with_word
with_word_lem [] behind h = absurd (omega arith)
with_word_lem (b ∷ word) behind h = refl

pub parted_word : (word rest : List ℕ) → Every Inside word → parted (word ++ rest) ≡ parts (word ++ (parted rest).word) (parted rest).behind
unfolding parted onto
parted_word [] rest each = refl
parted_word (b ∷ word) rest each = rw (each.0.0, parted_word word rest each.1)

-- a word before blanks, or at the end
parted_before : (word rest : List ℕ) (behind : List (List ℕ)) → Whole word → parted rest ≡ parts [] behind → parted (word ++ rest) ≡ parts word behind
parted_before word rest behind whole e = parted_word word rest whole.1 ∙ rw (e, append-nil word)

parted_spaced : (words : List (List ℕ)) → Every Whole words → parted (spaced words) ≡ parts [] words
unfolding parted spaced is_blank onto
parted_spaced [] each = refl
parted_spaced (word ∷ rest) each =
    rw (parted_before word (spaced rest) rest each.0 (parted_spaced rest each.1), with_word_lem word rest each.0.0)

parted_joined : (words : List (List ℕ)) → Every Whole words → words_in (joined words) ≡ words
unfolding words_in parted joined with_word
parted_joined [] each = refl
parted_joined (word ∷ rest) each =
    rw (parted_before word (spaced rest) rest each.0 (parted_spaced rest each.1)) (with_word_lem word rest each.0.0)

pub words_joined : (words : List (List ℕ)) → Every Whole words → words_of (joined words) ≡ words
unfolding words_of
words_joined words each = ap words_in (plain_all (joined words) no_remark) ∙ parted_joined words each
  where
    no_remark : Every (λ b. b ≢ 35) (joined words)
    no_remark =
        every_joined (λ b. b ≢ 35) words (λ e. omega arith)
        (every_as Whole (Every (λ b. b ≢ 35)) words (λ word whole. every_as Inside (λ b. b ≢ 35) word (λ b p. p.1) whole.1) each)

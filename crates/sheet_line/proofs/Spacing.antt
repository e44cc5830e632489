-- The words of a line, byte by byte: what the walks along it need.
-- Assumes nothing.
use mathlib.Core.Path.{◌≡◌, refl, sym, ap, ap₂, ◌∙◌}
use mathlib.Core.Bool.{Bool, true, false, cond, not, ◌&&◌}
use mathlib.Core.List.{List, [], ◌∷◌}
use mathlib.Core.Logic.{◌≢◌}
use Prim.Native.Nat.{ℕ, zero, suc, ◌+◌, ◌-◌, ◌≤◌, ◌<◌, suc-le-suc}
use native.Mathlib.Nat.{add-zero, not-suc-le-zero, le_of_eq, le_of_suc-le-suc}
use native.Mathlib.Omega.{arith}
use borrow.Author.Tests.{eq-eqb, ne_eqb}
use lib.Dec.{eqb}
use lib.ListN.{length, get_or, take, drop, length-drop}
use lib.Pointwise.{pointwise}
use lib.Seq.{get_or-drop, drop-drop, take_all}
use Rattle.std.specs.List.{filter, slice_split, onto_first}
use Rattle.rows.proofs.Laws.{clash}
use Rattle.sheet_line.specs.Words.{plain, is_blank, Parted, parted, with_word, onto, words_in, same}

-- ---- a remark

plain_none : plain [] ≡ []
unfolding plain
plain_none = refl

plain_kept : (b : ℕ) (rest : List ℕ) → b ≢ 35 → plain (b ∷ rest) ≡ b ∷ plain rest
unfolding plain
plain_kept b rest n = rw (ne_eqb b 35 n)

plain_cut : (b : ℕ) (rest : List ℕ) → b ≡ 35 → plain (b ∷ rest) ≡ []
unfolding plain
plain_cut b rest e = rw (eq-eqb b 35 e)

-- where the first `#` stands, or the end where there is none
pub plain_to : (text : List ℕ) (i : ℕ) → i ≤ length text → ((k : ℕ) → k < i → get_or text k 0 ≢ 35) → (i < length text → get_or text i 0 ≡ 35)
    → take i text ≡ plain text
plain_to [] zero l before there = sym plain_none
plain_to [] (suc i) l before there = absurd (not-suc-le-zero l)
plain_to (b ∷ rest) zero l before there = sym (plain_cut b rest (there (omega arith)))
plain_to (b ∷ rest) (suc i) l before there =
    ap (λ (xs : List ℕ). b ∷ xs) (plain_to rest i (le_of_suc-le-suc l) (λ k h. before (suc k) (suc-le-suc h)) (λ h. there (suc-le-suc h)))
    ∙ sym (plain_kept b rest (before 0 (omega arith)))

-- ---- a blank, and what is none

end_of_all : ([] ≡ (parted []).word) × (words_in [] ≡ (parted []).behind)
unfolding words_in parted with_word
end_of_all = (refl, refl)

blank_before : (b : ℕ) (rest : List ℕ) → is_blank b ≡ true → words_in (b ∷ rest) ≡ words_in rest
unfolding words_in parted onto with_word
blank_before b rest e = rw e

ends_at_blank : (b : ℕ) (rest : List ℕ) → is_blank b ≡ true → ((parted (b ∷ rest)).word ≡ []) × (words_in (b ∷ rest) ≡ (parted (b ∷ rest)).behind)
unfolding words_in parted onto with_word
ends_at_blank b rest e = rw e (refl, refl)

goes_on : (b : ℕ) (rest : List ℕ) → is_blank b ≡ false → ((parted (b ∷ rest)).word ≡ b ∷ (parted rest).word) × ((parted (b ∷ rest)).behind ≡ (parted rest).behind)
unfolding parted onto
goes_on b rest e = rw e (refl, refl)

-- ---- to where a word starts: the first byte of the rest that is no blank

start_in : (rest : List ℕ) (j : ℕ) → j ≤ length rest → ((k : ℕ) → k < j → is_blank (get_or rest k 0) ≡ true) → words_in (drop j rest) ≡ words_in rest
start_in rest zero l blank = refl
start_in [] (suc j) l blank = absurd (not-suc-le-zero l)
start_in (b ∷ rest) (suc j) l blank =
    start_in rest j (le_of_suc-le-suc l) (λ k h. blank (suc k) (suc-le-suc h)) ∙ sym (blank_before b rest (blank 0 (omega arith)))

-- ---- to where it ends: the first blank of the rest

end_in : (rest : List ℕ) (j : ℕ) → j ≤ length rest → ((k : ℕ) → k < j → is_blank (get_or rest k 0) ≡ false) → (j < length rest → is_blank (get_or rest j 0) ≡ true)
    → (take j rest ≡ (parted rest).word) × (words_in (drop j rest) ≡ (parted rest).behind)
end_in [] zero l before there = end_of_all
end_in [] (suc j) l before there = absurd (not-suc-le-zero l)
end_in (b ∷ rest) zero l before there = let blank = ends_at_blank b rest (there (omega arith)) in (sym blank.0, blank.1)
end_in (b ∷ rest) (suc j) l before there =
    let on = goes_on b rest (before 0 (omega arith)) in
    let more = end_in rest j (le_of_suc-le-suc l) (λ k h. before (suc k) (suc-le-suc h)) (λ h. there (suc-le-suc h)) in
    (ap (λ (xs : List ℕ). b ∷ xs) more.0 ∙ sym on.0, more.1 ∙ sym on.1)

-- what is promised of where it ends
abbrev pub EndsAt : List ℕ → ℕ → ℕ → Type 0
EndsAt text at i = (take (i - at) (drop at text) ≡ (parted (drop at text)).word) × (words_in (drop i text) ≡ (parted (drop at text)).behind)

-- so many bytes on in what is lent of a text from a place on
module _ (text : List ℕ) (at j : ℕ) (within : j ≤ length (take (length text - at) (drop at text))) where
  abbrev rest : List ℕ
  rest = take (length text - at) (drop at text)

  lent_lem : rest ≡ drop at text
  lent_lem = take_all (length text - at) (drop at text) (le_of_eq (length-drop at text))

  behind_lem : drop (at + j) text ≡ drop j rest
  behind_lem = sym (drop-drop j at text) ∙ ap (λ (l : List ℕ). drop j l) (sym lent_lem)

  pub start_told : ((k : ℕ) → k < j → is_blank (get_or rest k 0) ≡ true) → words_in (drop (at + j) text) ≡ words_in (drop at text)
  start_told blank = ap words_in behind_lem ∙ (start_in rest j within blank ∙ ap words_in lent_lem)

  pub end_told : ((k : ℕ) → k < j → is_blank (get_or rest k 0) ≡ false) → (j < length rest → is_blank (get_or rest j 0) ≡ true) → EndsAt text at (at + j)
  end_told before there =
      let end = end_in rest j within before there in
      let on : at + j - at ≡ j = omega arith in (
        ap₂ (λ (n : ℕ) (l : List ℕ). take n l) on (sym lent_lem) ∙ (end.0 ∙ ap (λ (l : List ℕ). (parted l).word) lent_lem),
        ap words_in behind_lem ∙ (end.1 ∙ ap (λ (l : List ℕ). (parted l).behind) lent_lem),
      )

-- ---- the next word

first_parts : (line : List ℕ) → (0 < length line → is_blank (get_or line 0 0) ≡ false)
    → ((parted line).word ≡ get_or (words_in line) 0 []) × ((parted line).behind ≡ drop 1 (words_in line)) × ((parted line).word ≡ [] → words_in line ≡ [])
    × (0 < length line → 0 < length (words_in line))
unfolding words_in parted onto with_word
first_parts [] n = (refl, refl, λ e. refl, λ l. absurd (not-suc-le-zero l))
first_parts (b ∷ rest) n = rw (n (omega arith)) (refl, refl, (λ e. clash (cc)), λ l. omega arith)

module _ (text : List ℕ) (at from to : ℕ) (within : to ≤ length text) (same_words : words_in (drop from text) ≡ words_in (drop at text))
    (starts : from < length text → is_blank (get_or text from 0) ≡ false) (ends : EndsAt text from to) where
  all_parts : ((parted (drop from text)).word ≡ get_or (words_in (drop from text)) 0 []) × ((parted (drop from text)).behind ≡ drop 1 (words_in (drop from text)))
      × ((parted (drop from text)).word ≡ [] → words_in (drop from text) ≡ []) × (0 < length (drop from text) → 0 < length (words_in (drop from text)))
  all_parts =
      first_parts (drop from text)
      (λ l. let under : from < length text = omega (arith, l, length-drop from text) in
      ap is_blank (get_or-drop from text 0 0 ∙ ap (λ (k : ℕ). get_or text k 0) (add-zero from)) ∙ starts under)

  pub next_word : take (to - from) (drop from text) ≡ get_or (words_in (drop at text)) 0 []
  next_word = ends.0 ∙ (all_parts.0 ∙ ap (λ (w : List (List ℕ)). get_or w 0 []) same_words)

  pub next-left : words_in (drop to text) ≡ drop 1 (words_in (drop at text))
  next-left = ends.1 ∙ (all_parts.1 ∙ ap (λ (w : List (List ℕ)). drop 1 w) same_words)

  pub next-none : from ≡ to → words_in (drop at text) ≡ []
  next-none e =
      let zero_long : to - from ≡ 0 = omega arith in
      sym same_words ∙ all_parts.2 (sym ends.0 ∙ ap (λ (k : ℕ). take k (drop from text)) zero_long)

  pub next-some : from < to → 0 < length (words_in (drop at text))
  next-some l = rw (← same_words) (all_parts.3 (rw (length-drop from text) (omega arith)))

-- ---- the words are the parts between blanks, but for the empty ones

abbrev pub is_word : List ℕ → Bool
is_word part = not (eqb (length part) 0)

word_kept : (word : List ℕ) (others : List (List ℕ)) {behind : List (List ℕ)} → filter is_word others ≡ behind → filter is_word (word ∷ others) ≡ with_word word behind
unfolding with_word
word_kept [] others e = e
word_kept (b ∷ word) others e = rw (ne_eqb (suc (length word)) 0 (λ z. omega (arith, z))) (ap (λ (l : List (List ℕ)). (b ∷ word) ∷ l) e)

-- the parts are the word that the line begins with, and others
abbrev CutAs : List (List ℕ) → Parted → Type 0
CutAs cut p = (others : List (List ℕ)) × (cut ≡ p.word ∷ others) × (filter is_word others ≡ p.behind)

cut_on : (b : ℕ) (t : Bool) (cut : List (List ℕ)) (p : Parted) → CutAs cut p → CutAs (cond t ([] ∷ cut) (onto_first b cut)) (onto t b p)
unfolding onto
cut_on b true cut p so = (cut, refl, ap (λ (l : List (List ℕ)). filter is_word l) so.1 ∙ word_kept p.word so.0 so.2)
cut_on b false cut p so = (so.0, ap (λ (l : List (List ℕ)). onto_first b l) so.1, so.2)

cut_as : (line : List ℕ) → CutAs (slice_split is_blank line) (parted line)
unfolding parted
cut_as [] = ([], refl, refl)
cut_as (b ∷ rest) = cut_on b (is_blank b) (slice_split is_blank rest) (parted rest) (cut_as rest)

pub words_cut : (line : List ℕ) → filter is_word (slice_split is_blank line) ≡ words_in line
unfolding words_in
words_cut line =
    let so = cut_as line in
    ap (λ (l : List (List ℕ)). filter is_word l) so.1 ∙ word_kept (parted line).word so.0 so.2

-- no more of them than bytes

with_word_short : (word : List ℕ) (behind : List (List ℕ)) → length (with_word word behind) ≤ length word + length behind
unfolding with_word
with_word_short [] behind = omega arith
with_word_short (b ∷ word) behind = omega arith

parted_short : (line : List ℕ) → length (parted line).word + length (parted line).behind ≤ length line
unfolding parted onto
parted_short [] = omega arith
parted_short (b ∷ rest) = go (is_blank b) (parted_short rest)
  where
    go : (t : Bool) → length (parted rest).word + length (parted rest).behind ≤ length rest
        → length (onto t b (parted rest)).word + length (onto t b (parted rest)).behind ≤ suc (length rest)
    go true so = let short = with_word_short (parted rest).word (parted rest).behind in omega (arith, short, so)
    go false so = omega (arith, so)

pub words_short : (line : List ℕ) → length (words_in line) ≤ length line
unfolding words_in
words_short line = let short = with_word_short (parted line).word (parted line).behind in omega (arith, short, parted_short line)

-- ---- the same bytes: what `==` of the library tells

pub same_told : (xs ys : List ℕ) → pointwise eqb xs ys ≡ same xs ys
unfolding same
same_told [] [] = refl
same_told [] (y ∷ ys) = refl
same_told (x ∷ xs) [] = refl
same_told (x ∷ xs) (y ∷ ys) = ap (λ (t : Bool). eqb x y && t) (same_told xs ys)

-- What the code's steps need: words one after the other, and what the first four say.
-- Assumes nothing.
use mathlib.Core.Path.{◌≡◌, refl, sym, ap, ◌∙◌}
use mathlib.Core.Bool.{Bool, true, false, cond, not, ◌&&◌, true≢false}
use mathlib.Core.List.{List, []}
use mathlib.Core.Logic.{◌≢◌}
use Prim.Native.Nat.{ℕ, ◌+◌, ◌≤◌, ◌<◌}
use Prim.Native.String.{String}
use native.Mathlib.Nat.{add-zero}
use native.Mathlib.Omega.{arith}
use borrow.Author.Tests.{ne_eqb}
use lib.Dec.{eqb}
use lib.ListN.{length, get_or, drop}
use lib.Seq.{get_or-drop, drop-drop}
use Rattle.first.proofs.Laws.{first_at, first-none}
use Rattle.text.specs.Text.{ascii}
use Rattle.numerals.specs.Numerals.{is_number, limited_to}
use Rattle.sheet_line.specs.Words.{same}
use Rattle.sheet_line.specs.Line.{name_of, kind_of, word_at, small_at, is_no_number, no_number_at}
use Rattle.sheet_line.specs.Parts.{Says}

pub both : (a b : Bool) → (a && b) ≡ true → (a ≡ true) × (b ≡ true)
both true b e = (refl, e)
both false b e = absurd (true≢false (sym e))

-- ---- words one after the other: `left` are those behind the first k

pub left_on : (words : List (List ℕ)) (k : ℕ) {left later : List (List ℕ)} → drop k words ≡ left → later ≡ drop 1 left → drop (k + 1) words ≡ later
left_on words k so e = sym (drop-drop 1 k words) ∙ (ap (λ (l : List (List ℕ)). drop 1 l) so ∙ sym e)

pub word_here : (words : List (List ℕ)) (k : ℕ) {left : List (List ℕ)} {word : List ℕ} → drop k words ≡ left → word ≡ get_or left 0 [] → word ≡ word_at words k
word_here words k so e =
    e ∙ (ap (λ (l : List (List ℕ)). get_or l 0 []) (sym so) ∙ (get_or-drop k words 0 [] ∙ ap (λ (n : ℕ). get_or words n []) (add-zero k)))

-- ---- a word that is no number

pub other_told : (k : ℕ) (t : Bool) {r : Bool} → k ≢ 2 → r ≡ t → not r ≡ (not (eqb k 2) && not t)
other_told k t n e = rw (ne_eqb k 2 n, e)

module _ (words : List (List ℕ)) (k : ℕ) {left : List (List ℕ)} {word : List ℕ} {r : Bool} (so : drop k words ≡ left) (is : word ≡ get_or left 0 [])
    (told : r ≡ (not (eqb k 2) && not (is_number word))) where
  pub wrong_told : is_no_number words k ≡ r
  unfolding is_no_number
  wrong_told = ap (λ (w : List ℕ). not (eqb k 2) && not (is_number w)) (sym (word_here words k so is)) ∙ sym told

pub wrong_at : (words : List (List ℕ)) (k : ℕ) → k < length words → ((j : ℕ) → j < k → is_no_number words j ≡ false) → is_no_number words k ≡ true → k ≡ no_number_at words
wrong_at words k h before there = sym (first_at (is_no_number words) (length words) k h before there)

pub none_wrong : (words : List (List ℕ)) (k : ℕ) → k ≡ length words → ((j : ℕ) → j < k → is_no_number words j ≡ false) → k ≡ no_number_at words
none_wrong words k e before = e ∙ sym (first-none (is_no_number words) (length words) (λ j l. before j (omega arith)))

-- ---- the first four

module _ (words : List (List ℕ)) {l₁ l₂ l₃ : List (List ℕ)} (one : l₁ ≡ drop 1 words) (two : l₂ ≡ drop 1 l₁)
    (three : l₃ ≡ drop 1 l₂) where
  pub four_left : {l₄ : List (List ℕ)} → l₄ ≡ drop 1 l₃ → l₄ ≡ drop 4 words
  four_left four = sym (left_on words 3 (left_on words 2 (left_on words 1 (sym one) two) three) four)

  pub four_said : {word : List ℕ} {unit register kind count : ℕ} (at : ℕ) → unit ≡ limited_to 255 (get_or words 0 []) → register ≡ limited_to 255 (get_or l₁ 0 [])
      → word ≡ get_or l₂ 0 [] → kind ≡ kind_of word → count ≡ limited_to 255 (get_or l₃ 0 [])
      → Says words (record { unit = unit; register = register; kind = kind; count = count; at = at })
  unfolding small_at
  four_said at u r w k n = (
    u,
    r ∙ ap (limited_to 255) (word_here words 1 (sym one) refl),
    k ∙ ap kind_of (word_here words 2 (left_on words 1 (sym one) two) w),
    n ∙ ap (limited_to 255) (word_here words 3 (left_on words 2 (left_on words 1 (sym one) two) three) refl),
  )

-- ---- kinds by name

module _ (word : List ℕ) where
  abbrev IsNo : String → Type 0
  IsNo name = same word (ascii name) ≡ false

  pub kind_1 : same word (ascii "U8") ≡ true → 1 ≡ kind_of word
  unfolding kind_of name_of
  kind_1 a = rw (a)

  pub kind_2 : IsNo "U8" → same word (ascii "I8") ≡ true → 2 ≡ kind_of word
  unfolding kind_of name_of
  kind_2 a b = rw (a, b)

  pub kind_3 : IsNo "U8" → IsNo "I8" → same word (ascii "U16") ≡ true → 3 ≡ kind_of word
  unfolding kind_of name_of
  kind_3 a b c = rw (a, b, c)

  pub kind_4 : IsNo "U8" → IsNo "I8" → IsNo "U16" → same word (ascii "I16") ≡ true → 4 ≡ kind_of word
  unfolding kind_of name_of
  kind_4 a b c d = rw (a, b, c, d)

  pub kind_5 : IsNo "U8" → IsNo "I8" → IsNo "U16" → IsNo "I16" → same word (ascii "U32") ≡ true → 5 ≡ kind_of word
  unfolding kind_of name_of
  kind_5 a b c d e = rw (a, b, c, d, e)

  pub kind_6 : IsNo "U8" → IsNo "I8" → IsNo "U16" → IsNo "I16" → IsNo "U32" → same word (ascii "I32") ≡ true → 6 ≡ kind_of word
  unfolding kind_of name_of
  kind_6 a b c d e f = rw (a, b, c, d, e, f)

  pub kind_7 : IsNo "U8" → IsNo "I8" → IsNo "U16" → IsNo "I16" → IsNo "U32" → IsNo "I32" → same word (ascii "U64") ≡ true → 7 ≡ kind_of word
  unfolding kind_of name_of
  kind_7 a b c d e f g = rw (a, b, c, d, e, f, g)

  pub kind_none : IsNo "U8" → IsNo "I8" → IsNo "U16" → IsNo "I16" → IsNo "U32" → IsNo "I32" → IsNo "U64" → 0 ≡ kind_of word
  unfolding kind_of name_of
  kind_none a b c d e f g = rw (a, b, c, d, e, f, g)

pub kind_most : (word : List ℕ) → kind_of word ≤ 7
unfolding kind_of
kind_most word =
    among (same word (name_of 1)) (same word (name_of 2)) (same word (name_of 3)) (same word (name_of 4)) (same word (name_of 5)) (same word (name_of 6))
    (same word (name_of 7))
  where
    among : (a b c d e f g : Bool) → cond a 1 (cond b 2 (cond c 3 (cond d 4 (cond e 5 (cond f 6 (cond g 7 0)))))) ≤ 7
    among true b c d e f g = omega arith
    among false true c d e f g = omega arith
    among false false true d e f g = omega arith
    among false false false true e f g = omega arith
    among false false false false true f g = omega arith
    among false false false false false true g = omega arith
    among false false false false false false true = omega arith
    among false false false false false false false = omega arith

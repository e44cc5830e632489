-- The words that are written for a setting: they are the words of its line.
-- Assumes nothing.
use Rattle.std.specs.Prelude.{Ok, Err}
use mathlib.Core.Path.{◌≡◌, refl, sym, ap, ◌∙◌, subst}
use mathlib.Core.Bool.{Bool, true, ◌&&◌}
use mathlib.Core.List.{List, [], ◌∷◌, ◌++◌}
use mathlib.Core.Logic.{◌≢◌, ⊎_elim}
use Prim.Native.Nat.{ℕ, zero, suc, ◌+◌, ◌≤◌, ◌<◌}
use native.Mathlib.Nat.{le_of_suc-le-suc}
use native.Mathlib.Omega.{arith}
use borrow.Author.Tests.{ne_eqb, le-leb, lt-leb}
use lib.Dec.{leb}
use lib.ListN.{length, get_or, take}
use Rattle.lent.proofs.Laws.{take-over}
use Rattle.rows.proofs.Laws.{decides_le, decides_and, decides_set}
use Rattle.text.specs.Text.{ascii, decimal}
use Rattle.values.specs.declared.Value.{Value}
use Rattle.values.specs.declared.Value.TheVariants.{Natural}
use Rattle.values.specs.Answers.{Reading}
use Rattle.values.specs.Values.{read_value}
use Rattle.numerals.specs.Numerals.{spelt}
use Rattle.numerals.proofs.Laws.{spelt_bytes, spelt_some}
use Rattle.setting.specs.Setting.{Setting}
use Rattle.sheet_line.specs.Words.{is_blank, words_of, spaced, joined}
use Rattle.sheet_line.specs.Line.{name_of}
use Rattle.sheet_line.specs.Line.{element_text, elements_from, line_of, Writes}
use Rattle.sheet_line.proofs.Joined.{Every, every_as, every_at, at_every, every_joined, Inside, Whole, words_joined}

-- ---- the words that are written for a setting

-- of the n elements from k on
abbrev pub texts_from : ℕ → List ℕ → ℕ → ℕ → List (List ℕ)
texts_from kind value k zero = []
texts_from kind value k (suc n) = element_text (read_value kind value k) ∷ texts_from kind value (suc k) n

abbrev pub words_for : Setting → List (List ℕ)
words_for s =
    decimal s.named.unit ∷ decimal s.named.register ∷ name_of s.named.kind ∷ decimal s.named.count
    ∷ texts_from s.named.kind s.value 0 s.named.count

pub length_texts : (kind : ℕ) (value : List ℕ) (k n : ℕ) → length (texts_from kind value k n) ≡ n
length_texts kind value k zero = refl
length_texts kind value k (suc n) = ap suc (length_texts kind value (suc k) n)

pub text_at : (kind : ℕ) (value : List ℕ) (k n j : ℕ) → j < n → get_or (texts_from kind value k n) j [] ≡ element_text (read_value kind value (k + j))
text_at kind value k zero j h = absurd (omega arith)
text_at kind value k (suc n) zero h = let e : k ≡ k + 0 = omega arith in ap (λ (i : ℕ). element_text (read_value kind value i)) e
text_at kind value k (suc n) (suc j) h =
    let e : suc k + j ≡ k + suc j = omega arith in
    text_at kind value (suc k) n j (le_of_suc-le-suc h) ∙ ap (λ (i : ℕ). element_text (read_value kind value i)) e

elements_spaced : (kind : ℕ) (value : List ℕ) (k n : ℕ) → elements_from kind value k n ≡ spaced (texts_from kind value k n)
unfolding elements_from spaced
elements_spaced kind value k zero = refl
elements_spaced kind value k (suc n) =
    ap (λ (l : List ℕ). 32 ∷ (element_text (read_value kind value k) ++ l)) (elements_spaced kind value (suc k) n)

pub line_joined : (s : Setting) → line_of s ≡ joined (words_for s)
unfolding line_of joined spaced
line_joined s = rw (elements_spaced s.named.kind s.value 0 s.named.count)

-- where there is room for all of it, `write` puts that line into the buffer
pub written : (s : Setting) (room : List ℕ) (n : ℕ) (room' : List ℕ) → Writes s.named s.value room n room' → n ≤ length room → take n room' ≡ line_of s
written s room n room' w l = rw (w.1, w.0) (take-over (line_of s) room (rw w.0 at l))

-- ---- a written word has digits, letters, a minus or a question mark, and no other byte

abbrev Ink : ℕ → Type 0
Ink b = (45 ≤ b) × (b ≤ 90)

abbrev Written : List ℕ → Type 0
Written word = (1 ≤ length word) × Every Ink word

inside : (b : ℕ) → Ink b → Inside b
unfolding is_blank
inside b i = (
  rw (ne_eqb b 32 (λ e. omega arith), ne_eqb b 9 (λ e. omega arith), ne_eqb b 13 (λ e. omega arith)),
  λ e. omega arith,
)

-- the same as a test, for words that are known
are_ink : List ℕ → Bool
are_ink [] = true
are_ink (b ∷ rest) = (leb 45 b && leb b 90) && are_ink rest

ink_told : (word : List ℕ) → are_ink word ≡ true → Every Ink word
unfolding are_ink
ink_told [] e = tt
ink_told (b ∷ rest) e =
    let both = (decides_and (decides_and (decides_le 45 b) (decides_le b 90)) (decides_set (are_ink rest))).so e in
    (both.0, ink_told rest both.1)

no_name : (kind : ℕ) → 7 < kind → name_of kind ≡ ascii "?"
unfolding name_of
no_name kind h = rw (le-leb 1 kind (omega arith), lt-leb kind 7 h)

name_written : (kind : ℕ) → Written (name_of kind)
unfolding name_of are_ink
name_written zero = (omega arith, ink_told (name_of 0) refl)
name_written (suc zero) = (omega arith, ink_told (name_of 1) refl)
name_written (suc (suc zero)) = (omega arith, ink_told (name_of 2) refl)
name_written (suc (suc (suc zero))) = (omega arith, ink_told (name_of 3) refl)
name_written (suc (suc (suc (suc zero)))) = (omega arith, ink_told (name_of 4) refl)
name_written (suc (suc (suc (suc (suc zero))))) = (omega arith, ink_told (name_of 5) refl)
name_written (suc (suc (suc (suc (suc (suc zero)))))) = (omega arith, ink_told (name_of 6) refl)
name_written (suc (suc (suc (suc (suc (suc (suc zero))))))) = (omega arith, ink_told (name_of 7) refl)
name_written (suc (suc (suc (suc (suc (suc (suc (suc k)))))))) =
    subst Written (sym (no_name (suc (suc (suc (suc (suc (suc (suc (suc k)))))))) (omega arith))) (omega arith, ink_told (ascii "?") refl)

spelt_written : (v : Value) → Written (spelt v)
spelt_written v = (
  spelt_some v,
  at_every Ink (spelt v) 0 (λ k h. ⊎_elim (λ e. (omega (arith, e), omega (arith, e))) (λ d. (omega (arith, d.0), omega (arith, d.1))) (spelt_bytes v k h)),
)

decimal_written : (n : ℕ) → Written (decimal n)
unfolding spelt
decimal_written n = spelt_written (Natural n)

text_written : (r : Reading) → Written (element_text r)
unfolding element_text are_ink
text_written (Ok v) = spelt_written v
text_written (Err f) = (omega arith, ink_told (ascii "?") refl)

texts_written : (kind : ℕ) (value : List ℕ) (k n : ℕ) → Every Written (texts_from kind value k n)
texts_written kind value k zero = tt
texts_written kind value k (suc n) = (text_written (read_value kind value k), texts_written kind value (suc k) n)

words_written : (s : Setting) → Every Written (words_for s)
words_written s = (
  decimal_written s.named.unit,
  (decimal_written s.named.register, (name_written s.named.kind, (decimal_written s.named.count, texts_written s.named.kind s.value 0 s.named.count))),
)

-- ---- so they are the words of the line, whatever the setting is

pub line_words : (s : Setting) → words_of (line_of s) ≡ words_for s
line_words s =
    ap words_of (line_joined s)
    ∙ words_joined (words_for s) (every_as Written Whole (words_for s) (λ word w. (w.0, every_as Ink Inside word inside w.1)) (words_written s))

-- and no newline stands in it
pub line_plain : (s : Setting) (k : ℕ) → k < length (line_of s) → get_or (line_of s) k 0 ≢ 10
line_plain s = every_at (λ b. b ≢ 10) (line_of s) 0 (rw (line_joined s) all)
  where
    all : Every (λ b. b ≢ 10) (joined (words_for s))
    all =
        every_joined (λ b. b ≢ 10) (words_for s) (λ e. omega arith)
        (every_as Written (Every (λ b. b ≢ 10)) (words_for s) (λ word w. every_as Ink (λ b. b ≢ 10) word (λ b i e. omega arith) w.1) (words_written s))

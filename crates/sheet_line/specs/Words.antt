-- The words of a line of text.
-- Assumes nothing.
use Rattle.std.specs.Prelude.{Bool, true, false, cond, ◌||◌, ◌&&◌, List, [], ◌∷◌, ◌++◌, ℕ, eqb}

-- "From the first `#` on, a line is a remark."
unfoldable pub plain : List ℕ → List ℕ
plain [] = []
plain (b ∷ rest) = cond (eqb b 35) [] (b ∷ plain rest)

-- "bytes 32, 9 and 13"
unfoldable pub is_blank : ℕ → Bool
is_blank b = eqb b 32 || (eqb b 9 || eqb b 13)

-- the word that a line begins with, none where a blank stands first; and the words behind it
pub record Parted : Type 0 where
  pub word : List ℕ
  pub behind : List (List ℕ)

abbrev pub parts : List ℕ → List (List ℕ) → Parted
parts word behind = record { word = word; behind = behind }

-- all of them
unfoldable pub with_word : List ℕ → List (List ℕ) → List (List ℕ)
with_word [] behind = behind
with_word (b ∷ word) behind = (b ∷ word) ∷ behind

-- one byte more in front
unfoldable pub onto : Bool → ℕ → Parted → Parted
onto true b p = parts [] (with_word p.word p.behind)
onto false b p = parts (b ∷ p.word) p.behind

unfoldable pub parted : List ℕ → Parted
parted [] = parts [] []
parted (b ∷ rest) = onto (is_blank b) b (parted rest)

-- "words, parted by blanks"
unfoldable pub words_in : List ℕ → List (List ℕ)
words_in line = with_word (parted line).word (parted line).behind

unfoldable pub words_of : List ℕ → List (List ℕ)
words_of line = words_in (plain line)

-- ---- "one blank between two words and none elsewhere"

-- a blank before each
unfoldable pub spaced : List (List ℕ) → List ℕ
spaced [] = []
spaced (word ∷ rest) = 32 ∷ (word ++ spaced rest)

unfoldable pub joined : List (List ℕ) → List ℕ
joined [] = []
joined (word ∷ rest) = word ++ spaced rest

-- the same bytes
unfoldable pub same : List ℕ → List ℕ → Bool
same [] [] = true
same [] (y ∷ ys) = false
same (x ∷ xs) [] = false
same (x ∷ xs) (y ∷ ys) = eqb x y && same xs ys

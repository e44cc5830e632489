-- One mark for each place. 02, #112: "Keep beside them one bit for each address".
-- Assumes nothing.
use Rattle.std.specs.Prelude.{◌≡◌, Bool, cond, not, ℕ, ◌+◌, ◌-◌, ◌%◌, ◌^◌, eqb, ltb}
use Rattle.first.specs.First.{first_place}
use Rattle.values.specs.Values.{set_bits, clear_bits, bit_at}
use Rattle.marks.specs.declared.Marks.{Marks}

-- no place is marked
abbrev pub no_marks : Marks
no_marks = record { low = 0; high = 0 }

-- the word that has the mark of a place: the low one for 0 to 63, the high one for 64 to 127
abbrev pub word_of : Marks → ℕ → ℕ
word_of marks place = cond (ltb place 64) marks.low (cond (ltb place 128) marks.high 0)

-- the mark of a place is one bit of its word, the lowest for the first place
unfoldable pub is_marked : Marks → ℕ → Bool
is_marked marks place = eqb (bit_at (word_of marks place) (place % 64)) 1

-- a word with one bit set, or cleared
abbrev pub changed_bit : ℕ → ℕ → Bool → ℕ
changed_bit word bit held = cond held (set_bits word (2 ^ bit)) (clear_bits word (2 ^ bit))

-- another word in the place of the one that has the mark of a place
abbrev pub with_word : Marks → ℕ → ℕ → Marks
with_word marks place word =
    cond (ltb place 64) (record { low = word; high = marks.high }) (cond (ltb place 128) (record { low = marks.low; high = word }) marks)

unfoldable pub with_mark : Marks → ℕ → Bool → Marks
with_mark marks place held = with_word marks place (changed_bit (word_of marks place) (place % 64) held)

-- how many places from this one on are marked, one after the other, as far as its word reaches
unfoldable pub run_from : Marks → ℕ → ℕ
run_from marks place = first_place (λ k. not (is_marked marks (place + k))) (64 - place % 64)

-- ---- the contracts

-- `none`
abbrev pub Begins : Marks → Type 0
Begins r = r ≡ no_marks

-- `is_marked`
abbrev pub TellsMarked : Marks → ℕ → Bool → Type 0
TellsMarked marks place r = r ≡ is_marked marks place

-- `with_mark`
abbrev pub Changes : Marks → ℕ → Bool → Marks → Type 0
Changes marks place held r = r ≡ with_mark marks place held

-- `run`
abbrev pub Runs : Marks → ℕ → ℕ → Type 0
Runs marks place r = r ≡ run_from marks place

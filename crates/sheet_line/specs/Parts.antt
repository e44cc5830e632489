-- What the functions inside promise each other.
-- Assumes nothing.
use Rattle.std.specs.Prelude.{◌≡◌, Bool, true, not, List, [], ℕ, ◌<◌, length, get_or, take, Ok, Err}
use Rattle.std.proofs.Math.Option.{Option, some, none}
use Rattle.first.specs.First.{first_place}
use Rattle.lent.specs.Lent.{over}
use Rattle.rows.specs.Rows.{first_row_of}
use Rattle.values.specs.Values.{fits}
use Rattle.numerals.specs.Numerals.{is_number, value_of}
use Rattle.setting.specs.declared.Head.{Head}
use Rattle.sheet_line.specs.Line.{small_at, kind_in, head_in, bytes_in, no_number_at, head_tests}
use Rattle.sheet_line.specs.declared.Fault.{Fault}
use Rattle.sheet_line.specs.declared.reading.Four.{Four}
use Rattle.sheet_line.specs.Answers.{Judged}

-- what the first four words say
abbrev pub Says : List (List ℕ) → Four → Type 0
Says words four =
    (four.unit ≡ small_at words 0) × (four.register ≡ small_at words 1) × (four.kind ≡ kind_in words) × (four.count ≡ small_at words 3)

-- what is wrong with them, and else what they name
abbrev pub judged_as : Option Fault → Head → Judged
judged_as (some f) h = Err f
judged_as none h = Ok h

-- n words are numbers
abbrev pub AreNumbers : List (List ℕ) → ℕ → Type 0
AreNumbers words n = (k : ℕ) → k < n → is_number (get_or words k []) ≡ true

-- the value at k, from 0 on, does not fit the kind
unfoldable pub unfit_in : ℕ → List (List ℕ) → ℕ → Bool
unfit_in kind words k = not (fits kind (value_of (get_or words k [])))

-- the bytes of as many values as the count says
abbrev pub bytes_for : Head → List (List ℕ) → List ℕ
bytes_for h words = bytes_in h.kind (take h.count words)

-- where each of them fits, their bytes are laid over the room
abbrev pub StoresAll : List (List ℕ) → Head → List ℕ → ℕ → List ℕ → Type 0
StoresAll words h room r room' =
    (r ≡ first_place (unfit_in h.kind words) h.count) × (r ≡ h.count → room' ≡ over (bytes_for h words) room)

-- the words are right up to the values
pub record Headed (words : List (List ℕ)) (h : Head) : Type 0 where
  pub is : h ≡ head_in words
  pub right : first_row_of (head_tests words) ≡ none
  pub numbers : no_number_at words ≡ length words

-- The definitions of sheets said in other words.
-- Assumes nothing.
use Rattle.std.specs.Prelude.{Ok, Err}
use mathlib.Core.Path.{◌≡◌, refl, sym, ap}
use mathlib.Core.List.{List, ◌∷◌}
use mathlib.Core.Logic.{◌≢◌, ◌⊎◌, ◌↔◌}
use mathlib.Core.Option.{some, none}
use Prim.Native.Nat.{ℕ, suc, ◌+◌, ◌*◌, ◌≤◌, ◌<◌}
use native.Mathlib.Omega.{arith}
use lib.ListN.{length, take, drop}
use Rattle.values.specs.Values.{natural}
use Rattle.setting.specs.declared.Fault.{Fault}
use Rattle.setting.specs.Setting.{Setting, length_of, lengths_to, Allowed, Falls, Unfit, heads, tails, settings_in, Numbers}
use Rattle.sheet.specs.Sheet.{named, valued, field_at, version_in, count_in, records_at, values_at, records_in, values_in, held, IsShort, IsOther}
use Rattle.sheet.specs.Sheet.{IsWrongHeader, HasFall, HasUnfit, Misplaced, HasMisplaced, HasNot, IsNarrow, check_told, read_told}
use Rattle.sheet.specs.declared.Record.{Record}

-- the setting at a place of a list
pub at_plainly : (s : Setting) (rest : List Setting) (k : ℕ)
    → ((named (s ∷ rest) 0 ≡ s.named) × (valued (s ∷ rest) 0 ≡ s.value))
    × ((named (s ∷ rest) (suc k) ≡ named rest k) × (valued (s ∷ rest) (suc k) ≡ valued rest k))
unfolding named valued
at_plainly s rest k = ((refl, refl), (refl, refl))

-- the header, byte by byte
pub header_plainly : (a b c d e f g h i j k l : ℕ) (rest : List ℕ)
    → let sheet = a ∷ b ∷ c ∷ d ∷ e ∷ f ∷ g ∷ h ∷ i ∷ j ∷ k ∷ l ∷ rest in
    (version_in sheet ≡ a + 256 * b) × (count_in sheet ≡ c + 256 * d) × (records_at sheet ≡ e + 256 * (f + 256 * (g + 256 * h)))
    × (values_at sheet ≡ i + 256 * (j + 256 * (k + 256 * l)))
unfolding version_in count_in records_at values_at field_at natural
header_plainly a b c d e f g h i j k l rest = (omega arith, omega arith, omega arith, omega arith)

-- where its parts stand
pub parts_plainly : (sheet : List ℕ)
    → (records_in sheet ≡ take (8 * count_in sheet) (drop 12 sheet)) × (values_in sheet ≡ drop (12 + 8 * count_in sheet) sheet)
    × (held sheet ≡ settings_in (count_in sheet) (records_in sheet) (values_in sheet))
unfolding records_in values_in held
parts_plainly sheet = (refl, refl, refl)

-- the rows of a check, and of a reading, one by one
pub rows_plainly : (sheet : List ℕ)
    → (IsShort sheet ↔ (length sheet < 12)) × (IsOther sheet ↔ (version_in sheet ≢ 1))
    × (IsWrongHeader sheet
    ↔ ((128 < count_in sheet) ⊎ ((records_at sheet ≢ 12) ⊎ ((values_at sheet ≢ 12 + 8 * count_in sheet) ⊎ (length sheet < values_at sheet)))))
    × (HasFall sheet
    ↔ ((k : ℕ) × (k < count_in sheet) × Falls (heads (records_in sheet)) k))
    × (HasUnfit sheet ↔ ((k : ℕ) × (k < count_in sheet) × (Allowed (heads (records_in sheet) k) → ⊥)))
    × (HasMisplaced sheet
    ↔ (((k : ℕ) × (k < count_in sheet) × (tails (records_in sheet) k ≢ lengths_to (heads (records_in sheet)) k))
    ⊎ (length sheet ≢ values_at sheet + lengths_to (heads (records_in sheet)) (count_in sheet))))
unfolding IsShort IsOther IsWrongHeader HasFall HasUnfit Unfit HasMisplaced Misplaced
rows_plainly sheet = ((λ p. p, λ p. p), (λ p. p, λ p. p), (λ p. p, λ p. p), (λ p. p, λ p. p), (λ p. p, λ p. p), (λ p. p, λ p. p))

pub read_rows_plainly : (sheet : List ℕ) (index : ℕ) (room : List ℕ)
    → (HasNot sheet index ↔ (count_in sheet ≤ index)) × (IsNarrow sheet index room ↔ (length room < length_of (heads (records_in sheet) index)))
unfolding HasNot IsNarrow
read_rows_plainly sheet index room = ((λ p. p, λ p. p), (λ p. p, λ p. p))

-- what an answer tells is the number of its fault
pub told_number : (f : Fault) (k : ℕ) (r : Record) (n : ℕ) → Numbers f k
    → ((check_told (Err f) ≡ some k) × (check_told (Ok n) ≡ none))
    × ((read_told (Err f) ≡ some k) × (read_told (Ok r) ≡ none))
told_number f k r n p = ((ap some (sym p), refl), (ap some (sym p), refl))

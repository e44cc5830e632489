-- The rows of each call and what is promised of it, said out: no condition behind a name of its own. 02, #114.
-- Assumes nothing.
use mathlib.Core.Path.{◌≡◌}
use mathlib.Core.List.{List, [], ◌∷◌, ◌++◌}
use mathlib.Core.Logic.{◌≢◌, ◌⊎◌, ◌↔◌}
use mathlib.Core.Option.{some, none}
use Prim.Native.Nat.{ℕ, ◌≤◌, ◌<◌}
use lib.ListN.{length, take, drop}
use Rattle.rows.specs.Rows.{Row, row, Numbered, First, NoRow, numbers_of, passed_up}
use Rattle.setting.specs.declared.Head.{Head}
use Rattle.setting.specs.Setting.{Setting, setting, length_of, Allowed, Some, fault_number as sheet_number}
use Rattle.sheet.specs.Sheet.{sheet_of, named, held, Writable, Right, check_rows}
use Rattle.sheet_editor.specs.Editor.{among, IsOverstated, sheet_rows, HasNot, HasNoneOf, remove_rows, module_rows, IsUnfit, SameKey, IsThere, IsFull, IsNarrow, add_rows}
use Rattle.sheet_editor.specs.Editor.{edit_told, Removes, RemovesModule, Adds}
use Rattle.sheet_editor.specs.Promised.{Kept}
use Rattle.sheet_editor.specs.Answers.{Editing}
use Rattle.sheet_editor.proofs.Laws.{remove_exactly, module_exactly, add_exactly}

-- "Refusals, in order: 80 stated length over the buffer; 65 to 70 for a sheet that isn't right; then for removal 77 nothing to remove"
pub remove_plainly : (room : List ℕ) (size index : ℕ) (r : Editing) (room' : List ℕ) → Removes room size index r room'
    → Numbered
    (row (length room < size) 80 ∷ (passed_up sheet_number (check_rows (take size room)) ++ (row (length (held (take size room)) ≤ index) 77 ∷ [])))
    (80 ∷ 65 ∷ 66 ∷ 67 ∷ 68 ∷ 69 ∷ 70 ∷ 77 ∷ []) (edit_told r)
unfolding remove_rows sheet_rows check_rows IsOverstated HasNot
remove_plainly room size index r room' p = remove_exactly room size index r room' p

pub module_plainly : (room : List ℕ) (size unit : ℕ) (r : Editing) (room' : List ℕ) → RemovesModule room size unit r room'
    → Numbered
    (row (length room < size) 80
    ∷ (passed_up sheet_number (check_rows (take size room))
    ++ (row ((k : ℕ) → k < length (held (take size room)) → (named (held (take size room)) k).unit ≢ unit) 77 ∷ [])))
    (80 ∷ 65 ∷ 66 ∷ 67 ∷ 68 ∷ 69 ∷ 70 ∷ 77 ∷ []) (edit_told r)
unfolding module_rows sheet_rows check_rows IsOverstated HasNoneOf
module_plainly room size unit r room' p = module_exactly room size unit r room' p

-- "for adding 69 the new setting's module, kind, count or value length not allowed, 78 its module and register already there, 79 already 128
-- records, 80 buffer too short for the longer sheet"
module _ (room : List ℕ) (size : ℕ) (h : Head) (value : List ℕ) where
  abbrev pub plain_rows : List (Row ℕ)
  plain_rows =
      row (length room < size) 80
      ∷ (passed_up sheet_number (check_rows (take size room))
      ++ (row ((Allowed h → ⊥) ⊎ (length value ≢ length_of h)) 69
      ∷ row
      (Some (λ k. ((named (held (take size room)) k).unit ≡ h.unit) × ((named (held (take size room)) k).register ≡ h.register)) (length (held (take size room)))) 78
      ∷ row (128 ≤ length (held (take size room))) 79
      ∷ row (length room < length (sheet_of (among (setting h value) (held (take size room))))) 80
      ∷ []))

  pub add_plainly : (r : Editing) (room' : List ℕ) → Adds room size h value r room'
      → (numbers_of plain_rows ≡ 80 ∷ 65 ∷ 66 ∷ 67 ∷ 68 ∷ 69 ∷ 70 ∷ 69 ∷ 78 ∷ 79 ∷ 80 ∷ [])
      × ((n : ℕ) → (edit_told r ≡ some n) ↔ First plain_rows n)
      × ((edit_told r ≡ none) ↔ NoRow plain_rows)
  unfolding add_rows sheet_rows check_rows IsOverstated IsUnfit IsThere SameKey IsFull IsNarrow
  add_plainly r room' p = add_exactly room size h value r room' p

-- what is kept: the stated length was within the buffer, and the sheet there right; the settings can be written; the answer is the length of
-- their sheet, which has room; the buffer is their sheet and then what stood there; and that sheet is right and holds them
pub kept_plainly : (room : List ℕ) (stated : ℕ) (settings : List Setting) (size : ℕ) (room' : List ℕ) → Kept room stated settings size room'
    → (stated ≤ length room)
    × Right (take stated room)
    × Writable settings
    × (size ≡ length (sheet_of settings))
    × (size ≤ length room)
    × (room' ≡ sheet_of settings ++ drop size room)
    × Right (take size room')
    × (held (take size room') ≡ settings)
kept_plainly room stated settings size room' k = (k.within, k.was_right, k.can, k.long, k.fits, k.bytes, k.is_right, k.holds)

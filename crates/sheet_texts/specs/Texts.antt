-- A sheet and its text, there and back; and the sheet without one register. docs/SHEETS.md.
-- Assumes nothing.
use Rattle.std.specs.Prelude.{◌≡◌, cond, List, [], ◌∷◌, ◌++◌, ℕ, ◌≤◌, ◌<◌, length, get_or, take, drop, Ok, Some}
use Rattle.setting.specs.Setting.{Setting}
use Rattle.sheet.specs.declared.Record.{Record}
use Rattle.sheet.specs.Sheet.{sheet_of, Writable, Right, held}
use Rattle.sheet_editor.specs.Editor.{same_key}
use Rattle.sheet_line.specs.Line.{Canonical}
use Rattle.sheet_maker.specs.Maker.{lines_of, said, settings_of, reports_of, key_for}

-- "As `show` writes it": each line is as it is written and says a setting, a newline ends it, and nothing stands behind the last one
pub record CanonicalText (text : List ℕ) : Type 0 where
  pub lines : List (List ℕ)
  pub cut : lines_of text ≡ lines ++ ([] ∷ [])
  pub each : (k : ℕ) → k < length lines → Canonical (get_or lines k [])
  pub says : (k : ℕ) → k < length lines → (r : Record) × (said (get_or lines k []) ≡ Ok (Some r))

-- a sheet was made of a text: no line is bad, and it is the sheet of the text's settings
pub record MadeOf (text room : List ℕ) (size : ℕ) (room' : List ℕ) : Type 0 where
  pub no_report : reports_of text ≡ []
  pub can : Writable (settings_of text)
  pub long : size ≡ length (sheet_of (settings_of text))
  pub most : size ≤ 31756
  pub fits : size ≤ length room
  pub bytes : room' ≡ sheet_of (settings_of text) ++ drop size room
  pub is_right : Right (take size room')
  pub holds : held (take size room') ≡ settings_of text

-- the settings of a sheet but for one register of a module
unfoldable pub besides : ℕ → ℕ → List Setting → List Setting
besides unit register [] = []
besides unit register (s ∷ rest) = cond (same_key s.named (key_for unit register)) (besides unit register rest) (s ∷ besides unit register rest)

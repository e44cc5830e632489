-- What is promised of a sheet that was edited. 02, #114.
-- Assumes nothing.
use Rattle.std.specs.Prelude.{◌≡◌, List, ◌++◌, ℕ, ◌≤◌, length, take, drop}
use Rattle.setting.specs.Setting.{Setting}
use Rattle.sheet.specs.Sheet.{sheet_of, Writable, Right, held}

-- a right sheet stood in the buffer; now the sheet of these settings does, and all behind its end is as it was
pub record Kept (room : List ℕ) (stated : ℕ) (settings : List Setting) (size : ℕ) (room' : List ℕ) : Type 0 where
  pub within : stated ≤ length room
  pub was_right : Right (take stated room)
  pub can : Writable settings
  pub long : size ≡ length (sheet_of settings)
  pub fits : size ≤ length room
  pub bytes : room' ≡ sheet_of settings ++ drop size room
  pub is_right : Right (take size room')
  pub holds : held (take size room') ≡ settings

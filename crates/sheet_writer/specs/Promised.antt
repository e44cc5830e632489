-- What is promised of a sheet that was written.
-- Assumes nothing.
use Rattle.std.specs.Prelude.{◌≡◌, List, ◌++◌, ℕ, ◌≤◌, length, take, drop}
use Rattle.sheet.specs.Sheet.{sheet_of, Writable, Right, held}
use Rattle.sheet_writer.specs.Writer.{handed}

pub record Written (rows values room : List ℕ) (size : ℕ) (room' : List ℕ) : Type 0 where
  pub can : Writable (handed rows values)
  pub long : size ≡ length (sheet_of (handed rows values))
  pub most : size ≤ 31756
  pub fits : size ≤ length room
  pub bytes : room' ≡ sheet_of (handed rows values) ++ drop size room
  pub is_right : Right (take size room')
  pub holds : held (take size room') ≡ handed rows values

use mathlib.Core.Path.{◌≡◌}
use mathlib.Core.Bool.{false}
use Prim.Native.Nat.{ℕ, ◌*◌, ◌≤◌, ◌<◌}
use Rattle.setting.specs.Setting.{lengths_to, heads}
use Rattle.sheet_writer.specs.Writer.{misstated}
use Rattle.sheet_writer.proofs.is_misstated.Given as goal

abbrev pub invariant-loop-k : goal.invariant-loop-k
invariant-loop-k l = (l.end ≡ lengths_to (heads l.rows) l.k) × (l.end ≤ 2040 * l.k) × ((j : ℕ) → j < l.k → misstated l.rows j ≡ false)

use mathlib.Core.Path.{◌≡◌}
use Prim.Native.Nat.{◌+◌, ◌-◌, ◌*◌, ◌≤◌}
use Rattle.lent.specs.Lent.{over_at}
use Rattle.setting.specs.Setting.{lengths_to, rows_in, heads}
use Rattle.sheet_writer.specs.Writer.{laid_from}
use Rattle.sheet_writer.proofs.lay_records.Given as goal

abbrev pub invariant-loop-k : goal.invariant-loop-k
invariant-loop-k l = (l.offset ≡ lengths_to (heads l.rows) l.k) × (l.offset ≤ 2040 * l.k)
    × (over_at (12 + 8 * l.k) (laid_from (heads l.rows) l.k (l.n - l.k)) l.room ≡ over_at 12 (laid_from (heads l.rows) 0 (rows_in l.rows)) l.initial.room)

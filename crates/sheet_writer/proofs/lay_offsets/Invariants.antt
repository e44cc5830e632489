use mathlib.Core.Path.{◌≡◌}
use Prim.Native.Nat.{◌+◌, ◌-◌, ◌*◌, ◌≤◌}
use lib.ListN.{length, take, drop}
use Rattle.lent.specs.Lent.{over_at}
use Rattle.setting.specs.Setting.{lengths_to, heads}
use Rattle.sheet_writer.specs.Writer.{laid_from}
use Rattle.sheet_writer.proofs.lay_offsets.Given as goal

abbrev pub invariant-loop-k : goal.invariant-loop-k
invariant-loop-k l = (l.offset ≡ lengths_to (heads (take (8 * l.n) (drop 12 l.initial.room))) l.k) × (l.offset ≤ 2040 * l.k) × (length l.room ≡ length l.initial.room)
    × (over_at (12 + 8 * l.k) (laid_from (heads (take (8 * l.n) (drop 12 l.initial.room))) l.k (l.n - l.k)) l.room ≡ over_at 12 (laid_from (heads (take (8 * l.n) (drop 12 l.initial.room))) 0 l.n) l.initial.room)
    × (drop (12 + 8 * l.k) l.room ≡ drop (12 + 8 * l.k) l.initial.room)

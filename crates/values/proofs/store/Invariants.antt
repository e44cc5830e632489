-- `store` lays the bytes of the value over the room. The invariant: what is still to be laid, from `byte` on, gives the result.
-- Assumes nothing.
use mathlib.Core.Path.{◌≡◌}
use Prim.Native.Nat.{◌-◌}
use Rattle.lent.specs.Lent.{over, over_at}
use Rattle.values.specs.Values.{bytes_of}
use Rattle.values.proofs.store.Given as goal

abbrev pub invariant-loop-byte : goal.invariant-loop-byte
invariant-loop-byte l = over_at l.byte-index (bytes_of (l.size - l.byte-index) l.rest) l.byte-items ≡ over (bytes_of l.size l.value) l.initial.byte-items

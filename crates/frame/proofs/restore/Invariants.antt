-- `restore`: what is still to be turned back, from `n` on, gives the result and its length.
-- Assumes nothing.
use mathlib.Core.Bool.{false}
use mathlib.Core.Path.{◌≡◌}
use Prim.Native.Nat.{◌≤◌, ◌+◌}
use lib.ListN.{length, drop}
use Rattle.lent.specs.Lent.{over, over_at}
use Rattle.frame.specs.Frame.{restored}
use Rattle.frame.proofs.restore.Given as goal

abbrev pub invariant-loop-byte : goal.invariant-loop-byte
invariant-loop-byte l = (l.n ≤ l.byte-index) × (l.n + length (restored l.after (drop l.byte-index l.bytes)) ≡ length (restored false l.bytes)) × (over_at l.n (restored l.after (drop l.byte-index l.bytes)) l.room ≡ over (restored false l.bytes) l.initial.room)

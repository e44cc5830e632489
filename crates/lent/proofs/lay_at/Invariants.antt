-- `lay_at` is `over_at`: what is still to be laid, from `to` on, gives the result.
-- Assumes nothing.
use mathlib.Core.Path.{◌≡◌}
use lib.ListN.{drop}
use Rattle.lent.specs.Lent.{over_at}
use Rattle.lent.proofs.lay_at.Given as goal

abbrev pub invariant-loop-byte : goal.invariant-loop-byte
invariant-loop-byte l = over_at l.to (drop l.byte-index l.bytes) l.room ≡ over_at l.at l.bytes l.initial.room

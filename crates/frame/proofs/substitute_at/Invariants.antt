-- `substitute_at`: what is still to be laid, from `to` on, gives the result.
-- Assumes nothing.
use mathlib.Core.Path.{◌≡◌}
use lib.ListN.{drop}
use Rattle.lent.specs.Lent.{over_at}
use Rattle.frame.specs.Frame.{substituted}
use Rattle.frame.proofs.substitute_at.Given as goal

abbrev pub invariant-loop-byte : goal.invariant-loop-byte
invariant-loop-byte l = over_at l.to (substituted (drop l.byte-index l.message)) l.room ≡ over_at l.at (substituted l.message) l.initial.room

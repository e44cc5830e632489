use mathlib.Core.Path.{◌≡◌}
use Prim.Native.Nat.{◌-◌}
use lib.ListN.{length}
use Rattle.receiver.specs.Receiver.{largest}
use Rattle.night.proofs.capture.Given as goal

abbrev pub invariant-loop-input : goal.invariant-loop-input
invariant-loop-input l = (length l.room ≡ length l.initial.room) × (length l.piece ≡ length l.initial.piece)

abbrev pub decreases-loop-input : goal.decreases-loop-input
decreases-loop-input l = largest - l.listing.receiver.place

use mathlib.Core.Path.{◌≡◌}
use Prim.Native.Nat.{◌+◌, ◌<◌, ◌^◌}
use lib.ListN.{length}
use Rattle.text.proofs.Laws.{Spelt}
use Rattle.text.proofs.spell.Given as goal

abbrev pub invariant-loop-rest : goal.invariant-loop-rest
invariant-loop-rest l = (l.i < 20) × (length l.digits ≡ length l.initial.digits) × (l.rest < 10 ^ (l.i + 1)) × Spelt l.digits l.i l.rest l.n

abbrev pub decreases-loop-rest : goal.decreases-loop-rest
decreases-loop-rest l = l.rest

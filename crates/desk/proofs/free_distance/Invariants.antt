use mathlib.Core.Path.{◌≡◌}
use mathlib.Core.Bool.{false}
use Prim.Native.Nat.{ℕ, ◌-◌, ◌≤◌, ◌<◌}
use lib.ListN.{length}
use Rattle.ticket.specs.Rest.{is_free}
use Rattle.desk.specs.Open.{place_from}
use Rattle.desk.specs.Desk.{ticket_at}
use Rattle.desk.proofs.free_distance.Given as goal

abbrev pub invariant-loop-k : goal.invariant-loop-k
invariant-loop-k l = (l.k ≤ 189)
    × ((i : ℕ) → i < l.k → is_free l.clock (ticket_at l.desk (place_from l.desk.turn i)) ≡ false)
    × (l.turn ≡ l.desk.turn)
    × (l.marks ≡ l.desk.marks)
    × (length l.desk.tickets ≡ 95)

abbrev pub decreases-loop-k : goal.decreases-loop-k
decreases-loop-k l = 189 - l.k

use mathlib.Core.Path.{sym, subst}
use Prim.Native.Nat.{◌≤◌}
use Rattle.lanes.proofs.Calls.{served_at}
use Rattle.lanes.specs.declared.Lane.{Lane}
use Rattle.lanes.proofs.serve.Goals as goal

pub served_from-requires : goal.served_from-requires
served_from-requires c = (c.requires.0, subst (λ (l : Lane). 1 ≤ l.size) (sym c.lane_at-lane.ensures) c.requires.1)

pub returns : goal.returns
returns c =
    let s = c.args in
    served_at s.lanes s.desk s.place s.clock s.room.now _ _ _ _ _ _ c.lane_at-lane.ensures
    c.open_waiting-after.ensures c.moves_on.ensures c.served_from.ensures c.from_desk.ensures

use Rattle.lanes.proofs.Calls.{told_near, told_far}
use Rattle.lanes.proofs.lane_to_join.Goals as goal

pub returns-in_default : goal.returns-in_default
returns-in_default c = told_far _ _ c.lane_for.ensures c.in_default.is

pub lane_at-requires : goal.lane_at-requires
lane_at-requires c = (told_near _ _ _ c.lane_for.ensures c.in-Some.is).1

pub returns : goal.returns
returns c =
    let told = told_near _ _ _ c.lane_for.ensures c.in-Some.is in
    (told.0, told.1, c.lane_at.ensures)

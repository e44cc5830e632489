use Rattle.std.proofs.Common.{rules}
use Rattle.lanes.proofs.Calls.{own_or_empty}
use Rattle.lanes.proofs.lane_for.Goals as goal

pub returns : goal.returns
returns c = own_or_empty c.args.lanes.now c.args.job _ _ _ c.own_lane.ensures (λ other. search (rules, other)) c.or_else.ensures

use mathlib.Core.Bool.{not}
use Rattle.std.proofs.Common.{rules}
use Rattle.lanes.proofs.Calls.{found}
use Rattle.lanes.specs.Lanes.{lane_at, is_empty}
use Rattle.lanes.specs.Grant.{place_after, next_distance}
use Rattle.lanes.proofs.next_distance.Goals as goal

pub returns : goal.returns
unfolding next_distance
returns c = found (λ k. not (is_empty (lane_at c.args.lanes.now (place_after c.args.lanes.now.last k)))) _ _ c.distance_to.ensures (λ b k l s. search (rules, s))

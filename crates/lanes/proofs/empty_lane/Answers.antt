use mathlib.Core.Path.{◌∙◌}
use Prim.Native.Nat.{ℕ}
use Rattle.std.proofs.Common.{rules}
use Rattle.lanes.proofs.Calls.{found, whole}
use Rattle.lanes.specs.Lanes.{lane_at, is_empty, empty_lane}
use Rattle.lanes.proofs.empty_lane.Goals as goal

pub returns : goal.returns
unfolding empty_lane
returns c =
    let fits = λ (k : ℕ). is_empty (lane_at c.args.lanes.now k) in
    found fits _ _ c.distance_to.ensures (λ b k l s. whole fits k l ∙ search (rules, s))

use mathlib.Core.Bool.{Bool, true, false}
use Prim.Native.Nat.{ℕ, ◌+◌, ◌%◌}
use Rattle.std.proofs.Common.{rules}
use Rattle.std.proofs.lemmas.Iterator.{first_from_Range}
use Rattle.lanes.proofs.Calls.{of_16}
use Rattle.lanes.specs.Lanes.{lane_at}
use Rattle.lanes.proofs.distance_to.Given as given
use Rattle.lanes.proofs.distance_to.Goals as goal

pub returns : goal.returns
returns g c =
    let Said = λ (k : ℕ) (b : Bool). given.F-post g c.args.holds (lane_at c.args.lanes.now ((c.args.from + k) % 16)) b in
    of_16 Said _
    (first_from_Range _ _ _ _ (λ k. Said k true) (λ k. Said k false) c.find.ensures.ran (λ k q h. search (rules, h)) (λ k q h. (search (rules, h), search (rules, h))))

use Rattle.lent.specs.Lent.{over_at}
use Rattle.lanes.proofs.waiting_with.Goals as goal

pub returns : goal.returns
unfolding over_at
returns c = rw c.lay_at.ensures

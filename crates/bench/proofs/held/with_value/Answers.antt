-- `with_value` sets one register and keeps the rest of it.
-- Assumes nothing.
use Rattle.bench.proofs.held.with_value.Goals as goal

pub returns : goal.returns
returns c = rw c.register_at-old.ensures

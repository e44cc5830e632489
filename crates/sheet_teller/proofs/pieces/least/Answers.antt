use Rattle.sheet_teller.proofs.Put.{least_first, least-second}
use Rattle.sheet_teller.proofs.pieces.least.Goals as goal

pub returns-then-a-b : goal.returns-then-a-b
returns-then-a-b c = least_first _ _ c.if-a-b.true

pub returns-else-a-b : goal.returns-else-a-b
returns-else-a-b c = least-second _ _ c.if-a-b.false

use Rattle.sheet_editor.proofs.Steps.{start_tail, start_end}
use Rattle.sheet_editor.proofs.start_of.Goals as goal

pub returns-then-k-n : goal.returns-then-k-n
returns-then-k-n c = let a = c.args in start_tail a.room.now a.size a.n a.k _ c.if-k-n.true c.tail_at.ensures

pub returns : goal.returns
returns c = let a = c.args in start_end a.room.now a.size a.n a.k c.if-k-n.false

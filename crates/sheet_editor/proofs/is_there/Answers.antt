use Rattle.sheet_editor.proofs.Steps.{none_at, other_module, same_module}
use Rattle.sheet_editor.proofs.is_there.Goals as goal

pub returns-then-n-at : goal.returns-then-n-at
returns-then-n-at c = let a = c.args in none_at a.room.now a.n a.at a.head c.if-n-at.true

pub returns-then-there-head : goal.returns-then-there-head
returns-then-there-head c =
    let a = c.args in
    other_module a.room.now a.n a.at _ a.head c.if-n-at.false
    c.head_at-there.ensures c.if-there-head.true

pub returns : goal.returns
returns c =
    let a = c.args in
    same_module a.room.now a.n a.at _ a.head c.if-n-at.false
    c.head_at-there.ensures c.if-there-head.false

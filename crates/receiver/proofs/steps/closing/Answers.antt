use Rattle.receiver.proofs.Returns.{was_away, gets_away, closes}
use Rattle.receiver.proofs.steps.closing.Goals as goal

pub returns-then-receiver : goal.returns-then-receiver
returns-then-receiver c = was_away c.args.receiver c.args.last.now c.if-receiver.true

pub returns-then-size-last : goal.returns-then-size-last
returns-then-size-last c =
    let args = c.args in
    gets_away args.receiver args.last.now c.if-receiver.false c.if-size-last.true

pub returns : goal.returns
returns c =
    let args = c.args in
    closes args.receiver args.last.now c.read.result c.lay_at.new.room c.if-receiver.false c.if-size-last.false c.read.ensures c.lay_at.ensures

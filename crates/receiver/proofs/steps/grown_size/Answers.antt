use Rattle.receiver.proofs.Returns.{ran_away_lem, runs_away, grows}
use Rattle.receiver.proofs.steps.grown_size.Goals as goal

pub returns-then-size : goal.returns-then-size
returns-then-size c = ran_away_lem c.args.size c.args.more c.if-size.true

pub returns-then-size-more : goal.returns-then-size-more
returns-then-size-more c = runs_away c.args.size c.args.more c.if-size.false c.if-size-more.true

pub returns : goal.returns
returns c = grows c.args.size c.args.more c.if-size.false c.if-size-more.false

use Rattle.receiver.proofs.Returns.{grown_is}
use Rattle.receiver.proofs.steps.grown.Goals as goal

pub returns : goal.returns
returns c =
    let args = c.args in
    grown_is args.receiver args.more.now c.grown_size.result _ c.grown_size.ensures c.lay_at.ensures

use Rattle.lister.proofs.Lending.{lends_first, lends_again}
use Rattle.lister.proofs.pour.lent_to.Goals as goal

pub returns-then-is_refused : goal.returns-then-is_refused
returns-then-is_refused c =
    rw c.ran.ensures
    (lends_again c.args.receiver c.args.chunk.now c.requires c.args.tally _ _ _ c.lend_step-first.ensures
    c.is_refused.ensures c.if-is_refused.true (rw c.cleared.ensures at c.lend_step.ensures))

pub returns : goal.returns
returns c =
    rw c.ran-2.ensures
    (lends_first c.args.receiver c.args.chunk.now c.requires c.args.tally _ _ c.lend_step-first.ensures
    c.is_refused.ensures c.if-is_refused.false)

use Rattle.sheet_teller.proofs.Put.{call_put}
use Rattle.sheet_teller.proofs.pieces.call_at.Goals as goal

pub returns : goal.returns
returns c =
    call_put c.args.order c.args.head c.args.value.now _ _ _ _ _ _ _ _ _ _ c.requires.1 c.asked_at-a.ensures c.hex_at-b.ensures
    c.timed_at-c.ensures c.zeros_at.ensures

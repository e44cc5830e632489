use Rattle.std.proofs.Common.{arith}
use Rattle.ticket.proofs.Laws.{age_is}
use Rattle.ticket.proofs.is_due.Goals as goal

pub returns-then-ticket : goal.returns-then-ticket
returns-then-ticket c =
    let age = c.wrapping_sub_u32-age in
    let args = c.args in
    rw (c.if-ticket.true, ← age_is args.clock args.ticket.opened age.result (omega (arith, age.ensures.value)) (omega arith) (omega arith))

use Rattle.std.proofs.Common.{rules}
use Rattle.desk.proofs.Calls.{found}
use Rattle.desk.specs.Close.{due_place}
use Rattle.desk.specs.Desk.{ticket_at}
use Rattle.ticket.specs.Due.{is_due}
use Rattle.desk.proofs.due_place.Goals as goal

pub returns : goal.returns
unfolding due_place
returns c =
    let e = c.place_where.ensures in
    found (λ i. is_due c.args.clock (ticket_at c.args.desk i)) c.place_where.result
    (λ k e'. ((e.found k e').0, search (rules, (e.found k e').1))) (λ k e' i l. search (rules, e.before k e' i l)) (λ e' i l. search (rules, e.none e' i l))

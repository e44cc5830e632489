use mathlib.Core.Path.{refl, sym, ap, ◌∙◌}
use lib.ListN.{length}
use Rattle.desk.proofs.Calls.{live_host, reply_unread, reply_judged}
use Rattle.ticket.proofs.Laws.{fitting, judged_misfit, judged_fits}
use Rattle.ticket.specs.declared.Ticket.{Ticket}
use Rattle.desk.proofs.reply.Goals as goal

pub returns-in_default : goal.returns-in_default
returns-in_default c =
    rw (reply_unread c.args.desk _ _ _ _ c.examine-reading.ensures c.in_default.is)
    (rw (c.why.ensures, c.in_default.is) (refl, refl, refl))

pub returns-in-Err : goal.returns-in-Err
returns-in-Err c =
    let j =
    reply_judged c.args.desk c.args.frame.now (length c.args.room.now) _ _ _ _ c.examine-reading.ensures
    c.in-Ok.is c.ticket_on-ticket.ensures
    (judged_misfit _ _ (sym c.in-Err.is ∙ c.judge.ensures)) in
    rw j.2 (refl, refl, refl)

pub answered_on-requires : goal.answered_on-requires
answered_on-requires c =
    let fits = judged_fits _ (sym c.in_default-judge.is ∙ c.judge.ensures) in
    live_host c.args.desk _
    (ap (λ (t : Ticket). t.live) (sym c.ticket_on-ticket.ensures) ∙ (fitting c.ticket_on-ticket.result c.in-Ok.t fits).0)

pub returns : goal.returns
returns c =
    let j =
    reply_judged c.args.desk c.args.frame.now (length c.args.room.now) _ _ _ _ c.examine-reading.ensures
    c.in-Ok.is c.ticket_on-ticket.ensures
    (judged_fits _ (sym c.in_default-judge.is ∙ c.judge.ensures)) in
    rw (j.2, ← j.1, ← c.ticket_on-ticket.ensures) (refl, c.answered_on.ensures, rw j.0 at c.read.ensures.1)

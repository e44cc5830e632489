use mathlib.Core.Path.{refl, sym, ◌∙◌}
use Rattle.desk.proofs.Calls.{cancel_told, theirs_host}
use Rattle.desk.proofs.cancel.Goals as goal

pub withdraw-requires : goal.withdraw-requires
withdraw-requires c = theirs_host c.args.desk _ _ _ c.ticket_on.ensures (sym c.is_theirs.ensures ∙ c.if-is_theirs.true)

pub returns-then-is_theirs : goal.returns-then-is_theirs
returns-then-is_theirs c =
    rw (cancel_told c.args.desk c.args.job c.args.address _ _ c.ticket_on.ensures c.is_theirs.ensures, c.if-is_theirs.true)
    c.withdraw.ensures

pub returns : goal.returns
returns c =
    rw (cancel_told c.args.desk c.args.job c.args.address _ _ c.ticket_on.ensures c.is_theirs.ensures, c.if-is_theirs.false)
    (refl, refl)

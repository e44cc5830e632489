use native.Mathlib.Omega.{arith}
use lib.ListN.{length-set}
use Rattle.overdue.proofs.Pass.{looked_due, looked_not}
use Rattle.overdue.proofs.look_at.Goals as goal

pub bounds-list-entry-then-is_due : goal.bounds-list-entry-then-is_due
bounds-list-entry-then-is_due c = rw (length-set _ _ _) (omega (arith, c.requires.1))

pub bounds-list-entry-then-is_due-2 : goal.bounds-list-entry-then-is_due-2
bounds-list-entry-then-is_due-2 c = rw (length-set _ _ _, length-set _ _ _) (omega (arith, c.requires.1))

pub returns-then-is_due : goal.returns-then-is_due
returns-then-is_due c =
    looked_due c.args.before c.args.place c.args.clock c.args.list.now _ _ c.ticket_on-ticket.ensures c.is_due.ensures _
    c.if-is_due.true (omega (arith, c.requires.1)) c.cancel-after.ensures

pub returns : goal.returns
returns c = looked_not _ _ _ _ _ _ c.ticket_on-ticket.ensures c.is_due.ensures c.if-is_due.false

use mathlib.Core.Path.{sym, ap}
use Rattle.lanes.proofs.Calls.{told_out, told_on}
use Rattle.lanes.specs.Grant.{from_desk}
use Rattle.lanes.proofs.from_desk.Goals as goal

pub returns-then-takes_out : goal.returns-then-takes_out
returns-then-takes_out c = told_out _ _ _ _ c.in-Err.is c.takes_out.ensures c.if-takes_out.true

pub returns-in-Ok : goal.returns-in-Ok
returns-in-Ok c = sym (ap (from_desk c.args.job) c.in-Ok.is)

pub returns-else-takes_out : goal.returns-else-takes_out
returns-else-takes_out c = told_on _ _ _ _ c.in-Err.is c.takes_out.ensures c.if-takes_out.false

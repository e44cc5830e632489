use native.Mathlib.Omega.{arith}
use Rattle.lines.proofs.Pieces.{event_put}
use Rattle.lines.specs.declared.Event.TheVariants.{Read, Refused, Dropped, Open}
use Rattle.lines.proofs.event_at.Goals as goal

pub returns-in-Read : goal.returns-in-Read
returns-in-Read c =
    (event_put _ (Read c.in-Read.t) _ _ _ _ c.in-Read.is c.fields.ensures.0, c.fields.ensures.1)

pub returns-in-Refused : goal.returns-in-Refused
returns-in-Refused c =
    (event_put _ (Refused c.in-Refused.fault) _ _ _ _ c.in-Refused.is c.refused.ensures.0, c.refused.ensures.1)

pub returns-in-Dropped : goal.returns-in-Dropped
returns-in-Dropped c = (event_put _ Dropped _ _ _ _ c.in-Dropped.is c.word.ensures, omega arith)

pub returns-in-Open : goal.returns-in-Open
returns-in-Open c = (event_put _ Open _ _ _ _ c.in-Open.is c.word-in-Open.ensures, omega arith)

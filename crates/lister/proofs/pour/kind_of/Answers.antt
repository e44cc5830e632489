use Rattle.std.proofs.Common.{sym, ap}
use Rattle.lister.specs.Parts.{kind_of}
use Rattle.lister.proofs.pour.kind_of.Goals as goal

pub returns-in-Read : goal.returns-in-Read
returns-in-Read c = sym (ap kind_of c.in-Read.is)

pub returns-in-Refused : goal.returns-in-Refused
returns-in-Refused c = sym (ap kind_of c.in-Refused.is)

pub returns-in-Dropped : goal.returns-in-Dropped
returns-in-Dropped c = sym (ap kind_of c.in-Dropped.is)

pub returns-in-Open : goal.returns-in-Open
returns-in-Open c = sym (ap kind_of c.in-Open.is)

use Rattle.varia.proofs.with_edge.Goals as goal

pub returns-in-Short : goal.returns-in-Short
returns-in-Short c = rw c.in-Short.is

pub returns-in-Long : goal.returns-in-Long
returns-in-Long c = rw c.in-Long.is

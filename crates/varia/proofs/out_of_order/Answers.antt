use Rattle.varia.proofs.out_of_order.Goals as goal

pub returns-in-Short : goal.returns-in-Short
returns-in-Short c = rw (c.in-Some.is, c.in-Short.is)

pub returns-in-Long : goal.returns-in-Long
returns-in-Long c = rw (c.in-Some.is, c.in-Long.is)

use Rattle.varia.proofs.read.Goals as goal

pub returns : goal.returns
returns c = rw c.asked.ensures at c.«open».ensures

use Rattle.frame.proofs.byte_length.Goals as goal

pub returns-then-special : goal.returns-then-special
returns-then-special c = rw (← c.special.ensures, c.if-special.true)

pub returns-else-special : goal.returns-else-special
returns-else-special c = rw (← c.special.ensures, c.if-special.false)

use native.Mathlib.Omega.{arith}
use Rattle.night.proofs.capture.Goals as goal

pub loop-input-smaller : goal.loop-input-smaller
loop-input-smaller c = let on = c.read_on-turn.ensures.0 c.if-turn.false in omega (arith, on.0, on.1)

use native.Mathlib.Omega.{arith}
use Rattle.lines.proofs.Pieces.{placed_put, unplaced_put}
use Rattle.lines.proofs.refused.Goals as goal

pub returns-then-number-eq3 : goal.returns-then-number-eq3
returns-then-number-eq3 c = (
  placed_put c.args.fault _ _ _ _ _ c.number-number.ensures c.labelled-a.ensures.0 _ _ _ c.if-number-eq3.true
      c.place-place.ensures c.labelled.ensures.0,
  omega (arith, c.labelled-a.ensures.1, c.labelled.ensures.1),
)

pub returns : goal.returns
returns c = (
  unplaced_put c.args.fault _ _ _ _ _ c.number-number.ensures c.labelled-a.ensures.0 c.if-number-eq3.false,
  omega (arith, c.labelled-a.ensures.1),
)

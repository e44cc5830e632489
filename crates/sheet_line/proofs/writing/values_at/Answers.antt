use native.Mathlib.Omega.{arith}
use Rattle.sheet_line.proofs.Pieces.{going_start, going_on, going_end}
use Rattle.sheet_line.proofs.writing.values_at.Goals as goal

pub loop-k-init : goal.loop-k-init
loop-k-init c = (omega arith, going_start _ _ _ _ _)

pub loop-k-preserved : goal.loop-k-preserved
loop-k-preserved c =
    let element = c.element_at-to.ensures in
    let inv = c.loop-k.invariant in
    (omega (arith, element.1, inv.0), going_on _ _ _ _ _ _ _ _ _ _ c.loop-k-test.true element.0 inv.1)

pub returns : goal.returns
returns c = going_end _ _ _ _ _ _ _ _ (omega arith) c.loop-k.invariant.1

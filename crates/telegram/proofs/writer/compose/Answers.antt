use mathlib.Core.Path.{refl}
use native.Mathlib.Omega.{arith}
use Rattle.telegram.proofs.Send.{composed}
use Rattle.telegram.proofs.writer.compose.Goals as goal

pub returns : goal.returns
returns c =
    let pre = c.requires in
    let lay-at2 = c.lay_at-2 in
    composed _ _ _ _ _ _ _ _ _ _ _ c.lay_at.ensures lay-at2.ensures refl c.remainder-check.ensures
    c.lay_at-3.ensures (omega (arith, pre.0, pre.1))

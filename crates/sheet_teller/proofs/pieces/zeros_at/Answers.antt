use mathlib.Core.Path.{◌≡◌, refl}
use Prim.Native.Nat.{◌+◌}
use native.Mathlib.Omega.{arith}
use Rattle.sheet_teller.proofs.Put.{zeros_on, zeros_put}
use Rattle.sheet_teller.proofs.pieces.zeros_at.Goals as goal

pub loop-i-preserved : goal.loop-i-preserved
loop-i-preserved c =
    let on : c.args.at + c.loop-i.i + 1 ≡ c.args.at + (c.loop-i.i + 1) = omega arith in
    rw on at (zeros_on _ _ _ _ _ c.loop-i-test.true c.lay_at.ensures c.loop-i.invariant)

pub returns : goal.returns
returns c =
    let all : c.args.at + c.args.n ≡ c.args.at + c.loop-i.i = omega arith in
    rw all (zeros_put _ _ _ _ _ _ c.loop-i.auto.i-end c.loop-i-test.false refl c.loop-i.invariant)

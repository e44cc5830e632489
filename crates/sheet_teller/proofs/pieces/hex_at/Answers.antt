use native.Mathlib.Omega.{arith}
use Rattle.sheet_teller.proofs.Put.{hex_on, hex_put}
use Rattle.sheet_teller.proofs.pieces.hex_at.Goals as goal

pub loop-byte-preserved : goal.loop-byte-preserved
loop-byte-preserved c = (
  omega arith,
  hex_on _ _ _ _ _ _ _ c.loop-byte-test.true c.hex_digit.ensures c.hex_digit-in-loop-byte.ensures c.lay_at.ensures c.loop-byte.invariant.1,
)

pub returns : goal.returns
returns c =
    let inv = c.loop-byte.invariant in
    hex_put _ _ _ _ _ _ c.requires.1 c.loop-byte.auto.byte-index-end c.loop-byte-test.false inv.0 inv.1

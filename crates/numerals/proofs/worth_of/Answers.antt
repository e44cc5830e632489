use native.Mathlib.Omega.{arith}
use Rattle.numerals.proofs.Steps.{worth_on, worth_all, fits_on, as_is, as_huge}
use Rattle.numerals.proofs.worth_of.Goals as goal

pub returns-then-d-base : goal.returns-then-d-base
returns-then-d-base c =
    as_huge _ _ _ _ _ (omega (arith, c.requires.0)) c.digit-d.ensures.1 c.if-d-base.true c.loop-figure-test.true c.digit-d.ensures.0
    c.loop-figure.invariant.1

pub loop-figure-preserved : goal.loop-figure-preserved
loop-figure-preserved c = (
  fits_on c.loop-figure.n c.args.base c.digit-d.result (omega (arith, c.requires.0)) c.digit-d.ensures.1 c.if-d-base.false,
  worth_on _ _ _ _ _ c.loop-figure-test.true c.digit-d.ensures.0 c.loop-figure.invariant.1,
)

pub returns : goal.returns
returns c = as_is _ _ c.loop-figure.invariant.0 (worth_all _ _ _ _ c.loop-figure-test.false c.loop-figure.invariant.1)

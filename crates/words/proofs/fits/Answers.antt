-- `fits` tells that the next number stays at most `most`.
-- Assumes nothing.
use Rattle.std.proofs.Common.{◌-◌, ◌/◌, ◌≤◌, sym, true≢false, arith, leb-true}
use Rattle.words.proofs.fits.Goals as goal

pub returns-then-d-gt9 : goal.returns-then-d-gt9
returns-then-d-gt9 c = λ e. absurd (true≢false (sym e))

pub returns-then-most-d : goal.returns-then-most-d
returns-then-most-d c = λ e. absurd (true≢false (sym e))

pub returns : goal.returns
returns c = λ e. let h : c.args.value ≤ (c.args.most - c.args.d) / 10 = leb-true _ _ e in omega (arith, c.if-most-d.false)

-- `with_byte` is `with_byte`, by the table's rule.
-- Assumes nothing.
use native.Mathlib.Omega.{arith}
use Rattle.remainder.proofs.Halves.{high_under, low_under, by_table}
use Rattle.remainder.proofs.with_byte.Goals as goal

pub offset_bounds-halves-high : goal.offset_bounds-halves-high
offset_bounds-halves-high c = omega (arith, high_under c.args.sum c.args.byte c.requires.0 c.ranges.byte.fits)

pub bounds-halves-high : goal.bounds-halves-high
bounds-halves-high c = high_under c.args.sum c.args.byte c.requires.0 c.ranges.byte.fits

pub offset_bounds-halves-low : goal.offset_bounds-halves-low
offset_bounds-halves-low c = omega (arith, low_under c.args.sum c.args.byte c.requires.0 c.ranges.byte.fits)

pub bounds-halves-low : goal.bounds-halves-low
bounds-halves-low c = low_under c.args.sum c.args.byte c.requires.0 c.ranges.byte.fits

pub returns : goal.returns
returns c = by_table c.args.sum c.args.byte c.requires.0 c.ranges.byte.fits c.args.halves.now c.requires.1

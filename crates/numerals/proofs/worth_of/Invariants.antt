-- The invariant: what the digits still left are worth, read on from `n`, is what all are worth.
-- Assumes nothing.
use mathlib.Core.Path.{◌≡◌}
use Prim.Native.Nat.{◌<◌, ◌^◌}
use lib.ListN.{drop}
use Rattle.numerals.specs.Numerals.{worth}
use Rattle.numerals.proofs.worth_of.Given as goal

abbrev pub invariant-loop-figure : goal.invariant-loop-figure
invariant-loop-figure l = (l.n < 2 ^ 64) × (worth l.base l.n (drop l.figure-index l.figures) ≡ worth l.base 0 l.figures)

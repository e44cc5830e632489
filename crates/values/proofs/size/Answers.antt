-- `size` reads the table of `size_of`.
-- Assumes nothing.
use mathlib.Core.Path.{refl, sym}
use lib.ListN.{get_or-eq_default}
use Rattle.values.specs.Values.{size_of, sizes}
use Rattle.values.proofs.size.Goals as goal

pub returns-then-at-lt8 : goal.returns-then-at-lt8
unfolding size_of
returns-then-at-lt8 c = refl

pub returns-else-at-lt8 : goal.returns-else-at-lt8
unfolding size_of
returns-else-at-lt8 c = sym (get_or-eq_default sizes 0 c.if-at-lt8.false)

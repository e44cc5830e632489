-- `signed` reads the table of `is_signed`.
-- Assumes nothing.
use mathlib.Core.Path.{refl, sym, ◌∙◌}
use mathlib.Core.Bool.{false}
use borrow.Author.Tests.{le-ltb}
use lib.ListN.{get_or-eq_default}
use Rattle.values.specs.Values.{is_signed, signs}
use Rattle.values.proofs.signed.Goals as goal

pub returns-then-at-lt8 : goal.returns-then-at-lt8
unfolding is_signed
returns-then-at-lt8 c = refl

pub returns-else-at-lt8 : goal.returns-else-at-lt8
unfolding is_signed
returns-else-at-lt8 c = le-ltb c.args.kind 8 c.if-at-lt8.false ∙ sym (get_or-eq_default signs false c.if-at-lt8.false)

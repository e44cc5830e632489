use mathlib.Core.Path.{refl, sym}
use lib.ListN.{get_or-eq_default}
use Rattle.sheet_maker.specs.Maker.{key_numbers, number_of_key}
use Rattle.sheet_maker.proofs.number.Goals as goal

pub returns-then-at-lt11 : goal.returns-then-at-lt11
unfolding number_of_key
returns-then-at-lt11 c = refl

pub returns-else-at-lt11 : goal.returns-else-at-lt11
unfolding number_of_key
returns-else-at-lt11 c = sym (get_or-eq_default key_numbers 0 c.if-at-lt11.false)

use mathlib.Core.Path.{ap, ◌∙◌}
use Rattle.numerals.specs.Numerals.{limited_to}
use Rattle.sheet_line.proofs.reading.small.Goals as goal

pub returns : goal.returns
returns c = let next = c.next-next.ensures in record { number = c.up_to.ensures ∙ ap (limited_to 255) next.word; goes_on = (next.in_order.2, next.goes_on) }

use mathlib.Core.Path.{sym, ◌∙◌}
use Rattle.tally.proofs.counting.count_line.Goals as goal

pub returns-then-is_full : goal.returns-then-is_full
returns-then-is_full c = rw (← c.is_full.ensures, c.if-is_full.true) c.not_done.ensures

pub with_line-requires : goal.with_line-requires
with_line-requires c = sym c.is_full.ensures ∙ c.if-is_full.false

pub returns : goal.returns
returns c = rw (← c.is_full.ensures, c.if-is_full.false, ← c.with_line.ensures) c.done.ensures

use mathlib.Core.Path.{sym, ◌∙◌}
use Rattle.varia.proofs.moving.Goals as goal

pub returns-then-bit : goal.returns-then-bit
returns-then-bit c = rw (sym c.bit.ensures ∙ c.if-bit.true)

pub returns-then-bit-2 : goal.returns-then-bit-2
returns-then-bit-2 c = rw (sym c.bit.ensures ∙ c.if-bit.false, sym c.bit-2.ensures ∙ c.if-bit-2.true)

pub returns : goal.returns
returns c = c.bit-3.ensures ∙ rw (sym c.bit.ensures ∙ c.if-bit.false, sym c.bit-2.ensures ∙ c.if-bit-2.false)

use mathlib.Core.Path.{sym, ◌∙◌}
use Rattle.sheet_writer.proofs.Steps.{write_many, write_falls, write_unfit, write_misstated, write_laid}
use Rattle.sheet_writer.proofs.write.Goals as goal

pub returns-then-n-gt-MOST : goal.returns-then-n-gt-MOST
returns-then-n-gt-MOST c = write_many _ _ _ c.if-n-gt-MOST.true

pub returns-then-first_fall-n : goal.returns-then-first_fall-n
returns-then-first_fall-n c = write_falls _ _ _ _ c.if-n-gt-MOST.false c.first_fall.ensures c.if-first_fall-n.true

pub returns-then-first_unfit-n : goal.returns-then-first_unfit-n
returns-then-first_unfit-n c = write_unfit _ _ _ _ _ c.if-n-gt-MOST.false c.first_fall.ensures c.if-first_fall-n.false c.first_unfit.ensures c.if-first_unfit-n.true

pub returns-then-is_misstated : goal.returns-then-is_misstated
returns-then-is_misstated c =
    write_misstated _ _ _ _ _ c.if-n-gt-MOST.false c.first_fall.ensures c.if-first_fall-n.false c.first_unfit.ensures c.if-first_unfit-n.false
    c.is_misstated.ensures c.if-is_misstated.true

pub lay-requires : goal.lay-requires
lay-requires c = (c.if-n-gt-MOST.false, sym c.is_misstated.ensures ∙ c.if-is_misstated.false)

pub returns : goal.returns
returns c =
    write_laid _ _ _ _ _ _ c.if-n-gt-MOST.false c.first_fall.ensures c.if-first_fall-n.false c.first_unfit.ensures c.if-first_unfit-n.false
    c.is_misstated.ensures c.if-is_misstated.false c.lay.ensures

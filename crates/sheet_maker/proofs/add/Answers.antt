use Rattle.std.specs.Prelude.{Ok}
use mathlib.Core.Path.{refl, sym, ◌∙◌, ap}
use lib.ListN.{replicate}
use Rattle.sheet_maker.proofs.Steps.{value_short}
use Rattle.sheet_maker.proofs.Whole.{nothing_added, wrong_added, line_added}
use borrow.Author.Rules.{rules}
use Rattle.sheet_maker.proofs.add.Goals as goal

pub slice_bounds-add-end : goal.slice_bounds-add-end
slice_bounds-add-end c =
    let h = value_short c.args.line.now (replicate 240 0) _ _ _ (c.in-Ok-Some.is ∙ ap Ok c.in-Ok-Some.field-0-is) c.read.ensures in
    search rules

pub returns-in-Ok-None : goal.returns-in-Ok-None
returns-in-Ok-None c = nothing_added _ _ c.args.line.now (replicate 240 0) _ _ refl (c.in-Ok-None.is ∙ ap Ok c.in-Ok-None.field-0-is) c.read.ensures.0 (sym c.not_added.ensures)

pub returns-in-Err : goal.returns-in-Err
returns-in-Err c = wrong_added _ _ c.args.line.now (replicate 240 0) _ _ _ refl c.in-Err.is c.read.ensures.0 (sym c.not_added-in-Err.ensures)

pub returns-in-Ok-Some : goal.returns-in-Ok-Some
returns-in-Ok-Some c =
    line_added _ _ c.args.line.now (replicate 240 0) _ _ _ _ _ _ refl (c.in-Ok-Some.is ∙ ap Ok c.in-Ok-Some.field-0-is) c.read.ensures c.add.ensures
    c.map_err.ensures.cases

use Rattle.std.specs.Prelude.{Ok}
use lib.ListN.{replicate}
use Rattle.sheet_maker.proofs.Steps.{value_short, part_short, nothing_taken, wrong_taken, setting_taken}
use mathlib.Core.Path.{refl, ◌∙◌, ap}
use borrow.Author.Rules.{rules}
use Rattle.sheet_maker.proofs.gathering.take_line.Goals as goal

pub slice_bounds-take_setting-end : goal.slice_bounds-take_setting-end
slice_bounds-take_setting-end c =
    let h = value_short c.args.line.now (replicate 240 0) _ _ _ (c.in-Ok-Some.is ∙ ap Ok c.in-Ok-Some.field-0-is) c.read.ensures in
    search rules

pub take_setting-requires : goal.take_setting-requires
take_setting-requires c = (c.requires, part_short _ _ (value_short c.args.line.now (replicate 240 0) _ _ _ (c.in-Ok-Some.is ∙ ap Ok c.in-Ok-Some.field-0-is) c.read.ensures))

pub returns-in-Ok-None : goal.returns-in-Ok-None
returns-in-Ok-None c = nothing_taken _ c.args.line.now (replicate 240 0) _ _ _ _ _ refl (c.in-Ok-None.is ∙ ap Ok c.in-Ok-None.field-0-is) c.read.ensures.0 c.requires

pub returns-in-Err : goal.returns-in-Err
returns-in-Err c =
    let report = c.report.ensures in
    wrong_taken _ c.args.line.now (replicate 240 0) _ _ _ _ _ _ _ _ _ _ refl c.in-Err.is c.read.ensures.0 c.word.ensures
    c.key.ensures c.requires report.0 report.1

pub returns-in-Ok-Some : goal.returns-in-Ok-Some
returns-in-Ok-Some c =
    setting_taken _ c.args.line.now (replicate 240 0) _ _ _ _ _ _ _ _ _ _ _ refl (c.in-Ok-Some.is ∙ ap Ok c.in-Ok-Some.field-0-is) c.read.ensures
    c.take_setting.ensures

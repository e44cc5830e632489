use mathlib.Core.Path.{refl}
use lib.ListN.{replicate}
use Rattle.sheet_maker.proofs.Whole.{made_wrong, made_as}
use Rattle.sheet_maker.proofs.make.Goals as goal

pub returns-then-page-gt0 : goal.returns-then-page-gt0
returns-then-page-gt0 c = made_wrong c.args.text.now _ _ _ _ _ _ _ _ _ c.gather-page.ensures.1 c.if-page-gt0.true

pub returns : goal.returns
returns c =
    made_as c.args.text.now _ _ (replicate 1024 0) _ (replicate 30720 0) _ _ _ _ _ _ _ c.gather-page.ensures.1 c.if-page-gt0.false refl refl c.write.ensures
    c.map_err.ensures.cases

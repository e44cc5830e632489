use mathlib.Core.Path.{sym, ◌∙◌}
use Rattle.sheet_maker.proofs.Steps.{taken_many, taken_put, taken_order}
use Rattle.sheet_maker.proofs.gathering.take_setting.Goals as goal

pub returns-then-many-ge-MOST : goal.returns-then-many-ge-MOST
returns-then-many-ge-MOST c =
    let n = c.named.ensures in
    let report = c.report.ensures in
    taken_many _ _ _ _ _ _ _ _ _ _ c.requires.0 c.if-many-ge-MOST.true n.0 n.1 n.2 n.3 n.4 report.0 report.1

pub returns-then-is_above : goal.returns-then-is_above
returns-then-is_above c = taken_put _ _ _ _ _ _ _ _ _ _ c.requires.0 c.if-many-ge-MOST.false c.requires.1 (sym c.is_above.ensures ∙ c.if-is_above.true) c.put-next.ensures

pub returns : goal.returns
returns c =
    let report = c.report-2.ensures in
    taken_order _ _ _ _ _ _ _ _ _ _ _ _ c.requires.0 c.if-many-ge-MOST.false c.requires.1 (sym c.is_above.ensures ∙ c.if-is_above.false) c.put-next.ensures
    report.0 report.1

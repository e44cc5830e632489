use Rattle.lines.proofs.Pieces.{ending_open, ending_closed}
use Rattle.lines.proofs.Laws.{line_short}
use Rattle.lines.specs.declared.Event.TheVariants.{Open}
use Rattle.lines.proofs.ending.Goals as goal

pub totals-requires : goal.totals-requires
totals-requires c = rw c.line-at.ensures.0 (line_short c.args.start Open)

pub returns-then-inside : goal.returns-then-inside
returns-then-inside c =
    let args = c.args in
    let if1 = c.if-inside in
    let line = c.line-at in
    ending_open args.start args.ok args.refused args.dropped args.inside _ _ _ _ _ if1.true line.ensures c.totals.ensures

pub returns : goal.returns
returns c =
    let args = c.args in
    ending_closed args.start args.ok args.refused args.dropped args.inside _ _ _ c.if-inside.false
    c.totals-2.ensures

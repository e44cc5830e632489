use native.Mathlib.Omega.{arith}
use borrow.Author.Rules.{rules}
use Rattle.lines.proofs.Laws.{writes_within, ending_short}
use Rattle.receiver.specs.Receiver.{is_inside}
use Rattle.lister.specs.Text.{end_text}
use Rattle.night.proofs.finish.Goals as goal

pub slice_bounds-end-end : goal.slice_bounds-end-end
slice_bounds-end-end c =
    let l = c.args.listing in
    let short = ending_short (is_inside l.receiver) l.receiver.start l.ok l.refused l.dropped in
    let h = writes_within (end_text l) _ _ 250 _ c.finish-size.ensures short (omega arith) in
    search rules

use mathlib.Core.List.{◌++◌}
use Rattle.text.specs.Text.{ascii, newline}
use Rattle.text.proofs.Laws.{puts_then}
use Rattle.lines.specs.Lines.{labelled, totals_text}
use Rattle.lines.proofs.totals.Goals as goal

pub returns : goal.returns
unfolding totals_text
returns c =
    let args =
    c.args in
    let labelled-here =
    c.labelled-a in
    let labelled2 = c.labelled-b in
    let labelled3 = c.labelled-c in
    puts_then (labelled (ascii "ok") args.ok) (labelled (ascii " refused") args.refused ++ (labelled (ascii " dropped") args.dropped ++ newline)) _ _ _ _ _ _
    labelled-here.ensures.0
    (puts_then (labelled (ascii " refused") args.refused) (labelled (ascii " dropped") args.dropped ++ newline) _ _ _ _ _ _ labelled2.ensures.0
    (puts_then (labelled (ascii " dropped") args.dropped) newline _ _ _ _ _ _ labelled3.ensures.0 c.word.ensures))

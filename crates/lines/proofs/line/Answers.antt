use mathlib.Core.List.{◌++◌}
use Rattle.text.specs.Text.{ascii, newline}
use Rattle.text.proofs.Laws.{puts_then}
use Rattle.lines.proofs.Pieces.{puts_writes}
use Rattle.lines.specs.Lines.{labelled, event_text, line_text}
use Rattle.lines.proofs.line.Goals as goal

pub returns : goal.returns
unfolding line_text
returns c =
    let args = c.args in
    let labelled-here = c.labelled-a in
    let event-at = c.event_at-b in
    puts_writes _ _ _ _ (puts_then (labelled (ascii "at") args.place) (event_text args.event ++ newline) _ _ _ _ _ _ labelled-here.ensures.0
    (puts_then (event_text args.event) newline _ _ _ _ _ _ event-at.ensures.0 c.word.ensures))

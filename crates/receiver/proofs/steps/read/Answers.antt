use mathlib.Core.Path.{ap, ◌∙◌}
use Rattle.listing.specs.Events.{read_event}
use Rattle.listing.proofs.Laws.{too_long, is_read}
use Rattle.receiver.proofs.steps.read.Goals as goal

pub returns-then-frame-gt-MOST_KEPT : goal.returns-then-frame-gt-MOST_KEPT
returns-then-frame-gt-MOST_KEPT c = too_long c.args.frame.now c.if-frame-gt-MOST_KEPT.true

pub returns : goal.returns
returns c =
    let frame = c.args.frame.now in
    c.event_of.ensures ∙ ap read_event c.examine.ensures ∙ is_read frame c.if-frame-gt-MOST_KEPT.false

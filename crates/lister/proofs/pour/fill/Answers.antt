use Rattle.std.proofs.Common.{◌∙◌, rules}
use Rattle.lister.proofs.Lending.{counted_lent}
use Rattle.lister.proofs.Pouring.{going_starts, going_on, ends_full, ends_done, step_less, step_within, text_within}
use Rattle.lister.proofs.pour.fill.Goals as goal

pub loop-taken-init : goal.loop-taken-init
loop-taken-init c = going_starts c.args.listing c.args.chunk.now c.args.room.now c.requires

pub returns-then-room-size-lt-LONGEST_LINE : goal.returns-then-room-size-lt-LONGEST_LINE
returns-then-room-size-lt-LONGEST_LINE c =
    let end = ends_full c.loop-taken.invariant c.if-room-size-lt-LONGEST_LINE.true in
    (c.done.ensures ∙ end.0, end.1)

pub overflow_add-size : goal.overflow_add-size
overflow_add-size c =
    let h = text_within c.loop-taken.invariant c.loop-taken-test.true c.if-room-size-lt-LONGEST_LINE.false c.lent_to-lent.result.stepped c.lent_to-lent.ensures.0 c.write_line-size.ensures.0 in
    search (rules, h)

pub overflow_add-taken : goal.overflow_add-taken
overflow_add-taken c =
    let h = step_within c.loop-taken.invariant c.loop-taken-test.true c.if-room-size-lt-LONGEST_LINE.false c.lent_to-lent.result.stepped c.lent_to-lent.ensures.0 in
    search (rules, h)

pub loop-taken-smaller : goal.loop-taken-smaller
loop-taken-smaller c = step_less c.loop-taken.invariant c.loop-taken-test.true c.if-room-size-lt-LONGEST_LINE.false c.lent_to-lent.result.stepped c.lent_to-lent.ensures.0

pub loop-taken-preserved : goal.loop-taken-preserved
loop-taken-preserved c =
    let written = c.write_line-size in
    let so = c.loop-taken.invariant in
    rw (c.count-so_far.ensures ∙ counted_lent c.loop-taken.so_far c.lent_to-lent.result _ c.lent_to-lent.ensures)
    (going_on so c.loop-taken-test.true c.if-room-size-lt-LONGEST_LINE.false c.lent_to-lent.result.stepped c.lent_to-lent.ensures.0 written.result written.ensures.0 _ written.ensures.1)

pub returns : goal.returns
returns c =
    let end = ends_done c.loop-taken.invariant c.loop-taken-test.false in
    (c.done-2.ensures ∙ end.0, end.1)

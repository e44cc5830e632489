use mathlib.Core.Path.{sym, ◌∙◌}
use Rattle.lanes.proofs.Calls.{full_at, joined_at, join_denied, join_nowhere, join_allowed}
use Rattle.request.proofs.Laws.{asked_denied, asked_allowed, allowed_writable}
use Rattle.lanes.proofs.join.Goals as goal

pub waiting_with-requires : goal.waiting_with-requires
waiting_with-requires c = (allowed_writable _ _ (asked_allowed _ (sym c.in_default.is ∙ c.judge.ensures))).0

pub returns-in-Err : goal.returns-in-Err
returns-in-Err c =
    let s = c.args in
    rw (join_denied s.lanes s.asked _ _ (asked_denied _ _ (sym c.in-Err.is ∙ c.judge.ensures)))
    c.not_joined.ensures

pub returns-in_default-lane_to_join : goal.returns-in_default-lane_to_join
returns-in_default-lane_to_join c =
    let s = c.args in
    rw (join_nowhere s.lanes s.asked s.«data».now (asked_allowed _ (sym c.in_default.is ∙ c.judge.ensures)) c.in_default-lane_to_join.ensures)
    c.not_joined-in_default-lane_to_join.ensures

pub returns-then-lane-ge4 : goal.returns-then-lane-ge4
returns-then-lane-ge4 c =
    let s = c.args in
    let there = c.in-Some.ensures in
    join_allowed s.lanes s.asked s.«data».now _ _ (asked_allowed _ (sym c.in_default.is ∙ c.judge.ensures)) there.0
    (full_at s.lanes _ s.asked s.«data».now _ _ there.1 there.2 c.if-lane-ge4.true c.not_joined-then-lane-ge4.ensures)

pub returns : goal.returns
returns c =
    let s = c.args in
    let there = c.in-Some.ensures in
    join_allowed s.lanes s.asked s.«data».now _ _ (asked_allowed _ (sym c.in_default.is ∙ c.judge.ensures)) there.0
    (joined_at s.lanes _ s.asked s.«data».now _ _ there.1 there.2 c.if-lane-ge4.false
    (rw (c.with_last.ensures, c.waiting_with.ensures) at c.with_lane.ensures))

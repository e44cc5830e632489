use mathlib.Core.Path.{refl}
use Rattle.lanes.proofs.Calls.{told_near, told_far, no_lane, no_first, no_more, withdrawn_at_lem}
use Rattle.lanes.proofs.withdraw.Goals as goal

pub returns-in_default : goal.returns-in_default
returns-in_default c =
    let s = c.args in
    rw (no_lane s.lanes s.job s.at _ refl (told_far _ _ c.own_lane.ensures c.in_default.is)) c.not_withdrawn.ensures

pub lane_at-lane-requires : goal.lane_at-lane-requires
lane_at-lane-requires c = (told_near _ _ _ c.own_lane.ensures c.in-Some.is).1

pub returns-then-at-eq0 : goal.returns-then-at-eq0
returns-then-at-eq0 c =
    let s = c.args in
    let told = told_near _ _ _ c.own_lane.ensures c.in-Some.is in
    rw (no_first s.lanes s.job s.at _ _ told.0 told.1 c.lane_at-lane.ensures c.if-at-eq0.true)
    c.not_withdrawn-then-at-eq0.ensures

pub returns-then-lane-at : goal.returns-then-lane-at
returns-then-lane-at c =
    let s = c.args in
    let told = told_near _ _ _ c.own_lane.ensures c.in-Some.is in
    rw (no_more s.lanes s.job s.at _ _ told.0 told.1 c.lane_at-lane.ensures c.if-at-eq0.false c.if-lane-at.true)
    c.not_withdrawn-then-lane-at.ensures

pub returns : goal.returns
returns c =
    let s = c.args in
    let told = told_near _ _ _ c.own_lane.ensures c.in-Some.is in
    withdrawn_at_lem s.lanes s.job s.at _ _ told.0 told.1 c.lane_at-lane.ensures _
    c.if-at-eq0.false c.if-lane-at.false (rw c.without.ensures at c.with_lane.ensures)

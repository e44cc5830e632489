use mathlib.Core.Path.{refl}
use Rattle.lanes.proofs.Calls.{told_near, told_far, grant_short, grant_nothing, granted_at}
use Rattle.lanes.proofs.Ranking.{next_there}
use Rattle.lanes.proofs.grant.Goals as goal

pub returns-then-room-lt-LONGEST : goal.returns-then-room-lt-LONGEST
returns-then-room-lt-LONGEST c = rw (grant_short c.args.lanes _ c.if-room-lt-LONGEST.true) (c.not_granted.ensures, refl)

pub returns-in_default : goal.returns-in_default
returns-in_default c =
    rw (grant_nothing c.args.lanes _ _ c.if-room-lt-LONGEST.false refl (told_far _ _ c.next_distance.ensures c.in_default.is))
    (c.not_granted-in_default.ensures, refl)

pub serve-requires : goal.serve-requires
serve-requires c =
    let told = told_near _ _ _ c.next_distance.ensures c.in-Some.is in
    next_there c.args.lanes _ told.0 told.1

pub returns : goal.returns
returns c =
    let s = c.args in
    let told = told_near _ _ _ c.next_distance.ensures c.in-Some.is in
    granted_at s.lanes s.desk s.clock s.room.now _ _ _ _ c.if-room-lt-LONGEST.false told.0 told.1 c.serve.ensures refl

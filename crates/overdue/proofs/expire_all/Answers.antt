use Rattle.overdue.proofs.Pass.{start, going_on, full, past_all, room_is}
use Rattle.overdue.proofs.expire_all.Goals as goal

pub loop-k-init : goal.loop-k-init
loop-k-init c = start _ _ _

pub returns-then-room-swept : goal.returns-then-room-swept
returns-then-room-swept c = full c.loop-k.invariant (rw (room_is _) c.if-room-swept.true)

pub loop-k-preserved : goal.loop-k-preserved
loop-k-preserved c = going_on c.loop-k.invariant c.loop-k-test.true (rw (room_is _) c.if-room-swept.false) c.look_at-swept.ensures

pub returns : goal.returns
returns c = past_all c.loop-k.invariant c.loop-k-test.false

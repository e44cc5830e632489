use borrow.Author.Tests.{lt-ltb, le-ltb}
use Rattle.lanes.proofs.next_at.Goals as goal

pub returns-then-place-gone : goal.returns-then-place-gone
returns-then-place-gone c = simp (lt-ltb _ _ c.if-place-gone.true)

pub returns-then-place-lt3 : goal.returns-then-place-lt3
returns-then-place-lt3 c = simp (le-ltb _ _ c.if-place-gone.false, lt-ltb _ _ c.if-place-lt3.true)

pub returns : goal.returns
returns c = simp (le-ltb _ _ c.if-place-gone.false, le-ltb _ _ c.if-place-lt3.false)

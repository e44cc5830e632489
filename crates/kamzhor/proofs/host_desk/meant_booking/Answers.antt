-- `meant_booking` is the desk's answer to a reply, from its numbers.
-- Assumes nothing.
use borrow.Author.Tests.{ne_eqb}
use Rattle.kamzhor.proofs.host_desk.meant_booking.Goals as goal

pub returns-then-reply-eq0 : goal.returns-then-reply-eq0
returns-then-reply-eq0 c = rw c.if-reply-eq0.true

pub returns : goal.returns
returns c = rw (ne_eqb _ _ c.if-reply-eq0.false)

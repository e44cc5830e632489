use Rattle.varia.proofs.Calls.{reply_elsewhere, reply_acks, reply_leaves}
use mathlib.Core.Path.{◌∙◌}
use Rattle.varia.proofs.told_reply.Goals as goal

pub returns-then-sent-address : goal.returns-then-sent-address
returns-then-sent-address c = reply_elsewhere _ _ _ _ c.in-Some.is _ _ _ _ _ _ c.in-Ok.is c.if-sent-address.true

pub returns-then-sort-eq-ACK : goal.returns-then-sort-eq-ACK
returns-then-sort-eq-ACK c =
    c.with_edge.ensures
    ∙ reply_acks _ _ _ _ c.in-Some.is _ _ _ _ _ _ c.in-Ok.is c.if-sent-address.false c.if-sort-eq-ACK.true

pub returns : goal.returns
returns c =
    c.with_out.ensures
    ∙ reply_leaves _ _ _ _ c.in-Some.is _ _ _ _ _ _ c.in-Ok.is c.if-sent-address.false c.if-sort-eq-ACK.false

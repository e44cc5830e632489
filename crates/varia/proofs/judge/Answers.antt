use Rattle.varia.proofs.Calls.{out_refused, order_refused, not_refused}
use Rattle.varia.proofs.judge.Goals as goal

pub returns-then-is_out : goal.returns-then-is_out
returns-then-is_out c = let s = c.args in out_refused s.filters s.pass s.tenths _ c.is_out.ensures c.if-is_out.true

pub returns-then-out_of_order : goal.returns-then-out_of_order
returns-then-out_of_order c =
    let s = c.args in
    order_refused s.filters s.pass s.tenths _ c.is_out.ensures c.if-is_out.false _ c.opposite.ensures _ c.out_of_order.ensures c.if-out_of_order.true

pub returns : goal.returns
returns c =
    let s = c.args in
    not_refused s.filters s.pass s.tenths _ c.is_out.ensures c.if-is_out.false _ c.opposite.ensures _ c.out_of_order.ensures c.if-out_of_order.false

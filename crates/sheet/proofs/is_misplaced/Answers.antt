use native.Mathlib.Omega.{arith}
use borrow.Author.Count.{below_more}
use Rattle.setting.proofs.Lists.{no_lengths}
use Rattle.setting.proofs.Steps.{end_on, end_room}
use Rattle.sheet.proofs.Steps.{well_placed, ill_placed, all_placed}
use Rattle.sheet.proofs.is_misplaced.Goals as goal

pub loop-k-init : goal.loop-k-init
loop-k-init c = (no_lengths _, omega arith, λ j l. absurd (omega arith))

pub returns-then-tail_at-end : goal.returns-then-tail_at-end
returns-then-tail_at-end c =
    let loop = c.loop-k in
    ill_placed _ _ _ _ c.loop-k-test.true loop.invariant.2 loop.invariant.0 c.tail_at.ensures c.if-tail_at-end.true

pub overflow_add-end : goal.overflow_add-end
overflow_add-end c =
    let room = end_room _ _ _ _ (λ i. (c.type_inv.rows i).fits) c.loop-k.invariant.1 c.head_at.ensures c.measure-end.ensures in
    record { fits = omega (arith, room, c.requires, c.loop-k-test.true) }

pub loop-k-preserved : goal.loop-k-preserved
loop-k-preserved c =
    let inv = c.loop-k.invariant in (
      end_on _ _ _ _ inv.0 c.head_at.ensures c.measure-end.ensures,
      end_room _ _ _ _ (λ i. (c.type_inv.rows i).fits) inv.1 c.head_at.ensures c.measure-end.ensures,
      below_more _ _ inv.2 (well_placed _ _ _ inv.0 c.tail_at.ensures c.if-tail_at-end.false),
    )

pub returns : goal.returns
returns c = all_placed _ _ _ _ c.loop-k.auto.k-end c.loop-k-test.false c.loop-k.invariant.2 c.loop-k.invariant.0

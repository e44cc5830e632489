use native.Mathlib.Omega.{arith}
use borrow.Author.Count.{below_more}
use Rattle.setting.proofs.Lists.{no_lengths}
use Rattle.setting.proofs.Steps.{end_on, end_room}
use Rattle.sheet_writer.proofs.Steps.{rows_broken, well_stated, ill_stated, all_stated}
use Rattle.sheet_writer.proofs.is_misstated.Goals as goal

pub returns-then-rows-n : goal.returns-then-rows-n
returns-then-rows-n c = rows_broken _ _ c.if-rows-n.true

pub loop-k-init : goal.loop-k-init
loop-k-init c = (no_lengths _, omega arith, λ j l. absurd (omega arith))

pub returns-then-tail_at-length : goal.returns-then-tail_at-length
returns-then-tail_at-length c =
    ill_stated _ _ _ _ c.loop-k-test.true c.loop-k.invariant.2 c.head_at.ensures c.measure-length.ensures
    c.tail_at.ensures c.if-tail_at-length.true c.if-rows-n.false

pub overflow_add-end : goal.overflow_add-end
overflow_add-end c =
    let room = end_room _ _ _ _ (λ i. (c.type_inv.rows i).fits) c.loop-k.invariant.1 c.head_at.ensures c.measure-length.ensures in
    record { fits = omega (arith, room, c.requires, c.loop-k-test.true) }

pub loop-k-preserved : goal.loop-k-preserved
loop-k-preserved c =
    let inv = c.loop-k.invariant in
    let head = c.head_at in
    let size = c.measure-length in (
      end_on _ _ _ _ inv.0 head.ensures size.ensures,
      end_room _ _ _ _ (λ i. (c.type_inv.rows i).fits) inv.1 head.ensures size.ensures,
      below_more _ _ inv.2 (well_stated _ _ _ head.ensures size.ensures c.tail_at.ensures c.if-tail_at-length.false),
    )

pub returns : goal.returns
returns c = all_stated _ _ _ _ c.loop-k.auto.k-end c.loop-k-test.false c.loop-k.invariant.2 c.loop-k.invariant.0 c.if-rows-n.false

use native.Mathlib.Omega.{arith}
use Rattle.setting.proofs.Lists.{no_lengths}
use Rattle.setting.proofs.Steps.{end_on, end_room}
use Rattle.sheet_writer.proofs.Steps.{laid_start, laid_on, laid_all}
use Rattle.sheet_writer.proofs.lay_records.Goals as goal

pub loop-k-init : goal.loop-k-init
loop-k-init c = (no_lengths _, omega arith, laid_start _ _)

pub overflow_add-offset : goal.overflow_add-offset
overflow_add-offset c =
    let room = end_room _ _ _ _ (λ i. (c.type_inv.rows i).fits) c.loop-k.invariant.1 c.head_at-head.ensures c.measure-offset.ensures in
    record { fits = omega (arith, room, c.requires, c.loop-k-test.true) }

pub loop-k-preserved : goal.loop-k-preserved
loop-k-preserved c =
    let inv = c.loop-k.invariant in
    let head = c.head_at-head in
    let laid = c.lay_record in (
      end_on _ _ _ _ inv.0 head.ensures c.measure-offset.ensures,
      end_room _ _ _ _ (λ i. (c.type_inv.rows i).fits) inv.1 head.ensures c.measure-offset.ensures,
      laid_on _ _ _ _ _ _ _ c.loop-k-test.true inv.0 head.ensures inv.2 laid.ensures,
    )

pub returns : goal.returns
returns c = laid_all _ _ _ _ _ c.loop-k-test.false c.loop-k.invariant.2

use mathlib.Core.Path.{refl, ap, ◌∙◌}
use native.Mathlib.Omega.{arith}
use lib.ListN.{length}
use Rattle.lent.proofs.Laws.{length-over_at}
use Rattle.setting.proofs.Lists.{no_lengths}
use Rattle.setting.proofs.Steps.{end_on, end_room}
use Rattle.sheet_writer.proofs.Steps.{again_start, laid_on, laid_all, head_again, bytes_again, behind_again}
use Rattle.sheet_writer.proofs.lay_offsets.Goals as goal

pub loop-k-init : goal.loop-k-init
loop-k-init c = (no_lengths _, omega arith, refl, again_start _ _ _, refl)

pub overflow_add-offset : goal.overflow_add-offset
overflow_add-offset c =
    let inv = c.loop-k.invariant in
    let b = c.slice_known-1 in
    let head = head_again _ _ _ _ c.requires.1 inv.2 c.loop-k-test.true inv.4 c.head_at-head.ensures in
    let room = end_room _ _ _ _ (bytes_again c.args.room.now c.args.n (λ i. (b.given i).fits)) inv.1 head c.measure-offset.ensures in
    record { fits = omega (arith, room, c.requires, c.loop-k-test.true) }

pub loop-k-preserved : goal.loop-k-preserved
loop-k-preserved c =
    let inv = c.loop-k.invariant in
    let b = c.slice_known-1 in
    let laid = c.lay_record in
    let head = head_again _ _ _ _ c.requires.1 inv.2 c.loop-k-test.true inv.4 c.head_at-head.ensures in (
      end_on _ _ _ _ inv.0 head c.measure-offset.ensures,
      end_room _ _ _ _ (bytes_again c.args.room.now c.args.n (λ i. (b.given i).fits)) inv.1 head c.measure-offset.ensures,
      ap length laid.ensures ∙ (length-over_at _ _ _ ∙ inv.2),
      laid_on _ _ _ _ _ _ _ c.loop-k-test.true inv.0 head inv.3 laid.ensures,
      behind_again _ _ _ _ _ _ inv.4 laid.ensures,
    )

pub returns : goal.returns
returns c = laid_all _ _ _ _ _ c.loop-k-test.false c.loop-k.invariant.3

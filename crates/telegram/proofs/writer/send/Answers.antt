use mathlib.Core.Path.{refl}
use native.Mathlib.Omega.{arith}
use Rattle.frame.proofs.Laws.{length-framed}
use Rattle.telegram.proofs.Send.{substituted_long, sent, no_room, with_room}
use Rattle.telegram.proofs.writer.send.Goals as goal

pub overflow_add-n : goal.overflow_add-n
overflow_add-n c =
    record {
      fits = omega (
        arith,
        substituted_long c.args.message.now c.substituted_length-n.result c.substituted_length-n.ensures
            c.requires,
      );
    }

pub returns-then-room-n : goal.returns-then-room-n
returns-then-room-n c = rw (no_room c.args.message.now _ _ c.substituted_length-n.ensures c.if-room-n.true) (refl, refl)

pub returns : goal.returns
returns c =
    let Lay-at = c.lay_at in
    let substituted-length = c.substituted_length-n in
    let args = c.args in
    let substitute-at = c.substitute_at in
    rw (with_room args.message.now _ _ substituted-length.ensures c.if-room-n.false, length-framed, substituted-length.ensures)
    (refl, sent _ _ _ _ _ _ substituted-length.ensures Lay-at.ensures substitute-at.ensures c.lay_at-2.ensures)

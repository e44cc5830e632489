-- `reply` writes the reply; only where there was room for it is the deed done.
-- Assumes nothing.
use mathlib.Core.Path.{refl, sym}
use Prim.Native.Nat.{◌≤◌}
use native.Mathlib.Omega.{arith}
use lib.ListN.{length}
use Rattle.telegram.proofs.Judge.{whole_part}
use Rattle.values.proofs.Bytes.{length-bytes_of}
use Rattle.values.specs.Values.{bytes_of}
use Rattle.bench.proofs.Answering.{no_room, with_room}
use Rattle.bench.proofs.request.reply.Goals as goal

pub returns-in-Err : goal.returns-in-Err
returns-in-Err c =
    let long : length (bytes_of c.args.deed.size c.args.deed.value) ≤ 8 = omega (arith, length-bytes_of c.args.deed.size c.args.deed.value, c.requires.3) in
    no_room _ _ _ c.requires.0 c.requires.1 (c.requires.2, c.requires.3) _
    (whole_part (bytes_of c.args.deed.size c.args.deed.value) _ _ _ (sym (length-bytes_of _ _)) c.store.ensures long)
    c.args.room.now _ _ _ _ c.write.ensures c.in-Err.is c.silent.ensures

pub returns-in-Ok : goal.returns-in-Ok
returns-in-Ok c =
    let long : length (bytes_of c.args.deed.size c.args.deed.value) ≤ 8 = omega (arith, length-bytes_of c.args.deed.size c.args.deed.value, c.requires.3) in
    with_room _ _ _ c.requires.0 c.requires.1 (c.requires.2, c.requires.3) _
    (whole_part (bytes_of c.args.deed.size c.args.deed.value) _ _ _ (sym (length-bytes_of _ _)) c.store.ensures long)
    c.args.room.now _ _ _ _ c.write.ensures c.in-Ok.is (refl, c.done.ensures)

-- `kamzhor_write_value` is the value writer, told in numbers; a kind over a byte is no kind.
-- Assumes nothing.
use native.Mathlib.Omega.{arith}
use Rattle.kamzhor.proofs.NoKind.{zero_for_great}
use Rattle.kamzhor.proofs.host_values.kamzhor_write_value.Goals as goal
use Rattle.kamzhor.proofs.host_values.kamzhor_write_value.Goals.{then-kind-gt255, else-kind-gt255}

pub returns : goal.returns
returns c =
    let room = c.args.room.now in (
      _,
      elim c.if-kind-gt255.branch [
        | then-kind-gt255 w ↦ zero_for_great _ _ room _ _ (omega (arith, w.if-kind-gt255.true)) (rw (w.short-is, c.meant_value.ensures) at c.write.ensures)
        | else-kind-gt255 w ↦ rw (w.short-is, c.meant_value.ensures) at c.write.ensures
      ],
      c.of_stored.ensures,
    )

use mathlib.Core.Path.{refl, ap, ◌∙◌}
use Prim.Native.Nat.{◌-◌}
use Rattle.desk.specs.Desk.{put_at}
use Rattle.desk.proofs.withdraw.Goals as goal

pub returns : goal.returns
returns c =
    rw (← c.ticket_on-ticket.ensures)
    (refl, c.put_at.ensures ∙ ap (put_at c.args.desk (c.args.address - 161)) c.withdrawn_at.ensures)

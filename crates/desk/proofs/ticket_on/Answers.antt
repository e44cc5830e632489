use mathlib.Core.Path.{◌≡◌, sym, ◌∙◌}
use native.Mathlib.Omega.{arith}
use borrow.Author.Tests.{le-leb, lt-leb}
use lib.ListN.{length}
use Prim.Native.Nat.{◌-◌}
use Rattle.desk.proofs.Standing.{standing_at}
use Rattle.desk.proofs.ticket_on.Goals as goal

pub returns-then-address-ge161 : goal.returns-then-address-ge161
returns-then-address-ge161 c =
    let desk = c.args.desk in
    let places : length desk.tickets ≡ 95 = omega arith in
    rw (le-leb _ _ c.if-address-ge161.true)
    (c.as_marked.ensures ∙ sym (standing_at desk.marks desk.tickets (c.args.address - 161) (omega (arith, places, c.ranges.address.fits))))

pub returns : goal.returns
returns c = rw (lt-leb _ _ c.if-address-ge161.false)

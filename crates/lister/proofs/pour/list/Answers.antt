use Rattle.std.proofs.Common.{sym, ◌∙◌}
use Rattle.receiver.proofs.Returns.{not_past}
use Rattle.lister.proofs.Pouring.{list_refused, list_filled}
use Rattle.lister.proofs.pour.list.Goals as goal

pub returns-then-carries_past : goal.returns-then-carries_past
returns-then-carries_past c =
    let args = c.args in
    list_refused args.listing args.chunk.now args.room.now (sym c.carries_past.ensures ∙ c.if-carries_past.true)

pub fill-requires : goal.fill-requires
fill-requires c =
    let args = c.args in
    not_past args.listing.receiver.place args.chunk.now (sym c.carries_past.ensures ∙ c.if-carries_past.false)

pub returns : goal.returns
returns c =
    let args = c.args in
    let filled = c.fill in
    list_filled args.listing args.chunk.now args.room.now filled.result _ (sym c.carries_past.ensures ∙ c.if-carries_past.false) filled.ensures

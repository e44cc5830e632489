-- `deed` is the deed of the held register, or a nack.
-- Assumes nothing.
use mathlib.Core.Path.{sym, ◌∙◌}
use Rattle.bench.proofs.Deeds.{deed_held, deed_unknown}
use Rattle.bench.proofs.Places.{found_held}
use Rattle.bench.proofs.request.deed.Goals as goal

pub register_at-requires : goal.register_at-requires
register_at-requires c = (found_held _ _ _ (sym c.find.ensures ∙ c.in-Some.is)).under

pub returns-in-Some : goal.returns-in-Some
returns-in-Some c = deed_held _ _ _ _ _ _ (sym c.find.ensures ∙ c.in-Some.is) c.register_at.ensures c.held_deed.ensures

pub returns-in-None : goal.returns-in-None
returns-in-None c = deed_unknown _ _ _ _ (sym c.find.ensures ∙ c.in-None.is) c.nack.ensures

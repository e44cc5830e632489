-- `done` changes the value of a held register and nothing else.
-- Assumes nothing.
use mathlib.Core.Path.{sym, ◌∙◌}
use Rattle.bench.proofs.Deeds.{done_at, done_not}
use Rattle.bench.proofs.Places.{found_held}
use Rattle.bench.proofs.request.done.Goals as goal

pub with_value-requires : goal.with_value-requires
with_value-requires c = (found_held _ _ _ (sym c.find.ensures ∙ c.in-Some.is)).under

pub returns-in-Some : goal.returns-in-Some
returns-in-Some c = done_at _ _ _ (sym c.find.ensures ∙ c.in-Some.is) _ _ c.with_value.ensures

pub returns-in-None : goal.returns-in-None
returns-in-None c = done_not _ _ (sym c.find.ensures ∙ c.in-None.is) _

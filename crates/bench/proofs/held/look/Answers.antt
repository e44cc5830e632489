-- `look` shows the register where the search found it.
-- Assumes nothing.
use mathlib.Core.Path.{sym, ◌∙◌}
use Rattle.bench.proofs.Deeds.{seen_held, seen_not}
use Rattle.bench.proofs.Places.{found_held}
use Rattle.bench.proofs.held.look.Goals as goal

pub register_at-requires : goal.register_at-requires
register_at-requires c = (found_held _ _ _ (sym c.find.ensures ∙ c.in_ok-place.was)).under

pub returns : goal.returns
returns c = seen_held _ _ _ (sym c.find.ensures ∙ c.in_ok-place.was) _ c.register_at.ensures

pub returns-in_err-place : goal.returns-in_err-place
returns-in_err-place c = rw c.from_residual.ensures (seen_not _ _ (sym c.find.ensures ∙ c.in_err-place.was))

-- `set` refuses as rows 38 and 43 say, and else stores the number of that value.
-- Assumes nothing.
use mathlib.Core.Path.{sym, ◌∙◌}
use Rattle.bench.proofs.Places.{found_held, found_not}
use Rattle.bench.proofs.Refusals.{build_refused, set_not, set_refused, set_done}
use Rattle.bench.proofs.build.set.Goals as goal

pub returns-in_default : goal.returns-in_default
returns-in_default c =
    build_refused _ _ _ _ _
    (set_not _ _ _ (found_not _ _ (sym c.find.ensures ∙ c.in_default.is))) c.refused.ensures

pub register_at-register-requires : goal.register_at-register-requires
register_at-register-requires c = (found_held _ _ _ (sym c.find.ensures ∙ c.in-Some.is)).under

pub returns-in_default-as_stored : goal.returns-in_default-as_stored
returns-in_default-as_stored c =
    set_refused _ _ _ _ (found_held _ _ _ (sym c.find.ensures ∙ c.in-Some.is)) _ c.register_at-register.ensures _
    c.as_stored.ensures _ _ c.in_default-as_stored.is c.refused-in_default-as_stored.ensures

pub with_value-requires : goal.with_value-requires
with_value-requires c = (found_held _ _ _ (sym c.find.ensures ∙ c.in-Some.is)).under

pub returns : goal.returns
returns c =
    set_done _ _ _ _ (found_held _ _ _ (sym c.find.ensures ∙ c.in-Some.is)) _ c.register_at-register.ensures _
    c.as_stored.ensures _ _ c.in-Ok.is c.with_value.ensures

use mathlib.Core.Path.{refl, sym, ◌∙◌}
use native.Mathlib.Omega.{arith}
use Rattle.desk.proofs.Calls.{under_told, over_told, expire_nothing, expire_due}
use Rattle.desk.proofs.expire.Goals as goal

pub returns-in_default : goal.returns-in_default
returns-in_default c = rw (expire_nothing _ _ _ refl (over_told _ _ (sym c.due_place.ensures ∙ c.in_default.is))) (refl, refl)

pub overflow_add-place : goal.overflow_add-place
overflow_add-place c = omega (arith, (under_told _ _ _ (sym c.due_place.ensures ∙ c.in-Some.is)).1)

pub returns : goal.returns
returns c =
    let due = under_told _ _ _ (sym c.due_place.ensures ∙ c.in-Some.is) in
    rw (expire_due _ _ _ due.0 due.1, ← due.0) c.withdraw.ensures

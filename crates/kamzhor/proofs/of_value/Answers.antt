-- `of_value` tells a value as a sign and a magnitude.
-- Assumes nothing.
use mathlib.Core.Path.{sym, ap, subst}
use Rattle.kamzhor.specs.Host.{value_found, is_small}
use Rattle.kamzhor.proofs.of_value.Goals as goal

pub overflow_add-result : goal.overflow_add-result
overflow_add-result c = record { fits = subst is_small c.in-Negative.is c.requires }

pub returns-in-Natural : goal.returns-in-Natural
returns-in-Natural c = sym (ap value_found c.in-Natural.is)

pub returns-in-Negative : goal.returns-in-Negative
returns-in-Negative c = sym (ap value_found c.in-Negative.is)

-- `kamzhor_read_value` is the value reader, told in numbers; a kind over a byte is no kind.
-- Assumes nothing.
use mathlib.Core.Path.{sym, ap, ◌∙◌}
use native.Mathlib.Omega.{arith}
use Rattle.kamzhor.specs.Host.{value_given}
use Rattle.kamzhor.proofs.Laws.{unknown_kind, read_small}
use Rattle.kamzhor.proofs.kamzhor_read_value.Goals as goal

pub returns-then-kind-gt255 : goal.returns-then-kind-gt255
returns-then-kind-gt255 c = c.refused.ensures ∙ sym (ap value_given (unknown_kind _ _ _ (omega (arith, c.if-kind-gt255.true))))

pub of_value-requires : goal.of_value-requires
of_value-requires c = read_small _ _ _ _ (sym c.read.ensures ∙ c.in-Ok.is)

pub returns-in-Err : goal.returns-in-Err
returns-in-Err c =
    c.refused-in-Err.ensures
    ∙ ap value_given (sym c.in-Err.is ∙ c.read.ensures)

pub returns-in-Ok : goal.returns-in-Ok
returns-in-Ok c =
    c.of_value.ensures
    ∙ ap value_given (sym c.in-Ok.is ∙ c.read.ensures)

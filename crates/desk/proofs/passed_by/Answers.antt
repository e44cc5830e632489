use mathlib.Core.Path.{sym, ◌∙◌}
use native.Mathlib.Omega.{arith}
use Rattle.desk.proofs.Standing.{passed_marked, passed_resting, passed_none}
use Rattle.desk.proofs.passed_by.Goals as goal

pub returns-then-left-run : goal.returns-then-left-run
returns-then-left-run c =
    passed_marked c.args.marks c.args.ticket c.args.place c.args.clock _ (omega (arith, c.requires))
    (rw (← c.run-run.ensures) (omega (arith, c.if-left-run.true))) (omega (arith, c.requires))

pub returns-then-run-gt0 : goal.returns-then-run-gt0
returns-then-run-gt0 c =
    passed_marked c.args.marks c.args.ticket c.args.place c.args.clock _ c.if-run-gt0.true
    (rw (← c.run-run.ensures) (omega arith)) (omega (arith, c.requires, c.if-left-run.false))

pub returns-then-is_resting : goal.returns-then-is_resting
returns-then-is_resting c = passed_resting c.args.marks c.args.ticket c.args.place c.args.clock c.requires (sym c.is_resting.ensures ∙ c.if-is_resting.true)

pub returns : goal.returns
returns c =
    passed_none c.args.marks c.args.ticket c.args.place c.args.clock c.requires
    (sym c.run-run.ensures ∙ omega (arith, c.if-run-gt0.false))
    (sym c.is_resting.ensures ∙ c.if-is_resting.false)

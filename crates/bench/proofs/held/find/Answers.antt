-- `find` looks for the first of the registers held that has the number.
-- Assumes nothing.
use mathlib.Core.Path.{◌≡◌}
use native.Mathlib.Omega.{arith}
use lib.ListN.{take}
use Rattle.std.proofs.Common.{rules, tests}
use Rattle.std.proofs.lemmas.Iterator.{YieldsList-from_slice}
use Rattle.std.proofs.lemmas.Iterator.Search.{position_from_yields_List}
use Rattle.std.specs.List.{position}
use Rattle.bench.proofs.Places.{is_numbered, answered}
use Rattle.bench.proofs.held.find.Goals as goal
use Rattle.bench.proofs.held.find.Goals.{After-position}

looked : (c : After-position) → c.position.result ≡ position (is_numbered c.args.number) (take c.held_count.result c.args.bench.registers)
looked c =
    position_from_yields_List (is_numbered c.args.number) _ _ c.position.result c.position.ensures.ran
    (YieldsList-from_slice (take c.held_count.result c.args.bench.registers) cc) (λ x b q k. search (rules, tests))

pub returns : goal.returns
returns c = answered c.args.bench c.args.number _ c.held_count.ensures (omega (arith, c.held_count.ensures)) (looked (goal.at.returns c).After-position)

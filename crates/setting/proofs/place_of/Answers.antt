use mathlib.Core.Path.{◌∙◌}
use mathlib.Core.Bool.{true, false}
use native.Mathlib.Omega.{arith}
use Rattle.std.proofs.Common.{rules, tests}
use Rattle.std.proofs.lemmas.Iterator.{first_from_Range}
use Rattle.setting.specs.Setting.{heads, not_below}
use Rattle.setting.proofs.Steps.{Told, sought}
use Rattle.setting.proofs.place_of.Goals as goal

pub returns : goal.returns
returns c =
    let p = not_below c.args.head (heads c.args.rows.now) in
    c.unwrap_or.ensures
    ∙ sought p _ 0 _ (λ j l. absurd (omega arith))
    (first_from_Range _ _ _ _ (Told p 0 true) (Told p 0 false) c.find.ensures.ran (λ k q h l. search (rules, tests)) (λ k q h. (search rules, λ l. search (rules, tests))))

use mathlib.Core.Path.{◌≡◌, ◌∙◌}
use mathlib.Core.Bool.{true, false}
use native.Mathlib.Omega.{arith}
use Rattle.std.proofs.Common.{rules, tests}
use Rattle.std.proofs.lemmas.Iterator.{first_from_Range}
use Rattle.setting.specs.Setting.{heads, falls}
use Rattle.setting.proofs.Steps.{falls_behind, first_falls, Told, sought}
use Rattle.setting.proofs.first_fall.Goals as goal

pub returns : goal.returns
returns c =
    let p = falls (heads c.args.rows.now) in
    c.unwrap_or.ensures
    ∙ sought p _ _ _ (λ j l. let z : j ≡ 0 = omega arith in rw z (first_falls _))
    (first_from_Range _ _ _ _ (Told p _ true) (Told p _ false) c.find.ensures.ran
    (λ k q h l. rw (falls_behind _ k (omega (arith, l))) (search (rules, tests)))
    (λ k q h. (search rules, λ l. rw (falls_behind _ k (omega (arith, l))) (search (rules, tests)))))

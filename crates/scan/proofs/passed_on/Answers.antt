use Rattle.scan.specs.Scan.{from_desk, after_opening}
use mathlib.Core.Path.{refl, sym, ap, ◌∙◌}
use Rattle.scan.proofs.passed_on.Goals as goal

pub returns-in-Ok : goal.returns-in-Ok
returns-in-Ok c =
    let told = c.in-Ok.is in
    (sym (ap (from_desk _) told), c.now_out.ensures ∙ sym (ap (after_opening _) told), refl, refl)

pub returns-in-Err : goal.returns-in-Err
returns-in-Err c =
    let told = c.in-Err.is in
    (sym (ap (from_desk _) told), sym (ap (after_opening _) told), refl, refl)

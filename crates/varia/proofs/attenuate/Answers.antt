use Rattle.varia.proofs.Calls.{attenuation_refused, attenuation_let}
use mathlib.Core.Path.{refl}
use Rattle.varia.proofs.attenuate.Goals as goal

pub returns-then-permille-gt-MOST_ATTENUATION : goal.returns-then-permille-gt-MOST_ATTENUATION
returns-then-permille-gt-MOST_ATTENUATION c = rw (attenuation_refused c.args.permille c.if-permille-gt-MOST_ATTENUATION.true) (c.refused.ensures, refl)

pub returns : goal.returns
returns c =
    let s = c.args in
    rw (attenuation_let s.permille c.if-permille-gt-MOST_ATTENUATION.false) (_, c.write-after.ensures, c.passed_on.ensures)

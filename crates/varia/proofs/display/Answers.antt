use borrow.Author.Tests.{ne_eqb}
use mathlib.Core.Path.{refl}
use Rattle.varia.proofs.display.Goals as goal

pub returns-then-fresh-eq2 : goal.returns-then-fresh-eq2
returns-then-fresh-eq2 c = rw c.if-fresh-eq2.true (refl, refl)

pub returns-then-kept-eq2 : goal.returns-then-kept-eq2
returns-then-kept-eq2 c = rw (ne_eqb _ _ c.if-fresh-eq2.false, c.if-kept-eq2.true) (refl, refl)

pub returns : goal.returns
returns c = rw (ne_eqb _ _ c.if-fresh-eq2.false, ne_eqb _ _ c.if-kept-eq2.false) (refl, refl)

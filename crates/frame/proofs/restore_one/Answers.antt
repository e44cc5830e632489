use mathlib.Core.Path.{refl, sym}
use borrow.Author.Tests.{eq-eqb, ne_eqb}
use Rattle.lent.proofs.Laws.{over_at_none}
use Rattle.frame.proofs.restore_one.Goals as goal

pub returns-then-after : goal.returns-then-after
returns-then-after c =
    let if1 = c.if-after in
    (rw if1.true, rw if1.true, rw (if1.true, ← c.less_64.ensures) c.lay_at.ensures)

pub returns-then-byte-eq-SUBSTITUTION : goal.returns-then-byte-eq-SUBSTITUTION
returns-then-byte-eq-SUBSTITUTION c = rw c.if-after.false (simp (eq-eqb _ _ c.if-byte-eq-SUBSTITUTION.true) (refl, refl, sym (over_at_none _ _)))

pub returns : goal.returns
returns c =
    rw c.if-after.false
    (simp (ne_eqb _ _ c.if-byte-eq-SUBSTITUTION.false) (refl, refl, c.lay_at-2.ensures))

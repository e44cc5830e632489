-- `make` refuses as row 34 says.
-- Assumes nothing.
use mathlib.Core.Path.{refl, ◌∙◌}
use mathlib.Core.Logic.{inl, inr, ⊎_elim}
use Rattle.bench.proofs.Refusals.{build_refused, build_done, make_no, make_so}
use Rattle.bench.proofs.build.make.Goals as goal

pub returns-then-address-eq0 : goal.returns-then-address-eq0
returns-then-address-eq0 c =
    build_refused _ _ _ _ _
    (make_no _ (⊎_elim (λ e. inl e) (λ p. inr p.1) c.then-address-eq0.either))
    (c.refused.ensures.0, c.refused.ensures.1 ∙ c.empty.ensures)

pub returns : goal.returns
returns c = build_done _ _ _ _ (make_so _ c.if-address-eq0.false c.if-address-gt160.false) (refl, c.empty-2.ensures)

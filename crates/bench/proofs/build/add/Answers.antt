-- `add` refuses as rows 30 to 33 say, in that order.
-- Assumes nothing.
use Rattle.std.specs.Prelude.{Some, None, is_some}
use mathlib.Core.Path.{◌≡◌, refl, sym, ◌∙◌}
use mathlib.Core.Bool.{true, false, true≢false}
use Prim.Native.Nat.{ℕ}
use Rattle.bench.specs.Answers.{Found}
use Rattle.values.proofs.Sized.{kind_known, kind_unknown}
use Rattle.bench.proofs.Places.{found_held, found_not}
use Rattle.bench.proofs.Refusals.{build_refused, build_done, add_kind, add_rights, add_there, add_full, add_so}
use Rattle.bench.proofs.build.add.Goals as goal

-- what the test of an answer tells of it
is_there : (o : Found) → is_some o ≡ true → (place : ℕ) × (o ≡ Some place)
is_there (Some place) e = (place, refl)
is_there None e = absurd (true≢false (sym e))

is_not : (o : Found) → is_some o ≡ false → o ≡ None
is_not (Some place) e = absurd (true≢false e)
is_not None e = refl

pub returns-then-size-eq0 : goal.returns-then-size-eq0
returns-then-size-eq0 c = build_refused _ _ _ _ _ (add_kind _ _ _ _ (kind_unknown _ _ c.size.ensures c.if-size-eq0.true)) c.refused.ensures

pub returns-then-rights-gt7 : goal.returns-then-rights-gt7
returns-then-rights-gt7 c = build_refused _ _ _ _ _ (add_rights _ _ _ _ (kind_known _ _ c.size.ensures c.if-size-eq0.false) c.if-rights-gt7.true) c.refused-then-rights-gt7.ensures

pub returns-then-is_some : goal.returns-then-is_some
returns-then-is_some c =
    build_refused _ _ _ _ _
    (add_there _ _ _ _ (kind_known _ _ c.size.ensures c.if-size-eq0.false) c.if-rights-gt7.false
    (found_held _ _ _ (sym c.find.ensures ∙ (is_there _ (sym c.is_some.ensures ∙ c.if-is_some.true)).1)).held)
    c.refused-then-is_some.ensures

pub returns-then-bench-ge32 : goal.returns-then-bench-ge32
returns-then-bench-ge32 c =
    build_refused _ _ _ _ _
    (add_full _ _ _ _ (kind_known _ _ c.size.ensures c.if-size-eq0.false) c.if-rights-gt7.false
    (found_not _ _ (sym c.find.ensures ∙ is_not _ (sym c.is_some.ensures ∙ c.if-is_some.false))) c.if-bench-ge32.true)
    c.refused-then-bench-ge32.ensures

pub returns : goal.returns
returns c =
    build_done _ _ _ _
    (add_so _ _ _ _ (kind_known _ _ c.size.ensures c.if-size-eq0.false) c.if-rights-gt7.false
    (found_not _ _ (sym c.find.ensures ∙ is_not _ (sym c.is_some.ensures ∙ c.if-is_some.false))) c.if-bench-ge32.false)
    (refl, c.with_register.ensures)

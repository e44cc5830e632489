use mathlib.Core.Path.{◌≡◌, sym, ◌∙◌}
use native.Mathlib.Omega.{arith}
use lib.ListN.{length}
use Rattle.first.specs.First.{first_place}
use Rattle.first.proofs.Laws.{first_at, first-none}
use Rattle.telegram.specs.Read.{is_faulty, bad_place}
use Rattle.telegram.proofs.reader.bad_place.Goals as goal

pub returns-then-is_faulty : goal.returns-then-is_faulty
unfolding bad_place
returns-then-is_faulty c =
    let s = c.args in
    (sym (first_at (is_faulty s.frame.now) _ _ c.loop-at-test.true c.loop-at.invariant (sym c.is_faulty.ensures ∙ c.if-is_faulty.true)), c.loop-at-test.true)

pub returns : goal.returns
unfolding bad_place
returns c =
    let s = c.args in
    let past : first_place (is_faulty s.frame.now) (length s.frame.now) ≡ length s.frame.now =
    first-none (is_faulty s.frame.now) _ (λ j l. c.loop-at.invariant j (omega (arith, l, c.loop-at-test.false))) in
    omega (arith, past)

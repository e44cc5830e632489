use mathlib.Core.Path.{refl}
use native.Mathlib.Omega.{arith}
use Rattle.first.proofs.Laws.{first-none}
use Rattle.ticket.specs.Rest.{is_free}
use Rattle.desk.specs.Open.{place_from, distance_of}
use Rattle.desk.specs.Desk.{ticket_at}
use Rattle.desk.proofs.Calls.{free_found, under_none}
use Rattle.desk.proofs.Standing.{passed_free, passed_more}
use Rattle.desk.proofs.free_distance.Goals as goal

pub loop-k-init : goal.loop-k-init
loop-k-init c = (
  omega arith,
  λ i l. absurd (omega arith),
  refl,
  refl,
  omega arith,
)

pub returns-then-passed-eq0 : goal.returns-then-passed-eq0
returns-then-passed-eq0 c =
    let args = c.args in
    free_found args.desk args.clock _ c.loop-k-test.true c.loop-k.invariant.1
    (passed_free args.desk args.clock c.loop-k.invariant.4 _ _ c.passed_by-passed.ensures c.if-passed-eq0.true)

pub overflow_add-k : goal.overflow_add-k
overflow_add-k c = omega (arith, c.passed_by-passed.ensures.0, c.loop-k-test.true)

pub loop-k-smaller : goal.loop-k-smaller
loop-k-smaller c = omega (arith, c.passed_by-passed.ensures.0, c.loop-k-test.true, c.if-passed-eq0.false)

pub loop-k-preserved : goal.loop-k-preserved
loop-k-preserved c =
    let args = c.args in
    let inv = c.loop-k.invariant in (
      omega (arith, c.passed_by-passed.ensures.0, c.loop-k-test.true),
      passed_more args.desk args.clock inv.4 _ _ c.passed_by-passed.ensures inv.1,
      inv.2,
      inv.3,
      inv.4,
    )

pub returns : goal.returns
unfolding distance_of
returns c =
    let args = c.args in
    under_none 95 _
    (rw (first-none (λ i. is_free args.clock (ticket_at args.desk (place_from args.desk.turn i))) 95
    (λ i l. c.loop-k.invariant.1 i (omega (arith, c.loop-k-test.false)))) (omega arith))

use native.Mathlib.Omega.{arith}
use borrow.Author.Count.{below_more}
use Rattle.std.proofs.lemmas.Option.{same_Some}
use Rattle.desk.proofs.Standing.{standing_is}
use Rattle.desk.proofs.place_where.Goals as goal

pub returns-then-holds-clause-found : goal.returns-then-holds-clause-found
returns-then-holds-clause-found g c =
    λ place e.
    rw (← same_Some _ _ e)
    (c.loop-k-test.true, rw (standing_is c.args.desk.now c.loop-k.k _ (omega arith) c.loop-k-test.true c.as_marked.ensures) c.if-holds.ensures)

pub loop-k-preserved : goal.loop-k-preserved
loop-k-preserved g c =
    below_more _ _ c.loop-k.invariant
    (rw (standing_is c.args.desk.now c.loop-k.k _ (omega arith) c.loop-k-test.true c.as_marked.ensures) c.if-holds.ensures)

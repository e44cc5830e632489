use mathlib.Core.Path.{sym, ◌∙◌}
use mathlib.Core.List.{List, []}
use mathlib.Core.Path.{◌≡◌}
use Prim.Native.Nat.{ℕ, ◌+◌, ◌<◌}
use native.Mathlib.Omega.{arith}
use lib.ListN.{length, get_or, drop, drop_of_length-le}
use Rattle.lent.proofs.Laws.{over_at_append, over_at_past, over_at_none}
use Rattle.lent.specs.Lent.{over_at}
use Rattle.frame.proofs.Laws.{substituted_next, taken_two}
use Rattle.frame.specs.Frame.{substitute, substituted}
use Rattle.frame.proofs.substitute_at.Goals as goal

step : (m room w : List ℕ) (to i r : ℕ) (room' : List ℕ) → i < length m → r ≡ length (substitute (get_or m i 0))
    → room' ≡ over_at to (substitute (get_or m i 0)) room → over_at to (substituted (drop i m)) room ≡ w → over_at (to + r) (substituted (drop (i + 1) m)) room' ≡ w
step m room w to i r room' h e laid inv =
    rw (e, laid) (over_at_append to (substitute (get_or m i 0)) (substituted (drop (i + 1) m)) room ∙ (rw (substituted_next m i h) at inv))

pub returns-then-room-to : goal.returns-then-room-to
returns-then-room-to c = sym (over_at_past _ _ _ c.if-room-to.true) ∙ c.loop-byte.invariant

pub overflow_add-to : goal.overflow_add-to
overflow_add-to c =
    let good = c.well_formed in
    let args = c.args in
    let loop = c.loop-byte in
    record { fits = omega (arith, good.1.0.1, taken_two args.message.now loop.byte-index c.substitute_one-to.ensures.0) }

pub loop-byte-preserved : goal.loop-byte-preserved
loop-byte-preserved c =
    let laid = c.substitute_one-to.ensures in
    step _ _ _ _ _ _ _ c.loop-byte-test.true laid.0 laid.1 c.loop-byte.invariant

pub returns : goal.returns
unfolding substituted
returns c =
    let end : drop c.loop-byte.byte-index c.args.message.now ≡ [] = drop_of_length-le _ c.loop-byte-test.false in
    sym (over_at_none c.loop-byte.to c.loop-byte.room) ∙ (rw end at c.loop-byte.invariant)

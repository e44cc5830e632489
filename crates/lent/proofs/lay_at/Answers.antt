use mathlib.Core.Path.{◌≡◌, sym, ◌∙◌}
use mathlib.Core.List.{List, []}
use Prim.Native.Nat.{ℕ, suc, ◌+◌, ◌<◌}
use native.Mathlib.Numerals.{add-one}
use lib.ListN.{length, get_or, drop, set, drop_of_length-le}
use lib.Seq.{drop-cons}
use Rattle.lent.specs.Lent.{over_at}
use Rattle.lent.proofs.Laws.{over_at_none, over_at_past, over_at_set}
use Rattle.lent.proofs.lay_at.Goals as goal

step : (bytes room w : List ℕ) (to i : ℕ) → i < length bytes → to < length room → over_at to (drop i bytes) room ≡ w
    → over_at (to + 1) (drop (i + 1) bytes) (set room to (get_or bytes i 0)) ≡ w
step bytes room w to i hi ht inv =
    rw (add-one to, add-one i) (over_at_set to (get_or bytes i 0) (drop (suc i) bytes) room ht ∙ (rw (drop-cons bytes i 0 hi) at inv))

pub returns-then-room-to : goal.returns-then-room-to
returns-then-room-to c = sym (over_at_past _ _ _ c.if-room-to.true) ∙ c.loop-byte.invariant

pub loop-byte-preserved : goal.loop-byte-preserved
loop-byte-preserved c = step _ _ _ _ _ c.loop-byte-test.true c.if-room-to.false c.loop-byte.invariant

pub returns : goal.returns
returns c =
    let end : drop c.loop-byte.byte-index c.args.bytes.now ≡ [] = drop_of_length-le _ c.loop-byte-test.false in
    sym (over_at_none c.loop-byte.to c.loop-byte.room) ∙ (rw end at c.loop-byte.invariant)

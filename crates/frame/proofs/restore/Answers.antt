use mathlib.Core.Bool.{Bool}
use mathlib.Core.Path.{◌≡◌, sym, ap, ◌∙◌}
use mathlib.Core.List.{List, []}
use Prim.Native.Nat.{◌+◌, ℕ, ◌<◌}
use native.Mathlib.Omega.{arith}
use native.Mathlib.Nat.{add-zero}
use lib.ListN.{length, drop, get_or, length-append, drop_of_length-le}
use Rattle.lent.specs.Lent.{over_at}
use Rattle.lent.proofs.Laws.{over_at_none, over_at_append, over_at_zero}
use Rattle.frame.specs.Frame.{restored, restore, opens}
use Rattle.frame.proofs.Laws.{restored_next, given_one}
use Rattle.frame.proofs.restore.Goals as goal

step : (xs room w room' : List ℕ) (after opened : Bool) (n i r : ℕ) → i < length xs → opened ≡ opens after (get_or xs i 0)
    → (r ≡ length (restore after (get_or xs i 0))) × (room' ≡ over_at n (restore after (get_or xs i 0)) room)
    → over_at n (restored after (drop i xs)) room ≡ w → over_at (n + r) (restored opened (drop (i + 1) xs)) room' ≡ w
step xs room w room' after opened n i r h o e inv =
    rw (o, e.0, e.1) (over_at_append n (restore after (get_or xs i 0)) (restored (opens after (get_or xs i 0)) (drop (i + 1) xs)) room ∙ (rw (restored_next after xs i h) at inv))

counted : (xs : List ℕ) (after opened : Bool) (n i r w : ℕ) → i < length xs → opened ≡ opens after (get_or xs i 0) → r ≡ length (restore after (get_or xs i 0))
    → n + length (restored after (drop i xs)) ≡ w → n + r + length (restored opened (drop (i + 1) xs)) ≡ w
counted xs after opened n i r w h o e inv =
    let parts : length (restored after (drop i xs)) ≡ length (restore after (get_or xs i 0)) + length (restored opened (drop (i + 1) xs)) =
    ap length (restored_next after xs i h) ∙ length-append (restore after (get_or xs i 0)) (restored (opens after (get_or xs i 0)) (drop (i + 1) xs))
    ∙ ap (λ (t : Bool). length (restore after (get_or xs i 0)) + length (restored t (drop (i + 1) xs))) (sym o) in
    omega arith

pub loop-byte-init : goal.loop-byte-init
loop-byte-init c = (omega arith, omega arith, over_at_zero _ _)

pub overflow_add-n : goal.overflow_add-n
overflow_add-n c =
    let args = c.args in
    let loop = c.loop-byte in
    record { fits = omega (arith, given_one loop.after args.bytes.now loop.byte-index c.restore_one-turned.ensures.0) }

pub loop-byte-preserved : goal.loop-byte-preserved
loop-byte-preserved c =
    let loop = c.loop-byte in
    let here = c.loop-byte-test.true in
    let turned = c.restore_one-turned.ensures in (
      omega (arith, given_one loop.after c.args.bytes.now loop.byte-index turned.0),
      counted _ _ _ _ _ _ _ here turned.1 turned.0 loop.invariant.1,
      step _ _ _ _ _ _ _ _ _ here turned.1 (turned.0, turned.2) loop.invariant.2,
    )

pub returns : goal.returns
unfolding restored
returns c =
    let end : drop c.loop-byte.byte-index c.args.bytes.now ≡ [] = drop_of_length-le _ c.loop-byte-test.false in
    (sym (add-zero _) ∙ (rw end at c.loop-byte.invariant.1), sym (over_at_none c.loop-byte.n c.loop-byte.room) ∙ (rw end at c.loop-byte.invariant.2))

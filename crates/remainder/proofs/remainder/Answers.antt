use mathlib.Core.Path.{◌≡◌, refl}
use mathlib.Core.List.{List, []}
use Prim.Native.Nat.{ℕ, ◌+◌, ◌<◌}
use native.Mathlib.Numerals.{add-one}
use native.Mathlib.Omega.{arith}
use lib.ListN.{length, get_or, drop, drop_of_length-le}
use lib.Seq.{drop-cons}
use Rattle.remainder.specs.Remainder.{with_byte, with_bytes, remainder_of}
use Rattle.remainder.proofs.Halves.{table_right, byte_under}
use Rattle.remainder.proofs.remainder.Goals as goal

step : (bytes : List ℕ) (i sum next w : ℕ) → i < length bytes → next ≡ with_byte sum (get_or bytes i 0)
    → with_bytes sum (drop i bytes) ≡ w → with_bytes next (drop (i + 1) bytes) ≡ w
unfolding with_bytes
step bytes i sum next w h e inv = rw (add-one, e) (rw (drop-cons bytes i 0 h) at inv)

pub loop-byte-init : goal.loop-byte-init
unfolding remainder_of
loop-byte-init c = (refl, omega arith)

pub with_byte-sum-requires : goal.with_byte-sum-requires
with_byte-sum-requires c = (c.loop-byte.invariant.1, table_right)

pub loop-byte-preserved : goal.loop-byte-preserved
loop-byte-preserved c =
    let loop = c.loop-byte in
    let added = c.with_byte-sum.ensures in
    (step _ _ _ _ _ c.loop-byte-test.true added loop.invariant.0, rw added (byte_under _ _ loop.invariant.1))

pub returns : goal.returns
unfolding with_bytes
returns c =
    let end : drop c.loop-byte.byte-index c.args.bytes.now ≡ [] = drop_of_length-le _ c.loop-byte-test.false in
    rw end at c.loop-byte.invariant.0

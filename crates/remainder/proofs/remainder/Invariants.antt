-- `remainder` is `remainder_of`. The invariant: going on from `sum` with the bytes that are left gives the result.
-- Assumes nothing.
use mathlib.Core.Path.{◌≡◌}
use Prim.Native.Nat.{◌^◌, ◌<◌}
use lib.ListN.{drop}
use Rattle.remainder.specs.Remainder.{with_bytes, remainder_of}
use Rattle.remainder.proofs.remainder.Given as goal

abbrev pub invariant-loop-byte : goal.invariant-loop-byte
invariant-loop-byte l = (with_bytes l.sum (drop l.byte-index l.bytes) ≡ remainder_of l.bytes) × (l.sum < 2 ^ 16)

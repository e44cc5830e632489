use mathlib.Core.Path.{◌≡◌}
use Prim.Native.Nat.{◌+◌, ◌*◌}
use lib.ListN.{drop}
use Rattle.lent.specs.Lent.{over_at}
use Rattle.sheet_teller.specs.Teller.{hex_of}
use Rattle.sheet_teller.proofs.pieces.hex_at.Given as goal

abbrev pub invariant-loop-byte : goal.invariant-loop-byte
invariant-loop-byte l = (l.to ≡ l.at + 2 * l.byte-index) × (over_at l.to (hex_of (drop l.byte-index l.bytes)) l.room ≡ over_at l.at (hex_of l.bytes) l.initial.room)

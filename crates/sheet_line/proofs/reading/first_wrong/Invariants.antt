use mathlib.Core.Path.{◌≡◌}
use mathlib.Core.Bool.{false}
use Prim.Native.Nat.{ℕ, ◌≤◌, ◌<◌}
use lib.ListN.{length, drop}
use Rattle.sheet_line.specs.Words.{words_in}
use Rattle.sheet_line.specs.Line.{is_no_number}
use Rattle.sheet_line.proofs.reading.first_wrong.Given as goal

abbrev pub invariant-loop-k : goal.invariant-loop-k
invariant-loop-k l = (l.at ≤ length l.text) × (drop l.k (words_in l.text) ≡ words_in (drop l.at l.text)) × ((j : ℕ) → j < l.k → is_no_number (words_in l.text) j ≡ false)

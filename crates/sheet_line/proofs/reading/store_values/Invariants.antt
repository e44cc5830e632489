use mathlib.Core.Path.{◌≡◌}
use mathlib.Core.Bool.{false}
use Prim.Native.Nat.{ℕ, ◌≤◌, ◌<◌}
use lib.ListN.{length, drop}
use Rattle.lent.specs.Lent.{over}
use Rattle.sheet_line.specs.Words.{words_in}
use Rattle.sheet_line.specs.Parts.{unfit_in, bytes_for}
use Rattle.sheet_line.proofs.Storing.{Laid}
use Rattle.sheet_line.proofs.reading.store_values.Given as goal

abbrev pub invariant-loop-k : goal.invariant-loop-k
invariant-loop-k l = (l.from ≤ length l.text) × (drop l.k (words_in (drop l.at l.text)) ≡ words_in (drop l.from l.text))
    × ((j : ℕ) → j < l.k → unfit_in l.head.kind (words_in (drop l.at l.text)) j ≡ false)
    × Laid l.head.kind l.size l.head.count (words_in (drop l.at l.text)) (over (bytes_for l.head (words_in (drop l.at l.text))) l.initial.space) l.k l.space

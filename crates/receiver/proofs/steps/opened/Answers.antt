use mathlib.Core.Path.{ap}
use mathlib.Core.List.{List}
use Prim.Native.Nat.{ℕ, ◌+◌}
use Rattle.receiver.proofs.Returns.{first-kept}
use Rattle.receiver.proofs.steps.opened.Goals as goal

pub returns : goal.returns
returns c = ap (λ (bytes : List ℕ). record { place = c.args.place + 1; start = c.args.place; size = 1; bytes = bytes }) first-kept

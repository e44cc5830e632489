use mathlib.Core.Path.{ap, ◌∙◌}
use mathlib.Core.List.{List}
use Prim.Native.Nat.{ℕ}
use Rattle.lent.specs.Lent.{over_at}
use Rattle.sheet_writer.proofs.Steps.{header_bytes}
use Rattle.sheet_writer.proofs.lay_header.Goals as goal

pub returns : goal.returns
returns c = c.lay_at.ensures ∙ ap (λ (l : List ℕ). over_at 0 l c.args.room.now) (header_bytes c.args.n c.requires)

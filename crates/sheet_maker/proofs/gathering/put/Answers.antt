use mathlib.Core.Path.{refl, ap, ◌∙◌}
use native.Mathlib.Omega.{arith}
use Rattle.lent.specs.Lent.{over_at}
use mathlib.Core.List.{List}
use Prim.Native.Nat.{ℕ, ◌*◌}
use Rattle.sheet_maker.proofs.Steps.{row_laid}
use Rattle.sheet_maker.proofs.gathering.put.Goals as goal

pub returns : goal.returns
returns c =
    let first = c.lay_at in
    let second = c.lay_at-2 in
    record {
      many = refl;
      size = refl;
      before = refl;
      wrong = refl;
      told = refl;
      in_rows = first.ensures ∙ ap (λ (l : List ℕ). over_at (8 * c.args.page.many) l c.args.rows.now) (row_laid c.args.head _ (omega (arith, c.requires.2)));
      in_values = second.ensures;
    }

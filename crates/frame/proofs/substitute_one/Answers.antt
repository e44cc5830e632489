use mathlib.Core.Path.{refl, sym, ◌∙◌}
use Prim.Native.Nat.{◌≤◌}
use native.Mathlib.Omega.{arith}
use Rattle.frame.proofs.Laws.{special_under}
use Rattle.frame.proofs.substitute_one.Goals as goal

pub overflow_add-byte : goal.overflow_add-byte
overflow_add-byte c = record { fits = let h : c.args.byte ≤ 94 = special_under _ (sym c.special.ensures ∙ c.if-special.true) in omega arith }

pub returns-then-special : goal.returns-then-special
returns-then-special c = rw (← c.special.ensures, c.if-special.true) (refl, c.lay_at.ensures)

pub returns-else-special : goal.returns-else-special
returns-else-special c = rw (← c.special.ensures, c.if-special.false) (refl, c.lay_at-else-special.ensures)

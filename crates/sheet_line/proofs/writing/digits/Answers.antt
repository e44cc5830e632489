-- `digits`: what `decimal_at` spelled, and a place at most 20 on.
-- Assumes nothing.
use mathlib.Core.Path.{ap}
use Prim.Native.Nat.{ℕ, ◌+◌}
use native.Mathlib.Omega.{arith}
use Rattle.text.proofs.Laws.{spelled_short}
use Rattle.sheet_line.proofs.writing.digits.Goals as goal

pub overflow_add-result : goal.overflow_add-result
overflow_add-result c =
    let short = spelled_short _ _ _ _ _ c.decimal_at.ensures in
    record { fits = omega (arith, short) }

pub returns : goal.returns
returns c =
    let spelled = c.decimal_at.ensures in
    let at = c.args.at in
    ((ap (λ (k : ℕ). at + k) spelled.0, spelled.1), omega (arith, spelled_short _ _ _ _ _ spelled))

-- `stray_end` looks for either end among the bytes.
-- Assumes nothing.
use mathlib.Core.Bool.{◌||◌}
use mathlib.Core.Path.{refl}
use lib.Dec.{eqb}
use Rattle.std.proofs.Common.{rules}
use Rattle.std.proofs.lemmas.List.Recursion.{or_is}
use Rattle.telegram.specs.Read.{has_stray_end}
use Rattle.telegram.proofs.reader.stray_end.Goals as goal

pub returns : goal.returns
unfolding has_stray_end
returns c = or_is has_stray_end (λ b. eqb b 10 || eqb b 13) refl (λ _ _. refl) c.args.bytes.now 0 _ (search rules) (search rules)

use mathlib.Core.Path.{◌≡◌}
use Prim.Native.Nat.{◌-◌}
use native.Mathlib.Omega.{arith}
use lib.ListN.{length}
use Rattle.frame.specs.Frame.{between}
use Rattle.telegram.proofs.reader.inside.Goals as goal

pub returns : goal.returns
unfolding between
returns c = let two : length c.args.frame.now - 1 - 1 ≡ length c.args.frame.now - 2 = omega arith in rw two

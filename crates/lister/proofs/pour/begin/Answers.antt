use Rattle.std.proofs.Common.{refl}
use Rattle.lister.proofs.pour.begin.Goals as goal

pub returns : goal.returns
returns c = rw (c.fresh.ensures, c.cleared.ensures) refl

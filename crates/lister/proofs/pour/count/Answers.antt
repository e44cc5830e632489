use Rattle.std.proofs.Common.{refl}
use Rattle.lister.proofs.pour.count.Goals as goal

pub returns : goal.returns
returns c =
    let kinds = c.kinds_of-kinds.ensures in
    rw (c.wrapping_add_u64.ensures.value, c.wrapping_add_u64-2.ensures.value, c.wrapping_add_u64-3.ensures.value, kinds) refl

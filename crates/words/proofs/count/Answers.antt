use Rattle.std.proofs.Common.{length, sym, le_refl, le_of_lt, length-take-le}
use Rattle.words.proofs.count.Goals as goal

pub returns-then-n-space : goal.returns-then-n-space
returns-then-n-space c = (le_of_lt c.if-n-space.true, sym (length-take-le _ _ (le_of_lt c.if-n-space.true)))

pub returns-else-n-space : goal.returns-else-n-space
returns-else-n-space c = (le_refl _, sym (length-take-le (length c.args.space.now) c.args.space.now (le_refl _)))

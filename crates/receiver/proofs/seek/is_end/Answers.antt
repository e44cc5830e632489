use mathlib.Core.Path.{refl}
use borrow.Author.Tests.{ne_eqb}
use Rattle.receiver.proofs.seek.is_end.Goals as goal

pub returns-then-byte-eq-END : goal.returns-then-byte-eq-END
returns-then-byte-eq-END c = rw c.if-byte-eq-END.true

pub returns-else-byte-eq-END : goal.returns-else-byte-eq-END
returns-else-byte-eq-END c = rw (ne_eqb c.args.byte 10 c.if-byte-eq-END.false) refl

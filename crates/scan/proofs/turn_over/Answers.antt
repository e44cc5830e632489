use borrow.Author.Tests.{le-leb, lt-leb}
use Rattle.scan.proofs.turn_over.Goals as goal

pub returns-then-scan-ge-TURNS : goal.returns-then-scan-ge-TURNS
returns-then-scan-ge-TURNS c = rw (le-leb 160 _ c.if-scan-ge-TURNS.true)

pub returns : goal.returns
returns c = rw (lt-leb 160 _ c.if-scan-ge-TURNS.false)

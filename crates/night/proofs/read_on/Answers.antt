use borrow.Author.Rules.{rules}
use Rattle.night.proofs.Laws.{is_over_lem}
use Rattle.night.proofs.read_on.Goals as goal

pub returns-in_default : goal.returns-in_default
returns-in_default c = (is_over_lem c.unread.ensures, search rules)

pub returns-then-n-eq0 : goal.returns-then-n-eq0
returns-then-n-eq0 c = (is_over_lem c.finish.ensures, search rules)

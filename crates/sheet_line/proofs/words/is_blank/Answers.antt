use borrow.Author.Rules.{rules}
use Rattle.sheet_line.specs.Words.{is_blank}
use Rattle.sheet_line.proofs.words.is_blank.Goals as goal

pub returns-in-32 : goal.returns-in-32
unfolding is_blank
returns-in-32 c = search rules

pub returns-in_default : goal.returns-in_default
unfolding is_blank
returns-in_default c = search rules

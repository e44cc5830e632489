use borrow.Author.Rules.{rules}
use Rattle.sheet_line.proofs.Spacing.{end_told}
use Rattle.sheet_line.proofs.words.word_end.Goals as goal

pub returns-clause-word : goal.returns-clause-word
returns-clause-word c = (end_told c.args.text.now c.args.at c.unwrap_or.result (search rules) (search rules) (search rules)).0

pub returns-clause-goes_on : goal.returns-clause-goes_on
returns-clause-goes_on c = (end_told c.args.text.now c.args.at c.unwrap_or.result (search rules) (search rules) (search rules)).1

use borrow.Author.Rules.{rules}
use Rattle.sheet_line.proofs.Spacing.{plain_to}
use Rattle.sheet_line.proofs.words.plain_end.Goals as goal

pub returns : goal.returns
returns c = (search rules, plain_to c.args.text.now c.unwrap_or.result (search rules) (search rules) (search rules))

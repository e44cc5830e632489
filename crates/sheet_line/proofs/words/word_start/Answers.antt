use borrow.Author.Rules.{rules}
use Rattle.sheet_line.proofs.Spacing.{start_told}
use Rattle.sheet_line.proofs.words.word_start.Goals as goal

pub returns-clause-same_words : goal.returns-clause-same_words
returns-clause-same_words c = start_told c.args.text.now c.args.at c.unwrap_or.result (search rules) (search rules)

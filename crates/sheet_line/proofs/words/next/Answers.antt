use Rattle.sheet_line.proofs.Spacing.{next_word, next-left, next-none, next-some}
use Rattle.sheet_line.proofs.words.next.Goals as goal

pub returns : goal.returns
returns c =
    let at = c.args.at in
    let text = c.args.text.now in
    let start = c.word_start-from.ensures in
    let end = c.word_end.ensures in
    let from = c.word_start-from.result in
    let to = c.word_end.result in
    record {
      in_order = (start.in_text.0, end.in_text.0, end.in_text.1);
      word = next_word text at from to end.in_text.1 start.same_words start.no_blank (end.word, end.goes_on);
      goes_on = next-left text at from to end.in_text.1 start.same_words start.no_blank (end.word, end.goes_on);
      none_left = next-none text at from to end.in_text.1 start.same_words start.no_blank (end.word, end.goes_on);
      one_found = next-some text at from to end.in_text.1 start.same_words start.no_blank (end.word, end.goes_on);
    }

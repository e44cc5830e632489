use Rattle.sheet_line.specs.Words.{words_in}
use Rattle.sheet_line.proofs.Steps.{four_left, four_said}
use Rattle.sheet_line.proofs.reading.first_four.Goals as goal

pub returns : goal.returns
returns c =
    let fourth = c.small-count.ensures in
    let third = c.next-kind.ensures in
    let second = c.small-register.ensures in
    let first = c.small-unit.ensures in
    let words = words_in c.args.text.now in
    record {
      says = four_said words first.goes_on.1 second.goes_on.1 third.goes_on c.small-count.result.at first.number second.number third.word c.kind.ensures fourth.number;
      goes_on = (fourth.goes_on.0, four_left words first.goes_on.1 second.goes_on.1 third.goes_on fourth.goes_on.1);
    }

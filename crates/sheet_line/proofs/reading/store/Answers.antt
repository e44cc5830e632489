use mathlib.Core.Path.{sym, ◌∙◌}
use mathlib.Core.Bool.{true≢false}
use Rattle.sheet_line.proofs.Storing.{value_fits, value_laid, value_refused, unread_refused}
use Rattle.sheet_line.proofs.reading.store.Goals as goal

pub returns-in-Ok : goal.returns-in-Ok
returns-in-Ok c =
    let kept = c.as_stored.ensures in
    let read = c.read.ensures in
    record {
      fitting = value_fits c.args.kind c.args.word.now c.requires.0 c.requires.1 read _ c.in-Is.is (sym kept ∙ c.in-Ok.is);
      stored = λ t. value_laid c.args.kind c.args.word.now c.requires.0 c.requires.1 read _ c.in-Is.is c.args.at c.args.space.now (sym kept ∙ c.in-Ok.is)
          c.size.ensures c.requires.2 c.store.ensures;
    }

pub returns-in-Err : goal.returns-in-Err
returns-in-Err c = record {
  fitting = value_refused c.args.kind c.args.word.now c.requires.0 c.requires.1 c.read.ensures _ c.in-Is.is _ (sym c.as_stored.ensures ∙ c.in-Err.is);
  stored = λ t. absurd (true≢false (sym t));
}

pub returns-in_default : goal.returns-in_default
returns-in_default c = record {
  fitting = unread_refused c.args.kind c.args.word.now c.requires.0 c.requires.1 c.read.ensures c.requires.3 c.in_default.not-Is;
  stored = λ t. absurd (true≢false (sym t));
}

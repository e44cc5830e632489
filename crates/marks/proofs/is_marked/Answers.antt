use Rattle.marks.specs.Marks.{is_marked}
use Rattle.marks.proofs.is_marked.Goals as goal

pub returns : goal.returns
unfolding is_marked
returns c = rw (← c.word_of.ensures) c.bit.ensures

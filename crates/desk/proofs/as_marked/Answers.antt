use Rattle.desk.proofs.as_marked.Goals as goal

pub returns : goal.returns
returns c = rw c.is_marked.ensures

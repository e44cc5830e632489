use Rattle.lister.proofs.pour.ran.Goals as goal

pub returns : goal.returns
returns c = rw c.ran_answer.ensures

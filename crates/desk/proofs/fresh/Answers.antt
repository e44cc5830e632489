use Rattle.desk.proofs.fresh.Goals as goal

pub returns : goal.returns
returns c = rw c.none-marks.ensures

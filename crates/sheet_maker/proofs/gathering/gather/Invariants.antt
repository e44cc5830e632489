use lib.ListN.{length, drop}
use Rattle.sheet_maker.specs.Maker.{lines_of}
use Rattle.sheet_maker.specs.Gathering.{Gathered}
use Rattle.sheet_maker.proofs.gathering.gather.Given as goal

abbrev pub invariant-loop-index : goal.invariant-loop-index
invariant-loop-index l = Gathered l.text (drop (length l.yielded) (lines_of l.text)) (length l.yielded) l.page l.initial.rows l.rows l.initial.values l.values l.initial.list l.list

-- `kind`: in each arm the word laid is the name, and 0 or anything past 7 has a question mark.
-- Assumes nothing.
use mathlib.Core.Path.{ap}
use native.Mathlib.Omega.{arith}
use Rattle.sheet_line.specs.Line.{name_of}
use Rattle.sheet_line.proofs.Pieces.{no_name, name_put}
use Rattle.sheet_line.proofs.writing.kind.Goals as goal

pub returns-in-1 : goal.returns-in-1
unfolding name_of
returns-in-1 c = name_put c.args.kind _ _ _ _ _ (ap name_of c.in-1.is) c.word.ensures

pub returns-in-2 : goal.returns-in-2
unfolding name_of
returns-in-2 c = name_put c.args.kind _ _ _ _ _ (ap name_of c.in-2.is) c.word-in-2.ensures

pub returns-in-3 : goal.returns-in-3
unfolding name_of
returns-in-3 c = name_put c.args.kind _ _ _ _ _ (ap name_of c.in-3.is) c.word-in-3.ensures

pub returns-in-4 : goal.returns-in-4
unfolding name_of
returns-in-4 c = name_put c.args.kind _ _ _ _ _ (ap name_of c.in-4.is) c.word-in-4.ensures

pub returns-in-5 : goal.returns-in-5
unfolding name_of
returns-in-5 c = name_put c.args.kind _ _ _ _ _ (ap name_of c.in-5.is) c.word-in-5.ensures

pub returns-in-6 : goal.returns-in-6
unfolding name_of
returns-in-6 c = name_put c.args.kind _ _ _ _ _ (ap name_of c.in-6.is) c.word-in-6.ensures

pub returns-in-7 : goal.returns-in-7
unfolding name_of
returns-in-7 c = name_put c.args.kind _ _ _ _ _ (ap name_of c.in-7.is) c.word-in-7.ensures

pub returns-in_default : goal.returns-in_default
returns-in_default c =
    let none = no_name c.args.kind (omega arith) (omega arith) (omega arith) (omega arith) (omega arith) (omega arith) (omega arith) in
    name_put c.args.kind _ _ _ _ _ none c.word-in_default.ensures

-- By whether the word is a number, and whether 64 bits hold its digits.
-- Assumes nothing.
use Rattle.numerals.proofs.Steps.{read_is, read_huge, read_nothing}
use Rattle.numerals.proofs.read.Goals as goal

pub returns-in-Some : goal.returns-in-Some
returns-in-Some c =
    read_is _ _ _ _ _ _ c.is_number.ensures c.if-is_number.true c.amount_of.ensures c.in-Some.is
    c.is_minus.ensures c.signed.ensures

pub returns-in-None : goal.returns-in-None
returns-in-None c = read_huge _ _ _ c.is_number.ensures c.if-is_number.true c.amount_of.ensures c.in-None.is

pub returns-else-is_number : goal.returns-else-is_number
returns-else-is_number c = read_nothing _ _ c.is_number.ensures c.if-is_number.false

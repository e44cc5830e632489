-- `element_at`: a blank and the text of what `read` answered; one more than a `Negative` holds is still a number of 64 bits.
-- Assumes nothing.
use native.Mathlib.Omega.{arith}
use Rattle.text.proofs.Laws.{puts_then}
use Rattle.sheet_line.proofs.Pieces.{puts_as, read_as, read_small, natural_text, negative_text, no_text}
use Rattle.sheet_line.proofs.writing.element_at.Goals as goal

pub overflow_add-n : goal.overflow_add-n
overflow_add-n c =
    let e = read_as _ _ _ _ _ _ c.read.ensures c.in-Ok-Negative.is c.in-Ok-Negative.field-0-is in
    let small = read_small _ _ _ _ (λ i. (c.type_inv.value i).fits) e in
    record { fits = omega (arith, small) }

pub returns-in-Ok-Natural : goal.returns-in-Ok-Natural
returns-in-Ok-Natural c =
    let e = read_as _ _ _ _ _ _ c.read.ensures c.in-Ok-Natural.is c.in-Ok-Natural.field-0-is in
    let field = c.field in
    (puts_as _ _ _ _ _ _ (natural_text _ _ _ _ e) field.ensures.0, omega (arith, field.ensures.1))

pub returns-in-Ok-Negative : goal.returns-in-Ok-Negative
returns-in-Ok-Negative c =
    let e = read_as _ _ _ _ _ _ c.read.ensures c.in-Ok-Negative.is c.in-Ok-Negative.field-0-is in
    let sign = c.word-a.ensures in
    let digits = c.digits.ensures in
    (puts_as _ _ _ _ _ _ (negative_text _ _ _ _ e) (puts_then _ _ _ _ _ _ _ _ sign digits.0), omega (arith, sign.0, digits.1))

pub returns-in-Err : goal.returns-in-Err
returns-in-Err c =
    let word = c.word.ensures in
    (puts_as _ _ _ _ _ _ (no_text _ _ _ _ _ c.read.ensures c.in-Err.is) word, omega (arith, word.0))

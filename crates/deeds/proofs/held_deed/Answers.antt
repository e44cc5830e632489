-- `held_deed` goes by the type of the request.
-- Assumes nothing.
use mathlib.Core.Path.{◌∙◌}
use Rattle.deeds.proofs.Deeds.{deed_read, deed_write, deed_bits, deed_other}
use Rattle.deeds.proofs.held_deed.Goals as goal

pub returns-then-sort-eq-READ : goal.returns-then-sort-eq-READ
returns-then-sort-eq-READ c = c.read_deed.ensures ∙ deed_read _ _ _ c.if-sort-eq-READ.true

pub returns-then-sort-eq-WRITE : goal.returns-then-sort-eq-WRITE
returns-then-sort-eq-WRITE c = c.write_deed.ensures ∙ deed_write _ _ _ _ c.load-mask.ensures c.if-sort-eq-WRITE.true

pub returns-then-is_bit_write : goal.returns-then-is_bit_write
returns-then-is_bit_write c =
    c.write_deed-then-is_bit_write.ensures
    ∙ deed_bits _ _ _ _ c.load-mask.ensures _ _
    c.is_bit_write.ensures c.if-is_bit_write.true
    c.if-sort-eq-READ.false c.if-sort-eq-WRITE.false c.changed.ensures

pub returns : goal.returns
returns c =
    c.nack.ensures
    ∙ deed_other _ _ _ _ c.is_bit_write.ensures c.if-is_bit_write.false
    c.if-sort-eq-READ.false c.if-sort-eq-WRITE.false

use Rattle.sheet.proofs.Steps.{wrong_count, wrong_records, wrong_values, header_told}
use Rattle.sheet.proofs.is_wrong_header.Goals as goal

pub returns-then-n-gt-MOST : goal.returns-then-n-gt-MOST
returns-then-n-gt-MOST c = wrong_count _ _ c.field-n.ensures c.if-n-gt-MOST.true

pub returns-then-field-ne-HEADER : goal.returns-then-field-ne-HEADER
returns-then-field-ne-HEADER c = wrong_records _ _ _ c.field-n.ensures c.if-n-gt-MOST.false c.field.ensures c.if-field-ne-HEADER.true

pub returns-then-end-n : goal.returns-then-end-n
returns-then-end-n c =
    wrong_values _ _ _ _ c.field-n.ensures c.if-n-gt-MOST.false c.field.ensures c.if-field-ne-HEADER.false
    c.field-end.ensures c.if-end-n.true

pub returns : goal.returns
returns c =
    header_told _ _ _ _ c.field-n.ensures c.if-n-gt-MOST.false c.field.ensures c.if-field-ne-HEADER.false
    c.field-end.ensures c.if-end-n.false

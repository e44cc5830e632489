use Rattle.sheet.proofs.Steps.{header_right, check_short, check_other, check_header, check_rest}
use Rattle.sheet.proofs.check.Goals as goal

pub returns-then-sheet-lt-HEADER : goal.returns-then-sheet-lt-HEADER
returns-then-sheet-lt-HEADER c = check_short _ c.if-sheet-lt-HEADER.true

pub returns-then-field-ne-VERSION : goal.returns-then-field-ne-VERSION
returns-then-field-ne-VERSION c = check_other _ _ c.if-sheet-lt-HEADER.false c.field.ensures c.if-field-ne-VERSION.true

pub returns-then-is_wrong_header : goal.returns-then-is_wrong_header
returns-then-is_wrong_header c = check_header _ _ c.if-sheet-lt-HEADER.false c.field.ensures c.if-field-ne-VERSION.false c.is_wrong_header.ensures c.if-is_wrong_header.true

pub check_records-requires : goal.check_records-requires
check_records-requires c = header_right _ c.is_wrong_header.ensures c.if-is_wrong_header.false

pub returns : goal.returns
returns c =
    check_rest _ _ c.if-sheet-lt-HEADER.false c.field.ensures c.if-field-ne-VERSION.false c.is_wrong_header.ensures c.if-is_wrong_header.false
    c.check_records.ensures

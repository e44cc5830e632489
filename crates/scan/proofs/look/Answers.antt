use Rattle.scan.proofs.Calls.{look_none, look_later, look_past, look_absent, look_present}
use Rattle.scan.proofs.look.Goals as goal

pub returns-then-unit-eq0 : goal.returns-then-unit-eq0
returns-then-unit-eq0 c = look_none c.args.scan c.args.unit c.if-unit-eq0.true

pub returns-then-scan-unit : goal.returns-then-scan-unit
returns-then-scan-unit c = look_later c.args.scan c.args.unit c.if-unit-eq0.false c.if-scan-unit.true

pub returns-then-unit-gt-TURNS : goal.returns-then-unit-gt-TURNS
returns-then-unit-gt-TURNS c = let s = c.args in look_past s.scan s.unit c.if-unit-eq0.false c.if-scan-unit.false c.if-unit-gt-TURNS.true

pub returns-then-result-eq-ABSENT : goal.returns-then-result-eq-ABSENT
returns-then-result-eq-ABSENT c =
    let s = c.args in
    look_absent s.scan s.unit c.if-unit-eq0.false c.if-scan-unit.false c.if-unit-gt-TURNS.false c.if-result-eq-ABSENT.true

pub returns : goal.returns
returns c =
    let s = c.args in
    look_present s.scan s.unit c.if-unit-eq0.false c.if-scan-unit.false c.if-unit-gt-TURNS.false c.if-result-eq-ABSENT.false

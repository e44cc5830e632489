use Rattle.scan.proofs.Calls.{step_done, step_waits, step_asks}
use Rattle.scan.proofs.step.Goals as goal

pub returns-then-scan-ge-TURNS : goal.returns-then-scan-ge-TURNS
returns-then-scan-ge-TURNS c = let s = c.args in step_done s.scan s.desk s.clock _ _ c.if-scan-ge-TURNS.true c.stays.ensures

pub returns-then-scan-ne0 : goal.returns-then-scan-ne0
returns-then-scan-ne0 c =
    let s = c.args in
    step_waits s.scan s.desk s.clock _ _ c.if-scan-ge-TURNS.false c.if-scan-ne0.true c.stays-then-scan-ne0.ensures

pub returns : goal.returns
returns c =
    let s = c.args in
    step_asks s.scan s.desk s.clock _ _ c.«open».result _ c.if-scan-ge-TURNS.false c.if-scan-ne0.false c.«open».ensures c.passed_on.ensures

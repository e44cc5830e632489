use Rattle.std.proofs.lemmas.Result.{err_from_is_err_and}
use Rattle.sheet_teller.proofs.Steps.{still_right, still_wrong, ask_wrong, ask_no_job, ask_no_wait, ask_long_wait, ask_told_lem}
use Rattle.sheet_teller.proofs.requests.Goals as goal

pub returns-then-order-eq0 : goal.returns-then-order-eq0
returns-then-order-eq0 c =
    let a = c.args in
    ask_no_job a.sheet.now a.room.now a.order (still_right c.args.sheet.now c.check.ensures c.map_err.ensures.cases _ c.in_ok-n.was).0 c.if-order-eq0.true

pub returns-then-order-lt1 : goal.returns-then-order-lt1
returns-then-order-lt1 c =
    let a = c.args in
    ask_no_wait a.sheet.now a.room.now a.order (still_right c.args.sheet.now c.check.ensures c.map_err.ensures.cases _ c.in_ok-n.was).0 c.if-order-eq0.false c.if-order-lt1.true

pub returns-then-order-gt60000 : goal.returns-then-order-gt60000
returns-then-order-gt60000 c =
    let a = c.args in
    ask_long_wait a.sheet.now a.room.now a.order (still_right c.args.sheet.now c.check.ensures c.map_err.ensures.cases _ c.in_ok-n.was).0 c.if-order-eq0.false c.if-order-lt1.false c.if-order-gt60000.true

pub lay_all-requires : goal.lay_all-requires
lay_all-requires c = still_right c.args.sheet.now c.check.ensures c.map_err.ensures.cases _ c.in_ok-n.was

pub returns-in_err-n : goal.returns-in_err-n
returns-in_err-n c =
    let a = c.args in
    let p = err_from_is_err_and c.from_residual.result c.from_residual.ensures.1 in
    let wrong = still_wrong a.sheet.now c.check.ensures c.map_err.ensures.cases _ c.in_err-n.was in
    rw (p.1, p.2, wrong.2) (ask_wrong a.sheet.now a.room.now a.order _ wrong.1)

pub returns : goal.returns
returns c =
    let a = c.args in
    ask_told_lem a.sheet.now a.room.now a.order _ _ (still_right c.args.sheet.now c.check.ensures c.map_err.ensures.cases _ c.in_ok-n.was).0 c.if-order-eq0.false c.if-order-lt1.false c.if-order-gt60000.false
    c.lay_all.ensures

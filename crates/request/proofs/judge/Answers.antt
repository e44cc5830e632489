use mathlib.Core.Path.{ap}
use mathlib.Core.Bool.{not}
use borrow.Author.Tests.{eq-eqb, ne_eqb}
use Rattle.request.specs.Request.{ask_refusal}
use Rattle.request.proofs.Laws.{past_13}
use Rattle.request.proofs.judge.Goals as goal

pub returns-then-asked-eq0 : goal.returns-then-asked-eq0
unfolding ask_refusal
returns-then-asked-eq0 c = rw (eq-eqb _ _ c.if-asked-eq0.true)

pub returns-then-not-one_to : goal.returns-then-not-one_to
unfolding ask_refusal
returns-then-not-one_to c = rw (ne_eqb _ _ c.if-asked-eq0.false, ← c.one_to.ensures, c.if-not-one_to.true)

pub returns-then-not-is_request : goal.returns-then-not-is_request
unfolding ask_refusal
returns-then-not-is_request c =
    rw (
      ne_eqb _ _ c.if-asked-eq0.false,
      ← c.one_to.ensures,
      c.if-not-one_to.false,
      ← c.is_request.ensures,
      c.if-not-is_request.true,
    )

pub returns-then-wrong_data : goal.returns-then-wrong_data
unfolding ask_refusal
returns-then-wrong_data c =
    rw (
      ne_eqb _ _ c.if-asked-eq0.false,
      ← c.one_to.ensures,
      c.if-not-one_to.false,
      ← c.is_request.ensures,
      c.if-not-is_request.false,
      ← c.wrong_data.ensures,
      c.if-wrong_data.true,
    )

pub returns-then-not-one_to-2 : goal.returns-then-not-one_to-2
returns-then-not-one_to-2 c =
    let args = c.args in
    let past = past_13 args.asked args.«data».now c.if-asked-eq0.false c.one_to.ensures (ap not c.if-not-one_to.false)
    c.is_request.ensures (ap not c.if-not-is_request.false) c.wrong_data.ensures c.if-wrong_data.false in
    rw (past, ← c.one_to-2.ensures, c.if-not-one_to-2.true)

pub returns : goal.returns
returns c =
    let args = c.args in
    let past = past_13 args.asked args.«data».now c.if-asked-eq0.false c.one_to.ensures (ap not c.if-not-one_to.false)
    c.is_request.ensures (ap not c.if-not-is_request.false) c.wrong_data.ensures c.if-wrong_data.false in
    rw (past, ← c.one_to-2.ensures, c.if-not-one_to-2.false)

use mathlib.Core.Path.{sym, ◌∙◌, ◌≡◌, ap}
use mathlib.Core.List.{List}
use Prim.Native.Nat.{ℕ}
use native.Mathlib.Omega.{arith}
use borrow.Author.Rules.{rules}
use lib.ListN.{length}
use Rattle.std.proofs.lemmas.Result.{err_from_is_err_and}
use Rattle.lent.proofs.Laws.{length_over, over_at_zero}
use Rattle.lent.specs.Lent.{over}
use Rattle.telegram.proofs.Judge.{reading_refused, telegram_facts, data_part}
use Rattle.telegram.proofs.reader.read.Goals as goal

pub returns-in_err-t : goal.returns-in_err-t
returns-in_err-t c =
    let args = c.args in
    let p = err_from_is_err_and c.from_residual.result c.from_residual.ensures.1 in
    rw (p.1, p.2) (
      sym c.in_err-t.was ∙ c.judge.ensures.0,
      rw (reading_refused args.frame.now _ _ (sym c.judge.ensures.0 ∙ c.in_err-t.was)),
    )

pub overflow_add-end : goal.overflow_add-end
overflow_add-end c =
    let args = c.args in
    let a =
    telegram_facts args.frame.now (length args.room.now) _
    (sym c.judge.ensures.0 ∙ c.in_ok-t.was) in
    omega arith

pub slice_bounds-lay_at-end : goal.slice_bounds-lay_at-end
slice_bounds-lay_at-end c =
    let args = c.args in
    let judge = c.judge in
    let a = telegram_facts args.frame.now (length args.room.now) _ (sym judge.ensures.0 ∙ c.in_ok-t.was) in
    let long : length judge.new.message ≡ 246 = ap length (judge.ensures.1 a.0) ∙ length_over _ _ in
    search rules

pub returns : goal.returns
returns c =
    let args = c.args in
    let judge = c.judge in
    let answer = c.in_ok-t in
    let a = telegram_facts args.frame.now (length args.room.now) _ (sym judge.ensures.0 ∙ answer.was) in (
      sym answer.was ∙ judge.ensures.0,
      rw a.0
          (c.lay_at.ensures ∙ over_at_zero _ _ ∙ ap (λ (l : List ℕ). over l args.room.now)
          (data_part _ _ _ _ a.1 (judge.ensures.1 a.0) a.2 a.3)),
    )

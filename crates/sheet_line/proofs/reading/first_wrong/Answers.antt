use mathlib.Core.Path.{◌≡◌, refl, ◌∙◌}
use Prim.Native.Nat.{◌<◌}
use native.Mathlib.Omega.{arith}
use borrow.Author.Count.{below_more}
use Rattle.sheet_line.specs.Words.{words_in}
use Rattle.sheet_line.proofs.Steps.{left_on, wrong_told, wrong_at, none_wrong}
use Rattle.sheet_line.proofs.reading.first_wrong.Goals as goal

pub loop-k-init : goal.loop-k-init
loop-k-init c = (omega arith, refl, λ j l. absurd (omega arith))

pub returns-then-is_wrong : goal.returns-then-is_wrong
returns-then-is_wrong c =
    let inv = c.loop-k.invariant in
    let words = words_in c.args.text.now in
    let under : c.loop-k.k < c.args.many = c.loop-k-test.true in (
      wrong_at words c.loop-k.k (omega (arith, c.requires, under)) inv.2 (wrong_told words c.loop-k.k inv.1 c.next-next.ensures.word c.is_wrong.ensures ∙ c.if-is_wrong.true),
      under,
    )

pub loop-k-preserved : goal.loop-k-preserved
loop-k-preserved c =
    let inv = c.loop-k.invariant in
    let next = c.next-next.ensures in
    let words = words_in c.args.text.now in (
      next.in_order.2,
      left_on words c.loop-k.k inv.1 next.goes_on,
      below_more _ _ inv.2 (wrong_told words c.loop-k.k inv.1 next.word c.is_wrong.ensures ∙ c.if-is_wrong.false),
    )

pub returns : goal.returns
returns c =
    let words = words_in c.args.text.now in
    let all : c.loop-k.k ≡ c.args.many = omega arith in
    none_wrong words c.args.many c.requires (λ j l. c.loop-k.invariant.2 j (omega (arith, all, l)))

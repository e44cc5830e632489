use mathlib.Core.Path.{refl, ◌∙◌}
use borrow.Author.Rules.{rules}
use lib.ListN.{length-set}
use Rattle.text.proofs.Laws.{spelt_none, spelt_more, spelt_last, rest_fits, more_left}
use Rattle.text.proofs.spell.Goals as goal

pub loop-rest-init : goal.loop-rest-init
loop-rest-init c = (search rules, search rules, search rules, spelt_none c.args.digits.now c.args.n c.requires)

pub overflow_sub-i-in-loop-rest : goal.overflow_sub-i-in-loop-rest
overflow_sub-i-in-loop-rest c = let lo = more_left c.loop-rest.i c.loop-rest.rest c.loop-rest.invariant.2 c.loop-rest-test.true in search rules

pub loop-rest-preserved : goal.loop-rest-preserved
loop-rest-preserved c =
    let loop = c.loop-rest in (
      search rules,
      search rules,
      rest_fits _ _ (more_left loop.i loop.rest loop.invariant.2 c.loop-rest-test.true) loop.invariant.2,
      spelt_more
          loop.digits _ loop.i _ _ _ (more_left loop.i loop.rest loop.invariant.2 c.loop-rest-test.true) (search rules) c.loop-rest-test.true
          c.digit.ensures refl loop.invariant.3,
    )

pub returns : goal.returns
returns c =
    let loop = c.loop-rest in (
      search rules,
      simp length-set (loop.invariant.1 ∙ c.requires),
      spelt_last loop.digits _ loop.i _ _ _ (search rules)
          c.loop-rest-test.false c.digit-2.ensures refl loop.invariant.3,
    )

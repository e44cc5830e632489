use Rattle.std.proofs.Common.{eqb, length, refl, rules}
use Rattle.std.proofs.lemmas.List.{length_push}
use Rattle.std.proofs.lemmas.Iterator.Splits.{YieldsList-from_slice_split}
use Rattle.std.proofs.lemmas.Iterator.Consumers.{YieldsList-at, YieldsList-from_enumerate, YieldsList-turn, YieldsList-end}
use borrow.Author.Tests.{tests}
use Rattle.sheet_maker.specs.Maker.{lines_of}
use Rattle.sheet_maker.proofs.Lines.{lines_split, turn, none_left}
use Rattle.sheet_maker.proofs.Steps.{gathered_start, gathered_on}
use Rattle.sheet_maker.proofs.gathering.gather.Goals as goal

pub loop-index-init : goal.loop-index-init
loop-index-init c = gathered_start c.args.text.now _ _ _ _ refl refl refl refl refl

pub loop-index-preserved : goal.loop-index-preserved
loop-index-preserved c =
    let text = c.args.text.now in
    let split = c.split.ensures in
    let numbered = c.enumerate-index-items.ensures in
    let here = YieldsList-turn (YieldsList-at c.into_iter-index-iterator.ensures.into_iter_gives (YieldsList-from_enumerate (YieldsList-at numbered.source (YieldsList-from_slice_split _ (λ b. eqb b 10) text split.rest split.done split.closure (λ x b q k. search (rules, tests)))) numbered.count)) c.loop-index.yielded _ c.loop-index.yielded_by _ _ (c.in-Some.index, c.in-Some.line) c.in-Some.is c.next.ensures.steps in
    let next = turn (lines_of text) (length c.loop-index.yielded) (c.in-Some.index, c.in-Some.line.now) (rw (lines_split text) at here) in
    rw (length_push c.loop-index.yielded (c.in-Some.index, c.in-Some.line))
    (gathered_on _ _ _ _ _ _ _ _ _ _ _ _ _ _ _ (rw next.1 at c.loop-index.invariant) (rw next.0 at c.take_line-page.ensures))

pub returns : goal.returns
returns c =
    let text = c.args.text.now in
    let split = c.split.ensures in
    let numbered = c.enumerate-index-items.ensures in
    let all = YieldsList-end (YieldsList-at c.into_iter-index-iterator.ensures.into_iter_gives (YieldsList-from_enumerate (YieldsList-at numbered.source (YieldsList-from_slice_split _ (λ b. eqb b 10) text split.rest split.done split.closure (λ x b q k. search (rules, tests)))) numbered.count)) c.loop-index.yielded _ c.loop-index.yielded_by _ _ c.in-None.is c.next.ensures.steps in
    let end = none_left (lines_of text) (length c.loop-index.yielded) (rw (lines_split text) at all.1) in
    (length c.loop-index.yielded, rw end at c.loop-index.invariant)

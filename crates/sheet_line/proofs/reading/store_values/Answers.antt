use mathlib.Core.Path.{◌≡◌, refl, ap, subst, ◌∙◌}
use Prim.Native.Nat.{ℕ}
use mathlib.Core.Bool.{not}
use mathlib.Core.List.{[]}
use native.Mathlib.Omega.{arith}
use borrow.Author.Count.{below_more}
use lib.ListN.{length, drop}
use Rattle.sheet_line.specs.Words.{words_in}
use Rattle.sheet_line.specs.Parts.{StoresAll}
use Rattle.sheet_line.proofs.Steps.{left_on}
use Rattle.sheet_line.proofs.Storing.{laid_starts, fit_told_lem, place-within, number_at, stored_on, one_unfit, all_fit}
use Rattle.sheet_line.proofs.reading.store_values.Goals as goal

pub loop-k-init : goal.loop-k-init
loop-k-init c =
    let words = words_in (drop c.args.at c.args.text.now) in
    (c.requires.in_text, refl, (λ j l. absurd (omega arith)), laid_starts c.args.head.kind _ c.args.head.count words c.size-size.ensures _)

pub overflow_mul-k : goal.overflow_mul-k
overflow_mul-k c =
    let place = place-within c.args.head [] [] _ c.size-size.ensures c.loop-k.k _ (omega arith) c.requires.head_fits.2 in
    record { fits = omega (arith, place, c.well_formed) }

pub store-requires : goal.store-requires
store-requires c =
    let inv = c.loop-k.invariant in
    let words = words_in (drop c.args.at c.args.text.now) in
    let place = place-within c.args.head words [] _ c.size-size.ensures c.loop-k.k (length c.loop-k.space) (omega arith) (omega (arith, c.requires.head_fits.2)) in (
      c.requires.head_fits.0,
      c.requires.head_fits.1,
      place,
      number_at c.args.head words [] _ c.size-size.ensures c.loop-k.k c.loop-k-test.true c.requires.numbers_there.1 inv.1
          c.next-next.ensures.word,
    )

pub loop-k-preserved : goal.loop-k-preserved
loop-k-preserved c =
    let next = c.next-next.ensures in
    let k = c.loop-k.k in
    let inv = c.loop-k.invariant in
    let under = c.loop-k-test.true in
    let store = c.store.ensures in
    let words = words_in (drop c.args.at c.args.text.now) in
    let on = stored_on c.args.head words c.args.space.now _ c.size-size.ensures k c.loop-k.space _ under c.requires.numbers_there.0 inv.1 next.word
    (store.stored c.if-store.true) (omega arith) inv.3 in (
      next.in_order.2,
      left_on words k inv.1 next.goes_on,
      below_more _ _ inv.2 (fit_told_lem c.args.head.kind words k inv.1 next.word store.fitting ∙ ap not c.if-store.true),
      on.1,
    )

pub returns-else-store : goal.returns-else-store
returns-else-store c =
    let next = c.next-next.ensures in
    let k = c.loop-k.k in
    let inv = c.loop-k.invariant in
    let words = words_in (drop c.args.at c.args.text.now) in
    let unfit = one_unfit c.args.head words c.args.space.now _ c.size-size.ensures k _ c.loop-k-test.true inv.2
    (fit_told_lem c.args.head.kind words k inv.1 next.word c.store.ensures.fitting ∙ ap not c.if-store.false) in
    (unfit, c.loop-k-test.true)

pub returns : goal.returns
returns c =
    let inv = c.loop-k.invariant in
    let head = c.args.head in
    let words = words_in (drop c.args.at c.args.text.now) in
    let all : c.loop-k.k ≡ head.count = omega arith in
    subst (λ (k : ℕ). StoresAll words head c.args.space.now k c.loop-k.space) all
    (all_fit head words c.args.space.now _ c.size-size.ensures c.loop-k.k c.loop-k.space (omega arith) c.loop-k-test.false inv.2 inv.3)

use borrow.Author.Rules.{rules}
use mathlib.Core.Path.{refl, sym, ◌∙◌}
use native.Mathlib.Nat.{add-zero}
use native.Mathlib.Omega.{arith}
use Rattle.night.proofs.Laws.{same_room, within, less, coming, done_lem, all_taken, all_carried, is_over_lem}
use Rattle.night.proofs.list.Goals as goal

pub loop-taken-init : goal.loop-taken-init
loop-taken-init c = record { room_long = refl; in_piece = omega arith; moved = sym (add-zero _); in_places = λ z. absurd (omega arith); carries = refl }

pub returns-then-is_err : goal.returns-then-is_err
returns-then-is_err c = (is_over_lem c.unread.ensures, same_room c.loop-taken.invariant c.list-listed.result c.list-listed.new.room c.list-listed.ensures, is_over_lem c.unread.ensures)

pub slice_bounds-write_all-end : goal.slice_bounds-write_all-end
slice_bounds-write_all-end c =
    let w = within c.loop-taken.invariant c.list-listed.result c.list-listed.new.room c.list-listed.ensures in
    search rules

pub returns-then-not-write_all : goal.returns-then-not-write_all
returns-then-not-write_all c = (is_over_lem c.over.ensures, same_room c.loop-taken.invariant c.list-listed.result c.list-listed.new.room c.list-listed.ensures, is_over_lem c.over.ensures)

pub overflow_add-taken : goal.overflow_add-taken
overflow_add-taken c =
    let w = within c.loop-taken.invariant c.list-listed.result c.list-listed.new.room c.list-listed.ensures in
    record { fits = omega (arith, w.1, c.well_formed) }

pub loop-taken-smaller : goal.loop-taken-smaller
loop-taken-smaller c =
    let under = c.loop-taken-test.true in
    let wide = c.requires.0 in
    let done = done_lem c.list-listed.result.outcome (sym c.is_err.ensures.value ∙ c.if-is_err.false) in
    less c.loop-taken.invariant c.list-listed.result c.list-listed.new.room c.list-listed.ensures under wide done

pub loop-taken-preserved : goal.loop-taken-preserved
loop-taken-preserved c =
    let under = c.loop-taken-test.true in
    let done = done_lem c.list-listed.result.outcome (sym c.is_err.ensures.value ∙ c.if-is_err.false) in
    coming c.loop-taken.invariant c.list-listed.result c.list-listed.new.room c.list-listed.ensures under done

pub returns : goal.returns
returns c =
    let so_far = c.loop-taken.invariant in
    (λ _. all_taken so_far c.loop-taken-test.false c.requires.1, so_far.room_long, λ _. all_carried so_far c.loop-taken-test.false)

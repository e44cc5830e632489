use mathlib.Core.Path.{refl}
use native.Mathlib.Omega.{arith}
use lib.ListN.{drop}
use Rattle.sheet_line.specs.Words.{words_in}
use Rattle.sheet_line.proofs.Saying.{kind_right, short_enough, are_numbers, enough, not_fitting, no_room, is_right, space_enough, value_over}
use Rattle.sheet_line.proofs.reading.read_values.Goals as goal

pub store_values-requires : goal.store_values-requires
store_values-requires c =
    let words = words_in c.args.text.now in
    let values = words_in (drop c.args.at c.args.text.now) in
    let kind = kind_right words c.args.head c.requires.headed in
    record {
      in_text = c.requires.behind_head.0;
      head_fits = (kind.0, kind.1, short_enough words c.args.head c.requires.headed);
      numbers_there = (enough words c.args.head c.requires.headed values c.requires.behind_head.1, are_numbers words c.args.head c.requires.headed values c.requires.behind_head.1);
    }

pub returns-in-Some : goal.returns-in-Some
returns-in-Some c =
    let words = words_in c.args.text.now in
    let values = words_in (drop c.args.at c.args.text.now) in
    let unfit = rw c.in-Some.is at c.store_values.ensures in
    record { answer = not_fitting words c.args.head c.requires.headed values c.requires.behind_head.1 unfit.0.0 _ unfit.1; stored = refl }

pub returns-then-room-size : goal.returns-then-room-size
returns-then-room-size c =
    let words = words_in c.args.text.now in
    let values = words_in (drop c.args.at c.args.text.now) in
    let stored = rw c.in_default.is at c.store_values.ensures in
    record { answer = no_room words c.args.head c.requires.headed values c.requires.behind_head.1 stored.0 (omega arith) _ c.measure-size.ensures _ c.if-room-size.true; stored = refl }

pub slice_bounds-lay_at-end : goal.slice_bounds-lay_at-end
slice_bounds-lay_at-end c =
    let words = words_in c.args.text.now in
    let values = words_in (drop c.args.at c.args.text.now) in
    let stored = rw c.in_default.is at c.store_values.ensures in
    space_enough words c.args.head c.requires.headed values c.requires.behind_head.1 stored.0 (omega arith) _ c.measure-size.ensures
    _ _ (omega arith) stored.1

pub returns : goal.returns
returns c =
    let words = words_in c.args.text.now in
    let values = words_in (drop c.args.at c.args.text.now) in
    let stored = rw c.in_default.is at c.store_values.ensures in
    let sized = c.measure-size.ensures in
    record {
      answer = is_right words c.args.head c.requires.headed values c.requires.behind_head.1 stored.0 (omega arith) _ sized _ c.if-room-size.false;
      stored = value_over words c.args.head c.requires.headed values c.requires.behind_head.1 stored.0 (omega arith) _ sized _ _ (omega arith) stored.1 c.args.room.now
          c.lay_at.ensures;
    }

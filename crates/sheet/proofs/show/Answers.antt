use mathlib.Core.Path.{refl}
use Prim.Native.Nat.{◌+◌, ◌*◌, ◌≤◌}
use native.Mathlib.Omega.{arith}
use lib.ListN.{length}
use Rattle.sheet.proofs.Steps.{rows_within, value_within, shown_beyond, shown_narrow, shown}
use Rattle.sheet.proofs.show.Goals as goal
use Rattle.sheet.proofs.show.Goals.{After-tail_at}

within : (c : After-tail_at) → 12 + 8 * c.args.n + c.tail_at.result + c.measure-size.result ≤ length c.args.sheet.now
within c =
    value_within c.args.sheet.now c.args.n c.args.index _ _ c.requires.0 c.requires.1 c.if-n-index.false c.head_at-head.ensures
    c.measure-size.ensures c.tail_at.ensures

pub returns-then-n-index : goal.returns-then-n-index
returns-then-n-index c = shown_beyond _ _ _ _ c.requires.1 c.if-n-index.true

pub overflow_mul-end : goal.overflow_mul-end
overflow_mul-end c = record { fits = omega (arith, rows_within c.args.sheet.now c.args.n c.requires.0 c.requires.1) }

pub overflow_add-end : goal.overflow_add-end
overflow_add-end c = record { fits = omega (arith, rows_within c.args.sheet.now c.args.n c.requires.0 c.requires.1) }

pub slice_bounds-rows-end : goal.slice_bounds-rows-end
slice_bounds-rows-end c = (rows_within c.args.sheet.now c.args.n c.requires.0 c.requires.1).1

pub returns-then-room-size : goal.returns-then-room-size
returns-then-room-size c = shown_narrow _ _ _ _ _ c.requires.1 c.if-n-index.false c.head_at-head.ensures c.measure-size.ensures c.if-room-size.true

pub overflow_add-from : goal.overflow_add-from
overflow_add-from c = record { fits = omega (arith, within (goal.at.overflow_add-from c).After-tail_at, c.well_formed) }

pub overflow_add-to : goal.overflow_add-to
overflow_add-to c = record { fits = omega (arith, within (goal.at.overflow_add-to c).After-tail_at) }

pub slice_bounds-lay_at-end : goal.slice_bounds-lay_at-end
slice_bounds-lay_at-end c = within (goal.at.slice_bounds-lay_at-end c).After-tail_at

pub returns : goal.returns
returns c =
    shown _ _ _ _ _ _ _ _ _ _ c.requires.1 c.if-n-index.false c.head_at-head.ensures c.measure-size.ensures c.if-room-size.false
    c.tail_at.ensures refl refl c.lay_at.ensures

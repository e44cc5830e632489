use native.Mathlib.Omega.{arith}
use Rattle.sheet.proofs.Steps.{rows_within}
use Rattle.sheet_teller.proofs.Steps.{Turn, turn, going_starts, going_on, going_ends}
use Rattle.sheet_teller.proofs.lay_all.Goals.{After-measure}
use Rattle.sheet_teller.proofs.lay_all.Goals as goal

-- the setting that a turn tells
here : (c : After-measure) → Turn c.args.sheet.now c.args.n c.loop-k.k c.loop-k.from c.measure.result c.head_at-head.result
here c =
    turn c.args.sheet.now c.args.n c.loop-k.k c.loop-k.from c.measure.result c.head_at-head.result c.requires.0 c.requires.1
    c.loop-k-test.true c.loop-k.invariant.from_is c.head_at-head.ensures c.measure.ensures

pub overflow_mul-end : goal.overflow_mul-end
overflow_mul-end c = record { fits = omega (arith, rows_within c.args.sheet.now c.args.n c.requires.0 c.requires.1) }

pub overflow_add-end : goal.overflow_add-end
overflow_add-end c = record { fits = omega (arith, rows_within c.args.sheet.now c.args.n c.requires.0 c.requires.1) }

pub slice_bounds-rows-end : goal.slice_bounds-rows-end
slice_bounds-rows-end c = (rows_within c.args.sheet.now c.args.n c.requires.0 c.requires.1).1

pub loop-k-init : goal.loop-k-init
loop-k-init c = going_starts _ _ _ _

pub overflow_add-next : goal.overflow_add-next
overflow_add-next c = record { fits = omega (arith, (here (goal.at.overflow_add-next c).After-measure).within, c.well_formed) }

pub slice_bounds-piece_at-end : goal.slice_bounds-piece_at-end
slice_bounds-piece_at-end c = (here (goal.at.slice_bounds-piece_at-end c).After-measure).within

pub piece_at-to-requires : goal.piece_at-to-requires
piece_at-to-requires c = (omega (arith, c.loop-k.invariant.short, c.loop-k-test.true, (rows_within c.args.sheet.now c.args.n c.requires.0 c.requires.1).0), (here (goal.at.piece_at-to-requires c).After-measure).short)

pub loop-k-preserved : goal.loop-k-preserved
loop-k-preserved c = going_on c.loop-k.invariant _ _ _ _ c.loop-k-test.true (here (goal.at.loop-k-preserved c).After-measure) c.piece_at-to.ensures

pub returns : goal.returns
returns c = going_ends c.loop-k.invariant c.requires.1 c.loop-k-test.false

use native.Mathlib.Omega.{arith}
use lib.ListN.{length}
use Rattle.sheet_teller.proofs.Put.{least_within, line_put}
use Rattle.sheet_teller.proofs.pieces.line_at.Goals as goal

pub slice_bounds-write-count : goal.slice_bounds-write-count
slice_bounds-write-count c = let a = c.args in omega (arith, least_within a.at (length a.room.now) c.least-from.ensures)

pub slice_bounds-write-start : goal.slice_bounds-write-start
slice_bounds-write-start c = let a = c.args in omega (arith, least_within a.at (length a.room.now) c.least-from.ensures)

pub overflow_add-result : goal.overflow_add-result
overflow_add-result c =
    let w = c.write in
    let put = line_put c.args.head c.args.value.now c.args.at c.least-from.result w.result c.args.room.now _ (omega (arith, c.well_formed)) c.least-from.ensures
    w.ensures in
    record { fits = omega (arith, put.1, c.requires) }

pub returns : goal.returns
returns c =
    line_put c.args.head c.args.value.now c.args.at c.least-from.result _ c.args.room.now _ (omega (arith, c.well_formed)) c.least-from.ensures
    c.write.ensures

use Prim.Native.Nat.{◌+◌, ◌-◌, ◌*◌, ◌≤◌}
use native.Mathlib.Omega.{arith}
use lib.ListN.{length}
use Rattle.sheet_editor.proofs.Steps.{few, cut_numbers, cut_done}
use Rattle.sheet_editor.proofs.cut.Goals as goal
use Rattle.sheet_editor.proofs.cut.Goals.{After-start_of-last}

-- where the values that go begin and end, and what the numbers are bounded by
numbers : (c : After-start_of-last)
    → (c.args.n ≤ 128) × (12 + 8 * c.args.n ≤ c.args.size) × (c.args.size ≤ length c.args.room.now) × (c.start_of-first.result ≤ c.start_of-last.result)
    × (c.start_of-last.result ≤ c.args.size - (12 + 8 * c.args.n)) × (c.args.from ≤ c.args.to) × (c.args.to ≤ c.args.n)
numbers c =
    cut_numbers c.args.room.now c.args.size c.args.n (c.requires.0, c.requires.1, c.requires.2) c.args.from c.args.to c.start_of-first.result
    c.start_of-last.result c.requires.3 c.requires.4 c.start_of-first.ensures c.start_of-last.ensures

pub overflow_mul-end : goal.overflow_mul-end
overflow_mul-end c = record { fits = let f = few c.args.room.now c.args.size c.args.n (c.requires.0, c.requires.1, c.requires.2) in omega (arith, f) }

pub overflow_add-end : goal.overflow_add-end
overflow_add-end c = record { fits = let f = few c.args.room.now c.args.size c.args.n (c.requires.0, c.requires.1, c.requires.2) in omega (arith, f) }

pub start_of-first-requires : goal.start_of-first-requires
start_of-first-requires c =
    let f = few c.args.room.now c.args.size c.args.n (c.requires.0, c.requires.1, c.requires.2) in
    (f.0, f.1, f.2)

pub start_of-last-requires : goal.start_of-last-requires
start_of-last-requires c =
    let f = few c.args.room.now c.args.size c.args.n (c.requires.0, c.requires.1, c.requires.2) in
    (f.0, f.1, f.2)

pub overflow_mul-to : goal.overflow_mul-to
overflow_mul-to c = record { fits = let f = numbers (goal.at.overflow_mul-to c).After-start_of-last in let g = c.well_formed in omega (arith, f, g) }

pub overflow_add-to : goal.overflow_add-to
overflow_add-to c = record { fits = let f = numbers (goal.at.overflow_add-to c).After-start_of-last in let g = c.well_formed in omega (arith, f, g) }

pub overflow_mul-from : goal.overflow_mul-from
overflow_mul-from c = record { fits = let f = numbers (goal.at.overflow_mul-from c).After-start_of-last in let g = c.well_formed in omega (arith, f, g) }

pub overflow_add-from : goal.overflow_add-from
overflow_add-from c = record { fits = let f = numbers (goal.at.overflow_add-from c).After-start_of-last in let g = c.well_formed in omega (arith, f, g) }

pub overflow_mul-n : goal.overflow_mul-n
overflow_mul-n c = record { fits = let f = numbers (goal.at.overflow_mul-n c).After-start_of-last in let g = c.well_formed in omega (arith, f, g) }

pub overflow_add-n : goal.overflow_add-n
overflow_add-n c = record { fits = let f = numbers (goal.at.overflow_add-n c).After-start_of-last in let g = c.well_formed in omega (arith, f, g) }

pub overflow_add-end-2 : goal.overflow_add-end-2
overflow_add-end-2 c =
    let f = numbers (goal.at.overflow_add-end-2 c).After-start_of-last in
    let g = c.well_formed in
    record { fits = omega (arith, f, g) }

pub overflow_mul-left : goal.overflow_mul-left
overflow_mul-left c =
    let f = numbers (goal.at.overflow_mul-left c).After-start_of-last in
    let g = c.well_formed in
    record { fits = omega (arith, f, g) }

pub overflow_add-left : goal.overflow_add-left
overflow_add-left c =
    let f = numbers (goal.at.overflow_add-left c).After-start_of-last in
    let g = c.well_formed in
    record { fits = omega (arith, f, g) }

pub overflow_add-left-2 : goal.overflow_add-left-2
overflow_add-left-2 c =
    let f = numbers (goal.at.overflow_add-left-2 c).After-start_of-last in
    let g = c.well_formed in
    record { fits = omega (arith, f, g) }

pub overflow_add-end-3 : goal.overflow_add-end-3
overflow_add-end-3 c =
    let f = numbers (goal.at.overflow_add-end-3 c).After-start_of-last in
    let g = c.well_formed in
    record { fits = omega (arith, f, g) }

pub overflow_sub-size : goal.overflow_sub-size
overflow_sub-size c = let f = numbers (goal.at.overflow_sub-size c).After-start_of-last in omega (arith, f)

pub overflow_cast-left : goal.overflow_cast-left
overflow_cast-left c = let f = numbers (goal.at.overflow_cast-left c).After-start_of-last in omega (arith, f)

pub overflow_mul-result : goal.overflow_mul-result
overflow_mul-result c =
    let f = numbers (goal.at.overflow_mul-result c).After-start_of-last in
    let g = c.well_formed in
    record { fits = omega (arith, f, g) }

pub overflow_add-result : goal.overflow_add-result
overflow_add-result c =
    let f = numbers (goal.at.overflow_add-result c).After-start_of-last in
    let g = c.well_formed in
    record { fits = omega (arith, f, g) }

pub overflow_add-result-2 : goal.overflow_add-result-2
overflow_add-result-2 c =
    let f = numbers (goal.at.overflow_add-result-2 c).After-start_of-last in
    let g = c.well_formed in
    record { fits = omega (arith, f, g) }

pub overflow_add-result-3 : goal.overflow_add-result-3
overflow_add-result-3 c =
    let f = numbers (goal.at.overflow_add-result-3 c).After-start_of-last in
    let g = c.well_formed in
    record { fits = omega (arith, f, g) }

pub overflow_sub-result : goal.overflow_sub-result
overflow_sub-result c = let f = numbers (goal.at.overflow_sub-result c).After-start_of-last in omega (arith, f)

pub overflow_add-result-4 : goal.overflow_add-result-4
overflow_add-result-4 c =
    let f = numbers (goal.at.overflow_add-result-4 c).After-start_of-last in
    let g = c.well_formed in
    record { fits = omega (arith, f, g) }

pub returns : goal.returns
returns c =
    cut_done c.args.room.now c.args.size c.args.n (c.requires.0, c.requires.1, c.requires.2) c.args.from c.args.to c.start_of-first.result
    c.start_of-last.result c.requires.3 c.requires.4 c.start_of-first.ensures c.start_of-last.ensures _ _ _
    c.move_within.ensures
    c.move_within-2.ensures c.lay_again.ensures

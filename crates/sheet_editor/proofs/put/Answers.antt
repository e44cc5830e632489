use Prim.Native.Nat.{◌+◌, ◌-◌, ◌*◌, ◌≤◌}
use native.Mathlib.Omega.{arith}
use lib.ListN.{length}
use Rattle.sheet_editor.proofs.Steps.{few, put_numbers, put_done}
use Rattle.sheet_editor.proofs.put.Goals as goal
use Rattle.sheet_editor.proofs.put.Goals.{After-start_of-first}

-- where the new value goes, and what the numbers are bounded by
numbers : (c : After-start_of-first)
    → (c.args.n ≤ 128) × (12 + 8 * c.args.n ≤ c.args.size) × (c.args.size ≤ length c.args.room.now) × (c.start_of-first.result ≤ c.args.size - (12 + 8 * c.args.n))
    × (c.args.at ≤ c.args.n) × (c.args.size + (8 + length c.args.value.now) ≤ length c.args.room.now)
numbers c =
    put_numbers c.args.room.now c.args.size c.args.n (c.requires.0, c.requires.1, c.requires.2) c.args.at c.start_of-first.result c.requires.3
    c.start_of-first.ensures c.args.head c.args.value.now c.requires.6 c.requires.5

pub start_of-first-requires : goal.start_of-first-requires
start_of-first-requires c =
    let f = few c.args.room.now c.args.size c.args.n (c.requires.0, c.requires.1, c.requires.2) in
    (f.0, f.1, f.2)

pub overflow_add-place : goal.overflow_add-place
overflow_add-place c = record { fits = let f = numbers (goal.at.overflow_add-place c).After-start_of-first in let g = c.well_formed in omega (arith, f, g) }

pub overflow_add-place-2 : goal.overflow_add-place-2
overflow_add-place-2 c = record { fits = let f = numbers (goal.at.overflow_add-place-2 c).After-start_of-first in let g = c.well_formed in omega (arith, f, g) }

pub overflow_add-end-2 : goal.overflow_add-end-2
overflow_add-end-2 c = record { fits = let f = numbers (goal.at.overflow_add-end-2 c).After-start_of-first in let g = c.well_formed in omega (arith, f, g) }

pub overflow_add-place-3 : goal.overflow_add-place-3
overflow_add-place-3 c = record { fits = let f = numbers (goal.at.overflow_add-place-3 c).After-start_of-first in let g = c.well_formed in omega (arith, f, g) }

pub overflow_add-end-3 : goal.overflow_add-end-3
overflow_add-end-3 c = record { fits = let f = numbers (goal.at.overflow_add-end-3 c).After-start_of-first in let g = c.well_formed in omega (arith, f, g) }

pub overflow_sub-size : goal.overflow_sub-size
overflow_sub-size c = let f = numbers (goal.at.overflow_sub-size c).After-start_of-first in omega (arith, f)

pub overflow_add-end-4 : goal.overflow_add-end-4
overflow_add-end-4 c =
    let f = numbers (goal.at.overflow_add-end-4 c).After-start_of-first in
    let g = c.well_formed in
    record { fits = omega (arith, f, g) }

pub returns : goal.returns
returns c =
    put_done c.args.room.now c.args.size c.args.n (c.requires.0, c.requires.1, c.requires.2) c.args.at c.start_of-first.result c.requires.3 c.start_of-first.ensures
    c.args.head c.args.value.now c.requires.6 c.requires.5 _ _ _ _ _
    c.move_within.ensures
    c.move_within-2.ensures
    c.lay_at.ensures
    c.lay_at-2.ensures c.lay_again.ensures

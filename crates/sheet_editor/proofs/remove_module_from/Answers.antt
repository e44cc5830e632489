use native.Mathlib.Omega.{arith}
use Rattle.sheet_editor.proofs.Steps.{few, module_beyond, module_within, module_absent, module_gone}
use Rattle.sheet_editor.proofs.remove_module_from.Goals as goal

pub returns-then-unit-gt-LAST : goal.returns-then-unit-gt-LAST
returns-then-unit-gt-LAST c = module_beyond c.args.room.now c.args.size c.args.n c.requires c.args.unit c.if-unit-gt-LAST.true

pub first_of-from-requires : goal.first_of-from-requires
first_of-from-requires c = let f = few c.args.room.now c.args.size c.args.n c.requires in (f.0, f.3)

pub first_of-to-requires : goal.first_of-to-requires
first_of-to-requires c = let f = few c.args.room.now c.args.size c.args.n c.requires in (f.0, f.3)

pub returns-then-to-from : goal.returns-then-to-from
returns-then-to-from c =
    module_absent c.args.room.now c.args.size c.args.n c.requires c.args.unit c.first_of-from.result
    c.first_of-to.result c.first_of-from.ensures c.first_of-to.ensures c.if-to-from.true

pub cut-requires : goal.cut-requires
cut-requires c =
    let apart = c.if-to-from.false in
    let first = c.first_of-from in
    let past = c.first_of-to in
    let within = module_within c.args.room.now c.args.size c.args.n c.requires c.args.unit first.result past.result first.ensures past.ensures in
    (c.requires.0, c.requires.1, c.requires.2, omega (arith, apart), within)

pub returns : goal.returns
returns c =
    module_gone c.args.room.now c.args.size c.args.n c.requires c.args.unit
    c.first_of-from.result c.first_of-to.result
    c.first_of-from.ensures c.first_of-to.ensures _
    _ c.if-to-from.false c.cut.ensures

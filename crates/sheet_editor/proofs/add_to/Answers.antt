use mathlib.Core.Bool.{not}
use mathlib.Core.Path.{ap, ◌∙◌}
use native.Mathlib.Omega.{arith}
use Rattle.sheet_editor.proofs.Steps.{few, unfit_head, unfit_value, add_within, already, full, no_room, added}
use Rattle.sheet_editor.proofs.add_to.Goals as goal

pub returns-then-not-is_allowed : goal.returns-then-not-is_allowed
returns-then-not-is_allowed c =
    unfit_head c.args.room.now c.args.size c.args.n c.requires c.args.head c.args.value.now c.is_allowed.result
    c.is_allowed.ensures (ap not c.if-not-is_allowed.true)

pub returns-then-value-measure : goal.returns-then-value-measure
returns-then-value-measure c =
    unfit_value c.args.room.now c.args.size c.args.n c.requires c.args.head c.args.value.now
    c.is_allowed.result c.is_allowed.ensures (ap not c.if-not-is_allowed.false)
    c.measure.result c.measure.ensures c.if-value-measure.true

pub place-at-requires : goal.place-at-requires
place-at-requires c =
    let f = few c.args.room.now c.args.size c.args.n c.requires in
    (f.0, f.3)

pub is_there-requires : goal.is_there-requires
is_there-requires c =
    let f = few c.args.room.now c.args.size c.args.n c.requires in
    (f.0, f.3)

pub returns-then-is_there : goal.returns-then-is_there
returns-then-is_there c =
    already c.args.room.now c.args.size c.args.n c.requires c.args.head c.args.value.now
    c.is_allowed.result
    c.is_allowed.ensures
    (ap not c.if-not-is_allowed.false) c.measure.result
    c.measure.ensures c.if-value-measure.false
    c.place-at.result c.place-at.ensures c.is_there.result
    c.is_there.ensures c.if-is_there.true

pub returns-then-n-ge-MOST : goal.returns-then-n-ge-MOST
returns-then-n-ge-MOST c =
    full c.args.room.now c.args.size c.args.n c.requires c.args.head c.args.value.now
    c.is_allowed.result
    c.is_allowed.ensures
    (ap not c.if-not-is_allowed.false)
    c.measure.result
    c.measure.ensures c.if-value-measure.false
    c.place-at.result c.place-at.ensures c.is_there.result
    c.is_there.ensures c.if-is_there.false c.if-n-ge-MOST.true

pub returns-then-room-size : goal.returns-then-room-size
returns-then-room-size c =
    no_room c.args.room.now c.args.size c.args.n c.requires c.args.head c.args.value.now
    c.is_allowed.result
    c.is_allowed.ensures
    (ap not c.if-not-is_allowed.false)
    c.measure.result
    c.measure.ensures
    c.if-value-measure.false c.place-at.result
    c.place-at.ensures c.is_there.result
    c.is_there.ensures c.if-is_there.false c.if-n-ge-MOST.false c.if-room-size.true

pub put-requires : goal.put-requires
put-requires c =
    let some_left = c.if-n-ge-MOST.false in
    let wide = c.if-room-size.false in
    let within = c.requires.0 in (
      c.requires.0,
      c.requires.1,
      c.requires.2,
      add_within c.args.room.now c.args.size c.args.n c.requires c.args.head c.args.value.now
          c.is_allowed.result
          c.is_allowed.ensures
          (ap not c.if-not-is_allowed.false)
          c.measure.result
          c.measure.ensures
          c.if-value-measure.false
          c.place-at.result c.place-at.ensures,
      omega (arith, some_left),
      omega (arith, wide, within),
      c.if-value-measure.false ∙ c.measure.ensures,
    )

pub returns : goal.returns
returns c =
    added c.args.room.now c.args.size c.args.n c.requires c.args.head c.args.value.now
    c.is_allowed.result
    c.is_allowed.ensures
    (ap not c.if-not-is_allowed.false)
    c.measure.result
    c.measure.ensures
    c.if-value-measure.false
    c.place-at.result
    c.place-at.ensures
    c.is_there.result
    c.is_there.ensures c.if-is_there.false _ _
    c.if-n-ge-MOST.false c.if-room-size.false c.put.ensures

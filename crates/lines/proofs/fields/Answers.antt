use mathlib.Core.List.{◌++◌}
use native.Mathlib.Omega.{arith}
use Rattle.text.specs.Text.{ascii}
use Rattle.text.proofs.Laws.{puts_then}
use Rattle.lines.specs.Lines.{labelled, field}
use Rattle.lines.proofs.fields.Goals as goal

pub returns : goal.returns
returns c =
    let t = c.args.t in
    let labelled-here = c.labelled-a in
    let field-here = c.field-b in
    let field2 = c.field-c in
    let field3 = c.field-d in (
      puts_then (labelled (ascii " ok") t.destination)
          (field t.source ++ (field t.sort ++ (field t.register ++ field t.size))) _ _ _ _ _ _ labelled-here.ensures.0
          (puts_then (field t.source) (field t.sort ++ (field t.register ++ field t.size)) _ _ _ _ _ _ field-here.ensures.0
          (puts_then (field t.sort) (field t.register ++ field t.size) _ _ _ _ _ _ field2.ensures.0
          (puts_then (field t.register) (field t.size) _ _ _ _ _ _ field3.ensures.0
          c.field.ensures.0))),
      omega (
        arith,
        c.requires,
        labelled-here.ensures.1,
        field-here.ensures.1,
        field2.ensures.1,
        field3.ensures.1,
        c.field.ensures.1,
      ),
    )

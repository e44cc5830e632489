use mathlib.Core.List.{◌++◌}
use native.Mathlib.Omega.{arith}
use Rattle.text.specs.Text.{ascii, decimal}
use Rattle.text.proofs.Laws.{puts_then}
use Rattle.sheet_teller.proofs.pieces.timed_at.Goals as goal

pub returns : goal.returns
returns c =
    let order = c.args.order in (
      puts_then (ascii " " ++ decimal order.wait) (ascii " 0 " ++ (decimal order.clock ++ ascii " ")) _ _ _ _ _ _ c.numbered-a.ensures.0
          (puts_then (ascii " 0 " ++ decimal order.clock) (ascii " ") _ _ _ _ _ _ c.numbered-b.ensures.0 c.word.ensures),
      omega (arith, c.numbered-a.ensures.1, c.numbered-b.ensures.1, c.word.ensures.0),
    )

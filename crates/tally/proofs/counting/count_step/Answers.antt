use Rattle.std.specs.Prelude.{Ok}
use mathlib.Core.Path.{◌∙◌, ap}
use native.Mathlib.Omega.{arith}
use Rattle.tally.proofs.Returns.{counts_nothing, counts_line, counts_refused}
use Rattle.tally.proofs.counting.count_step.Goals as goal

pub returns-in-Ok-None : goal.returns-in-Ok-None
returns-in-Ok-None c =
    let a = c.args in
    let s = c.step-stepped in
    counts_nothing a.tally a.receiver a.chunk.now s.result s.ensures (c.in-Ok-None.is ∙ ap Ok (rw c.in-Ok-None.is at c.in-Ok-None.field-0-is)) c.done.result c.done.ensures

pub returns-in-Ok-Some : goal.returns-in-Ok-Some
returns-in-Ok-Some c =
    let a = c.args in
    let s = c.step-stepped in
    counts_line a.tally a.receiver a.chunk.now s.result s.ensures c.in-Ok-Some.line (c.in-Ok-Some.is ∙ ap Ok (rw c.in-Ok-Some.is at c.in-Ok-Some.field-0-is)) c.count_line.result c.count_line.ensures

pub returns-in-Err : goal.returns-in-Err
returns-in-Err c =
    let a = c.args in
    let s = c.step-stepped in
    let ahead = c.step-ahead in
    counts_refused a.tally a.receiver a.chunk.now s.result s.ensures c.in-Err.fault c.in-Err.is (omega (arith, c.well_formed)) ahead.result
    (rw c.placed_at.ensures at ahead.ensures) c.refuse.result c.refuse.ensures

use mathlib.Core.Path.{sym, ap}
use native.Mathlib.Omega.{arith}
use Rattle.lines.specs.declared.Event.{Event}
use Rattle.tally.specs.Tally.{number_for, with_line}
use Rattle.tally.proofs.Returns.{room_for}
use Rattle.tally.proofs.counting.with_line.Goals as goal

pub overflow_add-result : goal.overflow_add-result
overflow_add-result c =
    let told = ap (λ (e : Event). number_for e c.args.tally) c.in-Read.is in
    omega (arith, room_for c.args.event c.args.tally c.requires c.args.tally.read told)

pub overflow_add-result-in-Refused : goal.overflow_add-result-in-Refused
overflow_add-result-in-Refused c =
    let told = ap (λ (e : Event). number_for e c.args.tally) c.in-Refused.is in
    omega (arith, room_for c.args.event c.args.tally c.requires c.args.tally.refused told)

pub overflow_add-result-in-Dropped : goal.overflow_add-result-in-Dropped
overflow_add-result-in-Dropped c =
    let told = ap (λ (e : Event). number_for e c.args.tally) c.in-Dropped.is in
    omega (arith, room_for c.args.event c.args.tally c.requires c.args.tally.dropped told)

pub returns-in-Read : goal.returns-in-Read
returns-in-Read c = sym (ap (λ (e : Event). with_line e c.args.tally) c.in-Read.is)

pub returns-in-Refused : goal.returns-in-Refused
returns-in-Refused c = sym (ap (λ (e : Event). with_line e c.args.tally) c.in-Refused.is)

pub returns-in-Dropped : goal.returns-in-Dropped
returns-in-Dropped c = sym (ap (λ (e : Event). with_line e c.args.tally) c.in-Dropped.is)

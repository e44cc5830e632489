use mathlib.Core.Path.{sym, ap, ◌∙◌}
use mathlib.Core.List.{List}
use mathlib.Core.Option.{Option}
use Prim.Native.Nat.{ℕ}
use Rattle.telegram.specs.declared.Fault.{Fault}
use Rattle.telegram.specs.Read.{fields_of, read_answer}
use Rattle.telegram.proofs.Judge.{message_passes}
use Rattle.telegram.proofs.reader.judge_message.Goals as goal

pub returns : goal.returns
unfolding fields_of
returns c =
    let m : List ℕ = c.args.message.now in
    sym (ap (λ (o : Option Fault). read_answer o (fields_of m))
    (message_passes m (sym c.remainder.ensures ∙ c.if-remainder-ne0.false) c.if-message-eq0.false
    c.if-message-eq0-2.false c.if-message-gt-TOGGLE_BITS.false))

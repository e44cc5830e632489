use Rattle.std.specs.Prelude.{Ok, Some, None}
use mathlib.Core.Path.{sym, ap, ap₂, ◌∙◌}
use Prim.Native.Nat.{ℕ, ◌+◌}
use native.Mathlib.Nat.{sub-zero}
use lib.ListN.{take}
use Rattle.lines.specs.declared.Event.{Event}
use Rattle.lines.specs.declared.Event.TheVariants.{Dropped}
use Rattle.listing.specs.Events.{placed}
use Rattle.receiver.specs.declared.Receiver.{Receiver}
use Rattle.receiver.specs.Receiver.{stepped}
use Rattle.receiver.specs.Parts.{closed_by}
use Rattle.receiver.proofs.Returns.{all_taken, from_first, from_start}
use Rattle.receiver.proofs.Stretches.{stays_open, is_dropped_lem, is_closed}
use Rattle.receiver.proofs.steps.inside.Goals as goal

pub returns-then-chunk-end : goal.returns-then-chunk-end
returns-then-chunk-end c =
    let ends = c.next_end-end in
    ap₂ (λ (r : Receiver) (n : ℕ). stepped r n (Ok None)) c.grown.ensures (all_taken c.args.chunk.now ends.result c.if-chunk-end.true ends.ensures.1)
    ∙ sym (stays_open c.args.receiver c.args.chunk.now c.requires.2 c.requires.1
    (from_first c.args.chunk.now ends.result c.if-chunk-end.true ends.ensures.0))

pub returns-then-chunk-end-eq-START : goal.returns-then-chunk-end-eq-START
returns-then-chunk-end-eq-START c =
    let ends = c.next_end-end in
    let k = from_start c.args.chunk.now ends.result ends.ensures.0 in
    c.ended.ensures
    ∙ ap (λ (r : Receiver). stepped r (ends.result + 1) (Ok (Some (placed c.args.receiver.start Dropped)))) c.opened.ensures
    ∙ sym (is_dropped_lem c.args.receiver c.args.chunk.now c.requires.2 c.requires.1 ends.result k c.if-chunk-end.false c.if-chunk-end-eq-START.true)

pub returns : goal.returns
returns c =
    let ends = c.next_end-end in
    let k = from_start c.args.chunk.now ends.result ends.ensures.0 in
    c.ended-2.ensures
    ∙ ap₂ (λ (r : Receiver) (e : Event). stepped r (ends.result + 1) (Ok (Some (placed c.args.receiver.start e)))) c.fresh.ensures
    (c.closing-event.ensures ∙ ap (λ (n : ℕ). closed_by c.args.receiver (take n c.args.chunk.now)) (sub-zero (ends.result + 1)))
    ∙ sym (is_closed c.args.receiver c.args.chunk.now c.requires.2 c.requires.1 ends.result k c.if-chunk-end.false c.if-chunk-end-eq-START.false)

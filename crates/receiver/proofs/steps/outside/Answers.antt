use Rattle.std.specs.Prelude.{Ok, Some, None}
use mathlib.Core.Path.{sym, ap, ap₂, ◌∙◌}
use Prim.Native.Nat.{◌+◌, ◌-◌}
use lib.ListN.{take, drop}
use Rattle.lines.specs.declared.Event.{Event}
use Rattle.lines.specs.declared.Event.TheVariants.{Dropped}
use Rattle.listing.specs.Events.{placed}
use Rattle.receiver.specs.declared.Receiver.{Receiver}
use Rattle.receiver.specs.Receiver.{stepped}
use Rattle.receiver.specs.Parts.{grown_by}
use Rattle.receiver.proofs.Returns.{rest_fits}
use Rattle.receiver.proofs.Stretches.{passes_all, opens_frame, drops_frame, reads_frame}
use Rattle.receiver.proofs.steps.outside.Goals as goal

pub returns-then-chunk-at : goal.returns-then-chunk-at
returns-then-chunk-at c =
    let args = c.args in
    let found = c.next_start-at in
    ap (λ (r : Receiver). stepped r found.result (Ok None)) c.passed.ensures
    ∙ sym (passes_all args.receiver args.chunk.now c.requires.1 found.result found.ensures.0 c.if-chunk-at.true found.ensures.1)

pub grown-requires : goal.grown-requires
grown-requires c =
    let end = c.next_end-end.result in
    let at = c.next_start-at.result in
    rw c.opened.ensures (rest_fits c.args.receiver.place at (end - (at + 1)) c.args.chunk.now c.requires.0 c.if-chunk-at.false)

pub returns-then-chunk-end : goal.returns-then-chunk-end
returns-then-chunk-end c =
    let found = c.next_start-at in
    let rest = take (c.next_end-end.result - (found.result + 1)) (drop (found.result + 1) c.args.chunk.now) in
    ap (λ (r : Receiver). stepped r c.next_end-end.result (Ok None)) (c.grown.ensures ∙ ap (λ (r : Receiver). grown_by r rest) c.opened.ensures)
    ∙ sym (opens_frame c.args.receiver c.args.chunk.now c.requires.1 found.result found.ensures.0 c.if-chunk-at.false c.next_end-end.result
    c.next_end-end.ensures.0 c.if-chunk-end.true c.next_end-end.ensures.1)

pub returns-then-chunk-end-eq-START : goal.returns-then-chunk-end-eq-START
returns-then-chunk-end-eq-START c =
    let found = c.next_start-at in
    c.ended.ensures
    ∙ ap (λ (r : Receiver). stepped r (c.next_end-end.result + 1) (Ok (Some (placed (c.args.receiver.place + found.result) Dropped)))) c.opened-then-chunk-end-eq-START.ensures
    ∙ sym (drops_frame c.args.receiver c.args.chunk.now c.requires.1 found.result found.ensures.0 c.if-chunk-at.false c.next_end-end.result
    c.next_end-end.ensures.0 c.if-chunk-end.false c.if-chunk-end-eq-START.true)

pub returns : goal.returns
returns c =
    let found = c.next_start-at in
    c.ended-2.ensures
    ∙ ap₂ (λ (r : Receiver) (e : Event). stepped r (c.next_end-end.result + 1) (Ok (Some (placed (c.args.receiver.place + found.result) e))))
    c.fresh.ensures c.read.ensures
    ∙ sym (reads_frame c.args.receiver c.args.chunk.now c.requires.1 found.result found.ensures.0 c.if-chunk-at.false c.next_end-end.result
    c.next_end-end.ensures.0 c.if-chunk-end.false c.if-chunk-end-eq-START.false)

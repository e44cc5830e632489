-- `take` passes up what the reader refuses, and hands on what it read.
-- Assumes nothing.
use mathlib.Core.Path.{refl, sym, ◌∙◌}
use borrow.Author.Rules.{rules}
use Rattle.bench.proofs.Answering.{silenced, not_read, size_fits, data_read, addressed, taken}
use Rattle.bench.proofs.request.take.Goals as goal

pub returns-in_default : goal.returns-in_default
returns-in_default c =
    silenced _ _ _ _ _ _ _
    (not_read _ _ _ _ _ _ c.read-reading.ensures.0 c.in_default.is c.why.ensures)
    c.silent.ensures

pub slice_bounds-request-end : goal.slice_bounds-request-end
slice_bounds-request-end c =
    let h = size_fits _ _ (sym c.read-reading.ensures.0 ∙ c.in-Ok.is) in
    search rules

pub request-requires : goal.request-requires
request-requires c = addressed _ _ (sym c.read-reading.ensures.0 ∙ c.in-Ok.is)

pub returns : goal.returns
returns c =
    let read = sym c.read-reading.ensures.0 ∙ c.in-Ok.is in
    taken _ _ read _ _ c.args.room.now _ _ (data_read _ _ read _ _ refl c.read-reading.ensures.1)
    c.request.ensures

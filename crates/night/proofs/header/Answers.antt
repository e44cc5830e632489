use native.Mathlib.Omega.{arith}
use borrow.Author.Rules.{rules}
use Rattle.lines.proofs.Laws.{writes_within, header_short}
use Rattle.lines.specs.Lines.{header_text}
use Rattle.night.proofs.header.Goals as goal

pub slice_bounds-write_all-end : goal.slice_bounds-write_all-end
slice_bounds-write_all-end c = let h = writes_within header_text _ _ 50 _ c.header-size.ensures header_short (omega arith) in search rules

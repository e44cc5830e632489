use Rattle.lines.proofs.Pieces.{puts_writes}
use Rattle.lines.specs.Lines.{header_text}
use Rattle.lines.proofs.header.Goals as goal

pub returns : goal.returns
unfolding header_text
returns c = puts_writes header_text _ _ _ c.word.ensures

use Rattle.sheet_teller.proofs.Put.{hex_low, hex_high}
use Rattle.sheet_teller.proofs.pieces.hex_digit.Goals as goal

pub returns-then-d-lt10 : goal.returns-then-d-lt10
returns-then-d-lt10 c = hex_low _ c.if-d-lt10.true

pub returns-else-d-lt10 : goal.returns-else-d-lt10
returns-else-d-lt10 c = hex_high _ c.if-d-lt10.false

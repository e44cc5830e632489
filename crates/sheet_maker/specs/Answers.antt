-- What the calls answer: `Ok` with what they found, or `Err` with the refusal.
-- Assumes nothing.
use Rattle.std.specs.Prelude.{ℕ, Result}
use Rattle.sheet_maker.specs.declared.NotMade.{NotMade}
use Rattle.sheet_maker.specs.declared.NotAdded.{NotAdded}

-- how long the sheet is
abbrev pub Making : Type 0
Making = Result ℕ NotMade

-- how long it is with the new setting
abbrev pub Adding : Type 0
Adding = Result ℕ NotAdded

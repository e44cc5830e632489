-- How much digits are worth: `None` where 64 bits do not hold it.
-- Assumes nothing.
use Rattle.std.specs.Prelude.{ℕ, Option}

abbrev pub Amount : Type 0
Amount = Option ℕ

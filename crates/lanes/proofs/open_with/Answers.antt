use native.Mathlib.Numerals.{unary_clauses}
use Rattle.lanes.proofs.open_with.Goals as goal

pub returns : goal.returns
returns c = simp unary_clauses at c.«open».ensures

-- What the calls answer: `Ok` with what they found, or `Err` with the refusal.
-- Assumes nothing.
use Rattle.std.specs.Prelude.{ℕ, Option, Result, ⊤}
use Rattle.bench.specs.declared.Fault.{Fault}
use Rattle.deeds.specs.declared.Register.{Register}

abbrev pub Building : Type 0
Building = Result ⊤ Fault

abbrev pub Taking : Type 0
Taking = Result ℕ Fault

abbrev pub Seen : Type 0
Seen = Option Register

abbrev pub Found : Type 0
Found = Option ℕ

-- What the C host is answered by a bench: numbers only.
-- Assumes nothing.
use Rattle.std.specs.Prelude.{List, ℕ, Ok, Err, Some, None}
use Rattle.bench.specs.Build.{Makes, Adds, Sets}
use Rattle.bench.specs.Register.{Looks, fault_number, fault_place}
use Rattle.bench.specs.Take.{Takes}
use Rattle.bench.specs.declared.AfterBuild.{AfterBuild}
use Rattle.bench.specs.declared.AfterTake.{AfterTake}
use Rattle.bench.specs.declared.Bench.{Bench}
use Rattle.bench.specs.Answers.{Building, Seen, Taking}
use Rattle.kamzhor.specs.Told.{Told}
use Rattle.kamzhor.specs.Values.{value_meant}
use Rattle.kamzhor.specs.declared.host_bench.AfterBenchBuild.{AfterBenchBuild}
use Rattle.kamzhor.specs.declared.host_bench.AfterBenchTake.{AfterBenchTake}
use Rattle.kamzhor.specs.declared.host_bench.RegisterAnswer.{RegisterAnswer}
use Rattle.kamzhor.specs.declared.host_bench.TakeAnswer.{TakeAnswer}

-- ---- building

abbrev pub build_given : Building → ℕ
build_given (Err f) = fault_number f
build_given (Ok _) = 0

abbrev pub build_told : AfterBuild → AfterBenchBuild
build_told o = record { bench = o.bench; refusal = build_given o.answer }

-- ---- a telegram for the bench: how long the reply is, or which number means silence, with 3 the place

abbrev pub take_number : ℕ → ℕ → TakeAnswer
take_number n place = record { refusal = n; size = 0; place = place }

abbrev pub take_given : Taking → TakeAnswer
take_given (Err f) = take_number (fault_number f) (fault_place f)
take_given (Ok n) = record { refusal = 0; size = n; place = 0 }

abbrev pub take_told : AfterTake → AfterBenchTake
take_told o = record { bench = o.bench; answer = take_given o.answer }

-- ---- a register: 1 where it is held

abbrev pub register_given : Seen → RegisterAnswer
register_given (Some g) = record { held = 1; number = g.number; kind = g.kind; rights = g.rights; value = g.value }
register_given None = record { held = 0; number = 0; kind = 0; rights = 0; value = 0 }

-- ---- the contracts

-- `kamzhor_bench_made`
abbrev pub GivesBench : ℕ → AfterBenchBuild → Type 0
GivesBench address r = Told (Makes address) build_told r

-- `kamzhor_after_bench_add`
abbrev pub GivesAdd : Bench → ℕ → ℕ → ℕ → AfterBenchBuild → Type 0
GivesAdd bench number kind rights r = Told (Adds bench number kind rights) build_told r

-- `kamzhor_after_bench_set`
abbrev pub GivesSet : Bench → ℕ → ℕ → ℕ → AfterBenchBuild → Type 0
GivesSet bench number negative magnitude r = Told (Sets bench number (value_meant negative magnitude)) build_told r

-- `kamzhor_after_bench_take`
abbrev pub GivesTake : Bench → List ℕ → List ℕ → AfterBenchTake → List ℕ → Type 0
GivesTake bench frame room r room' = Told (λ o. Takes bench frame room o room') take_told r

-- `kamzhor_look_at_bench`
abbrev pub GivesRegister : Bench → ℕ → RegisterAnswer → Type 0
GivesRegister bench number r = Told (Looks bench number) register_given r

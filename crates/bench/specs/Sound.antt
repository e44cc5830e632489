-- What every call keeps of a bench, and benches that calls made: "one address and up to 32 registers, each with a kind, rights and a value".
-- Assumes nothing.
use Rattle.std.specs.Prelude.{◌≡◌, List, [], ◌∷◌, ℕ, ◌*◌, ◌^◌, ◌≤◌, ◌<◌, length}
use Rattle.frame.specs.Frame.{AllBytes}
use Rattle.values.specs.Values.{size_of}
use Rattle.values.specs.declared.Value.{Value}
use Rattle.deeds.specs.declared.Register.{Register}
use Rattle.bench.specs.Build.{Adds, Sets}
use Rattle.bench.specs.Register.{register_at}
use Rattle.bench.specs.Take.{Takes}
use Rattle.bench.specs.declared.Bench.{Bench}
use Rattle.bench.specs.declared.AfterBuild.{AfterBuild}
use Rattle.bench.specs.declared.AfterTake.{AfterTake}

-- a register as `add` makes it and every call leaves it: kinds 1 to 7, rights at most 7, a value of the kind's bytes
pub record Right (register : Register) : Type 0 where
  pub least : 1 ≤ register.kind
  pub most : register.kind ≤ 7
  pub rights : register.rights ≤ 7
  pub value : register.value < 2 ^ (8 * size_of register.kind)

-- a bench that was made at this address
pub record Sound (address : ℕ) (bench : Bench) : Type 0 where
  pub here : bench.address ≡ address
  pub lowest : 1 ≤ address
  pub highest : address ≤ 160
  pub few : bench.count ≤ 32
  pub places : length bench.registers ≡ 32
  pub each : (place : ℕ) → place < bench.count → Right (register_at bench place)
  pub once : (i j : ℕ) → i < bench.count → j < bench.count → (register_at bench i).number ≡ (register_at bench j).number → i ≡ j

-- ---- sequences of calls

pub data Call : Type 0 where
  to_add : ℕ → ℕ → ℕ → Call
  to_set : ℕ → Value → Call
  to_take : List ℕ → List ℕ → Call

-- a call as its contract has it, from the bench before to the bench after; a frame is made of bytes
abbrev pub Calls : Bench → Call → Bench → Type 0
Calls bench (to_add number kind rights) after = (r : AfterBuild) × Adds bench number kind rights r × (after ≡ r.bench)
Calls bench (to_set number value) after = (r : AfterBuild) × Sets bench number value r × (after ≡ r.bench)
Calls bench (to_take frame room) after = (r : AfterTake) × (room' : List ℕ) × AllBytes frame × Takes bench frame room r room' × (after ≡ r.bench)

-- any calls, one after the other
abbrev pub AfterCalls : Bench → List Call → Bench → Type 0
AfterCalls bench [] after = after ≡ bench
AfterCalls bench (call ∷ calls) after = (next : Bench) × Calls bench call next × AfterCalls next calls after

-- the frames of these calls are made of bytes
abbrev pub BytesOnly : List Call → Type 0
BytesOnly [] = Unit {0}
BytesOnly (to_add number kind rights ∷ calls) = BytesOnly calls
BytesOnly (to_set number value ∷ calls) = BytesOnly calls
BytesOnly (to_take frame room ∷ calls) = AllBytes frame × BytesOnly calls

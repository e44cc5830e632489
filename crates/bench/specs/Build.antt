-- Building a bench: make it (34), add registers (30 to 33), set a held register (38, then 43).
-- Assumes nothing.
use Rattle.std.specs.Prelude.{◌≡◌, ◌⊎◌, not, ◌&&◌, List, [], ◌∷◌, ℕ, ◌+◌, ◌≤◌, ◌<◌, leb, ltb, set, Ok, Err}
use Rattle.std.proofs.Math.Option.{Option, some, none}
use Rattle.rows.specs.Rows.{Row, row, Test, test, first_row_of}
use Rattle.values.specs.Values.{size_of, is_kind, fits, stored_at, NoKind, Unfit}
use Rattle.values.specs.declared.Value.{Value}
use Rattle.bench.specs.declared.Bench.{Bench}
use Rattle.bench.specs.declared.Fault.{Fault}
use Rattle.bench.specs.declared.Fault.TheVariants.{WrongKind, WrongRights, AlreadyThere, Full, NotAModule, NotHeld, DoesNotFit}
use Rattle.bench.specs.Answers.{Building}
use Rattle.bench.specs.declared.AfterBuild.{AfterBuild}
use Rattle.bench.specs.Register.{empty_bench, named, place_of, Held, is_held, with_value, fault_number}

-- each of the three answers so
abbrev pub build_answer : Option Fault → Building
build_answer (some f) = Err f
build_answer none = Ok tt

-- the number that an answer tells, or none
abbrev pub build_told : Building → Option ℕ
build_told (Err f) = some (fault_number f)
build_told (Ok _) = none

abbrev pub build_bench : Option Fault → Bench → Bench → Bench
build_bench (some f) before after = before
build_bench none before after = after

-- ---- make

-- 34: "own address not 1 to 160"
unfoldable pub IsNotAModule : ℕ → Type 0
IsNotAModule address = (1 ≤ address) × (address ≤ 160) → ⊥

unfoldable pub make_rows : ℕ → List (Row Fault)
make_rows address = row (IsNotAModule address) NotAModule ∷ []

abbrev pub make_tests : ℕ → List (Test Fault)
make_tests address = test (not (leb 1 address && leb address 160)) NotAModule ∷ []

unfoldable pub make_refusal : ℕ → Option Fault
make_refusal address = first_row_of (make_tests address)

-- a refusal makes no bench: what comes back has address 0, which no telegram is for
abbrev pub Makes : ℕ → AfterBuild → Type 0
Makes address r = (r.answer ≡ build_answer (make_refusal address)) × (r.bench ≡ build_bench (make_refusal address) (empty_bench 0) (empty_bench address))

-- ---- add a register

-- 30: "kind not 1 to 7"
unfoldable pub IsWrongKind : ℕ → Type 0
IsWrongKind kind = (1 ≤ kind) × (kind ≤ 7) → ⊥

-- 31: "rights over 7"
unfoldable pub IsWrongRights : ℕ → Type 0
IsWrongRights rights = 7 < rights

-- 32: "register already there"
unfoldable pub IsThere : Bench → ℕ → Type 0
IsThere bench number = Held bench number

-- 33: "32 registers held"
unfoldable pub IsFull : Bench → Type 0
IsFull bench = 32 ≤ bench.count

unfoldable pub add_rows : Bench → ℕ → ℕ → ℕ → List (Row Fault)
add_rows bench number kind rights =
    row (IsWrongKind kind) WrongKind ∷ row (IsWrongRights rights) WrongRights ∷ row (IsThere bench number) AlreadyThere ∷ row (IsFull bench) Full ∷ []

abbrev pub add_tests : Bench → ℕ → ℕ → ℕ → List (Test Fault)
add_tests bench number kind rights =
    test (not (is_kind kind)) WrongKind
    ∷ test (ltb 7 rights) WrongRights
    ∷ test (is_held bench number) AlreadyThere
    ∷ test (leb 32 bench.count) Full
    ∷ []

unfoldable pub add_refusal : Bench → ℕ → ℕ → ℕ → Option Fault
add_refusal bench number kind rights = first_row_of (add_tests bench number kind rights)

-- the register stands behind those that are held, with the value 0
abbrev pub with_register : Bench → ℕ → ℕ → ℕ → Bench
with_register bench number kind rights =
    record {
      address = bench.address;
      count = bench.count + 1;
      registers = set bench.registers bench.count (record { number = number; kind = kind; rights = rights; value = 0 });
    }

abbrev pub Adds : Bench → ℕ → ℕ → ℕ → AfterBuild → Type 0
Adds bench number kind rights r =
    (r.answer ≡ build_answer (add_refusal bench number kind rights))
    × (r.bench ≡ build_bench (add_refusal bench number kind rights) bench (with_register bench number kind rights))

-- ---- "The tester may set a held register to any number of its kind, whatever the rights (38, then 43)."

-- 38: "register to set is not held"
unfoldable pub IsNotHeld : Bench → ℕ → Type 0
IsNotHeld bench number = Held bench number → ⊥

-- 43: "value does not fit the kind"; what is no kind holds nothing
unfoldable pub IsUnfit : ℕ → Value → Type 0
IsUnfit kind value = NoKind kind ⊎ Unfit kind value

unfoldable pub set_rows : Bench → ℕ → Value → List (Row Fault)
set_rows bench number value =
    row (IsNotHeld bench number) NotHeld ∷ row (IsUnfit (named bench number).kind value) DoesNotFit ∷ []

abbrev pub set_tests : Bench → ℕ → Value → List (Test Fault)
set_tests bench number value =
    test (not (is_held bench number)) NotHeld
    ∷ test (not (is_kind (named bench number).kind && fits (named bench number).kind value)) DoesNotFit
    ∷ []

unfoldable pub set_refusal : Bench → ℕ → Value → Option Fault
set_refusal bench number value = first_row_of (set_tests bench number value)

abbrev pub Sets : Bench → ℕ → Value → AfterBuild → Type 0
Sets bench number value r =
    (r.answer ≡ build_answer (set_refusal bench number value))
    × (r.bench ≡ build_bench (set_refusal bench number value) bench
    (with_value bench (place_of bench number) (stored_at (size_of (named bench number).kind) value)))

-- A request: rows 10 to 14, before any address is looked for.
-- Assumes nothing.
use Rattle.std.specs.Prelude.{◌≡◌, ◌⊎◌, Bool, not, ◌||◌, ◌&&◌, List, [], ◌∷◌, ℕ, ◌≤◌, ◌<◌, eqb, leb, ltb, length, Ok, Err}
use Rattle.std.proofs.Math.Option.{Option, some, none}
use Rattle.rows.specs.Rows.{Row, row, Test, test, first_row_of}
use Rattle.request.specs.declared.Request.{Request}
use Rattle.request.specs.declared.Fault.{Fault}
use Rattle.request.specs.declared.Fault.TheVariants.{NoJob, NotAModule, NotARequest, WrongData, WrongWait}
use Rattle.request.specs.Answers.{Asking}

-- 10: "job number 0"
unfoldable pub IsNoJob : Request → Type 0
IsNoJob asked = asked.job ≡ 0

-- 11: "module not 1 to 160"
unfoldable pub IsNotAModule : Request → Type 0
IsNotAModule asked = (1 ≤ asked.unit) × (asked.unit ≤ 160) → ⊥

-- 12: "type not 4, 5, 6, 7 or 9"
unfoldable pub IsNotARequest : Request → Type 0
IsNotARequest asked =
    (asked.sort ≡ 4) ⊎ ((asked.sort ≡ 5) ⊎ ((asked.sort ≡ 6) ⊎ ((asked.sort ≡ 7) ⊎ (asked.sort ≡ 9)))) → ⊥

-- 13: "data over 240, or a read with data"
unfoldable pub IsWrongData : Request → List ℕ → Type 0
IsWrongData asked bytes = (240 < length bytes) ⊎ ((asked.sort ≡ 4) × (0 < length bytes))

-- 14: "waiting time not 1 to 60000 ms"
unfoldable pub IsWrongWait : Request → Type 0
IsWrongWait asked = (1 ≤ asked.wait) × (asked.wait ≤ 60000) → ⊥

unfoldable pub ask_rows : Request → List ℕ → List (Row Fault)
ask_rows asked bytes =
    row (IsNoJob asked) NoJob
    ∷ row (IsNotAModule asked) NotAModule
    ∷ row (IsNotARequest asked) NotARequest
    ∷ row (IsWrongData asked bytes) WrongData
    ∷ row (IsWrongWait asked) WrongWait
    ∷ []

-- how they are tested
abbrev pub one_to : ℕ → ℕ → Bool
one_to most x = leb 1 x && leb x most

abbrev pub is_request : ℕ → Bool
is_request sort = eqb sort 4 || (eqb sort 5 || (eqb sort 6 || (eqb sort 7 || eqb sort 9)))

abbrev pub is_wrong_data : ℕ → ℕ → Bool
is_wrong_data sort size = ltb 240 size || (eqb sort 4 && ltb 0 size)

abbrev pub ask_tests : Request → List ℕ → List (Test Fault)
ask_tests asked bytes =
    test (eqb asked.job 0) NoJob
    ∷ test (not (one_to 160 asked.unit)) NotAModule
    ∷ test (not (is_request asked.sort)) NotARequest
    ∷ test (is_wrong_data asked.sort (length bytes)) WrongData
    ∷ test (not (one_to 60000 asked.wait)) WrongWait
    ∷ []

-- what refuses a request before any address is looked for
unfoldable pub ask_refusal : Request → List ℕ → Option Fault
ask_refusal asked bytes = first_row_of (ask_tests asked bytes)

-- the paper's number of each refusal, and the number that an answer tells
abbrev pub fault_number : Fault → ℕ
fault_number NoJob = 10
fault_number NotAModule = 11
fault_number NotARequest = 12
fault_number WrongData = 13
fault_number WrongWait = 14

abbrev pub ask_told : Asking → Option ℕ
ask_told (Err f) = some (fault_number f)
ask_told (Ok _) = none

-- ---- the contracts

abbrev pub ask_answer : Option Fault → Asking
ask_answer (some f) = Err f
ask_answer none = Ok tt

abbrev pub Asks : Request → List ℕ → Asking → Type 0
Asks asked bytes r = r ≡ ask_answer (ask_refusal asked bytes)

abbrev pub Numbers : Fault → ℕ → Type 0
Numbers fault r = r ≡ fault_number fault

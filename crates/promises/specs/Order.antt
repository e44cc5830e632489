-- Any order of calls on a desk and benches: what a call is, and what its contract allows to come of it.
-- Assumes nothing.
use Rattle.std.specs.Prelude.{◌≡◌, List, [], ◌∷◌, ◌++◌, ℕ, get_or, set, Ok, Err}
use Rattle.std.proofs.Math.Option.{Option, some}
use Rattle.request.specs.declared.Request.{Request}
use Rattle.values.specs.declared.Value.{Value}
use Rattle.bench.specs.Build.{Makes, Adds, Sets, build_told}
use Rattle.bench.specs.Register.{empty_bench}
use Rattle.bench.specs.Take.{Takes, take_told}
use Rattle.bench.specs.declared.AfterBuild.{AfterBuild}
use Rattle.bench.specs.declared.AfterTake.{AfterTake}
use Rattle.bench.specs.declared.Bench.{Bench}
use Rattle.bench.specs.Answers.{Building}
use Rattle.bench.specs.Answers.{Taking}
use Rattle.desk.specs.Close.{Cancels, Expires, close_told}
use Rattle.desk.specs.Open.{Opens, open_told}
use Rattle.desk.specs.Reply.{Replies, book_told}
use Rattle.desk.specs.declared.AfterClose.{AfterClose}
use Rattle.desk.specs.declared.AfterOpen.{AfterOpen}
use Rattle.desk.specs.declared.AfterReply.{AfterReply}
use Rattle.desk.specs.Answers.{Booking}
use Rattle.desk.specs.Answers.{Closing}
use Rattle.desk.specs.declared.Desk.{Desk}
use Rattle.desk.specs.Answers.{Opening}

pub record Lab : Type 0 where
  pub desk : Desk
  pub benches : List Bench

-- a call, with what it was given; `room` is the lent buffer, and a bench is named by its place among the benches
pub data Call : Type 0 where
  opens : (asked : Request) (bytes : List ℕ) (clock : ℕ) (room : List ℕ) → Call
  replies : (frame room : List ℕ) → Call
  cancels : (job address clock : ℕ) → Call
  expires : (clock : ℕ) → Call
  makes : (address : ℕ) → Call
  adds : (bench number kind rights : ℕ) → Call
  sets : (bench number : ℕ) (value : Value) → Call
  takes : (bench : ℕ) (frame room : List ℕ) → Call

-- the buffer that the call was lent, if it was lent one
abbrev pub lent_to : Call → List ℕ
lent_to (opens asked bytes clock room) = room
lent_to (replies frame room) = room
lent_to (cancels job address clock) = []
lent_to (expires clock) = []
lent_to (makes address) = []
lent_to (adds bench number kind rights) = []
lent_to (sets bench number value) = []
lent_to (takes bench frame room) = room

-- ---- what comes of a call: the answer, the lab and the lent buffer afterwards

pub data Answer : Type 0 where
  opening : Opening → ℕ → Answer
  booking : Booking → Answer
  closing : Closing → Answer
  building : Building → Answer
  taking : Taking → Answer

-- the number that an answer tells, or none
abbrev pub told : Answer → Option ℕ
told (opening a count) = open_told a
told (booking a) = book_told a
told (closing a) = close_told a
told (building a) = build_told a
told (taking a) = take_told a

pub record Outcome : Type 0 where
  pub answer : Answer
  pub lab : Lab
  pub room : List ℕ

-- ---- what the contracts allow

-- an outcome that a contract allows: what the call hands back makes the answer and the next lab
abbrev pub Comes : {R : Type 0} → (R → List ℕ → Type 0) → (R → Answer) → (R → Lab) → Outcome → Type 0
Comes {R} contract answer next o = (r : R) × contract r o.room × (o.answer ≡ answer r) × (o.lab ≡ next r)

-- a contract without a buffer
abbrev pub no_buffer : {R : Type 0} → (R → Type 0) → R → List ℕ → Type 0
no_buffer contract r room = contract r × (room ≡ [])

abbrev pub with_desk : Lab → Desk → Lab
with_desk lab desk = record { desk = desk; benches = lab.benches }

-- a bench that is not there is one at address 0, which no telegram is for
abbrev pub bench_at : Lab → ℕ → Bench
bench_at lab k = get_or lab.benches k (empty_bench 0)

abbrev pub with_bench : Lab → ℕ → Bench → Lab
with_bench lab k bench = record { desk = lab.desk; benches = set lab.benches k bench }

-- a bench that was made stands behind the others
abbrev pub with_made : Lab → Building → Bench → Lab
with_made lab (Ok _) bench = record { desk = lab.desk; benches = lab.benches ++ (bench ∷ []) }
with_made lab (Err f) bench = lab

unfoldable pub Allows : Lab → Call → Outcome → Type 0
Allows lab (opens asked bytes clock room) =
    Comes (Opens lab.desk asked bytes clock room) (λ (r : AfterOpen). opening r.answer r.count) (λ r. with_desk lab r.desk)
Allows lab (replies frame room) =
    Comes (Replies lab.desk frame room) (λ (r : AfterReply). booking r.answer) (λ r. with_desk lab r.desk)
Allows lab (cancels job address clock) =
    Comes (no_buffer (Cancels lab.desk job address clock)) (λ (r : AfterClose). closing r.answer) (λ r. with_desk lab r.desk)
Allows lab (expires clock) =
    Comes (no_buffer (Expires lab.desk clock)) (λ (r : AfterClose). closing r.answer) (λ r. with_desk lab r.desk)
Allows lab (makes address) =
    Comes (no_buffer (Makes address)) (λ (r : AfterBuild). building r.answer) (λ r. with_made lab r.answer r.bench)
Allows lab (adds bench number kind rights) =
    Comes (no_buffer (Adds (bench_at lab bench) number kind rights)) (λ (r : AfterBuild). building r.answer) (λ r. with_bench lab bench r.bench)
Allows lab (sets bench number value) =
    Comes (no_buffer (Sets (bench_at lab bench) number value)) (λ (r : AfterBuild). building r.answer) (λ r. with_bench lab bench r.bench)
Allows lab (takes bench frame room) =
    Comes (Takes (bench_at lab bench) frame room) (λ (r : AfterTake). taking r.answer) (λ r. with_bench lab bench r.bench)

-- "a refusal changes no ticket, no register and no byte of a buffer we lent"
abbrev pub Keeps : Lab → Call → Outcome → Type 0
Keeps lab call o = (n : ℕ) → told o.answer ≡ some n → (o.lab ≡ lab) × (o.room ≡ lent_to call)

-- ---- one call after the other

unfoldable pub AllAllowed : Lab → List Call → List Outcome → Type 0
AllAllowed lab [] [] = Unit {0}
AllAllowed lab [] (o ∷ os) = ⊥
AllAllowed lab (c ∷ cs) [] = ⊥
AllAllowed lab (c ∷ cs) (o ∷ os) = Allows lab c o × AllAllowed o.lab cs os

unfoldable pub AllKeep : Lab → List Call → List Outcome → Type 0
AllKeep lab [] os = Unit {0}
AllKeep lab (c ∷ cs) [] = Unit {0}
AllKeep lab (c ∷ cs) (o ∷ os) = Keeps lab c o × AllKeep o.lab cs os

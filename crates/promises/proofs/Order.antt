-- Demand 1 over any order of calls: each has exactly one outcome, and one that is refused leaves the desk, the benches and the lent buffer.
-- Assumes nothing.
use Rattle.std.specs.Prelude.{Ok, Err}
use mathlib.Core.Path.{◌≡◌, refl, sym, ap, ◌∙◌}
use mathlib.Core.List.{List, [], ◌∷◌, ◌++◌}
use mathlib.Core.Option.{Option, some}
use Prim.Native.Nat.{ℕ}
use lib.ListN.{get_or, set}
use lib.Seq.{set-get_or}
use Rattle.request.specs.declared.Request.{Request}
use Rattle.values.specs.declared.Value.{Value}
use Rattle.rows.proofs.Laws.{clash}
use Rattle.rows.specs.Settled.{Settled}
use Rattle.bench.proofs.Laws.{add_refused, set_refused, silent_stays, makes_settled, adds_settled, sets_settled, takes_settled}
use Rattle.bench.specs.Build.{Makes, Adds, Sets, build_told}
use Rattle.bench.specs.Register.{empty_bench}
use Rattle.bench.specs.Take.{Takes, take_told}
use Rattle.bench.specs.declared.AfterBuild.{AfterBuild}
use Rattle.bench.specs.declared.AfterTake.{AfterTake}
use Rattle.bench.specs.declared.Bench.{Bench}
use Rattle.bench.specs.Answers.{Building}
use Rattle.bench.specs.declared.Fault as silence
use Rattle.bench.specs.Answers.{Taking}
use Rattle.desk.proofs.Laws.{open_refusal_keeps, reply_refusal_keeps, cancel_refusal_keeps, expire_refusal_keeps}
use Rattle.desk.proofs.Laws.{opens_settled, replies_settled, cancels_settled, expires_settled}
use Rattle.desk.specs.Close.{Cancels, Expires, close_told}
use Rattle.desk.specs.Open.{Opens, open_told}
use Rattle.desk.specs.Reply.{Replies, book_told}
use Rattle.desk.specs.declared.AfterClose.{AfterClose}
use Rattle.desk.specs.declared.AfterOpen.{AfterOpen}
use Rattle.desk.specs.declared.AfterReply.{AfterReply}
use Rattle.desk.specs.Answers.{Booking}
use Rattle.desk.specs.Answers.{Closing}
use Rattle.desk.specs.declared.Fault.{Fault}
use Rattle.desk.specs.Answers.{Opening}
use Rattle.promises.specs.Order.{Lab, Call, lent_to, Answer, told, Outcome, Comes, no_buffer, with_desk, bench_at, with_bench, with_made}
use Rattle.promises.specs.Order.{Allows, Keeps, AllAllowed, AllKeep}
use Rattle.promises.specs.Order.{opens, replies, cancels, expires, makes, adds, sets, takes}
use Rattle.promises.specs.Order as answers

-- ---- each call has exactly one outcome

same_outcome : {a b : Outcome} → a.answer ≡ b.answer → a.lab ≡ b.lab → a.room ≡ b.room → a ≡ b
same_outcome {a} {b} p q s =
    ap (λ (x : Answer). record { answer = x; lab = a.lab; room = a.room }) p
    ∙ ap (λ (x : Lab). record { answer = b.answer; lab = x; room = a.room }) q
    ∙ ap (λ (x : List ℕ). record { answer = b.answer; lab = b.lab; room = x }) s

-- one outcome of a contract is one outcome of the call
settles : {R : Type 0} (contract : R → List ℕ → Type 0) (answer : R → Answer) (next : R → Lab)
    → Settled {A = R × List ℕ} (λ o. contract o.0 o.1) → Settled (Comes contract answer next)
settles {R} contract answer next s =
    record {
      outcome = record { answer = answer s.outcome.0; lab = next s.outcome.0; room = s.outcome.1 };
      is_allowed_lem = (s.outcome.0, s.is_allowed_lem, refl, refl);
      only = λ other p.
          let e : (p.0, other.room) ≡ s.outcome = s.only (p.0, other.room) p.1 in
          same_outcome (p.2 ∙ ap (λ (o : R × List ℕ). answer o.0) e) (p.3 ∙ ap (λ (o : R × List ℕ). next o.0) e)
          (ap (λ (o : R × List ℕ). o.1) e);
    }

-- a call without a buffer leaves an empty one
no_buffer_lem : {R : Type 0} (contract : R → Type 0) → Settled contract → Settled {A = R × List ℕ} (λ o. no_buffer contract o.0 o.1)
no_buffer_lem {R} contract s =
    record {
      outcome = (s.outcome, []);
      is_allowed_lem = (s.is_allowed_lem, refl);
      only = λ other p.
          ap (λ (r : R). (r, other.1)) (s.only other.0 p.0) ∙ ap (λ (room : List ℕ). (s.outcome, room)) p.1;
    }

pub call_settled : (lab : Lab) (call : Call) → Settled (Allows lab call)
unfolding Allows
call_settled lab (opens asked bytes clock room) = settles _ _ _ (opens_settled lab.desk asked bytes clock room)
call_settled lab (replies frame room) = settles _ _ _ (replies_settled lab.desk frame room)
call_settled lab (cancels job address clock) = settles _ _ _ (no_buffer_lem _ (cancels_settled lab.desk job address clock))
call_settled lab (expires clock) = settles _ _ _ (no_buffer_lem _ (expires_settled lab.desk clock))
call_settled lab (makes address) = settles _ _ _ (no_buffer_lem _ (makes_settled address))
call_settled lab (adds bench number kind rights) = settles _ _ _ (no_buffer_lem _ (adds_settled (bench_at lab bench) number kind rights))
call_settled lab (sets bench number value) = settles _ _ _ (no_buffer_lem _ (sets_settled (bench_at lab bench) number value))
call_settled lab (takes bench frame room) = settles _ _ _ (takes_settled (bench_at lab bench) frame room)

-- ---- a refused one leaves what there was

open_refused_lem : (a : Opening) (n : ℕ) → open_told a ≡ some n → (f : Fault) × (a ≡ Err f)
open_refused_lem (Err f) n e = (f, refl)
open_refused_lem (Ok opened) n e = clash (cc)

book_refused : (a : Booking) (n : ℕ) → book_told a ≡ some n → (f : Fault) × (a ≡ Err f)
book_refused (Err f) n e = (f, refl)
book_refused (Ok booked) n e = clash (cc)

close_refused : (a : Closing) (n : ℕ) → close_told a ≡ some n → (f : Fault) × (a ≡ Err f)
close_refused (Err f) n e = (f, refl)
close_refused (Ok closed) n e = clash (cc)

build_refused : (a : Building) (n : ℕ) → build_told a ≡ some n → (f : silence.Fault) × (a ≡ Err f)
build_refused (Err f) n e = (f, refl)
build_refused (Ok _) n e = clash (cc)

take_silent : (a : Taking) (n : ℕ) → take_told a ≡ some n → (f : silence.Fault) × (a ≡ Err f)
take_silent (Err f) n e = (f, refl)
take_silent (Ok m) n e = clash (cc)

-- the same bench put back
same_bench : (lab : Lab) (k : ℕ) (bench : Bench) → bench ≡ bench_at lab k → with_bench lab k bench ≡ lab
same_bench lab k bench e = rw (e, set-get_or lab.benches k (empty_bench 0))

pub call_keeps : (lab : Lab) (call : Call) (o : Outcome) → Allows lab call o → Keeps lab call o
unfolding Allows
call_keeps lab (opens asked bytes clock room) o p n e =
    let f = open_refused_lem p.0.answer n (sym (ap told p.2) ∙ e) in
    let kept = open_refusal_keeps lab.desk asked bytes clock room p.0 o.room p.1 f.0 f.1 in
    (p.3 ∙ rw kept.0, kept.1)
call_keeps lab (replies frame room) o p n e =
    let f = book_refused p.0.answer n (sym (ap told p.2) ∙ e) in
    let kept = reply_refusal_keeps lab.desk frame room p.0 o.room p.1 f.0 f.1 in
    (p.3 ∙ rw kept.0, kept.1)
call_keeps lab (cancels job address clock) o p n e =
    let f = close_refused p.0.answer n (sym (ap told p.2) ∙ e) in
    (p.3 ∙ rw (cancel_refusal_keeps lab.desk job address clock p.0 f.0 p.1.0 f.1), p.1.1)
call_keeps lab (expires clock) o p n e =
    let f = close_refused p.0.answer n (sym (ap told p.2) ∙ e) in
    (p.3 ∙ rw (expire_refusal_keeps lab.desk clock p.0 f.0 p.1.0 f.1), p.1.1)
call_keeps lab (makes address) o p n e =
    let f = build_refused p.0.answer n (sym (ap told p.2) ∙ e) in
    (p.3 ∙ rw f.1, p.1.1)
call_keeps lab (adds bench number kind rights) o p n e =
    let f = build_refused p.0.answer n (sym (ap told p.2) ∙ e) in
    (p.3 ∙ same_bench lab bench p.0.bench (add_refused (bench_at lab bench) number kind rights f.0 p.1.0 f.1), p.1.1)
call_keeps lab (sets bench number value) o p n e =
    let f = build_refused p.0.answer n (sym (ap told p.2) ∙ e) in
    (p.3 ∙ same_bench lab bench p.0.bench (set_refused (bench_at lab bench) number value f.0 p.1.0 f.1), p.1.1)
call_keeps lab (takes bench frame room) o p n e =
    let f = take_silent p.0.answer n (sym (ap told p.2) ∙ e) in
    let kept = silent_stays (bench_at lab bench) frame room f.0 p.1 f.1 in
    (p.3 ∙ same_bench lab bench p.0.bench kept.0, kept.1)

-- ---- "Any bytes, any numbers, any order of calls get an answer. [..] and a refusal changes no ticket, no register and no byte of a buffer we
-- lent": whatever lab, whatever calls

all_settled : (lab : Lab) (calls : List Call) → Settled (AllAllowed lab calls)
unfolding AllAllowed
all_settled lab [] = record { outcome = []; is_allowed_lem = tt; only = only }
  where
    only : (other : List Outcome) → AllAllowed lab [] other → other ≡ []
    only [] p = refl
    only (o ∷ os) p = absurd p
all_settled lab (call ∷ calls) =
    let now = call_settled lab call in
    let later = all_settled now.outcome.lab calls in
    record { outcome = now.outcome ∷ later.outcome; is_allowed_lem = (now.is_allowed_lem, later.is_allowed_lem); only = only now later }
  where
    only : (now : Settled (Allows lab call)) (later : Settled (AllAllowed now.outcome.lab calls)) (other : List Outcome)
        → AllAllowed lab (call ∷ calls) other → other ≡ now.outcome ∷ later.outcome
    only now later [] p = absurd p
    only now later (o ∷ os) p =
        let first : o ≡ now.outcome = now.only o p.0 in
        let rest : os ≡ later.outcome = later.only os (rw first at p.1) in
        ap (λ (x : Outcome). x ∷ os) first ∙ ap (λ (xs : List Outcome). now.outcome ∷ xs) rest

all_keep : (lab : Lab) (calls : List Call) (os : List Outcome) → AllAllowed lab calls os → AllKeep lab calls os
unfolding AllAllowed AllKeep
all_keep lab [] os p = tt
all_keep lab (call ∷ calls) [] p = tt
all_keep lab (call ∷ calls) (o ∷ os) p = (call_keeps lab call o p.0, all_keep o.lab calls os p.1)

pub any_order : (lab : Lab) (calls : List Call) → Settled (AllAllowed lab calls) × ((os : List Outcome) → AllAllowed lab calls os → AllKeep lab calls os)
any_order lab calls = (all_settled lab calls, all_keep lab calls)

-- ---- what is allowed here is what the contracts allow: the answer, the desk or the bench, and the lent buffer

module _ (lab : Lab) where
  pub opens_allowed : (asked : Request) (bytes : List ℕ) (clock : ℕ) (room : List ℕ) (r : AfterOpen) (room' : List ℕ)
      → Opens lab.desk asked bytes clock room r room'
      → Allows lab (opens asked bytes clock room) (record { answer = answers.opening r.answer r.count; lab = record { desk = r.desk; benches = lab.benches }; room = room' })
  unfolding Allows
  opens_allowed asked bytes clock room r room' p = (r, p, refl, refl)

  pub replies_allowed : (frame room : List ℕ) (r : AfterReply) (room' : List ℕ) → Replies lab.desk frame room r room'
      → Allows lab (replies frame room) (record { answer = answers.booking r.answer; lab = record { desk = r.desk; benches = lab.benches }; room = room' })
  unfolding Allows
  replies_allowed frame room r room' p = (r, p, refl, refl)

  pub cancels_allowed : (job address clock : ℕ) (r : AfterClose) → Cancels lab.desk job address clock r
      → Allows lab (cancels job address clock)
      (record { answer = answers.closing r.answer; lab = record { desk = r.desk; benches = lab.benches }; room = [] })
  unfolding Allows
  cancels_allowed job address clock r p = (r, (p, refl), refl, refl)

  pub expires_allowed : (clock : ℕ) (r : AfterClose) → Expires lab.desk clock r
      → Allows lab (expires clock) (record { answer = answers.closing r.answer; lab = record { desk = r.desk; benches = lab.benches }; room = [] })
  unfolding Allows
  expires_allowed clock r p = (r, (p, refl), refl, refl)

  pub makes_allowed : (address : ℕ) (bench : Bench) → Makes address (record { answer = Ok tt; bench = bench })
      → Allows lab (makes address)
      (record { answer = answers.building (Ok tt); lab = record { desk = lab.desk; benches = lab.benches ++ (bench ∷ []) }; room = [] })
  unfolding Allows
  makes_allowed address bench p = (record { answer = Ok tt; bench = bench }, (p, refl), refl, refl)

  pub adds_allowed : (k number kind rights : ℕ) (r : AfterBuild) → Adds (get_or lab.benches k (empty_bench 0)) number kind rights r
      → Allows lab (adds k number kind rights)
      (record { answer = answers.building r.answer; lab = record { desk = lab.desk; benches = set lab.benches k r.bench }; room = [] })
  unfolding Allows
  adds_allowed k number kind rights r p = (r, (p, refl), refl, refl)

  pub sets_allowed : (k number : ℕ) (value : Value) (r : AfterBuild) → Sets (get_or lab.benches k (empty_bench 0)) number value r
      → Allows lab (sets k number value)
      (record { answer = answers.building r.answer; lab = record { desk = lab.desk; benches = set lab.benches k r.bench }; room = [] })
  unfolding Allows
  sets_allowed k number value r p = (r, (p, refl), refl, refl)

  pub takes_allowed : (k : ℕ) (frame room : List ℕ) (r : AfterTake) (room' : List ℕ) → Takes (get_or lab.benches k (empty_bench 0)) frame room r room'
      → Allows lab (takes k frame room)
      (record { answer = answers.taking r.answer; lab = record { desk = lab.desk; benches = set lab.benches k r.bench }; room = room' })
  unfolding Allows
  takes_allowed k frame room r room' p = (r, p, refl, refl)

-- the number that is told is the one that the call's own law is about: `open_exactly`, `reply_exactly` and so on
pub told_as : ((a : Opening) (count : ℕ) → told (answers.opening a count) ≡ open_told a)
    × ((a : Booking) → told (answers.booking a) ≡ book_told a)
    × ((a : Closing) → told (answers.closing a) ≡ close_told a)
    × ((a : Building) → told (answers.building a) ≡ build_told a)
    × ((a : Taking) → told (answers.taking a) ≡ take_told a)
told_as = ((λ a count. refl), (λ a. refl), (λ a. refl), (λ a. refl), (λ a. refl))

-- a refusal keeps, said out: the lab and the lent buffer
pub refused_keeps : (lab : Lab) (call : Call) (calls : List Call) (o : Outcome) (later : List Outcome) → AllKeep lab (call ∷ calls) (o ∷ later)
    → (n : ℕ) → told o.answer ≡ some n → (o.lab ≡ lab) × (o.room ≡ lent_to call)
unfolding AllKeep
refused_keeps lab call calls o later p = p.0

-- and each call is made on the lab that the one before it left
pub next_lab : (lab : Lab) (call : Call) (calls : List Call) (o : Outcome) (os : List Outcome) → AllAllowed lab (call ∷ calls) (o ∷ os)
    → Allows lab call o × AllAllowed o.lab calls os
unfolding AllAllowed
next_lab lab call calls o os p = p

pub next_kept : (lab : Lab) (call : Call) (calls : List Call) (o : Outcome) (os : List Outcome) → AllKeep lab (call ∷ calls) (o ∷ os) → AllKeep o.lab calls os
unfolding AllKeep
next_kept lab call calls o os p = p.1

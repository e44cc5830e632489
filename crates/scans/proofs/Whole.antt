-- A scan that comes to its end: each module is asked in turn, and its ticket cancelled; and one whose first module answered. So what is promised
-- of one that is done, and of a module that answered, is not empty.
-- Assumes nothing.
use Rattle.std.specs.Prelude.{Ok, Err}
use mathlib.Core.Path.{◌≡◌, refl, sym, ap, subst, ◌∙◌}
use mathlib.Core.Bool.{Bool, true, false, true≢false}
use mathlib.Core.List.{List, [], ◌∷◌}
use mathlib.Core.Logic.{◌≢◌, ◌⊎◌, ⊎_elim}
use mathlib.Core.Option.{none}
use Prim.Native.Nat.{ℕ, zero, suc, ◌+◌, ◌-◌, ◌*◌, ◌≤◌, ◌<◌}
use native.Mathlib.Omega.{arith}
use borrow.Author.Tests.{eqb-true, eqb-false, le-leb}
use lib.Dec.{eqb}
use lib.ListN.{length, replicate, take, length-replicate}
use Rattle.rows.proofs.Laws.{clash}
use Rattle.telegram.proofs.Send.{telegram_long, length-message_for}
use Rattle.telegram.proofs.Judge.{reading_telegram}
use Rattle.telegram.proofs.Laws.{fields_written, reads_back, reads_settled, writes_settled}
use Rattle.telegram.specs.Read.{read_refusal, fields_in}
use Rattle.telegram.specs.Write.{message_for, telegram_for, fields_for, Writes}
use Rattle.telegram.specs.Answers.{Writing}
use Rattle.desk.proofs.Laws.{opened_given, cancelled_right, cancels_settled, replies_settled, empty_place}
use Rattle.desk.proofs.Ranking.{cancel_plainly}
use Rattle.desk.specs.Close.{close_told}
use Rattle.desk.specs.Desk.{fresh_desk, ticket_on}
use Rattle.desk.specs.Open.{given_place, request_at}
use Rattle.desk.specs.Reply.{book_refusal, reply_refusal}
use Rattle.desk.specs.Answers.{Closing, closing}
use Rattle.desk.specs.declared.Desk.{Desk}
use Rattle.nights.specs.Night.{after_all}
use Rattle.scan.proofs.Laws.{steps_settled, step_refusals, step_opened, done_exactly, waiting_exactly, closed_is_absent, hears_reply_settled, hears_closing_settled}
use Rattle.scan.specs.Scan.{Steps, HearsClosing, step_told, fresh_scan, request}
use Rattle.scan.specs.declared.AfterStep.{AfterStep}
use Rattle.scan.specs.declared.Scan.{Scan}
use Rattle.scan.specs.Answers.{Stepping}
use Rattle.scan.specs.declared.Stage.TheVariants.{Asked, Waiting, Done}
use Rattle.ticket.specs.Due.{age}
use Rattle.ticket.specs.Fit.{fit_refusal, kind_fits}
use Rattle.ticket.specs.Ticket.{new_ticket, withdrawn_at}
use Rattle.ticket.specs.declared.Ticket.{Ticket}
use Rattle.scans.specs.Shift.{Event, Shift, OutOn, Ended, of_step, of_booking, of_closing}
use Rattle.scans.specs.Shift.{asked, booked}
use Rattle.scans.specs.Shift.{begins, steps, replies, cancels}
use Rattle.scans.proofs.Laws.{any_shift, night_beside, one_job}

-- an address that may be given out from 1000 ms past a clock on
abbrev Idle : ℕ → Ticket → Type 0
Idle clock t = (t.live ≡ false) × (t.withdrawn ≡ true → t.closed ≤ clock)

record At (job k : ℕ) : Type 0 where
  scan : Scan
  desk : Desk
  past : List Event
  shift : Shift job scan desk past
  turns : scan.turns ≡ k
  free : scan.out ≡ 0
  idle : Idle (1000 * k) (ticket_on desk 161)

rested : (k since : ℕ) → k < 160 → since ≤ 1000 * k → age (1000 * k + 1000) since < 1000 → ⊥
unfolding age
rested k since few before low = absurd (omega (arith, few, before, low))

long : (place unit : ℕ) → length (request_at place (record { job = 1; unit = unit; sort = 4; register = 97; wait = 100; folder = 0 }) []) ≤ 494
long place unit =
    let sized = length-message_for unit (161 + place) 4 97 [] in
    telegram_long (message_for unit (161 + place) 4 97 []) (omega (arith, sized))

start : (job : ℕ) → At job 0
unfolding after_all
start job =
    record {
      scan = fresh_scan job;
      desk = fresh_desk;
      past = [];
      shift = begins [];
      turns = refl;
      free = refl;
      idle = (ap (λ (t : Ticket). t.live) (empty_place 0), λ w. absurd (true≢false (sym w ∙ ap (λ (t : Ticket). t.withdrawn) (empty_place 0))));
    }

module _ (job : ℕ) (real : job ≢ 0) (k : ℕ) (few : k < 160) (a : At job k) where
  clock : ℕ
  clock = 1000 * k + 1000

  room : List ℕ
  room = replicate 494 0

  s : Scan
  s = a.scan

  left : a.scan.turns < 160
  left = let t = a.turns in omega (arith, t, few)

  none_told : (r : AfterStep) (room' : List ℕ) → Steps a.scan a.desk clock room r room' → step_told r.answer ≡ none
  unfolding clock room
  none_told r room' c =
      (step_refusals a.scan a.desk clock room r room' c left a.free).done.1 (
        λ zero_job. real (sym (one_job a.shift) ∙ zero_job),
        (
          λ all.
              ⊎_elim (λ live. true≢false (sym live ∙ a.idle.0))
              (λ rests. rested k _ few (a.idle.1 rests.0) rests.1) (all 0 (omega arith)),
          (
            λ short. let l = long (given_place a.desk clock) (a.scan.turns + 1) in let w = length-replicate {A = ℕ} 494 0 in absurd (omega (arith, short, l, w)),
            tt,
          ),
        ),
      )

  was_asked : (x : Stepping) → step_told x ≡ none → x ≢ (Ok Done) → ((y : ℕ) → x ≢ Ok (Waiting y)) → (address : ℕ) × (unit : ℕ) × (n : ℕ) × (x ≡ Ok (Asked address unit n))
  was_asked (Ok (Asked address unit n)) told d w = (address, unit, n, refl)
  was_asked (Ok Done) told d w = absurd (d refl)
  was_asked (Ok (Waiting y)) told d w = absurd (w y refl)
  was_asked (Err f) told d w = clash (cc)

  was_closed : (x : Closing) → close_told x ≡ none → (theirs : ℕ) × (there : ℕ) × (folder : ℕ) × (x ≡ closing theirs there folder)
  was_closed (Ok closed) told = (closed.job, closed.address, closed.folder, refl)
  was_closed (Err f) told = clash (cc)

  -- its ticket is cancelled
  ended : (desk : Desk) (scan : Scan) (past : List Event) (address : ℕ) → Shift job scan desk past → scan.turns ≡ k → scan.out ≡ address → address ≢ 0
      → (address ≢ 161 → Idle (1000 * k) (ticket_on desk 161)) → At job (k + 1)
  unfolding clock
  ended desk scan past address shift same out some_address idle =
      let p = any_shift shift in
      let here = (p.is_out_lem (scan.turns + 1) address).1 (out, some_address, refl) in
      let stood = (p.stands (scan.turns + 1) address here).1 in
      let c = cancels_settled desk job address clock in
      let told = (cancel_plainly desk job address clock c.outcome c.is_allowed_lem).done.1
      ((λ not_so. not_so (ap (λ (t : Ticket). t.live) stood, ap (λ (t : Ticket). t.asked.job) stood)), tt) in
      let was = was_closed c.outcome.answer told in
      let right = cancelled_right desk job address clock c.outcome was.0 was.1 was.2 c.is_allowed_lem was.3 in
      let h = hears_closing_settled scan c.outcome.answer in
      let next = closed_is_absent scan h.outcome (λ zero. some_address (sym out ∙ zero)) (omega (arith, same, few)) was.0 was.2
      (subst (λ (x : Closing). HearsClosing scan x h.outcome) (was.3 ∙ ap (λ (y : ℕ). closing was.0 y was.2) (right.1 ∙ sym out)) h.is_allowed_lem) in
      record {
        scan = h.outcome;
        desk = c.outcome.desk;
        past = of_closing c.outcome.answer ∷ past;
        shift = cancels shift job address clock c.outcome h.outcome c.is_allowed_lem h.is_allowed_lem;
        turns = ap (λ (x : Scan). x.turns) next ∙ ap (λ (x : ℕ). x + 1) same;
        free = ap (λ (x : Scan). x.out) next;
        idle = by_place (eqb address 161) refl c.outcome.desk right.3.closed right.3.others;
      }
    where
      by_place : (b : Bool) → eqb address 161 ≡ b → (desk' : Desk) → ticket_on desk' address ≡ withdrawn_at clock
          → ((other : ℕ) → other ≢ address → ticket_on desk' other ≡ ticket_on desk other) → Idle (1000 * (k + 1)) (ticket_on desk' 161)
      by_place true e desk' closed others =
          let is = ap (λ (x : ℕ). ticket_on desk' x) (sym (eqb-true address 161 e)) ∙ closed in
          (ap (λ (t : Ticket). t.live) is, λ w. let c = ap (λ (t : Ticket). t.closed) is in omega (arith, c))
      by_place false e desk' closed others =
          let apart = eqb-false address 161 e in
          let is = others 161 (λ x. apart (sym x)) in
          let was = idle apart in (
            ap (λ (t : Ticket). t.live) is ∙ was.0,
            λ w.
                let c = ap (λ (t : Ticket). t.closed) is in
                let b = was.1 (sym (ap (λ (t : Ticket). t.withdrawn) is) ∙ w) in omega (arith, c, b),
          )

  -- the module is asked, and what comes of that
  module _ (Then : Type 0)
      (then : (desk : Desk) (scan : Scan) (past : List Event) (address : ℕ) → Shift job scan desk past → scan.turns ≡ k → scan.out ≡ address → address ≢ 0
      → (address ≢ 161 → Idle (1000 * k) (ticket_on desk 161)) → Then) where
    once_asked : Then
    once_asked =
        let st = steps_settled a.scan a.desk clock room in
        let r : AfterStep = st.outcome.0 in
        let room' : List ℕ = st.outcome.1 in
        let c : Steps a.scan a.desk clock room r room' = st.is_allowed_lem in
        let l = left in
        let was = was_asked r.answer (none_told r room' c)
        (λ d. let all = (done_exactly a.scan a.desk clock room r room' c).0 d in absurd (omega (arith, all, l)))
        (λ y w. ((waiting_exactly a.scan a.desk clock room r room' c y).0 w).1 a.free) in
        let t = step_opened a.scan a.desk clock room r room' c was.0 was.1 was.2 was.3 in
        let o = t.3 in
        let given = opened_given a.desk (request a.scan) [] clock room o.0 room' o.1 was.0 was.2 (night_beside a.shift).1.sound.places o.2 in
        let host = given.host in
        then r.desk r.scan (of_step r.answer ∷ a.past) was.0 (steps a.shift clock room r room' c)
        (ap (λ (x : Scan). x.turns) o.4 ∙ a.turns) (ap (λ (x : Scan). x.out) o.4) (λ zero. absurd (omega (arith, host, zero)))
        (λ apart. rw (ap (λ (d : Desk). ticket_on d 161) o.3 ∙ given.others 161 (λ x. apart (sym x))) a.idle)

  one_turn : At job (k + 1)
  one_turn = once_asked (At job (k + 1)) ended

up_to : (job : ℕ) → job ≢ 0 → (k : ℕ) → k ≤ 160 → At job k
up_to job real zero few = start job
up_to job real (suc k) few = subst (At job) (omega arith) (one_turn job real k (omega (arith, few)) (up_to job real k (omega (arith, few))))

-- a scan can come to its end: for every job but 0 there is a shift after which 160 of its tickets came to their end
pub some_shift_ends : (job : ℕ) → job ≢ 0 → (scan : Scan) × (desk : Desk) × (past : List Event) × Shift job scan desk past × Ended past 160
some_shift_ends job real =
    let a = up_to job real 160 (omega arith) in
    (a.scan, a.desk, a.past, a.shift, subst (λ (k : ℕ). Ended a.past k) a.turns (any_shift a.shift).counted)

-- ---- and a module can answer: whatever type answers a read, there is a shift in which module 1 answered with it

-- a telegram without data, and what a reader makes of it
module _ (d s sort : ℕ) (real : d ≢ 0) (real' : s ≢ 0) (known : sort ≤ 9) where
  some_frame : (frame : List ℕ) × (read_refusal frame 0 ≡ none) × (fields_in frame ≡ fields_for d s sort 97 [])
  some_frame =
      let w = writes_settled d s sort 97 [] (replicate 494 0) in
      let long = length-message_for d s sort 97 [] in
      let l = telegram_long (message_for d s sort 97 []) (omega (arith, long)) in
      let sized = length-replicate {A = ℕ} 494 0 in
      let was = fields_written d s sort 97 [] (replicate 494 0) w.outcome.0 w.outcome.1 real real' known (omega arith) (omega (arith, l, sized)) w.is_allowed_lem in
      let n = length (telegram_for d s sort 97 []) in
      let frame = take n w.outcome.1 in
      let reads = reads_settled frame [] in
      let back = reads_back d s sort 97 [] (replicate 494 0) n w.outcome.1
      (subst (λ (x : Writing). Writes d s sort 97 [] (replicate 494 0) x w.outcome.1) was.0 w.is_allowed_lem)
      [] reads.outcome.0 reads.outcome.1 (omega arith) reads.is_allowed_lem in
      let read = reading_telegram frame 0 (fields_for d s sort 97 []) (sym reads.is_allowed_lem.0 ∙ back.0) in
      (frame, read.0, sym read.1)

of_a_read : (sort : ℕ) → (sort ≡ 8) ⊎ (sort ≤ 2) → (kind_fits 4 sort ≡ true) × (sort ≤ 9)
of_a_read sort h =
    ⊎_elim (λ eight. (rw eight refl, omega (arith, eight))) (λ low. (rw (le-leb sort 2 low) refl, omega (arith, low))) h

-- it fits the ticket of module 1's turn
fits_turn : (desk : Desk) (frame : List ℕ) (address job clock sort : ℕ) → read_refusal frame 0 ≡ none → fields_in frame ≡ fields_for address 1 sort 97 []
    → ticket_on desk address ≡ new_ticket (record { job = job; unit = 1; sort = 4; register = 97; wait = 100; folder = 0 }) clock
    → kind_fits 4 sort ≡ true → reply_refusal desk frame 0 ≡ none
unfolding reply_refusal book_refusal fit_refusal
fits_turn desk frame address job clock sort read said stood fits = rw (read, said, stood, fits) refl

pub some_turn_answered : (job : ℕ) → job ≢ 0 → (sort : ℕ) → (sort ≡ 8) ⊎ (sort ≤ 2)
    → (scan : Scan) × (desk : Desk) × (address : ℕ) × (earlier : List Event) × Shift job scan desk (booked address sort ∷ earlier) × OutOn earlier 1 address
some_turn_answered job real sort answers =
    once_asked job real 0 (omega arith) (start job)
    ((scan : Scan) × (desk : Desk) × (address : ℕ) × (earlier : List Event) × Shift job scan desk (booked address sort ∷ earlier) × OutOn earlier 1 address)
    (λ desk scan past address shift none_over out some_address idle.
    let p = any_shift shift in
    let here = (p.is_out_lem 1 address).1 (out, some_address, omega (arith, none_over)) in
    let stood = p.stands 1 address here in
    let kind = of_a_read sort answers in
    let f = some_frame address 1 sort some_address (λ zero. absurd (omega (arith, zero))) kind.1 in
    let c = replies_settled desk f.0 [] in
    let fits = fits_turn desk f.0 address job stood.0 sort f.1 f.2 stood.1 kind.0 in
    let is : of_booking c.outcome.0.answer ≡ booked address sort = ap of_booking c.is_allowed_lem.0 ∙ rw (fits, f.2) refl in
    let h = hears_reply_settled scan c.outcome.0.answer in (
      h.outcome,
      c.outcome.0.desk,
      address,
      past,
      subst (λ (e : Event). Shift job h.outcome c.outcome.0.desk (e ∷ past)) is
          (replies shift f.0 [] c.outcome.0 c.outcome.1 h.outcome c.is_allowed_lem h.is_allowed_lem),
      here,
    ))

-- What holds of a scan over any shift. 02, #113.
-- Assumes nothing.
use Rattle.std.specs.Prelude.{Ok, Err}
use mathlib.Core.Path.{◌≡◌, refl, sym, ap, subst, ◌∙◌}
use mathlib.Core.Bool.{Bool, true, false, true≢false}
use mathlib.Core.List.{List, [], ◌∷◌, ◌++◌}
use mathlib.Core.Logic.{◌≢◌, ◌⊎◌, inl, inr, ⊎_elim, ◌↔◌}
use Prim.Native.Nat.{ℕ, ◌+◌, ◌-◌, ◌≤◌, ◌<◌}
use native.Mathlib.Omega.{arith}
use borrow.Author.Tests.{eqb-true, eqb-false, leb-true, leb-false}
use lib.Dec.{eqb, leb}
use lib.ListN.{length, get_or, set, length-replicate}
use Rattle.rows.proofs.Laws.{clash}
use Rattle.desk.proofs.Laws.{opened_given, booked_right, cancelled_right, expired_right, open_refusal_keeps, reply_refusal_keeps, cancel_refusal_keeps, expire_refusal_keeps}
use Rattle.desk.specs.Close.{Cancels, Expires}
use Rattle.desk.specs.Desk.{fresh_desk, ticket_on}
use Rattle.desk.specs.Open.{Opens}
use Rattle.desk.specs.Outcome.{Given, ClosedAlone}
use Rattle.desk.specs.Reply.{Replies}
use Rattle.desk.specs.declared.AfterClose.{AfterClose}
use Rattle.desk.specs.declared.AfterOpen.{AfterOpen}
use Rattle.desk.specs.declared.AfterReply.{AfterReply}
use Rattle.desk.specs.Answers.{Booking, booking, closing, opening}
use Rattle.desk.specs.Answers.{Closing}
use Rattle.desk.specs.declared.Desk.{Desk}
use Rattle.desk.specs.Answers.{Opening}
use Rattle.nights.proofs.Laws.{step, any_night, opens_after, replies_after, cancels_after, expires_after}
use Rattle.nights.specs.Night.{Night, event_of, answered_all, asks, brings, cancels as cancels_at, expires as expires_at}
use Rattle.nights.specs.Night.{Event as Seen}
use Rattle.request.specs.declared.Request.{Request}
use Rattle.scan.proofs.Laws.{step_opened, step_refusal_keeps, done_exactly, done_stays, waiting_exactly, waiting_stays, nothing_out_stays, elsewhere_stays, datagram_is_1, else_is_2, closed_is_absent, result_set, make_results}
use Rattle.scan.specs.Scan.{request, fresh_scan, Steps, HearsReply, HearsClosing}
use Rattle.scan.specs.declared.AfterStep.{AfterStep}
use Rattle.scan.specs.declared.Scan.{Scan}
use Rattle.scan.specs.Answers.{Stepping}
use Rattle.scan.specs.declared.Stage.TheVariants.{Asked, Waiting, Done}
use Rattle.ticket.specs.Fit.{KindFits}
use Rattle.ticket.specs.Ticket.{no_ticket, new_ticket, withdrawn_at}
use Rattle.ticket.specs.declared.Ticket.{Ticket}
use Rattle.scans.specs.Shift.{Event, Shift, OutOn, Ends, Became, Ended, Right, Promised, of_step, of_opening, of_booking, of_closing}
use Rattle.scans.specs.Shift.{asked, opened, booked, withdrawn, nothing}
use Rattle.scans.specs.Shift.{begins, steps, opens, replies, cancels, expires}

-- ---- by one event more

-- an event that ends no ticket of the scan leaves what is counted and what became of them
quiet_ended : (e : Event) (past : List Event) → ((n r : ℕ) → Ends e past n r → ⊥) → (k : ℕ) → Ended past k → Ended (e ∷ past) k
unfolding Ended
quiet_ended e past none k h = inr (none, h)

quiet_became : (e : Event) (past : List Event) → ((n r : ℕ) → Ends e past n r → ⊥) → (n r : ℕ) {A : Type 0} → Became past n r ↔ A → Became (e ∷ past) n r ↔ A
unfolding Became
quiet_became e past none n r b = (λ h. ⊎_elim (λ now. absurd (none n r now)) (λ before. b.0 before) h, λ a. inr (b.1 a))

-- each event was right
abbrev Always : List Event → Type 0
Always past = (later : List Event) (e : Event) (earlier : List Event) → past ≡ later ++ (e ∷ earlier) → Right e earlier

-- the first of a list, and the rest
head_is : {x y : Event} {xs ys : List Event} → x ∷ xs ≡ y ∷ ys → (x ≡ y) × (xs ≡ ys)
head_is e = (cc, cc)

always_more : (e : Event) (past : List Event) → Right e past → Always past → Always (e ∷ past)
always_more e past now before [] x earlier is =
    let t = head_is is in subst (λ (p : List Event). Right x p) t.1 (subst (λ (y : Event). Right y past) t.0 now)
always_more e past now before (y ∷ later) x earlier is = before later x earlier (head_is is).1

-- this turn or one before
up_to : (n k : ℕ) → n ≤ k + 1 → (n ≤ k) ⊎ (n ≡ k + 1)
up_to n k h = go (leb n k) refl
  where
    go : (b : Bool) → leb n k ≡ b → (n ≤ k) ⊎ (n ≡ k + 1)
    go true e = inl (leb-true n k e)
    go false e = inr (let l = leb-false n k e in omega arith)

-- ---- the scan alone: it goes by what was answered

record Follows (scan : Scan) (past : List Event) : Type 0 where
  is_out_lem : (n a : ℕ) → OutOn past n a ↔ ((scan.out ≡ a) × (a ≢ 0) × (n ≡ scan.turns + 1))
  counted : Ended past scan.turns
  at_most : scan.turns ≤ 160
  left : scan.out ≢ 0 → scan.turns < 160
  long : length scan.results ≡ 160
  results : (n r : ℕ) → Became past n r ↔ ((1 ≤ n) × (n ≤ scan.turns) × (get_or scan.results (n - 1) 0 ≡ r))
  to_come : (i : ℕ) → scan.turns ≤ i → get_or scan.results i 0 ≡ 0
  always : Always past

module _ (scan : Scan) (past : List Event) (f : Follows scan past) where
  follows_nothing : Follows scan (nothing ∷ past)
  unfolding OutOn Ends Right
  follows_nothing =
      record {
        is_out_lem = f.is_out_lem;
        counted = quiet_ended nothing past (λ n r h. h) scan.turns f.counted;
        at_most = f.at_most;
        left = f.left;
        long = f.long;
        results = λ n r. quiet_became nothing past (λ m s h. h) n r (f.results n r);
        to_come = f.to_come;
        always = always_more nothing past tt f.always;
      }

  -- no ticket of the scan is out on an address
  apart : (address : ℕ) → (scan.out ≢ 0 → scan.out ≢ address) → (n : ℕ) → OutOn past n address → ⊥
  apart address away n o = let t = (f.is_out_lem n address).0 o in away (λ zero. t.1 (sym t.0 ∙ zero)) t.0

  -- something happens there
  elsewhere : (e : Event) (address : ℕ) → ((n a : ℕ) → OutOn (e ∷ past) n a ↔ ((a ≢ address) × OutOn past n a))
      → ((n r : ℕ) → Ends e past n r → OutOn past n address) → Right e past
      → (scan.out ≢ 0 → scan.out ≢ address) → Follows scan (e ∷ past)
  elsewhere e address out_after ends right away =
      let none = apart address away in
      record {
        is_out_lem = λ n a. (
          λ h. (f.is_out_lem n a).0 ((out_after n a).0 h).1,
          λ h. (out_after n a).1 (λ same. none n (subst (λ (x : ℕ). OutOn past n x) same ((f.is_out_lem n a).1 h)), (f.is_out_lem n a).1 h),
        );
        counted = quiet_ended e past (λ n r h. none n (ends n r h)) scan.turns f.counted;
        at_most = f.at_most;
        left = f.left;
        long = f.long;
        results = λ n r. quiet_became e past (λ m s h. none m (ends m s h)) n r (f.results n r);
        to_come = f.to_come;
        always = always_more e past right f.always;
      }

  follows_opened : (address : ℕ) → (scan.out ≢ 0 → scan.out ≢ address) → Follows scan (opened address ∷ past)
  unfolding OutOn Ends Right
  follows_opened address away = elsewhere (opened address) address (λ n a. (λ h. h, λ h. h)) (λ n r h. absurd h) (apart address away) away

  booked_away : (address sort : ℕ) → (scan.out ≢ 0 → scan.out ≢ address) → Follows scan (booked address sort ∷ past)
  unfolding OutOn Ends Right
  booked_away address sort away =
      elsewhere (booked address sort) address (λ n a. (λ h. h, λ h. h)) (λ n r h. h.0) (λ n o. absurd (apart address away n o)) away

  withdrawn_away : (address : ℕ) → (scan.out ≢ 0 → scan.out ≢ address) → Follows scan (withdrawn address ∷ past)
  unfolding OutOn Ends Right
  withdrawn_away address away = elsewhere (withdrawn address) address (λ n a. (λ h. h, λ h. h)) (λ n r h. h.0) tt away

  -- a step asks the next module
  follows_asked : (unit address : ℕ) → scan.turns < 160 → scan.out ≡ 0 → unit ≡ scan.turns + 1 → address ≢ 0
      → Follows (record { job = scan.job; turns = scan.turns; out = address; results = scan.results }) (asked unit address ∷ past)
  unfolding OutOn Ends Right
  follows_asked unit address left free is_next host =
      record {
        is_out_lem = λ n a. (
          λ h. ⊎_elim (λ t. (sym t.1, λ zero. host (sym t.1 ∙ zero), t.0 ∙ is_next)) (λ t. absurd (none n a t.1)) h,
          λ h. inl (h.2 ∙ sym is_next, sym h.0),
        );
        counted = quiet_ended (asked unit address) past (λ n r h. h) scan.turns f.counted;
        at_most = f.at_most;
        left = λ out. left;
        long = f.long;
        results = λ n r. quiet_became (asked unit address) past (λ m s h. h) n r (f.results n r);
        to_come = f.to_come;
        always = always_more (asked unit address) past ((scan.turns, f.counted, is_next, omega (arith, left, is_next)), none) f.always;
      }
    where
      none : (n a : ℕ) → OutOn past n a → ⊥
      none n a o = let t = (f.is_out_lem n a).0 o in t.1 (sym t.0 ∙ free)

  -- what was out came to its end: the turn is over
  module _ (out : scan.out ≢ 0) (e : Event) (result : ℕ) (out_before : (n a : ℕ) → OutOn (e ∷ past) n a → (a ≢ scan.out) × OutOn past n a)
      (ends : Ends e past (scan.turns + 1) result) (only : (n r : ℕ) → Ends e past n r → OutOn past n scan.out × (r ≡ result)) (right : Right e past) where
    -- the results then
    abbrev then : List ℕ
    then = set scan.results scan.turns result

    set_is : (get_or then scan.turns 0 ≡ result) × ((k : ℕ) → k ≢ scan.turns → get_or then k 0 ≡ get_or scan.results k 0) × (length then ≡ 160)
    set_is = result_set scan result f.long (f.left out)

    place : (n : ℕ) → n ≡ scan.turns + 1 → n - 1 ≡ scan.turns
    place n same = omega (arith, same)

    other_place : (n : ℕ) → 1 ≤ n → n ≤ scan.turns → n - 1 ≢ scan.turns
    other_place n some under same = absurd (omega (arith, some, under, same))

    here_then : (n r : ℕ) → n ≡ scan.turns + 1 → r ≡ result → (1 ≤ n) × (n ≤ scan.turns + 1) × (get_or then (n - 1) 0 ≡ r)
    here_then n r same is =
        (omega (arith, same), omega (arith, same), ap (λ (k : ℕ). get_or then k 0) (place n same) ∙ set_is.0 ∙ sym is)

    before_then : (n r : ℕ) → Became past n r → (1 ≤ n) × (n ≤ scan.turns + 1) × (get_or then (n - 1) 0 ≡ r)
    before_then n r b =
        let t = (f.results n r).0 b in
        let under = t.1 in
        (t.0, omega (arith, under), set_is.1 (n - 1) (other_place n t.0 t.1) ∙ t.2)

    ends-here : (n r : ℕ) → n ≡ scan.turns + 1 → get_or then (n - 1) 0 ≡ r → Ends e past n r
    ends-here n r same is =
        subst (λ (m : ℕ). Ends e past m r) (sym same)
        (subst (λ (x : ℕ). Ends e past (scan.turns + 1) x) (sym set_is.0 ∙ ap (λ (k : ℕ). get_or then k 0) (sym (place n same)) ∙ is) ends)

    follows_end : Follows (record { job = scan.job; turns = scan.turns + 1; out = 0; results = set scan.results scan.turns result }) (e ∷ past)
    unfolding Ended Became
    follows_end =
        record {
          is_out_lem = λ n a. (
            λ h. let t = out_before n a h in absurd (t.0 (sym ((f.is_out_lem n a).0 t.1).0)),
            λ h. absurd (h.1 (sym h.0)),
          );
          counted = inl ((scan.turns + 1, result, ends), (scan.turns, refl, f.counted));
          at_most = (let under = f.left out in omega (arith, under));
          left = λ o. absurd (o refl);
          long = set_is.2;
          results = λ n r. (
            λ h. ⊎_elim (λ now. let t = only n r now in here_then n r ((f.is_out_lem n scan.out).0 t.0).2 t.1) (before_then n r) h,
            λ h.
                ⊎_elim
                (λ under. inr ((f.results n r).1 (h.0, under, sym (set_is.1 (n - 1) (other_place n h.0 under)) ∙ h.2)))
                (λ same. inl (ends-here n r same h.2))
                (up_to n scan.turns h.1),
          );
          to_come = λ i over. set_is.1 i (λ same. absurd (omega (arith, over, same))) ∙ f.to_come i (omega (arith, over));
          always = always_more e past right f.always;
        }

  -- its ticket is out
  here_out : scan.out ≢ 0 → OutOn past (scan.turns + 1) scan.out
  here_out out = (f.is_out_lem (scan.turns + 1) scan.out).1 (refl, out, refl)

  -- by a booking, and by a cancel or an expiry
  booked_1 : scan.out ≢ 0
      → Follows (record { job = scan.job; turns = scan.turns + 1; out = 0; results = set scan.results scan.turns 1 }) (booked scan.out 8 ∷ past)
  unfolding OutOn Ends Right
  booked_1 out =
      follows_end out (booked scan.out 8) 1 (λ n a h. h) (here_out out, inl (refl, refl))
      (λ n r h. (h.0, ⊎_elim (λ t. t.1) (λ t. absurd (t.0 refl)) h.1)) (λ n o. inl refl)

  booked_2 : (sort : ℕ) → scan.out ≢ 0 → sort ≤ 2
      → Follows (record { job = scan.job; turns = scan.turns + 1; out = 0; results = set scan.results scan.turns 2 }) (booked scan.out sort ∷ past)
  unfolding OutOn Ends Right
  booked_2 sort out low =
      follows_end out (booked scan.out sort) 2 (λ n a h. h) (here_out out, inr (λ eight. absurd (omega (arith, eight, low)), refl))
      (λ n r h. (h.0, ⊎_elim (λ t. absurd (let eight = t.0 in omega (arith, eight, low))) (λ t. t.1) h.1)) (λ n o. inr low)

  withdrawn_0 : scan.out ≢ 0
      → Follows (record { job = scan.job; turns = scan.turns + 1; out = 0; results = set scan.results scan.turns 0 }) (withdrawn scan.out ∷ past)
  unfolding OutOn Ends Right
  withdrawn_0 out = follows_end out (withdrawn scan.out) 0 (λ n a h. h) (here_out out, refl) (λ n r h. h) tt

-- ---- with the desk: the scan follows what was answered, and the ticket of what is out stands open, as it was asked

-- the ticket of a turn
abbrev turn_ticket : ℕ → ℕ → ℕ → Ticket
turn_ticket job unit clock = new_ticket (record { job = job; unit = unit; sort = 4; register = 97; wait = 100; folder = 0 }) clock

record Stands (job : ℕ) (scan : Scan) (desk : Desk) (past : List Event) : Type 0 where
  seen : List Seen
  night : Night desk seen
  follows : Follows scan past
  of_job : scan.job ≡ job
  ticket : scan.out ≢ 0 → (clock : ℕ) × (ticket_on desk scan.out ≡ turn_ticket job (scan.turns + 1) clock)

-- "A read is answered by type 8, 0, 1 or 2"
answers_read : (kind sort : ℕ) → kind ≡ 4 → KindFits kind sort → (sort ≡ 8) ⊎ (sort ≤ 2)
unfolding KindFits
answers_read kind sort read fits =
    ⊎_elim (λ t. inl t.1)
    (λ h. ⊎_elim (λ t. absurd (t.0 read))
    (λ g. inr (⊎_elim (λ e. omega (arith, e)) (λ k. ⊎_elim (λ e. omega (arith, e)) (λ e. omega (arith, e)) k) g)) h) fits

-- something is out or not, and there or not
where_out : (out address : ℕ) → ((out ≢ 0) × (out ≡ address)) ⊎ ((out ≡ 0) ⊎ (out ≢ address))
where_out out address = go (eqb out 0) refl (eqb out address) refl
  where
    go : (b : Bool) → eqb out 0 ≡ b → (c : Bool) → eqb out address ≡ c → ((out ≢ 0) × (out ≡ address)) ⊎ ((out ≡ 0) ⊎ (out ≢ address))
    go true p c q = inr (inl (eqb-true out 0 p))
    go false p true q = inl (eqb-false out 0 p, eqb-true out address q)
    go false p false q = inr (inr (eqb-false out address q))

module _ (job : ℕ) (scan : Scan) (desk : Desk) (past : List Event) (s : Stands job scan desk past) where
  -- nothing came of a call
  stands_nothing : Stands job scan desk (nothing ∷ past)
  stands_nothing = record { seen = s.seen; night = s.night; follows = follows_nothing scan past s.follows; of_job = s.of_job; ticket = s.ticket }

  -- an opening at the desk, by its contract
  module _ (what : Request) (bytes : List ℕ) (clock : ℕ) (room : List ℕ) (o : AfterOpen) (room' : List ℕ) (opens : Opens desk what bytes clock room o room') where
    night_then : Night o.desk (event_of desk (asks what bytes clock room) ∷ s.seen)
    night_then =
        let was = opens_after desk what bytes clock room o room' opens in
        subst (λ (d : Desk). Night d (event_of desk (asks what bytes clock room) ∷ s.seen)) (sym was.0) (step desk s.seen s.night (asks what bytes clock room))

    module _ (address n : ℕ) (is : o.answer ≡ opening address n) where
      given : Given desk what clock address o.desk
      given = opened_given desk what bytes clock room o room' opens address n s.night.sound.places is

      -- the scan's ticket is not there
      not_there : scan.out ≢ 0 → scan.out ≢ address
      not_there out same =
          let t = s.ticket out in
          true≢false (sym (ap (λ (x : Ticket). x.live) t.1) ∙ ap (λ (a : ℕ). (ticket_on desk a).live) same ∙ given.free.0)

    -- by anybody
    stands_opening : Stands job scan o.desk (of_opening o.answer ∷ past)
    stands_opening = go o.answer refl
      where
        go : (a : Opening) → o.answer ≡ a → Stands job scan o.desk (of_opening a ∷ past)
        go (Ok told) is =
            record {
              seen = event_of desk (asks what bytes clock room) ∷ s.seen;
              night = night_then;
              follows = follows_opened scan past s.follows told.address (not_there told.address told.size is);
              of_job = s.of_job;
              ticket = λ out. let t = s.ticket out in (t.0, (given told.address told.size is).others scan.out (not_there told.address told.size is out) ∙ t.1);
            }
        go (Err f) is =
            subst (λ (d : Desk). Stands job scan d (nothing ∷ past)) (sym (open_refusal_keeps desk what bytes clock room o room' opens f is).0) stands_nothing

  -- a step of the scan
  stands_step : (clock : ℕ) (room : List ℕ) (r : AfterStep) (room' : List ℕ) → Steps scan desk clock room r room' → Stands job r.scan r.desk (of_step r.answer ∷ past)
  stands_step clock room r room' c = go r.answer refl
    where
      stays : r.scan ≡ scan → r.desk ≡ desk → Stands job r.scan r.desk (nothing ∷ past)
      stays same_scan same_desk = rw (same_scan, same_desk) stands_nothing

      go : (a : Stepping) → r.answer ≡ a → Stands job r.scan r.desk (of_step a ∷ past)
      go (Ok Done) is = let t = done_stays scan desk clock room r room' c ((done_exactly scan desk clock room r room' c).0 is) in stays t.1 t.2
      go (Ok (Waiting address)) is =
          let w = (waiting_exactly scan desk clock room r room' c address).0 is in
          let t = waiting_stays scan desk clock room r room' c w.0 w.1 in
          stays t.1 t.2
      go (Err f) is = let t = step_refusal_keeps scan desk clock room r room' c f is in stays t.0 t.1
      go (Ok (Asked address unit n)) is =
          let t = step_opened scan desk clock room r room' c address unit n is in
          let o = t.3 in
          let stood = given (request scan) [] clock room o.0 room' o.1 address n o.2 in
          let host = stood.host in
          let stands : Stands job (record { job = scan.job; turns = scan.turns; out = address; results = scan.results }) o.0.desk (asked unit address ∷ past) =
          record {
            seen = event_of desk (asks (request scan) [] clock room) ∷ s.seen;
            night = night_then (request scan) [] clock room o.0 room' o.1;
            follows = follows_asked scan past s.follows unit address t.0 t.1 t.2 (λ zero. absurd (omega (arith, host, zero)));
            of_job = s.of_job;
            ticket = λ out. (clock, stood.stands ∙ ap (λ (j : ℕ). turn_ticket j (scan.turns + 1) clock) s.of_job);
          } in
          subst (λ (x : Scan). Stands job x r.desk (asked unit address ∷ past)) (sym o.4)
          (subst (λ (d : Desk). Stands job (record { job = scan.job; turns = scan.turns; out = address; results = scan.results }) d (asked unit address ∷ past)) (sym o.3) stands)

  -- a ticket was closed alone, elsewhere: the scan stays
  closed_away : (e : Event) (address : ℕ) (left : Ticket) (desk' : Desk) (seen' : List Seen) → Night desk' seen' → ClosedAlone desk address left desk'
      → (scan.out ≢ 0 → scan.out ≢ address) → Follows scan (e ∷ past) → (scan' : Scan) → scan' ≡ scan → Stands job scan' desk' (e ∷ past)
  closed_away e address left desk' seen' night' alone away follows' scan' same =
      rw same
      (record {
        seen = seen';
        night = night';
        follows = follows';
        of_job = s.of_job;
        ticket = λ out. let t = s.ticket out in (t.0, alone.others scan.out (away out) ∙ t.1);
      })

  -- it was the scan's: the turn is over
  closed_own : (e : Event) (desk' : Desk) (seen' : List Seen) → Night desk' seen' → (result : ℕ) (scan' : Scan)
      → scan' ≡ record { job = scan.job; turns = scan.turns + 1; out = 0; results = set scan.results scan.turns result }
      → Follows (record { job = scan.job; turns = scan.turns + 1; out = 0; results = set scan.results scan.turns result }) (e ∷ past)
      → Stands job scan' desk' (e ∷ past)
  closed_own e desk' seen' night' result scan' same follows' =
      rw same (record { seen = seen'; night = night'; follows = follows'; of_job = s.of_job; ticket = λ out. absurd (out refl) })

  -- a reply
  module _ (frame room : List ℕ) (r : AfterReply) (room' : List ℕ) (scan' : Scan) (replying : Replies desk frame room r room') where
    night_replied : Night r.desk (event_of desk (brings frame room) ∷ s.seen)
    night_replied =
        let was = replies_after desk frame room r room' replying in
        subst (λ (d : Desk). Night d (event_of desk (brings frame room) ∷ s.seen)) (sym was.0) (step desk s.seen s.night (brings frame room))

    booked_elsewhere : (theirs address sort n folder : ℕ) → r.answer ≡ booking theirs address sort n folder → (scan.out ≢ 0 → scan.out ≢ address) → scan' ≡ scan
        → Stands job scan' r.desk (booked address sort ∷ past)
    booked_elsewhere theirs address sort n folder is apart same =
        closed_away (booked address sort) address no_ticket r.desk (event_of desk (brings frame room) ∷ s.seen) night_replied
        (booked_right desk frame room r room' replying theirs address sort n folder is).0.closes apart (booked_away scan past s.follows address sort apart) scan' same

    -- a read is answered by type 8, 0, 1 or 2
    booked_own : (theirs sort n folder : ℕ) → r.answer ≡ booking theirs scan.out sort n folder → scan.out ≢ 0 → HearsReply scan (booking theirs scan.out sort n folder) scan'
        → Stands job scan' r.desk (booked scan.out sort ∷ past)
    booked_own theirs sort n folder is out told =
        let books = (booked_right desk frame room r room' replying theirs scan.out sort n folder is).0 in
        let kind = answers_read (ticket_on desk scan.out).asked.sort sort (ap (λ (t : Ticket). t.asked.sort) (s.ticket out).1)
        (subst (λ (k : ℕ). KindFits (ticket_on desk scan.out).asked.sort k) (sym books.type_answered) books.kind_fits) in
        ⊎_elim by_8 by_less kind
      where
        by_8 : sort ≡ 8 → Stands job scan' r.desk (booked scan.out sort ∷ past)
        by_8 eight =
            subst (λ (k : ℕ). Stands job scan' r.desk (booked scan.out k ∷ past)) (sym eight)
            (closed_own (booked scan.out 8) r.desk (event_of desk (brings frame room) ∷ s.seen) night_replied 1 scan'
            (datagram_is_1 scan scan' out (s.follows.left out) theirs n folder
            (subst (λ (k : ℕ). HearsReply scan (booking theirs scan.out k n folder) scan') eight told))
            (booked_1 scan past s.follows out))

        by_less : sort ≤ 2 → Stands job scan' r.desk (booked scan.out sort ∷ past)
        by_less low =
            closed_own (booked scan.out sort) r.desk (event_of desk (brings frame room) ∷ s.seen) night_replied 2 scan'
            (else_is_2 scan scan' out (s.follows.left out) theirs sort n folder (λ eight. absurd (omega (arith, eight, low))) told)
            (booked_2 scan past s.follows sort out low)

    stands_reply : HearsReply scan r.answer scan' → Stands job scan' r.desk (of_booking r.answer ∷ past)
    stands_reply hears = go r.answer refl hears
      where
        go : (a : Booking) → r.answer ≡ a → HearsReply scan a scan' → Stands job scan' r.desk (of_booking a ∷ past)
        go (Err f) is told =
            rw told (subst (λ (d : Desk). Stands job scan d (nothing ∷ past)) (sym (reply_refusal_keeps desk frame room r room' replying f is).0) stands_nothing)
        go (Ok heard) is told =
            ⊎_elim
            (λ own.
            subst (λ (a : ℕ). Stands job scan' r.desk (booked a heard.sort ∷ past)) own.1
            (booked_own heard.job heard.sort heard.size heard.folder (is ∙ ap (λ (a : ℕ). booking heard.job a heard.sort heard.size heard.folder) (sym own.1)) own.0
            (subst (λ (a : ℕ). HearsReply scan (booking heard.job a heard.sort heard.size heard.folder) scan') (sym own.1) told)))
            (λ h. ⊎_elim
            (λ free.
            booked_elsewhere heard.job heard.address heard.sort heard.size heard.folder is (λ out. absurd (out free)) ((nothing_out_stays scan scan' free).0 heard.job heard.address heard.sort heard.size heard.folder told))
            (λ there. booked_elsewhere heard.job heard.address heard.sort heard.size heard.folder is (λ out. there) ((elsewhere_stays scan scan' heard.address there).0 heard.job heard.sort heard.size heard.folder told)) h)
            (where_out scan.out heard.address)

  -- a cancel or an expiry
  stands_withdrawn : (address clock : ℕ) (desk' : Desk) (seen' : List Seen) (scan' : Scan) (theirs folder : ℕ) → Night desk' seen'
      → ClosedAlone desk address (withdrawn_at clock) desk' → HearsClosing scan (closing theirs address folder) scan' → Stands job scan' desk' (withdrawn address ∷ past)
  stands_withdrawn address clock desk' seen' scan' theirs folder night' alone told =
      ⊎_elim own
      (λ h. ⊎_elim
      (λ free. away (λ out. absurd (out free)) ((nothing_out_stays scan scan' free).1 theirs address folder told))
      (λ there. away (λ out. there) ((elsewhere_stays scan scan' address there).1 theirs folder told)) h) (where_out scan.out address)
    where
      away : (scan.out ≢ 0 → scan.out ≢ address) → scan' ≡ scan → Stands job scan' desk' (withdrawn address ∷ past)
      away apart same =
          closed_away (withdrawn address) address (withdrawn_at clock) desk' seen' night' alone apart (withdrawn_away scan past s.follows address apart) scan' same

      own : (scan.out ≢ 0) × (scan.out ≡ address) → Stands job scan' desk' (withdrawn address ∷ past)
      own o =
          subst (λ (a : ℕ). Stands job scan' desk' (withdrawn a ∷ past)) o.1
          (closed_own (withdrawn scan.out) desk' seen' night' 0 scan'
          (closed_is_absent scan scan' o.0 (s.follows.left o.0) theirs folder
          (subst (λ (a : ℕ). HearsClosing scan (closing theirs a folder) scan') (sym o.1) told))
          (withdrawn_0 scan past s.follows o.0))

  stands_cancel : (theirs address clock : ℕ) (r : AfterClose) (scan' : Scan) → Cancels desk theirs address clock r → HearsClosing scan r.answer scan'
      → Stands job scan' r.desk (of_closing r.answer ∷ past)
  stands_cancel theirs address clock r scan' cancelling hears = go r.answer refl hears
    where
      go : (a : Closing) → r.answer ≡ a → HearsClosing scan a scan' → Stands job scan' r.desk (of_closing a ∷ past)
      go (Ok closed) is told =
          let was = cancels_after desk theirs address clock r cancelling in
          let right = cancelled_right desk theirs address clock r closed.job closed.address closed.folder cancelling is in
          stands_withdrawn closed.address clock r.desk (event_of desk (cancels_at theirs address clock) ∷ s.seen) scan' closed.job closed.folder
          (subst (λ (d : Desk). Night d (event_of desk (cancels_at theirs address clock) ∷ s.seen)) (sym was.0) (step desk s.seen s.night (cancels_at theirs address clock)))
          (subst (λ (x : ℕ). ClosedAlone desk x (withdrawn_at clock) r.desk) (sym right.1) right.3)
          told
      go (Err f) is told =
          rw told (subst (λ (d : Desk). Stands job scan d (nothing ∷ past)) (sym (cancel_refusal_keeps desk theirs address clock r f cancelling is)) stands_nothing)

  stands_expire : (clock : ℕ) (r : AfterClose) (scan' : Scan) → Expires desk clock r → HearsClosing scan r.answer scan'
      → Stands job scan' r.desk (of_closing r.answer ∷ past)
  stands_expire clock r scan' expiring hears = go r.answer refl hears
    where
      go : (a : Closing) → r.answer ≡ a → HearsClosing scan a scan' → Stands job scan' r.desk (of_closing a ∷ past)
      go (Ok closed) is told =
          let was = expires_after desk clock r expiring in
          stands_withdrawn closed.address clock r.desk (event_of desk (expires_at clock) ∷ s.seen) scan' closed.job closed.folder
          (subst (λ (d : Desk). Night d (event_of desk (expires_at clock) ∷ s.seen)) (sym was.0) (step desk s.seen s.night (expires_at clock)))
          (expired_right desk clock r closed.job closed.address closed.folder expiring is).closes
          told
      go (Err f) is told =
          rw told (subst (λ (d : Desk). Stands job scan d (nothing ∷ past)) (sym (expire_refusal_keeps desk clock r f expiring is)) stands_nothing)

-- ---- any shift

stands_any : {job : ℕ} {scan : Scan} {desk : Desk} {past : List Event} → Shift job scan desk past → Stands job scan desk past
unfolding OutOn Became Ended
stands_any {job} (begins calls) =
    record {
      seen = answered_all fresh_desk [] calls;
      night = any_night calls;
      follows =
          record {
            is_out_lem = λ n a. (λ h. absurd h, λ h. absurd (h.1 (sym h.0)));
            counted = refl;
            at_most = omega arith;
            left = λ out. absurd (out refl);
            long = length-replicate {A = ℕ} 160 0;
            results = λ n r. (λ h. absurd h, λ h. absurd (let a = h.0 in let b = h.1 in omega (arith, a, b)));
            to_come = λ i over. (make_results job (fresh_scan job) refl).1 i;
            always = λ later x earlier is. absurd (none_before x earlier later is);
          };
      of_job = refl;
      ticket = λ out. absurd (out refl);
    }
  where
    none_before : (x : Event) (older newer : List Event) → [] ≡ newer ++ (x ∷ older) → ⊥
    none_before x older [] is = clash (cc)
    none_before x older (n ∷ newer) is = clash (cc)
stands_any (steps shift clock room r room' c) = stands_step _ _ _ _ (stands_any shift) clock room r room' c
stands_any (opens shift what bytes clock room r room' c) = stands_opening _ _ _ _ (stands_any shift) what bytes clock room r room' c
stands_any (replies shift frame room r room' scan' c told) = stands_reply _ _ _ _ (stands_any shift) frame room r room' scan' c told
stands_any (cancels shift theirs address clock r scan' c told) = stands_cancel _ _ _ _ (stands_any shift) theirs address clock r scan' c told
stands_any (expires shift clock r scan' c told) = stands_expire _ _ _ _ (stands_any shift) clock r scan' c told

-- over any steps of the scan and any calls at the desk, whoever made them, every answer told: at most one ticket of the scan is out, that of
-- the module after those whose turns are over, and it stands open; a turn is over for each of its tickets that was booked, cancelled or
-- expired, and for nothing else; each result is what became of that module's ticket; and the modules were asked in turn, 1 to 160
pub any_shift : {job : ℕ} {scan : Scan} {desk : Desk} {past : List Event} → Shift job scan desk past → Promised job scan desk past
any_shift {job} {scan} {desk} {past} shift =
    let s = stands_any shift in
    let f = s.follows in
    record {
      is_out_lem = f.is_out_lem;
      stands = λ n a out.
          let t = (f.is_out_lem n a).0 out in
          let stood = s.ticket (λ zero. t.1 (sym t.0 ∙ zero)) in
          (stood.0, ap (ticket_on desk) (sym t.0) ∙ stood.1 ∙ ap (λ (u : ℕ). turn_ticket job u stood.0) (sym t.2));
      one_out = λ n m a b this that. let t = (f.is_out_lem n a).0 this in let u = (f.is_out_lem m b).0 that in (t.2 ∙ sym u.2, sym t.0 ∙ u.0);
      counted = f.counted;
      at_most = f.at_most;
      results = f.results;
      to_come = f.to_come;
      always = f.always;
    }

-- the desk beside the scan is that of a night: what its callers saw there, and all that a night keeps to
pub night_beside : {job : ℕ} {scan : Scan} {desk : Desk} {past : List Event} → Shift job scan desk past → (seen : List Seen) × Night desk seen
night_beside shift = let s = stands_any shift in (s.seen, s.night)

-- 02, #110, with the scan's steps among them: "No two open tickets of different jobs may hold the same folder other than 0"
pub folders_apart_beside : {job : ℕ} {scan : Scan} {desk : Desk} {past : List Event} → Shift job scan desk past → (a b : ℕ)
    → (ticket_on desk a).live ≡ true → (ticket_on desk b).live ≡ true → (ticket_on desk a).asked.job ≢ (ticket_on desk b).asked.job
    → (ticket_on desk a).asked.folder ≢ 0 → (ticket_on desk a).asked.folder ≢ (ticket_on desk b).asked.folder
folders_apart_beside shift = (stands_any shift).night.apart

-- "The scan has one job number"
pub one_job : {job : ℕ} {scan : Scan} {desk : Desk} {past : List Event} → Shift job scan desk past → scan.job ≡ job
one_job shift = (stands_any shift).of_job

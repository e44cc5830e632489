-- What callers may cite of the scan. 02, #113.
-- Assumes nothing.
use Rattle.std.specs.Prelude.{Ok, Err}
use mathlib.Core.Path.{◌≡◌, refl, sym, ap, ◌∙◌}
use mathlib.Core.Bool.{Bool, true, false, cond, not, ◌&&◌}
use mathlib.Core.List.{List, [], ◌∷◌, ◌++◌}
use mathlib.Core.Logic.{◌⊎◌, inl, inr, ⊎_elim, ◌≢◌, ◌↔◌}
use mathlib.Core.Option.{Option, some, none}
use Prim.Native.Nat.{ℕ, zero, suc, ◌*◌, ◌+◌, ◌-◌, ◌≤◌, ◌<◌}
use native.Mathlib.Omega.{arith}
use borrow.Author.Tests.{leb-true, leb-false, le-leb, lt-leb, eqb-true, eqb-false, eq-eqb, ne_eqb}
use lib.Dec.{eqb, leb}
use lib.ListN.{length, get_or, set, take, replicate, length-set, length-replicate}
use lib.Seq.{get_or-set_same, get_or-set_other}
use Rattle.rows.proofs.Laws.{refused_exactly, done_exactly as told_done_exactly, clash}
use Rattle.rows.proofs.Settled.{settled}
use Rattle.rows.specs.Rows.{Row, row, Ranked, NoRow, First, Numbered, passed_up}
use Rattle.rows.specs.Settled.{Settled}
use Rattle.lent.specs.Lent.{over}
use Rattle.ticket.specs.Due.{age}
use Rattle.telegram.specs.Read.{Reads}
use Rattle.telegram.specs.Answers.{Reading}
use Rattle.desk.proofs.Count.{refused_count_lem}
use Rattle.desk.proofs.Laws.{opens_settled, open_refusal_keeps, request_reads_back}
use Rattle.desk.proofs.Ranking.{open_exactly, open_plainly}
use Rattle.desk.specs.Desk.{fault_number as desk_number}
use Rattle.desk.specs.Desk.{ticket_at}
use Rattle.desk.specs.Open.{Opens, open_rows, open_told, distance_of, given_place, request_at}
use Rattle.desk.specs.declared.AfterOpen.{AfterOpen}
use Rattle.desk.specs.Answers.{Booking, booking, closing, opening}
use Rattle.desk.specs.Answers.{Closing}
use Rattle.desk.specs.declared.Desk.{Desk}
use Rattle.desk.specs.declared.Fault.{Fault}
use Rattle.desk.specs.Answers.{Opening}
use Rattle.scan.specs.Scan.{request, is_done, is_out, now_out, after_opening, from_desk, step_told, Stays, Passes, StepsBy, is_its_own, turn_over, answer_of, is_over, found}
use Rattle.scan.specs.Scan.{Makes, Steps, HearsReply, HearsClosing, Looks}
use Rattle.scan.specs.declared.AfterStep.{AfterStep}
use Rattle.scan.specs.declared.Found.{Found}
use Rattle.scan.specs.declared.Found.TheVariants.{NotYet, Absent, Present}
use Rattle.scan.specs.declared.Scan.{Scan}
use Rattle.scan.specs.Answers.{Stepping}
use Rattle.scan.specs.declared.Stage.TheVariants.{Asked, Waiting, Done}

-- ---- "It takes module addresses 1 to 160 in turn, asks each for register 61h through the desk with a wait of 100 ms"; "The scan has one job
-- number and folder 0": a read, type 4

pub request_plainly : (scan : Scan)
    → ((request scan).job ≡ scan.job)
    × ((request scan).unit ≡ scan.turns + 1)
    × ((request scan).sort ≡ 4)
    × ((request scan).register ≡ 6 * 16 + 1)
    × ((request scan).wait ≡ 100)
    × ((request scan).folder ≡ 0)
request_plainly scan = (refl, refl, refl, refl, refl, refl)

-- ---- what a step comes to, by its contract

-- the desk's answer, by what was passed on
module _ (turn : ℕ) where
  was_opened : (a : Opening) (address unit n : ℕ) → Ok (Asked address unit n) ≡ from_desk turn a → (a ≡ opening address n) × (unit ≡ turn)
  was_opened (Ok opened) address unit n e = (let a : address ≡ opened.address = cc in let s : n ≡ opened.size = cc in rw (a, s) refl, cc)
  was_opened (Err f) address unit n e = clash (cc)

  was_refused : (a : Opening) (f : Fault) → Err f ≡ from_desk turn a → a ≡ Err f
  was_refused (Ok opened) f e = clash (cc)
  was_refused (Err g) f e = cc

  not_done : (a : Opening) → (Ok Done) ≡ from_desk turn a → ⊥
  not_done (Ok opened) e = clash (cc)
  not_done (Err g) e = clash (cc)

  not_waiting : (a : Opening) (address : ℕ) → Ok (Waiting address) ≡ from_desk turn a → ⊥
  not_waiting (Ok opened) address e = clash (cc)
  not_waiting (Err g) address e = clash (cc)

  passed_told : (a : Opening) → step_told (from_desk turn a) ≡ open_told a
  passed_told (Ok opened) = refl
  passed_told (Err g) = refl

waiting_is : {a b : ℕ} → ◌≡◌ {A = Stepping} (Ok (Waiting a)) (Ok (Waiting b)) → a ≡ b
waiting_is e = cc

-- an outcome, part by part
same : (s : AfterStep) (m : List ℕ) (x : Stepping) (y : Scan) (z : Desk) (k : ℕ) (w : List ℕ)
    → s.answer ≡ x → s.scan ≡ y → s.desk ≡ z → s.count ≡ k → m ≡ w
    → ◌≡◌ {A = AfterStep × List ℕ} (s, m) (record { answer = x; scan = y; desk = z; count = k }, w)
same s m x y z k w p q t c u = rw (sym p, sym q, sym t, sym c, sym u) refl

module _ (scan : Scan) (desk : Desk) (clock : ℕ) (room : List ℕ) where
  stepped_settled : (done out : Bool) → Settled {A = AfterStep × List ℕ} (λ o. StepsBy done out scan desk clock room o.0 o.1)
  stepped_settled true out =
      record {
        outcome = (record { answer = (Ok Done); scan = scan; desk = desk; count = 0 }, room);
        is_allowed_lem = ((refl, refl, refl, refl), refl);
        only = λ p a. same p.0 p.1 (Ok Done) scan desk 0 room a.0.0 a.0.1 a.0.2 a.0.3 a.1;
      }
  stepped_settled false true =
      record {
        outcome = (record { answer = Ok (Waiting scan.out); scan = scan; desk = desk; count = 0 }, room);
        is_allowed_lem = ((refl, refl, refl, refl), refl);
        only = λ p a. same p.0 p.1 (Ok (Waiting scan.out)) scan desk 0 room a.0.0 a.0.1 a.0.2 a.0.3 a.1;
      }
  stepped_settled false false =
      let opens = opens_settled desk (request scan) [] clock room in
      let o : AfterOpen = opens.outcome.0 in
      record {
        outcome = (record { answer = from_desk (scan.turns + 1) o.answer; scan = after_opening scan o.answer; desk = o.desk; count = o.count }, opens.outcome.1);
        is_allowed_lem = (o, opens.is_allowed_lem, (refl, refl, refl, refl));
        only = λ p a.
            let is = opens.only (a.0, p.1) a.1 in
            same p.0 p.1 (from_desk (scan.turns + 1) o.answer) (after_opening scan o.answer) o.desk o.count opens.outcome.1
            (a.2.0 ∙ ap (λ (x : AfterOpen × List ℕ). from_desk (scan.turns + 1) x.0.answer) is)
            (a.2.1 ∙ ap (λ (x : AfterOpen × List ℕ). after_opening scan x.0.answer) is)
            (a.2.2 ∙ ap (λ (x : AfterOpen × List ℕ). x.0.desk) is)
            (a.2.3 ∙ ap (λ (x : AfterOpen × List ℕ). x.0.count) is)
            (ap (λ (x : AfterOpen × List ℕ). x.1) is);
      }

-- a row that does not hold may be left out
without : (rs ss : List (Row ℕ)) (x : Row ℕ) (told : Option ℕ) → (x.holds → ⊥) → Ranked (rs ++ (x ∷ ss)) told → Ranked (rs ++ ss) told
without rs ss x none not_so ranked = no_row rs ranked
  where
    no_row : (rs : List (Row ℕ)) → NoRow (rs ++ (x ∷ ss)) → NoRow (rs ++ ss)
    no_row [] h = h.1
    no_row (y ∷ rs) h = (h.0, no_row rs h.1)
without rs ss x (some n) not_so ranked = first rs ranked
  where
    first : (rs : List (Row ℕ)) → First (rs ++ (x ∷ ss)) n → First (rs ++ ss) n
    first [] h = ⊎_elim (λ here. absurd (not_so here.0)) (λ later. later.1) h
    first (y ∷ rs) h = ⊎_elim (λ here. inl here) (λ later. inr (later.0, first rs later.1)) h

-- so of eight rows three are left where the second to the sixth cannot hold
three_left : (a b c d e f g h : Row ℕ) (told : Option ℕ) → Ranked (a ∷ b ∷ c ∷ d ∷ e ∷ f ∷ g ∷ h ∷ []) told
    → (b.holds → ⊥) → (c.holds → ⊥) → (d.holds → ⊥) → (e.holds → ⊥) → (f.holds → ⊥) → Ranked (a ∷ g ∷ h ∷ []) told
three_left a b c d e f g h told ranked no_b no_c no_d no_e no_f =
    without (a ∷ []) (g ∷ h ∷ []) f told no_f
    (without (a ∷ []) (f ∷ g ∷ h ∷ []) e told no_e
    (without (a ∷ []) (e ∷ f ∷ g ∷ h ∷ []) d told no_d
    (without (a ∷ []) (d ∷ e ∷ f ∷ g ∷ h ∷ []) c told no_c (without (a ∷ []) (c ∷ d ∷ e ∷ f ∷ g ∷ h ∷ []) b told no_b ranked))))

-- what was told ranks by the rows that it is numbered by
told_ranked : (rs : List (Row ℕ)) (numbers : List ℕ) (told : Option ℕ) → Numbered rs numbers told → Ranked rs told
told_ranked rs numbers none n = n.done.0 refl
told_ranked rs numbers (some k) n = (n.each k).0 refl

-- ---- each step

module _ (scan : Scan) (desk : Desk) (clock : ℕ) (room : List ℕ) (r : AfterStep) (room' : List ℕ) (steps : Steps scan desk clock room r room') where
  -- it is over, or it waits, or the desk was asked
  abbrev IsOver : Type 0
  IsOver = (160 ≤ scan.turns) × (Stays scan desk (Ok Done) r × (room' ≡ room))

  abbrev Waits : Type 0
  Waits = (scan.turns < 160) × (scan.out ≢ 0) × (Stays scan desk (Ok (Waiting scan.out)) r × (room' ≡ room))

  abbrev Went : Type 0
  Went = (scan.turns < 160) × (scan.out ≡ 0) × ((o : AfterOpen) × Opens desk (request scan) [] clock room o room' × Passes scan (scan.turns + 1) o r)

  which : IsOver ⊎ (Waits ⊎ Went)
  which = go (leb 160 scan.turns) refl (eqb scan.out 0) refl steps
    where
      go : (b : Bool) → leb 160 scan.turns ≡ b → (c : Bool) → eqb scan.out 0 ≡ c → StepsBy b (not c) scan desk clock room r room' → IsOver ⊎ (Waits ⊎ Went)
      go true p c q s = inl (leb-true 160 scan.turns p, s)
      go false p false q s = inr (inl (leb-false 160 scan.turns p, eqb-false scan.out 0 q, s))
      go false p true q s = inr (inr (leb-false 160 scan.turns p, eqb-true scan.out 0 q, s))

  -- "It ends after exactly 160 turns": after them nothing is asked and nothing changes
  pub done_stays : 160 ≤ scan.turns → (r.answer ≡ Ok Done) × (r.scan ≡ scan) × (r.desk ≡ desk) × (r.count ≡ 0) × (room' ≡ room)
  done_stays all =
      ⊎_elim (λ w. (w.1.0.0, w.1.0.1, w.1.0.2, w.1.0.3, w.1.1))
      (λ h. ⊎_elim (λ w. absurd (let l = w.0 in omega arith)) (λ w. absurd (let l = w.0 in omega arith)) h) which

  -- "and moves on when that ticket is booked, expires or is cancelled": until then it waits, and nothing changes
  pub waiting_stays : scan.turns < 160 → scan.out ≢ 0
      → (r.answer ≡ Ok (Waiting scan.out)) × (r.scan ≡ scan) × (r.desk ≡ desk) × (r.count ≡ 0) × (room' ≡ room)
  waiting_stays left out =
      ⊎_elim (λ w. absurd (let l = w.0 in omega arith))
      (λ h. ⊎_elim (λ w. (w.2.0.0, w.2.0.1, w.2.0.2, w.2.0.3, w.2.1)) (λ w. absurd (out w.1)) h) which

  went : scan.turns < 160 → scan.out ≡ 0 → Went
  went left free =
      ⊎_elim (λ w. absurd (let l = w.0 in omega arith)) (λ h. ⊎_elim (λ w. absurd (w.1 free)) (λ w. w) h) which

  -- else the turn's request is handed to the desk's own `open`, and what the desk tells is told
  pub asks_the_desk : scan.turns < 160 → scan.out ≡ 0
      → (o : AfterOpen)
      × Opens desk (record { job = scan.job; unit = scan.turns + 1; sort = 4; register = 97; wait = 100; folder = 0 }) [] clock room o room'
      × (step_told r.answer ≡ open_told o.answer)
      × (r.desk ≡ o.desk)
      × (r.count ≡ o.count)
  asks_the_desk left free =
      let w = (went left free).2 in
      (w.0, w.1, ap step_told w.2.0 ∙ passed_told (scan.turns + 1) w.0.answer, w.2.2, w.2.3)

  -- by its answer: done exactly after 160 turns, waiting exactly where a ticket is out before that
  pub done_exactly : (r.answer ≡ Ok Done) ↔ (160 ≤ scan.turns)
  done_exactly = (
    λ e.
        ⊎_elim (λ w. w.0)
        (λ h. ⊎_elim
        (λ w. let both : (Ok Done) ≡ Ok (Waiting scan.out) = sym e ∙ w.2.0.0 in clash (cc))
        (λ w. absurd (not_done (scan.turns + 1) w.2.0.answer (sym e ∙ w.2.2.0))) h) which,
    λ all. (done_stays all).0,
  )

  pub waiting_exactly : (address : ℕ) → (r.answer ≡ Ok (Waiting address)) ↔ ((scan.turns < 160) × (scan.out ≢ 0) × (scan.out ≡ address))
  waiting_exactly address = (
    λ e.
        ⊎_elim (λ w. let both : Ok (Waiting address) ≡ (Ok Done) = sym e ∙ w.1.0.0 in clash (cc))
        (λ h. ⊎_elim
        (λ w. (w.0, w.1, waiting_is (sym w.2.0.0 ∙ e)))
        (λ w. absurd (not_waiting (scan.turns + 1) w.2.0.answer address (sym e ∙ w.2.2.0))) h) which,
    λ h. (waiting_stays h.0 h.1).0 ∙ ap (λ x. Ok (Waiting x)) h.2,
  )

  -- a ticket was opened: it was the next module's turn, nothing was out, and the desk opened it, as it promises; its address is out now, and
  -- the results stay as they are until the scan is told
  pub step_opened : (address unit n : ℕ) → r.answer ≡ Ok (Asked address unit n)
      → (scan.turns < 160)
      × (scan.out ≡ 0)
      × (unit ≡ scan.turns + 1)
      × ((o : AfterOpen)
      × Opens desk (record { job = scan.job; unit = scan.turns + 1; sort = 4; register = 97; wait = 100; folder = 0 }) [] clock room o room'
      × (o.answer ≡ opening address n)
      × (r.desk ≡ o.desk)
      × (r.scan ≡ record { job = scan.job; turns = scan.turns; out = address; results = scan.results })
      × (r.count ≡ o.count))
  step_opened address unit n e =
      ⊎_elim (λ w. let both : Ok (Asked address unit n) ≡ (Ok Done) = sym e ∙ w.1.0.0 in clash (cc))
      (λ h. ⊎_elim (λ w. let both : Ok (Asked address unit n) ≡ Ok (Waiting scan.out) = sym e ∙ w.2.0.0 in clash (cc)) by_desk h) which
    where
      by_desk : Went
          → (scan.turns < 160)
          × (scan.out ≡ 0)
          × (unit ≡ scan.turns + 1)
          × ((o : AfterOpen)
          × Opens desk (request scan) [] clock room o room'
          × (o.answer ≡ opening address n)
          × (r.desk ≡ o.desk)
          × (r.scan ≡ now_out scan address)
          × (r.count ≡ o.count))
      by_desk w =
          let was = was_opened (scan.turns + 1) w.2.0.answer address unit n (sym e ∙ w.2.2.0) in
          (w.0, w.1, was.1, (w.2.0, w.2.1, was.0, w.2.2.2, w.2.2.1 ∙ ap (after_opening scan) was.0, w.2.2.3))

  -- the telegram asks that module for register 61h, without data
  pub step_telegram : (address unit n : ℕ) → r.answer ≡ Ok (Asked address unit n)
      → (buffer : List ℕ) (a : Reading) (buffer' : List ℕ) → Reads (take n room') buffer a buffer'
      → (a ≡ Ok (record { destination = scan.turns + 1; source = address; sort = 4; register = 97; size = 0 })) × (buffer' ≡ over [] buffer)
  step_telegram address unit n e buffer reading buffer' reads =
      let o = (step_opened address unit n e).3 in
      request_reads_back desk (request scan) [] clock room o.0 room' o.1 address n o.2 buffer reading buffer' (omega arith) reads

  -- the desk refused that request so, and its number and count are passed up
  pub step_passed_up : (f : Fault) → r.answer ≡ Err f
      → (scan.turns < 160)
      × (scan.out ≡ 0)
      × ((o : AfterOpen)
      × Opens desk (record { job = scan.job; unit = scan.turns + 1; sort = 4; register = 97; wait = 100; folder = 0 }) [] clock room o room'
      × (o.answer ≡ Err f)
      × (r.scan ≡ scan)
      × (r.desk ≡ o.desk)
      × (r.count ≡ o.count))
  step_passed_up f e =
      ⊎_elim (λ w. let both : Err f ≡ (Ok Done) = sym e ∙ w.1.0.0 in clash (cc))
      (λ h. ⊎_elim (λ w. let both : Err f ≡ Ok (Waiting scan.out) = sym e ∙ w.2.0.0 in clash (cc)) by_desk h) which
    where
      by_desk : Went
          → (scan.turns < 160)
          × (scan.out ≡ 0)
          × ((o : AfterOpen)
          × Opens desk (request scan) [] clock room o room'
          × (o.answer ≡ Err f)
          × (r.scan ≡ scan)
          × (r.desk ≡ o.desk)
          × (r.count ≡ o.count))
      by_desk w =
          let was = was_refused (scan.turns + 1) w.2.0.answer f (sym e ∙ w.2.2.0) in
          (w.0, w.1, (w.2.0, w.2.1, was, w.2.2.1 ∙ ap (after_opening scan) was, w.2.2.2, w.2.2.3))

  -- "A turn whose opening is refused, whatever the number, is tried again at the next call and isn't one of the 160": nothing changes
  pub step_refusal_keeps : (f : Fault) → r.answer ≡ Err f → (r.scan ≡ scan) × (r.desk ≡ desk) × (room' ≡ room)
  step_refusal_keeps f e =
      let o = (step_passed_up f e).2 in
      let kept = open_refusal_keeps desk (request scan) [] clock room o.0 room' o.1 f o.2 in
      (o.3, o.4 ∙ kept.0, kept.1)

  -- 02, #108: and the count that comes with it, by the desk's number
  pub step_refused_count : (f : Fault) → r.answer ≡ Err f → (n : ℕ) → desk_number f ≡ n
      → (n ≤ 14 → r.count ≡ 0) × (n ≡ 15 → r.count ≡ 95) × (n ≡ 16 → r.count ≡ distance_of desk clock + 1)
  step_refused_count f e n is =
      let o = (step_passed_up f e).2 in
      let told = refused_count_lem desk (request scan) [] clock room o.0 room' o.1 n (ap open_told o.2 ∙ ap some is) in
      (λ h. o.5 ∙ told.0 h, λ h. o.5 ∙ told.1 h, λ h. o.5 ∙ told.2 h)

  -- ---- numbers: the scan has none of its own, and the desk's are told exactly where the desk tells them of that request

  pub step_exactly : scan.turns < 160 → scan.out ≡ 0
      → Numbered
      (passed_up desk_number
      (open_rows desk (record { job = scan.job; unit = scan.turns + 1; sort = 4; register = 97; wait = 100; folder = 0 }) [] clock (length room)))
      (10 ∷ 11 ∷ 12 ∷ 13 ∷ 14 ∷ 75 ∷ 15 ∷ 16 ∷ []) (step_told r.answer)
  step_exactly left free =
      let a = asks_the_desk left free in
      rw a.2 (open_exactly desk (request scan) [] clock room a.0 room' a.1)

  -- and of such a request it can refuse three things: job 0, no address to give out, and a room shorter than the telegram
  pub step_refusals : scan.turns < 160 → scan.out ≡ 0
      → Numbered
      (row (scan.job ≡ 0) 10
      ∷ row ((place : ℕ) → place < 95
      → ((ticket_at desk place).live ≡ true) ⊎ (((ticket_at desk place).withdrawn ≡ true) × (age clock (ticket_at desk place).closed < 1000))) 15
      ∷ row
      (length room
      < length
      (request_at (given_place desk clock) (record { job = scan.job; unit = scan.turns + 1; sort = 4; register = 97; wait = 100; folder = 0 }) [])) 16
      ∷ [])
      (10 ∷ 15 ∷ 16 ∷ []) (step_told r.answer)
  step_refusals left free =
      let a = asks_the_desk left free in
      let told = open_told a.0.answer in
      let ranked =
      three_left _ _ _ _ _ _ _ _ told (told_ranked _ _ told (open_plainly desk (request scan) [] clock room a.0 room' a.1))
      (λ no. no (omega arith, omega (arith, left)))
      (λ no. no (inl refl))
      (λ h. ⊎_elim (λ l. absurd (omega (arith, l))) (λ l. let m = l.1 in absurd (omega (arith, m))) h)
      (λ no. no (omega arith, omega arith))
      (λ h. h.0 refl) in
      let rows : List (Row ℕ) =
      row (scan.job ≡ 0) 10
      ∷ row ((place : ℕ) → place < 95
      → ((ticket_at desk place).live ≡ true) ⊎ (((ticket_at desk place).withdrawn ≡ true) × (age clock (ticket_at desk place).closed < 1000))) 15
      ∷ row
      (length room
      < length
      (request_at (given_place desk clock) (record { job = scan.job; unit = scan.turns + 1; sort = 4; register = 97; wait = 100; folder = 0 }) [])) 16
      ∷ [] in
      rw a.2 (record { in_order = refl; no_two = refl; each = refused_exactly rows told ranked; done = told_done_exactly rows told ranked })

  pub step_tells_nothing : (160 ≤ scan.turns → step_told r.answer ≡ none) × (scan.turns < 160 → scan.out ≢ 0 → step_told r.answer ≡ none)
  step_tells_nothing = (λ all. ap step_told (done_stays all).0, λ left out. ap step_told (waiting_stays left out).0)

pub told_number : (f : Fault) (address unit n : ℕ)
    → (step_told (Err f) ≡ some (desk_number f)) × (step_told (Ok (Asked address unit n)) ≡ none) × (step_told (Ok (Waiting address)) ≡ none) × (step_told (Ok Done) ≡ none)
told_number f address unit n = (refl, refl, refl, refl)

-- ---- what the scan makes of the desk's answers

-- a refusal of the desk's tells it nothing, and neither does an answer while nothing is out
pub refusals_tell_nothing : (scan r : Scan) (f : Fault) → (HearsReply scan (Err f) r → r ≡ scan) × (HearsClosing scan (Err f) r → r ≡ scan)
refusals_tell_nothing scan r f = (λ p. p, λ p. p)

pub nothing_out_stays : (scan r : Scan) → scan.out ≡ 0
    → ((job address sort n folder : ℕ) → HearsReply scan (booking job address sort n folder) r → r ≡ scan)
    × ((job address folder : ℕ) → HearsClosing scan (closing job address folder) r → r ≡ scan)
nothing_out_stays scan r free =
    (λ job address sort n folder p. p ∙ rw (eq-eqb scan.out 0 free), λ job address folder p. p ∙ rw (eq-eqb scan.out 0 free))

-- nor does one about another address
pub elsewhere_stays : (scan r : Scan) (address : ℕ) → scan.out ≢ address
    → ((job sort n folder : ℕ) → HearsReply scan (booking job address sort n folder) r → r ≡ scan)
    × ((job folder : ℕ) → HearsClosing scan (closing job address folder) r → r ≡ scan)
elsewhere_stays scan r address apart = (λ job sort n folder p. p ∙ by_out (is_out scan) _, λ job folder p. p ∙ by_out (is_out scan) _)
  where
    by_out : (b : Bool) (after : Scan) → cond (b && eqb scan.out address) after scan ≡ scan
    by_out true after = rw (ne_eqb scan.out address apart)
    by_out false after = refl

-- "and moves on when that ticket is booked, expires or is cancelled": its own ticket's end is the turn's end, counted once; nothing is out any
-- more, and the results before it stay
module _ (scan r : Scan) (out : scan.out ≢ 0) (left : scan.turns < 160) where
  -- "1 for a datagram"
  pub datagram_is_1 : (job n folder : ℕ) → HearsReply scan (booking job scan.out 8 n folder) r
      → r ≡ record { job = scan.job; turns = scan.turns + 1; out = 0; results = set scan.results scan.turns 1 }
  datagram_is_1 job n folder p = p ∙ rw (ne_eqb scan.out 0 out, eq-eqb scan.out scan.out refl, lt-leb 160 scan.turns left)

  -- "2 for nack, check error or busy"
  pub else_is_2 : (job sort n folder : ℕ) → sort ≢ 8 → HearsReply scan (booking job scan.out sort n folder) r
      → r ≡ record { job = scan.job; turns = scan.turns + 1; out = 0; results = set scan.results scan.turns 2 }
  else_is_2 job sort n folder other p =
      p ∙ rw (ne_eqb scan.out 0 out, eq-eqb scan.out scan.out refl, lt-leb 160 scan.turns left, ne_eqb sort 8 other)

  -- "A cancelled scan ticket counts as absent", and so does one that expires: 0
  pub closed_is_absent : (job folder : ℕ) → HearsClosing scan (closing job scan.out folder) r
      → r ≡ record { job = scan.job; turns = scan.turns + 1; out = 0; results = set scan.results scan.turns 0 }
  closed_is_absent job folder p = p ∙ rw (ne_eqb scan.out 0 out, eq-eqb scan.out scan.out refl, lt-leb 160 scan.turns left)

-- the result of the turn that is over stands at its place, and the others stay
pub result_set : (scan : Scan) (result : ℕ) → length scan.results ≡ 160 → scan.turns < 160
    → (get_or (set scan.results scan.turns result) scan.turns 0 ≡ result)
    × ((k : ℕ) → k ≢ scan.turns → get_or (set scan.results scan.turns result) k 0 ≡ get_or scan.results k 0)
    × (length (set scan.results scan.turns result) ≡ 160)
result_set scan result long left = (
  get_or-set_same scan.results scan.turns result 0 (omega (arith, long)),
  λ k apart. get_or-set_other scan.results scan.turns k result 0 apart,
  length-set scan.results scan.turns result ∙ long,
)

-- there is no turn 161
pub none_after_160 : (scan r : Scan) → 160 ≤ scan.turns
    → ((answer : Booking) → HearsReply scan answer r → r ≡ scan) × ((answer : Closing) → HearsClosing scan answer r → r ≡ scan)
none_after_160 scan r all = (reply, closing)
  where
    stays : (b : Bool) (result : ℕ) → cond b (turn_over scan result) scan ≡ scan
    stays true result = rw (le-leb 160 scan.turns all)
    stays false result = refl

    reply : (answer : Booking) → HearsReply scan answer r → r ≡ scan
    reply (Err f) p = p
    reply (Ok booked) p = p ∙ stays (is_its_own scan booked.address) (answer_of booked.sort)

    closing : (answer : Closing) → HearsClosing scan answer r → r ≡ scan
    closing (Err f) p = p
    closing (Ok closed) p = p ∙ stays (is_its_own scan closed.address) 0

-- ---- "with, for each address, absent or a number": of the turns that are over, and of no others

module _ (scan : Scan) (unit : ℕ) (r : Found) (looks : Looks scan unit r) where
  pub look_within : 1 ≤ unit → unit ≤ scan.turns → unit ≤ 160
      → (get_or scan.results (unit - 1) 0 ≡ 0 → r ≡ Absent)
      × ((k : ℕ) → k ≢ 0 → get_or scan.results (unit - 1) 0 ≡ k → r ≡ Present k)
  look_within one_up past_it within =
      let is : r ≡ found (get_or scan.results (unit - 1) 0) =
      looks ∙ rw (le-leb 1 unit one_up, le-leb unit scan.turns past_it, le-leb unit 160 within) in (
        λ zero_there. is ∙ rw (eq-eqb (get_or scan.results (unit - 1) 0) 0 zero_there),
        λ k one e. is ∙ ap found e ∙ rw (ne_eqb k 0 one),
      )

  pub look_not_yet : (unit ≡ 0) ⊎ ((scan.turns < unit) ⊎ (160 < unit)) → r ≡ NotYet
  look_not_yet h = looks ∙ ⊎_elim by_first (λ g. ⊎_elim (λ later. by_turns (leb 1 unit) later) (λ past. by_last (leb 1 unit) (leb unit scan.turns) past) g) h
    where
      x : Found
      x = found (get_or scan.results (unit - 1) 0)

      by_first : unit ≡ 0 → cond (is_over scan unit) x NotYet ≡ NotYet
      by_first no_module = rw (lt-leb 1 unit (omega (arith, no_module)))

      by_turns : (b : Bool) → scan.turns < unit → cond (b && (leb unit scan.turns && leb unit 160)) x NotYet ≡ NotYet
      by_turns true later = rw (lt-leb unit scan.turns later)
      by_turns false later = refl

      by_last : (b c : Bool) → 160 < unit → cond (b && (c && leb unit 160)) x NotYet ≡ NotYet
      by_last true true past = rw (lt-leb unit 160 past)
      by_last true false past = refl
      by_last false c past = refl

  -- and so the answer says which it is
  within_or_not : ((1 ≤ unit) × (unit ≤ scan.turns) × (unit ≤ 160)) ⊎ ((unit ≡ 0) ⊎ ((scan.turns < unit) ⊎ (160 < unit)))
  within_or_not = go (leb 1 unit) refl (leb unit scan.turns) refl (leb unit 160) refl
    where
      go : (a : Bool) → leb 1 unit ≡ a → (b : Bool) → leb unit scan.turns ≡ b → (c : Bool) → leb unit 160 ≡ c
          → ((1 ≤ unit) × (unit ≤ scan.turns) × (unit ≤ 160)) ⊎ ((unit ≡ 0) ⊎ ((scan.turns < unit) ⊎ (160 < unit)))
      go false p b q c s = inr (inl (let l = leb-false 1 unit p in omega arith))
      go true p false q c s = inr (inr (inl (leb-false unit scan.turns q)))
      go true p true q false s = inr (inr (inr (leb-false unit 160 s)))
      go true p true q true s = inl (leb-true 1 unit p, leb-true unit scan.turns q, leb-true unit 160 s)

  -- what stands there, absent or a number
  absent_or_not : (get_or scan.results (unit - 1) 0 ≡ 0) ⊎ (get_or scan.results (unit - 1) 0 ≢ 0)
  absent_or_not = go (eqb (get_or scan.results (unit - 1) 0) 0) refl
    where
      go : (b : Bool) → eqb (get_or scan.results (unit - 1) 0) 0 ≡ b → (get_or scan.results (unit - 1) 0 ≡ 0) ⊎ (get_or scan.results (unit - 1) 0 ≢ 0)
      go true p = inl (eqb-true _ 0 p)
      go false p = inr (eqb-false _ 0 p)

  pub not_yet_exactly : (r ≡ NotYet) ↔ ((unit ≡ 0) ⊎ ((scan.turns < unit) ⊎ (160 < unit)))
  not_yet_exactly = (
    λ e.
        ⊎_elim
        (λ w.
        let within = look_within w.0 w.1 w.2 in
        ⊎_elim (λ gone. let both : NotYet ≡ Absent = sym e ∙ within.0 gone in clash (cc))
        (λ one. let both : NotYet ≡ Present (get_or scan.results (unit - 1) 0) = sym e ∙ within.1 _ one refl in clash (cc)) absent_or_not)
        (λ w. w) within_or_not,
    look_not_yet,
  )

  pub absent_exactly : (r ≡ Absent) ↔ ((1 ≤ unit) × (unit ≤ scan.turns) × (unit ≤ 160) × (get_or scan.results (unit - 1) 0 ≡ 0))
  absent_exactly = (
    λ e.
        ⊎_elim
        (λ w.
        let within = look_within w.0 w.1 w.2 in
        ⊎_elim (λ gone. (w.0, w.1, w.2, gone))
        (λ one. let both : Absent ≡ Present (get_or scan.results (unit - 1) 0) = sym e ∙ within.1 _ one refl in clash (cc)) absent_or_not)
        (λ w. let both : Absent ≡ NotYet = sym e ∙ look_not_yet w in clash (cc)) within_or_not,
    λ h. (look_within h.0 h.1 h.2).0 h.3,
  )

  pub present_exactly : (k : ℕ)
      → (r ≡ Present k) ↔ ((1 ≤ unit) × (unit ≤ scan.turns) × (unit ≤ 160) × (get_or scan.results (unit - 1) 0 ≡ k) × (k ≢ 0))
  present_exactly k = (
    λ e.
        ⊎_elim
        (λ w.
        let within = look_within w.0 w.1 w.2 in
        ⊎_elim (λ gone. let both : Present k ≡ Absent = sym e ∙ within.0 gone in clash (cc))
        (λ one.
        let is = present_is (sym (within.1 _ one refl) ∙ e) in
        (w.0, w.1, w.2, is, λ zero. one (is ∙ zero))) absent_or_not)
        (λ w. let both : Present k ≡ NotYet = sym e ∙ look_not_yet w in clash (cc)) within_or_not,
    λ h. (look_within h.0 h.1 h.2).1 k h.4 h.3,
  )
    where
      present_is : {a b : ℕ} → Present a ≡ Present b → a ≡ b
      present_is e = cc

-- ---- a scan before its first turn: nothing is over, nothing is out, and each of the 160 results is 0

pub make_is : (job : ℕ) (r : Scan) → Makes job r → r ≡ record { job = job; turns = 0; out = 0; results = replicate 160 0 }
make_is job r p = p

pub make_results : (job : ℕ) (r : Scan) → Makes job r → (length r.results ≡ 160) × ((k : ℕ) → get_or r.results k 0 ≡ 0)
make_results job r p = rw p (length-replicate {A = ℕ} 160 0, none_yet 160)
  where
    none_yet : (n k : ℕ) → ◌≡◌ {A = ℕ} (get_or (replicate n 0) k 0) 0
    none_yet zero k = refl
    none_yet (suc n) zero = refl
    none_yet (suc n) (suc k) = none_yet n k

-- ---- "Show that any two outcomes allowed by it are equal."

pub makes_settled : (job : ℕ) → Settled (Makes job)
makes_settled job = settled _

pub steps_settled : (scan : Scan) (desk : Desk) (clock : ℕ) (room : List ℕ) → Settled {A = AfterStep × List ℕ} (λ o. Steps scan desk clock room o.0 o.1)
steps_settled scan desk clock room = stepped_settled scan desk clock room (is_done scan) (is_out scan)

pub hears_reply_settled : (scan : Scan) (answer : Booking) → Settled (HearsReply scan answer)
hears_reply_settled scan answer = settled _

pub hears_closing_settled : (scan : Scan) (answer : Closing) → Settled (HearsClosing scan answer)
hears_closing_settled scan answer = settled _

pub looks_settled : (scan : Scan) (unit : ℕ) → Settled (Looks scan unit)
looks_settled scan unit = settled _

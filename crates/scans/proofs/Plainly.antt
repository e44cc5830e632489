-- What the definitions of a shift say, said out. 02, #113.
-- Assumes nothing.
use Rattle.desk.specs.Answers.{booking, closing, opening}
use Rattle.std.specs.Prelude.{Err, Ok}
use mathlib.Core.Path.{◌≡◌, refl, sym, ap, subst, ◌∙◌}
use mathlib.Core.Bool.{Bool, true, false}
use mathlib.Core.List.{List, [], ◌∷◌, ◌++◌}
use mathlib.Core.Logic.{◌≢◌, ◌⊎◌, inl, inr, ⊎_elim, ◌↔◌}
use Prim.Native.Nat.{ℕ, ◌+◌, ◌-◌, ◌≤◌}
use native.Mathlib.Omega.{arith}
use borrow.Author.Tests.{eqb-true, eqb-false}
use lib.Dec.{eqb}
use lib.ListN.{get_or, replicate}
use Rattle.rows.proofs.Laws.{clash}
use Rattle.desk.specs.Close.{Cancels, Expires}
use Rattle.desk.specs.Desk.{fresh_desk, ticket_on}
use Rattle.desk.specs.Open.{Opens}
use Rattle.desk.specs.Reply.{Replies}
use Rattle.desk.specs.declared.AfterClose.{AfterClose}
use Rattle.desk.specs.declared.AfterOpen.{AfterOpen}
use Rattle.desk.specs.declared.AfterReply.{AfterReply}
use Rattle.desk.specs.declared.Desk.{Desk}
use Rattle.nights.specs.Night.{Call, after_all}
use Rattle.request.specs.declared.Request.{Request}
use Rattle.scan.proofs.Laws.{step_refusal_keeps, done_stays, absent_exactly, present_exactly}
use Rattle.scan.specs.Scan.{Steps, HearsReply, HearsClosing, Looks}
use Rattle.scan.specs.declared.AfterStep.{AfterStep}
use Rattle.scan.specs.declared.Found.{Found}
use Rattle.scan.specs.declared.Found.TheVariants.{Absent, Present}
use Rattle.scan.specs.declared.Scan.{Scan}
use Rattle.scan.specs.declared.Stage.TheVariants.{Asked, Waiting, Done}
use Rattle.scans.proofs.Laws.{any_shift}
use Rattle.scans.specs.Shift.{Event, Shift, OutOn, Ends, Became, Ended, Right, Promised, of_step, of_opening, of_booking, of_closing}
use Rattle.scans.specs.Shift.{asked, opened, booked, withdrawn, nothing}
use Rattle.scans.specs.Shift.{begins, steps, opens, replies, cancels, expires}

-- ---- a shift begins with a scan before its first turn, at any time of any night

pub begins_plainly : (job : ℕ) (calls : List Call) → Shift job (record { job = job; turns = 0; out = 0; results = replicate 160 0 }) (after_all fresh_desk calls) []
begins_plainly job calls = begins calls

-- ---- and whatever is a shift began so, or came by one call from a shift: a step, an opening, a reply, a cancel or an expiry, as its contract
-- allows it, with that answer told to the scan and written down

pub shift_only : {job : ℕ} {scan : Scan} {desk : Desk} {past : List Event} → Shift job scan desk past
    → ((scan ≡ record { job = job; turns = 0; out = 0; results = replicate 160 0 }) × ((calls : List Call) × (desk ≡ after_all fresh_desk calls)) × (past ≡ []))
    ⊎ ((s : Scan) × (d : Desk) × (earlier : List Event) × Shift job s d earlier
    × (((clock : ℕ) × (room : List ℕ) × (r : AfterStep) × (room' : List ℕ) × Steps s d clock room r room'
    × (scan ≡ r.scan) × (desk ≡ r.desk) × (past ≡ of_step r.answer ∷ earlier))
    ⊎ (((what : Request) × (bytes : List ℕ) × (clock : ℕ) × (room : List ℕ) × (r : AfterOpen) × (room' : List ℕ) × Opens d what bytes clock room r room'
    × (scan ≡ s) × (desk ≡ r.desk) × (past ≡ of_opening r.answer ∷ earlier))
    ⊎ (((frame : List ℕ) × (room : List ℕ) × (r : AfterReply) × (room' : List ℕ) × Replies d frame room r room' × HearsReply s r.answer scan
    × (desk ≡ r.desk) × (past ≡ of_booking r.answer ∷ earlier))
    ⊎ ((r : AfterClose)
    × (((theirs : ℕ) × (address : ℕ) × (clock : ℕ) × Cancels d theirs address clock r) ⊎ ((clock : ℕ) × Expires d clock r))
    × HearsClosing s r.answer scan × (desk ≡ r.desk) × (past ≡ of_closing r.answer ∷ earlier))))))
shift_only (begins calls) = inl (refl, (calls, refl), refl)
shift_only (steps shift clock room r room' c) = inr (_, _, _, shift, inl (clock, room, r, room', c, refl, refl, refl))
shift_only (opens shift what bytes clock room r room' c) = inr (_, _, _, shift, inr (inl (what, bytes, clock, room, r, room', c, refl, refl, refl)))
shift_only (replies shift frame room r room' scan' c told) = inr (_, _, _, shift, inr (inr (inl (frame, room, r, room', c, told, refl, refl))))
shift_only (cancels shift theirs address clock r scan' c told) =
    inr (_, _, _, shift, inr (inr (inr (r, inl (theirs, address, clock, c), told, refl, refl))))
shift_only (expires shift clock r scan' c told) = inr (_, _, _, shift, inr (inr (inr (r, inr (clock, c), told, refl, refl))))

-- an answer is written down as this event
pub written_down : (address unit n theirs sort size folder : ℕ)
    → (of_step (Ok (Asked address unit n)) ≡ asked unit address)
    × (of_step (Ok (Waiting address)) ≡ nothing)
    × (of_step (Ok Done) ≡ nothing)
    × (of_opening (opening address n) ≡ opened address)
    × (of_booking (booking theirs address sort size folder) ≡ booked address sort)
    × (of_closing (closing theirs address folder) ≡ withdrawn address)
written_down address unit n theirs sort size folder = (refl, refl, refl, refl, refl, refl)

by_closing : {job : ℕ} {past : List Event} (r : AfterClose) (scan' : Scan) → Shift job scan' r.desk (of_closing r.answer ∷ past)
    → ((theirs there folder : ℕ) → r.answer ≡ closing theirs there folder → Shift job scan' r.desk (withdrawn there ∷ past))
    × ((f : _) → r.answer ≡ Err f → Shift job scan' r.desk (nothing ∷ past))
by_closing {job} {past} r scan' next = (
  λ theirs there folder e. subst (λ a. Shift job scan' r.desk (of_closing a ∷ past)) e next,
  λ f e. subst (λ a. Shift job scan' r.desk (of_closing a ∷ past)) e next,
)

-- ---- and goes on with any step of the scan, or any call of anybody at the desk, whatever comes of it; the desk's answers are told to the scan

module _ {job : ℕ} {scan : Scan} {desk : Desk} {past : List Event} (shift : Shift job scan desk past) where
  pub goes_on_step : (clock : ℕ) (room : List ℕ) (r : AfterStep) (room' : List ℕ) → Steps scan desk clock room r room'
      → ((address unit n : ℕ) → r.answer ≡ Ok (Asked address unit n) → Shift job r.scan r.desk (asked unit address ∷ past))
      × ((address : ℕ) → r.answer ≡ Ok (Waiting address) → Shift job r.scan r.desk (nothing ∷ past))
      × (r.answer ≡ Ok Done → Shift job r.scan r.desk (nothing ∷ past))
      × ((f : _) → r.answer ≡ Err f → Shift job r.scan r.desk (nothing ∷ past))
  goes_on_step clock room r room' c =
      let next = steps shift clock room r room' c in (
        λ address unit n e. subst (λ a. Shift job r.scan r.desk (of_step a ∷ past)) e next,
        λ address e. subst (λ a. Shift job r.scan r.desk (of_step a ∷ past)) e next,
        λ e. subst (λ a. Shift job r.scan r.desk (of_step a ∷ past)) e next,
        λ f e. subst (λ a. Shift job r.scan r.desk (of_step a ∷ past)) e next,
      )

  -- anybody's request at the desk
  pub goes_on_open : (what : Request) (bytes : List ℕ) (clock : ℕ) (room : List ℕ) (r : AfterOpen) (room' : List ℕ) → Opens desk what bytes clock room r room'
      → ((address n : ℕ) → r.answer ≡ opening address n → Shift job scan r.desk (opened address ∷ past))
      × ((f : _) → r.answer ≡ Err f → Shift job scan r.desk (nothing ∷ past))
  goes_on_open what bytes clock room r room' c =
      let next = opens shift what bytes clock room r room' c in (
        λ address n e. subst (λ a. Shift job scan r.desk (of_opening a ∷ past)) e next,
        λ f e. subst (λ a. Shift job scan r.desk (of_opening a ∷ past)) e next,
      )

  -- any reply
  pub goes_on_reply : (frame room : List ℕ) (r : AfterReply) (room' : List ℕ) (scan' : Scan) → Replies desk frame room r room' → HearsReply scan r.answer scan'
      → ((theirs address sort n folder : ℕ) → r.answer ≡ booking theirs address sort n folder → Shift job scan' r.desk (booked address sort ∷ past))
      × ((f : _) → r.answer ≡ Err f → Shift job scan' r.desk (nothing ∷ past))
  goes_on_reply frame room r room' scan' c told =
      let next = replies shift frame room r room' scan' c told in (
        λ theirs address sort n folder e. subst (λ a. Shift job scan' r.desk (of_booking a ∷ past)) e next,
        λ f e. subst (λ a. Shift job scan' r.desk (of_booking a ∷ past)) e next,
      )

  -- anybody's cancel, and any expiry
  pub goes_on_cancel : (theirs address clock : ℕ) (r : AfterClose) (scan' : Scan) → Cancels desk theirs address clock r → HearsClosing scan r.answer scan'
      → ((job' there folder : ℕ) → r.answer ≡ closing job' there folder → Shift job scan' r.desk (withdrawn there ∷ past))
      × ((f : _) → r.answer ≡ Err f → Shift job scan' r.desk (nothing ∷ past))
  goes_on_cancel theirs address clock r scan' c told = by_closing r scan' (cancels shift theirs address clock r scan' c told)

  pub goes_on_expire : (clock : ℕ) (r : AfterClose) (scan' : Scan) → Expires desk clock r → HearsClosing scan r.answer scan'
      → ((job' there folder : ℕ) → r.answer ≡ closing job' there folder → Shift job scan' r.desk (withdrawn there ∷ past))
      × ((f : _) → r.answer ≡ Err f → Shift job scan' r.desk (nothing ∷ past))
  goes_on_expire clock r scan' c told = by_closing r scan' (expires shift clock r scan' c told)

-- ---- what is out under an address: the last to go out there decides, and what happens elsewhere does not

pub out_there : (past : List Event) (n a : ℕ)
    → OutOn (asked n a ∷ past) n a
    × (OutOn (opened a ∷ past) n a → ⊥)
    × ((sort : ℕ) → OutOn (booked a sort ∷ past) n a → ⊥)
    × (OutOn (withdrawn a ∷ past) n a → ⊥)
    × (OutOn [] n a → ⊥)
unfolding OutOn
out_there past n a = (inl (refl, refl), λ h. h.0 refl, λ sort h. h.0 refl, λ h. h.0 refl, λ h. h)

pub out_asked_only : (past : List Event) (n m a : ℕ) → OutOn (asked m a ∷ past) n a → n ≡ m
unfolding OutOn
out_asked_only past n m a h = ⊎_elim (λ t. t.0) (λ t. absurd (t.0 refl)) h

pub out_elsewhere : (past : List Event) (n m a b sort : ℕ) → a ≢ b
    → (OutOn (asked m b ∷ past) n a ↔ OutOn past n a)
    × (OutOn (opened b ∷ past) n a ↔ OutOn past n a)
    × (OutOn (booked b sort ∷ past) n a ↔ OutOn past n a)
    × (OutOn (withdrawn b ∷ past) n a ↔ OutOn past n a)
    × (OutOn (nothing ∷ past) n a ↔ OutOn past n a)
unfolding OutOn
out_elsewhere past n m a b sort apart = (
  (λ h. ⊎_elim (λ t. absurd (apart t.1)) (λ t. t.1) h, λ h. inr (apart, h)),
  (λ h. h.1, λ h. (apart, h)),
  (λ h. h.1, λ h. (apart, h)),
  (λ h. h.1, λ h. (apart, h)),
  (λ h. h, λ h. h),
)

-- ---- a ticket of the scan comes to its end by a booking on its address, a cancel or an expiry, and by nothing else

pub ends_plainly : (e : Event) (past : List Event) (n r : ℕ)
    → Ends e past n r
    ↔ (((address : ℕ) × (e ≡ booked address 8) × OutOn past n address × (r ≡ 1))
    ⊎ (((address : ℕ) × (sort : ℕ) × (e ≡ booked address sort) × (sort ≢ 8) × OutOn past n address × (r ≡ 2))
    ⊎ ((address : ℕ) × (e ≡ withdrawn address) × OutOn past n address × (r ≡ 0))))
unfolding Ends
ends_plainly e past n r = (there e, λ h. ⊎_elim by_8 (λ g. ⊎_elim by_other by_none g) h)
  where
    there : (e : Event) → Ends e past n r
        → ((address : ℕ) × (e ≡ booked address 8) × OutOn past n address × (r ≡ 1))
        ⊎ (((address : ℕ) × (sort : ℕ) × (e ≡ booked address sort) × (sort ≢ 8) × OutOn past n address × (r ≡ 2))
        ⊎ ((address : ℕ) × (e ≡ withdrawn address) × OutOn past n address × (r ≡ 0)))
    there (asked unit address) h = absurd h
    there (opened address) h = absurd h
    there (booked address sort) h =
        ⊎_elim (λ t. inl (address, ap (booked address) t.0, h.0, t.1)) (λ t. inr (inl (address, sort, refl, t.0, h.0, t.1))) h.1
    there (withdrawn address) h = inr (inr (address, refl, h.0, h.1))
    there nothing h = absurd h

    by_8 : (address : ℕ) × (e ≡ booked address 8) × OutOn past n address × (r ≡ 1) → Ends e past n r
    by_8 t = subst (λ (x : Event). Ends x past n r) (sym t.1) (t.2, inl (refl, t.3))

    by_other : (address : ℕ) × (sort : ℕ) × (e ≡ booked address sort) × (sort ≢ 8) × OutOn past n address × (r ≡ 2) → Ends e past n r
    by_other t = subst (λ (x : Event). Ends x past n r) (sym t.2) (t.4, inr (t.3, t.5))

    by_none : (address : ℕ) × (e ≡ withdrawn address) × OutOn past n address × (r ≡ 0) → Ends e past n r
    by_none t = subst (λ (x : Event). Ends x past n r) (sym t.1) (t.2, t.3)

-- what became of a module's ticket is what one of the events was, by what was answered before it
pub became_plainly : (past : List Event) (n r : ℕ)
    → Became past n r ↔ ((later : List Event) × (e : Event) × (earlier : List Event) × (past ≡ later ++ (e ∷ earlier)) × Ends e earlier n r)
unfolding Became
became_plainly past n r = (there past, λ h. back h.0 past h.1 h.2 h.3 h.4)
  where
    there : (past : List Event) → Became past n r → (later : List Event) × (e : Event) × (earlier : List Event) × (past ≡ later ++ (e ∷ earlier)) × Ends e earlier n r
    there [] h = absurd h
    there (e ∷ past) h = ⊎_elim (λ now. ([], e, past, refl, now)) (λ b. more (there past b)) h
      where
        more : (later : List Event) × (x : Event) × (earlier : List Event) × (past ≡ later ++ (x ∷ earlier)) × Ends x earlier n r
            → (later : List Event) × (x : Event) × (earlier : List Event) × (e ∷ past ≡ later ++ (x ∷ earlier)) × Ends x earlier n r
        more t = (e ∷ t.0, t.1, t.2, ap (λ (p : List Event). e ∷ p) t.3, t.4)

    back : (later past : List Event) (e : Event) (earlier : List Event) → past ≡ later ++ (e ∷ earlier) → Ends e earlier n r → Became past n r
    back [] past e earlier is ends = subst (λ (p : List Event). Became p n r) (sym is) (inl ends)
    back (x ∷ later) past e earlier is ends = subst (λ (p : List Event). Became p n r) (sym is) (inr (back later (later ++ (e ∷ earlier)) e earlier refl ends))

-- ---- how many came to their end: one more with each event that ends one, and there is one such number

pub ended_by_one : (e : Event) (past : List Event) (k : ℕ) → Ended past k
    → ((n r : ℕ) → Ends e past n r → Ended (e ∷ past) (k + 1)) × (((n r : ℕ) → Ends e past n r → ⊥) → Ended (e ∷ past) k) × Ended [] 0
unfolding Ended
ended_by_one e past k h = (λ n r ends. inl ((n, r, ends), (k, refl, h)), λ none. inr (none, h), refl)

pub ended_once : (past : List Event) (k j : ℕ) → Ended past k → Ended past j → k ≡ j
unfolding Ended
ended_once [] k j this that = this ∙ sym that
ended_once (e ∷ past) k j this that =
    ⊎_elim
    (λ t. ⊎_elim
    (λ u. t.1.1 ∙ ap (λ (x : ℕ). x + 1) (ended_once past t.1.0 u.1.0 t.1.2 u.1.2) ∙ sym u.1.1)
    (λ u. absurd (u.0 t.0.0 t.0.1 t.0.2)) that)
    (λ t. ⊎_elim (λ u. absurd (t.0 u.0.0 u.0.1 u.0.2)) (λ u. ended_once past k j t.1 u.1) that)
    this

-- and it never falls
ended_more : (later past : List Event) (k j : ℕ) → Ended past k → Ended (later ++ past) j → k ≤ j
unfolding Ended
ended_more [] past k j this that = let same = ended_once past k j this that in omega (arith, same)
ended_more (e ∷ later) past k j this that =
    ⊎_elim
    (λ t. let under = ended_more later past k t.1.0 this t.1.2 in let is = t.1.1 in omega (arith, under, is))
    (λ t. ended_more later past k j this t.1) that

-- ---- the promises of a shift, said out

joined : (newer : List Event) (x : Event) (older past : List Event) → (newer ++ (x ∷ older)) ++ past ≡ newer ++ (x ∷ (older ++ past))
joined [] x older past = refl
joined (y ∷ newer) x older past = ap (λ (p : List Event). y ∷ p) (joined newer x older past)

-- a ticket of the scan that is out, through events that were right: it came to its end, or it is still out
module _ (before : List Event) (n a : ℕ) where
  abbrev EndIn : List Event → Type 0
  EndIn xs = (newer : List Event) × (e : Event) × (older : List Event) × (r : ℕ) × (xs ≡ newer ++ (e ∷ older)) × Ends e (older ++ before) n r

  by_event : (e : Event) (xs : List Event) → OutOn (xs ++ before) n a → Right e (xs ++ before) → EndIn (e ∷ xs) ⊎ OutOn (e ∷ (xs ++ before)) n a
  unfolding OutOn Ends Right
  by_event (asked unit address) xs out right = absurd (right.1 n a out)
  by_event (opened address) xs out right = inr (λ same. right n (subst (λ (x : ℕ). OutOn (xs ++ before) n x) same out), out)
  by_event (booked address sort) xs out right = go (eqb a address) refl (eqb sort 8) refl
    where
      go : (b : Bool) → eqb a address ≡ b → (c : Bool) → eqb sort 8 ≡ c → EndIn (booked address sort ∷ xs) ⊎ ((a ≢ address) × OutOn (xs ++ before) n a)
      go false x c y = inr (eqb-false a address x, out)
      go true x true y =
          inl ([], booked address sort, xs, 1, refl, (subst (λ (z : ℕ). OutOn (xs ++ before) n z) (eqb-true a address x) out, inl (eqb-true sort 8 y, refl)))
      go true x false y =
          inl ([], booked address sort, xs, 2, refl, (subst (λ (z : ℕ). OutOn (xs ++ before) n z) (eqb-true a address x) out, inr (eqb-false sort 8 y, refl)))
  by_event (withdrawn address) xs out right = go (eqb a address) refl
    where
      go : (b : Bool) → eqb a address ≡ b → EndIn (withdrawn address ∷ xs) ⊎ ((a ≢ address) × OutOn (xs ++ before) n a)
      go false x = inr (eqb-false a address x, out)
      go true x = inl ([], withdrawn address, xs, 0, refl, (subst (λ (z : ℕ). OutOn (xs ++ before) n z) (eqb-true a address x) out, refl))
  by_event nothing xs out right = inr out

  still : (xs : List Event) → ((newer : List Event) (e : Event) (older : List Event) → xs ≡ newer ++ (e ∷ older) → Right e (older ++ before)) → OutOn before n a
      → EndIn xs ⊎ OutOn (xs ++ before) n a
  still [] right out = inr out
  still (e ∷ xs) right out =
      ⊎_elim (λ t. inl (e ∷ t.0, t.1, t.2, t.3, ap (λ (p : List Event). e ∷ p) t.4, t.5)) (λ o. by_event e xs o (right [] e xs refl))
      (still xs (λ newer x older same. right (e ∷ newer) x older (ap (λ (p : List Event). e ∷ p) same)) out)

module _ {job : ℕ} {scan : Scan} {desk : Desk} {past : List Event} (shift : Shift job scan desk past) where
  p : Promised job scan desk past
  p = any_shift shift

  -- nothing is told of a turn that is to come
  pub none_to_come : (i : ℕ) → scan.turns ≤ i → get_or scan.results i 0 ≡ 0
  none_to_come = p.to_come

  -- "The scan has one job number and folder 0": what it has out is the one ticket of its that is out, and it stands open
  pub out_stands : scan.out ≢ 0
      → OutOn past (scan.turns + 1) scan.out
      × ((n a : ℕ) → OutOn past n a → (n ≡ scan.turns + 1) × (a ≡ scan.out))
      × ((clock : ℕ)
      × (ticket_on desk scan.out
      ≡ record {
        live = true;
        asked = record { job = job; unit = scan.turns + 1; sort = 4; register = 97; wait = 100; folder = 0 };
        opened = clock;
        withdrawn = false;
        closed = 0;
      }))
  out_stands out =
      let here = (p.is_out_lem (scan.turns + 1) scan.out).1 (refl, out, refl) in
      (here, λ n a other. p.one_out n (scan.turns + 1) a scan.out other here, p.stands (scan.turns + 1) scan.out here)

  -- and where it has nothing out, nothing is
  pub none_is_out : scan.out ≡ 0 → (n a : ℕ) → OutOn past n a → ⊥
  none_is_out free n a o = let t = (p.is_out_lem n a).0 o in t.1 (sym t.0 ∙ free)

  -- "It takes module addresses 1 to 160 in turn": each step that asked did so with nothing out, the module after those whose turns were over
  pub asked_in_turn : (later : List Event) (unit address : ℕ) (earlier : List Event) → past ≡ later ++ (asked unit address ∷ earlier)
      → ((k : ℕ) × Ended earlier k × (unit ≡ k + 1) × (unit ≤ 160)) × ((n a : ℕ) → OutOn earlier n a → ⊥)
  unfolding Right
  asked_in_turn later unit address earlier is = p.always later (asked unit address) earlier is

  -- the address of what is out is given to nobody else, and a reply that is booked there is of type 8, 0, 1 or 2
  pub not_given_away : (later : List Event) (address : ℕ) (earlier : List Event) → past ≡ later ++ (opened address ∷ earlier) → (n : ℕ) → OutOn earlier n address → ⊥
  unfolding Right
  not_given_away later address earlier is = p.always later (opened address) earlier is

  pub answered_by : (later : List Event) (address sort : ℕ) (earlier : List Event) → past ≡ later ++ (booked address sort ∷ earlier)
      → (n : ℕ) → OutOn earlier n address → (sort ≡ 8) ⊎ (sort ≤ 2)
  unfolding Right
  answered_by later address sort earlier is = p.always later (booked address sort) earlier is

  -- what a step opened came to its end since, or it is what the scan has out
  pub out_or_ended : (later : List Event) (n a : ℕ) (earlier : List Event) → past ≡ later ++ (asked n a ∷ earlier)
      → ((newer : List Event) × (e : Event) × (older : List Event) × (r : ℕ) × (later ≡ newer ++ (e ∷ older)) × Ends e (older ++ (asked n a ∷ earlier)) n r)
      ⊎ ((scan.out ≡ a) × (a ≢ 0) × (n ≡ scan.turns + 1))
  out_or_ended later n a earlier is =
      ⊎_elim inl (λ out. inr ((p.is_out_lem n a).0 (subst (λ (x : List Event). OutOn x n a) (sym is) out)))
      (still (asked n a ∷ earlier) n a later
      (λ newer e older same.
      p.always newer e (older ++ (asked n a ∷ earlier)) (is ∙ ap (λ (x : List Event). x ++ (asked n a ∷ earlier)) same ∙ joined newer e older (asked n a ∷ earlier)))
      (out_there earlier n a).0)

  -- "and moves on when that ticket is booked, expires or is cancelled": between two steps that asked, the first one's ticket came to its end
  pub end_between : (later : List Event) (m b : ℕ) (between : List Event) (n a : ℕ) (earlier : List Event)
      → past ≡ later ++ (asked m b ∷ (between ++ (asked n a ∷ earlier)))
      → (newer : List Event) × (e : Event) × (older : List Event) × (r : ℕ) × (between ≡ newer ++ (e ∷ older)) × Ends e (older ++ (asked n a ∷ earlier)) n r
  end_between later m b between n a earlier is =
      ⊎_elim (λ t. t) (λ out. absurd ((asked_in_turn later m b (between ++ (asked n a ∷ earlier)) is).1 n a out))
      (still (asked n a ∷ earlier) n a between right (out_there earlier n a).0)
    where
      right : (newer : List Event) (e : Event) (older : List Event) → between ≡ newer ++ (e ∷ older) → Right e (older ++ (asked n a ∷ earlier))
      right newer e older same =
          p.always (later ++ (asked m b ∷ newer)) e (older ++ (asked n a ∷ earlier))
          (is
          ∙ ap (λ (x : List Event). later ++ (asked m b ∷ (x ++ (asked n a ∷ earlier)))) same
          ∙ ap (λ (x : List Event). later ++ (asked m b ∷ x)) (joined newer e older (asked n a ∷ earlier))
          ∙ sym (joined later (asked m b) newer (e ∷ (older ++ (asked n a ∷ earlier)))))

  -- "It ends after exactly 160 turns": as many are over as tickets of the scan came to their end, at most 160
  pub turns_are : (k : ℕ) → Ended past k → (scan.turns ≡ k) × (k ≤ 160)
  turns_are k h = let same = ended_once past scan.turns k p.counted h in let most = p.at_most in (same, omega (arith, same, most))

  -- and after 160 of them each step says that it is done, and opens nothing
  pub done_after_160 : Ended past 160 → (clock : ℕ) (room : List ℕ) (r : AfterStep) (room' : List ℕ) → Steps scan desk clock room r room'
      → (r.answer ≡ Ok Done) × (r.scan ≡ scan) × (r.desk ≡ desk) × (r.count ≡ 0) × (room' ≡ room)
  done_after_160 all clock room r room' c =
      let same = (turns_are 160 all).0 in done_stays scan desk clock room r room' c (omega (arith, same))

  -- each module whose turn is over has one result: 0, 1 or 2
  pub one_result : (n : ℕ) → 1 ≤ n → n ≤ scan.turns
      → (k : ℕ) × Became past n k × ((k ≡ 0) ⊎ ((k ≡ 1) ⊎ (k ≡ 2))) × ((j : ℕ) → Became past n j → j ≡ k)
  one_result n first within =
      let k : ℕ = get_or scan.results (n - 1) 0 in
      let b = (p.results n k).1 (first, within, refl) in
      (k, b, of_three n k b, λ j other. sym ((p.results n j).0 other).2)
    where
      of_three : (n k : ℕ) → Became past n k → (k ≡ 0) ⊎ ((k ≡ 1) ⊎ (k ≡ 2))
      of_three n k b =
          let t = (became_plainly past n k).0 b in
          ⊎_elim (λ u. inr (inl u.3)) (λ g. ⊎_elim (λ u. inr (inr u.5)) (λ u. inl u.3) g) ((ends_plainly t.1 t.2 n k).0 t.4)

  -- "with, for each address, absent or a number: 1 for a datagram, 2 for nack, check error or busy": as `look` answers it
  module _ (n : ℕ) (r : Found) (looks : Looks scan n r) where
    present_is : (k : ℕ) → k ≢ 0 → (r ≡ Present k) ↔ Became past n k
    present_is k Some_number = (
      λ e. let t = (present_exactly scan n r looks k).0 e in (p.results n k).1 (t.0, t.1, t.3),
      λ b.
          let t = (p.results n k).0 b in
          let under = t.1 in
          let most = p.at_most in
          (present_exactly scan n r looks k).1 (t.0, t.1, omega (arith, under, most), t.2, Some_number),
    )

    absent_is : (r ≡ Absent) ↔ Became past n 0
    absent_is = (
      λ e. let t = (absent_exactly scan n r looks).0 e in (p.results n 0).1 (t.0, t.1, t.3),
      λ b.
          let t = (p.results n 0).0 b in
          let under = t.1 in
          let most = p.at_most in
          (absent_exactly scan n r looks).1 (t.0, t.1, omega (arith, under, most), t.2),
    )

    pub found_1 : (r ≡ Present 1)
        ↔ ((later : List Event) × (address : ℕ) × (earlier : List Event) × (past ≡ later ++ (booked address 8 ∷ earlier)) × OutOn earlier n address)
    found_1 = (
      λ e.
          let t = (became_plainly past n 1).0 ((present_is 1 (λ z. clash (cc))).0 e) in
          ⊎_elim
          (λ u. (t.0, u.0, t.2, t.3 ∙ ap (λ (x : Event). t.0 ++ (x ∷ t.2)) u.1, u.2))
          (λ g. ⊎_elim (λ u. absurd (let z = u.5 in omega (arith, z))) (λ u. absurd (let z = u.3 in omega (arith, z))) g)
          ((ends_plainly t.1 t.2 n 1).0 t.4),
      λ h.
          (present_is 1 (λ z. clash (cc))).1
          ((became_plainly past n 1).1 (h.0, booked h.1 8, h.2, h.3, (ends_plainly (booked h.1 8) h.2 n 1).1 (inl (h.1, refl, h.4, refl)))),
    )

    pub found_2 : (r ≡ Present 2)
        ↔ ((later : List Event) × (address : ℕ) × (sort : ℕ) × (earlier : List Event)
        × (past ≡ later ++ (booked address sort ∷ earlier))
        × (sort ≤ 2)
        × OutOn earlier n address)
    found_2 = (
      λ e.
          let t = (became_plainly past n 2).0 ((present_is 2 (λ z. clash (cc))).0 e) in
          ⊎_elim (λ u. absurd (let z = u.3 in omega (arith, z)))
          (λ g. ⊎_elim (λ u. by_sort t.0 t.1 t.2 t.3 u) (λ u. absurd (let z = u.3 in omega (arith, z))) g)
          ((ends_plainly t.1 t.2 n 2).0 t.4),
      λ h.
          let low = h.5 in
          (present_is 2 (λ z. clash (cc))).1
          ((became_plainly past n 2).1 (
            h.0,
            booked h.1 h.2,
            h.3,
            h.4,
            (ends_plainly (booked h.1 h.2) h.3 n 2).1 (inr (inl (h.1, h.2, refl, λ eight. absurd (omega (arith, eight, low)), h.6, refl))),
          )),
    )
      where
        by_sort : (later : List Event) (e : Event) (earlier : List Event) → past ≡ later ++ (e ∷ earlier)
            → (address : ℕ) × (sort : ℕ) × (e ≡ booked address sort) × (sort ≢ 8) × OutOn earlier n address × (◌≡◌ {A = ℕ} 2 2)
            → (later : List Event) × (address : ℕ) × (sort : ℕ) × (earlier : List Event)
            × (past ≡ later ++ (booked address sort ∷ earlier))
            × (sort ≤ 2)
            × OutOn earlier n address
        by_sort later e earlier is u =
            let there = is ∙ ap (λ (x : Event). later ++ (x ∷ earlier)) u.2 in
            (later, u.0, u.1, earlier, there, ⊎_elim (λ eight. absurd (u.3 eight)) (λ low. low) (answered_by later u.0 u.1 earlier there n u.4), u.4)

    pub found_absent : (r ≡ Absent)
        ↔ ((later : List Event) × (address : ℕ) × (earlier : List Event) × (past ≡ later ++ (withdrawn address ∷ earlier)) × OutOn earlier n address)
    found_absent = (
      λ e.
          let t = (became_plainly past n 0).0 (absent_is.0 e) in
          ⊎_elim (λ u. absurd (let z = u.3 in omega (arith, z)))
          (λ g. ⊎_elim
          (λ u. absurd (let z = u.5 in omega (arith, z)))
          (λ u. (t.0, u.0, t.2, t.3 ∙ ap (λ (x : Event). t.0 ++ (x ∷ t.2)) u.1, u.2)) g)
          ((ends_plainly t.1 t.2 n 0).0 t.4),
      λ h.
          absent_is.1
          ((became_plainly past n 0).1 (h.0, withdrawn h.1, h.2, h.3, (ends_plainly (withdrawn h.1) h.2 n 0).1 (inr (inr (h.1, refl, h.4, refl))))),
    )

  -- "A turn whose opening is refused, whatever the number, is tried again at the next call and isn't one of the 160": nothing changes, and the
  -- shift goes on as it stood
  pub refused_again : (clock : ℕ) (room : List ℕ) (r : AfterStep) (room' : List ℕ) → Steps scan desk clock room r room' → (f : _) → r.answer ≡ Err f
      → (r.scan ≡ scan) × (r.desk ≡ desk) × (room' ≡ room) × ((k : ℕ) → Ended past k ↔ Ended (nothing ∷ past) k)
  unfolding Ended Ends
  refused_again clock room r room' c f e =
      let t = step_refusal_keeps scan desk clock room r room' c f e in
      (t.0, t.1, t.2, λ k. (λ h. inr (λ n x z. z, h), λ h. ⊎_elim (λ u. absurd u.0.2) (λ u. u.1) h))

-- after 160 of them nothing is asked any more, whatever comes: no turn is added, and no step of the scan opens a ticket
pub done_for_ever : {job : ℕ} {scan : Scan} {desk : Desk} (later past : List Event) → Shift job scan desk (later ++ past) → Ended past 160
    → (scan.turns ≡ 160) × ((newer : List Event) (unit address : ℕ) (older : List Event) → later ≡ newer ++ (asked unit address ∷ older) → ⊥)
done_for_ever {job} {scan} {desk} later past shift all =
    let p = any_shift shift in
    let least = ended_more later past 160 scan.turns all p.counted in
    let most = p.at_most in (
      omega (arith, least, most),
      λ newer unit address older is.
          let t =
          (asked_in_turn shift newer unit address (older ++ past) (ap (λ (x : List Event). x ++ past) is ∙ joined newer (asked unit address) older past)).0 in
          let under = ended_more older past 160 t.0 all t.1 in
          let next = t.2 in
          let last = t.3 in
          absurd (omega (arith, under, next, last)),
    )

-- What is promised of expiring everything that is due: the laws that callers may cite.
-- Assumes nothing.
use mathlib.Core.Path.{◌≡◌, refl, sym, ap, subst, ◌∙◌}
use mathlib.Core.Bool.{true, true≢false}
use mathlib.Core.List.{List, [], ◌∷◌, ◌++◌}
use mathlib.Core.Logic.{◌≢◌, ◌⊎◌, inl, inr, ⊎_elim}
use Prim.Native.Nat.{ℕ, zero, suc, ◌+◌, ◌*◌, ◌/◌, ◌≤◌, ◌<◌}
use native.Mathlib.Decide.{dec_lt}
use native.Mathlib.Omega.{arith}
use lib.ListN.{length, get_or, take, drop, replicate}
use Rattle.lent.specs.Lent.{over}
use lib.Seq.{get_or-take, take-append_seam, drop-append_seam}
use Rattle.lent.proofs.Laws.{length_over, over_is}
use Rattle.first.proofs.Laws.{ended}
use Rattle.rows.proofs.Settled.{settled_parts}
use Rattle.rows.specs.Settled.{Settled}
use Rattle.desk.specs.Close.{due_place, withdrawn_on, Expires}
use Rattle.desk.specs.Desk.{ticket_at, ticket_on, OpenOn, fresh_desk}
use Rattle.nights.proofs.Laws.{any_night, then_all}
use Rattle.desk.proofs.Laws.{on_host, open_within, put_here, put_other}
use Rattle.ticket.specs.Due.{IsDue, is_due}
use Rattle.ticket.specs.Ticket.{withdrawn_at}
use Rattle.ticket.proofs.Laws.{decides_due}
use Rattle.rows.proofs.Laws.{told_true, told_false}
use Rattle.ticket.specs.declared.Ticket.{Ticket}
use Rattle.desk.specs.declared.Desk.{Desk}
use Rattle.nights.specs.Night.{Event, Call, Night, expires, withdrawn, of_closing, after, event_of, after_all, answered_all}
use Rattle.overdue.specs.declared.Swept.{Swept}
use Rattle.overdue.specs.Overdue.{expired, entries, how_many, desk_after, room_in, job_of, address_of, folder_of, told, ExpiresAll}
use Rattle.overdue.specs.Promised.{Entered, Sweeping}
use Rattle.overdue.proofs.Pass.{NoneUnder, expired_here, withdrawn_at_lem, nothing_more, one_more, none_on, room_is}

-- ---- the single call that is repeated is `expire`

pub expired_is : (desk : Desk) (clock : ℕ) → Expires desk clock (expired desk clock)
unfolding expired
expired_is desk clock = (refl, refl)

-- ---- by the first of the single calls: nothing is due, or the lowest due ticket is closed

first_due : (desk : Desk) (clock : ℕ) → due_place desk clock < 95
    → (is_due clock (ticket_at desk (due_place desk clock)) ≡ true) × NoneUnder desk clock (due_place desk clock)
unfolding due_place
first_due desk clock h =
    let e = ended (λ place. is_due clock (ticket_at desk place)) 95 in
    (e.there h, e.before)

no_due : (desk : Desk) (clock : ℕ) → (due_place desk clock < 95 → ⊥) → NoneUnder desk clock 95
unfolding due_place
no_due desk clock h =
    let e = ended (λ place. is_due clock (ticket_at desk place)) 95 in
    λ j l. e.before j (omega (arith, h, l))

abbrev Step : Desk → ℕ → Type 0
Step desk clock = NoneUnder desk clock 95 ⊎ ((k : ℕ) × (k < 95) × (is_due clock (ticket_at desk k) ≡ true) × NoneUnder desk clock k)

step : (desk : Desk) (clock : ℕ) → Step desk clock
step desk clock = elim (dec_lt (due_place desk clock) 95) [
  | yes h ↦ let f = first_due desk clock h in inr (due_place desk clock, h, f.0, f.1)
  | no h ↦ inl (no_due desk clock h)
]

-- an entry is its job, then its address, then its folder; the first, and the others
pub first_entry : (job address folder : ℕ) (rest : List ℕ)
    → (job_of (job ∷ address ∷ folder ∷ rest) 0 ≡ job)
    × (address_of (job ∷ address ∷ folder ∷ rest) 0 ≡ address)
    × (folder_of (job ∷ address ∷ folder ∷ rest) 0 ≡ folder)
unfolding job_of address_of folder_of
first_entry job address folder rest = (refl, refl, refl)

pub entry_on : (job address folder : ℕ) (rest : List ℕ) (i : ℕ)
    → (job_of (job ∷ address ∷ folder ∷ rest) (suc i) ≡ job_of rest i)
    × (address_of (job ∷ address ∷ folder ∷ rest) (suc i) ≡ address_of rest i)
    × (folder_of (job ∷ address ∷ folder ∷ rest) (suc i) ≡ folder_of rest i)
unfolding job_of address_of folder_of
entry_on job address folder rest i =
    let a : 3 * suc i ≡ suc (suc (suc (3 * i))) = omega arith in
    let b : 3 * suc i + 1 ≡ suc (suc (suc (3 * i + 1))) = omega arith in
    let c : 3 * suc i + 2 ≡ suc (suc (suc (3 * i + 2))) = omega arith in (
      ap (λ (k : ℕ). get_or (job ∷ address ∷ folder ∷ rest) k 0) a,
      ap (λ (k : ℕ). get_or (job ∷ address ∷ folder ∷ rest) k 0) b,
      ap (λ (k : ℕ). get_or (job ∷ address ∷ folder ∷ rest) k 0) c,
    )

-- ---- "every entry is a ticket that was open and due"

-- the desk after one closing, at another place
other_place : (desk : Desk) (clock k j : ℕ) → j ≢ k → ticket_at (withdrawn_on desk (161 + k) clock) j ≡ ticket_at desk j
other_place desk clock k j n =
    subst (λ (d : Desk). ticket_at d j ≡ ticket_at desk j) (sym (withdrawn_at_lem desk clock k))
    (put_other desk k (withdrawn_at clock) j n)

-- what is due after one closing was due before, and stands above it
due_still : (desk : Desk) (clock k j : ℕ) → NoneUnder desk clock k → is_due clock (ticket_at (withdrawn_on desk (161 + k) clock) j) ≡ true
    → (k < j) × (ticket_at (withdrawn_on desk (161 + k) clock) j ≡ ticket_at desk j)
due_still desk clock k j before due = elim (dec_lt k j) [
  | yes h ↦ (h, other_place desk clock k j (λ e. omega (arith, e, h)))
  | no h ↦ absurd (true≢false (sym due ∙ none_on desk clock k before j (omega arith)))
]

none_of : (desk : Desk) (clock : ℕ) → how_many 0 desk clock ≡ 0
unfolding how_many
none_of desk clock = refl

due_on : (desk : Desk) (clock k : ℕ) → is_due clock (ticket_at desk k) ≡ true → IsDue clock (ticket_on desk (161 + k))
due_on desk clock k e = rw (on_host desk k) ((decides_due clock (ticket_at desk k)).so e)

on_due : (desk : Desk) (clock k : ℕ) → IsDue clock (ticket_on desk (161 + k)) → is_due clock (ticket_at desk k) ≡ true
on_due desk clock k d = told_true (decides_due clock (ticket_at desk k)) (rw (on_host desk k) at d)

by_place : (n : ℕ) (desk : Desk) (clock i k : ℕ) → k < 95 → is_due clock (ticket_at desk k) ≡ true → NoneUnder desk clock k → i < how_many (suc n) desk clock
    → ((j : ℕ) → j < how_many n (withdrawn_on desk (161 + k) clock) clock
    → Entered (withdrawn_on desk (161 + k) clock) clock (entries n (withdrawn_on desk (161 + k) clock) clock) j)
    → Entered desk clock (entries (suc n) desk clock) i
by_place n desk clock zero k h due before l rest =
    let next = withdrawn_on desk (161 + k) clock in
    let more = one_more n desk next clock (ticket_at desk k).asked.job (161 + k) (ticket_at desk k).asked.folder (expired_here desk clock k h before due) in
    let one = first_entry (ticket_at desk k).asked.job (161 + k) (ticket_at desk k).asked.folder (entries n next clock) in
    record {
      place = k;
      host = h;
      address = rw more.0 one.1;
      due = due_on desk clock k due;
      job = rw (more.0, on_host desk k) one.0;
      folder = rw (more.0, on_host desk k) one.2;
    }
by_place n desk clock (suc i) k h due before l rest =
    let next = withdrawn_on desk (161 + k) clock in
    let more = one_more n desk next clock (ticket_at desk k).asked.job (161 + k) (ticket_at desk k).asked.folder (expired_here desk clock k h before due) in
    let on = entry_on (ticket_at desk k).asked.job (161 + k) (ticket_at desk k).asked.folder (entries n next clock) i in
    let later : Entered next clock (entries n next clock) i = rest i (omega (arith, l, more.1)) in
    let still = due_still desk clock k later.place before (on_due next clock later.place later.due) in
    let same : ticket_on next (161 + later.place) ≡ ticket_on desk (161 + later.place) = on_host next later.place ∙ (still.1 ∙ sym (on_host desk later.place)) in
    record {
      place = later.place;
      host = later.host;
      address = rw more.0 (on.1 ∙ later.address);
      due = rw same at later.due;
      job = rw more.0 (on.0 ∙ (later.job ∙ ap (λ (t : Ticket). t.asked.job) same));
      folder = rw more.0 (on.2 ∙ (later.folder ∙ ap (λ (t : Ticket). t.asked.folder) same));
    }

pub each_due : (n : ℕ) (desk : Desk) (clock i : ℕ) → i < how_many n desk clock → Entered desk clock (entries n desk clock) i
each_due zero desk clock i h = absurd (omega (arith, h, none_of desk clock))
each_due (suc n) desk clock i h = ⊎_elim
    (λ nothing. absurd (let z : how_many (suc n) desk clock ≡ 0 = (nothing_more (suc n) desk clock nothing).1 in omega arith))
    (λ s. by_place n desk clock i s.0 s.1 s.2 s.3 h (λ j l. each_due n (withdrawn_on desk (161 + s.0) clock) clock j l)) (step desk clock)

-- ---- "the addresses rise strictly"

-- where nothing is due under k, no entry stands under it
above : (n : ℕ) (desk : Desk) (clock k i : ℕ) → NoneUnder desk clock k → i < how_many n desk clock → 161 + k ≤ address_of (entries n desk clock) i
above n desk clock k i before h =
    let e : Entered desk clock (entries n desk clock) i = each_due n desk clock i h in
    elim (dec_lt e.place k) [
      | yes l ↦ absurd (true≢false (sym (on_due desk clock e.place e.due) ∙ before e.place l))
      | no l ↦ omega (arith, e.address)
    ]

by_first : (n : ℕ) (desk : Desk) (clock i k : ℕ) → k < 95 → is_due clock (ticket_at desk k) ≡ true → NoneUnder desk clock k → suc i < how_many (suc n) desk clock
    → ((j : ℕ) → suc j < how_many n (withdrawn_on desk (161 + k) clock) clock
    → address_of (entries n (withdrawn_on desk (161 + k) clock) clock) j < address_of (entries n (withdrawn_on desk (161 + k) clock) clock) (suc j))
    → address_of (entries (suc n) desk clock) i < address_of (entries (suc n) desk clock) (suc i)
by_first n desk clock zero k h due before l rest =
    let next = withdrawn_on desk (161 + k) clock in
    let more = one_more n desk next clock (ticket_at desk k).asked.job (161 + k) (ticket_at desk k).asked.folder (expired_here desk clock k h before due) in
    let one = first_entry (ticket_at desk k).asked.job (161 + k) (ticket_at desk k).asked.folder (entries n next clock) in
    let on = entry_on (ticket_at desk k).asked.job (161 + k) (ticket_at desk k).asked.folder (entries n next clock) 0 in
    let over_it : 161 + (k + 1) ≤ address_of (entries n next clock) 0 = above n next clock (k + 1) 0 (none_on desk clock k before) (omega (arith, l, more.1)) in
    rw (more.0, one.1, on.1) (omega arith)
by_first n desk clock (suc i) k h due before l rest =
    let next = withdrawn_on desk (161 + k) clock in
    let more = one_more n desk next clock (ticket_at desk k).asked.job (161 + k) (ticket_at desk k).asked.folder (expired_here desk clock k h before due) in
    let here = entry_on (ticket_at desk k).asked.job (161 + k) (ticket_at desk k).asked.folder (entries n next clock) i in
    let there = entry_on (ticket_at desk k).asked.job (161 + k) (ticket_at desk k).asked.folder (entries n next clock) (suc i) in
    rw (more.0, here.1, there.1) (rest i (omega (arith, l, more.1)))

pub entries_rise : (n : ℕ) (desk : Desk) (clock i : ℕ) → suc i < how_many n desk clock → address_of (entries n desk clock) i < address_of (entries n desk clock) (suc i)
entries_rise zero desk clock i h = absurd (omega (arith, h, none_of desk clock))
entries_rise (suc n) desk clock i h = ⊎_elim
    (λ nothing. absurd (let z : how_many (suc n) desk clock ≡ 0 = (nothing_more (suc n) desk clock nothing).1 in omega arith))
    (λ s. by_first n desk clock i s.0 s.1 s.2 s.3 h (λ j l. entries_rise n (withdrawn_on desk (161 + s.0) clock) clock j l)) (step desk clock)

-- ---- "every other ticket is as before", and "each expired address rests from that clock"

none_done : (desk : Desk) (clock : ℕ) → desk_after 0 desk clock ≡ desk
unfolding desk_after
none_done desk clock = refl

stay_first : (n : ℕ) (desk : Desk) (clock place k : ℕ) → k < 95 → is_due clock (ticket_at desk k) ≡ true → NoneUnder desk clock k
    → ((i : ℕ) → i < how_many (suc n) desk clock → address_of (entries (suc n) desk clock) i ≢ 161 + place)
    → (((i : ℕ) → i < how_many n (withdrawn_on desk (161 + k) clock) clock → address_of (entries n (withdrawn_on desk (161 + k) clock) clock) i ≢ 161 + place)
    → ticket_at (desk_after n (withdrawn_on desk (161 + k) clock) clock) place ≡ ticket_at (withdrawn_on desk (161 + k) clock) place)
    → ticket_at (desk_after (suc n) desk clock) place ≡ ticket_at desk place
stay_first n desk clock place k h due before apart rest =
    let next = withdrawn_on desk (161 + k) clock in
    let job = (ticket_at desk k).asked.job in
    let folder = (ticket_at desk k).asked.folder in
    let more = one_more n desk next clock job (161 + k) folder (expired_here desk clock k h before due) in
    let elsewhere : place ≢ k =
    (λ e. apart 0 (omega (arith, more.1)) (rw more.0 ((first_entry job (161 + k) folder (entries n next clock)).1 ∙ ap (λ (p : ℕ). 161 + p) (sym e)))) in
    ap (λ (d : Desk). ticket_at d place) more.2
    ∙ (rest (λ i l e. apart (suc i) (omega (arith, l, more.1)) (rw more.0 ((entry_on job (161 + k) folder (entries n next clock) i).1 ∙ e)))
    ∙ other_place desk clock k place elsewhere)

pub others_stay : (n : ℕ) (desk : Desk) (clock place : ℕ) → ((i : ℕ) → i < how_many n desk clock → address_of (entries n desk clock) i ≢ 161 + place)
    → ticket_at (desk_after n desk clock) place ≡ ticket_at desk place
others_stay zero desk clock place apart = ap (λ (d : Desk). ticket_at d place) (none_done desk clock)
others_stay (suc n) desk clock place apart = ⊎_elim
    (λ nothing. ap (λ (d : Desk). ticket_at d place) (nothing_more (suc n) desk clock nothing).2)
    (λ s. stay_first n desk clock place s.0 s.1 s.2 s.3 apart (λ l. others_stay n (withdrawn_on desk (161 + s.0) clock) clock place l)) (step desk clock)

closed_rests : (desk : Desk) (clock k : ℕ) → is_due clock (ticket_at desk k) ≡ true → ticket_at (withdrawn_on desk (161 + k) clock) k ≡ withdrawn_at clock
closed_rests desk clock k due =
    let there : k < length desk.tickets = open_place desk k (due_on desk clock k due).0 in
    subst (λ (d : Desk). ticket_at d k ≡ withdrawn_at clock) (sym (withdrawn_at_lem desk clock k))
    (put_here desk k (withdrawn_at clock) (λ l. absurd (true≢false (sym l))) there)
  where
    open_place : (desk : Desk) (k : ℕ) → OpenOn desk (161 + k) → k < length desk.tickets
    open_place desk k o = omega (arith, (open_within desk (161 + k) o).1)

rest_first : (n : ℕ) (desk : Desk) (clock i k : ℕ) → k < 95 → is_due clock (ticket_at desk k) ≡ true → NoneUnder desk clock k → i < how_many (suc n) desk clock
    → ((j : ℕ) → j < how_many n (withdrawn_on desk (161 + k) clock) clock
    → ticket_on (desk_after n (withdrawn_on desk (161 + k) clock) clock) (address_of (entries n (withdrawn_on desk (161 + k) clock) clock) j) ≡ withdrawn_at clock)
    → ticket_on (desk_after (suc n) desk clock) (address_of (entries (suc n) desk clock) i) ≡ withdrawn_at clock
rest_first n desk clock zero k h due before l rest =
    let next = withdrawn_on desk (161 + k) clock in
    let job = (ticket_at desk k).asked.job in
    let folder = (ticket_at desk k).asked.folder in
    let more = one_more n desk next clock job (161 + k) folder (expired_here desk clock k h before due) in
    let higher : (i : ℕ) → i < how_many n next clock → address_of (entries n next clock) i ≢ 161 + k =
    (λ i l e. let a : 161 + (k + 1) ≤ address_of (entries n next clock) i = above n next clock (k + 1) i (none_on desk clock k before) l in omega (arith, a, e)) in
    rw (more.0, more.2, (first_entry job (161 + k) folder (entries n next clock)).1) (on_host (desk_after n next clock) k ∙ (others_stay n next clock k higher ∙ closed_rests desk clock k due))
rest_first n desk clock (suc i) k h due before l rest =
    let next = withdrawn_on desk (161 + k) clock in
    let job = (ticket_at desk k).asked.job in
    let folder = (ticket_at desk k).asked.folder in
    let more = one_more n desk next clock job (161 + k) folder (expired_here desk clock k h before due) in
    rw (more.0, more.2, (entry_on job (161 + k) folder (entries n next clock) i).1) (rest i (omega (arith, l, more.1)))

pub each_rests : (n : ℕ) (desk : Desk) (clock i : ℕ) → i < how_many n desk clock
    → ticket_on (desk_after n desk clock) (address_of (entries n desk clock) i) ≡ withdrawn_at clock
each_rests zero desk clock i h = absurd (omega (arith, h, none_of desk clock))
each_rests (suc n) desk clock i h = ⊎_elim
    (λ nothing. absurd (let z : how_many (suc n) desk clock ≡ 0 = (nothing_more (suc n) desk clock nothing).1 in omega arith))
    (λ s. rest_first n desk clock i s.0 s.1 s.2 s.3 h (λ j l. each_rests n (withdrawn_on desk (161 + s.0) clock) clock j l)) (step desk clock)

-- the turn stays
pub turn_stays : (n : ℕ) (desk : Desk) (clock : ℕ) → (desk_after n desk clock).turn ≡ desk.turn
turn_stays zero desk clock = ap (λ (d : Desk). d.turn) (none_done desk clock)
turn_stays (suc n) desk clock = ⊎_elim
    (λ nothing. ap (λ (d : Desk). d.turn) (nothing_more (suc n) desk clock nothing).2)
    (λ s. ap (λ (d : Desk). d.turn) (one_more n desk (withdrawn_on desk (161 + s.0) clock) clock _ _ _ (expired_here desk clock s.0 s.1 s.3 s.2)).2
    ∙ turn_stays n (withdrawn_on desk (161 + s.0) clock) clock) (step desk clock)

-- ---- "until the list is full or nothing is due"

pub count_within : (n : ℕ) (desk : Desk) (clock : ℕ) → how_many n desk clock ≤ n
count_within zero desk clock = omega (arith, none_of desk clock)
count_within (suc n) desk clock = ⊎_elim
    (λ nothing. omega (arith, (nothing_more (suc n) desk clock nothing).1))
    (λ s.
    let more =
    one_more n desk (withdrawn_on desk (161 + s.0) clock) clock (ticket_at desk s.0).asked.job (161 + s.0) (ticket_at desk s.0).asked.folder
    (expired_here desk clock s.0 s.1 s.3 s.2) in
    omega (arith, more.1, count_within n (withdrawn_on desk (161 + s.0) clock) clock)) (step desk clock)

none_left : (n : ℕ) (desk : Desk) (clock : ℕ) → how_many n desk clock < n → NoneUnder (desk_after n desk clock) clock 95
none_left zero desk clock h = absurd (omega arith)
none_left (suc n) desk clock h = ⊎_elim
    (λ nothing. subst (λ (d : Desk). NoneUnder d clock 95) (sym (nothing_more (suc n) desk clock nothing).2) nothing)
    (λ s.
    let more =
    one_more n desk (withdrawn_on desk (161 + s.0) clock) clock (ticket_at desk s.0).asked.job (161 + s.0) (ticket_at desk s.0).asked.folder
    (expired_here desk clock s.0 s.1 s.3 s.2) in
    subst (λ (d : Desk). NoneUnder d clock 95) (sym more.2) (none_left n (withdrawn_on desk (161 + s.0) clock) clock (omega (arith, more.1, h)))) (step desk clock)

pub nothing_left : (n : ℕ) (desk : Desk) (clock : ℕ) → how_many n desk clock < n → (place : ℕ) → place < 95 → IsDue clock (ticket_at (desk_after n desk clock) place) → ⊥
nothing_left n desk clock h place l due = true≢false (sym (told_true (decides_due clock (ticket_at (desk_after n desk clock) place)) due) ∙ none_left n desk clock h place l)

no_entries : (desk : Desk) (clock : ℕ) → length (entries 0 desk clock) ≡ 3 * how_many 0 desk clock
unfolding entries how_many
no_entries desk clock = refl

pub entries_long : (n : ℕ) (desk : Desk) (clock : ℕ) → length (entries n desk clock) ≡ 3 * how_many n desk clock
entries_long zero desk clock = no_entries desk clock
entries_long (suc n) desk clock = ⊎_elim
    (λ nothing. let no_more = nothing_more (suc n) desk clock nothing in rw (no_more.0, no_more.1))
    (λ s.
    let more =
    one_more n desk (withdrawn_on desk (161 + s.0) clock) clock (ticket_at desk s.0).asked.job (161 + s.0) (ticket_at desk s.0).asked.folder
    (expired_here desk clock s.0 s.1 s.3 s.2) in
    rw (more.0, more.1) (omega (arith, entries_long n (withdrawn_on desk (161 + s.0) clock) clock))) (step desk clock)

-- ---- so of the call: "and unused entries stay", part of a last entry too

-- an entry of the list is the definition's
entry_of : (es rest : List ℕ) (i n : ℕ) → length es ≡ 3 * n → i < n
    → (job_of (es ++ rest) i ≡ job_of es i) × (address_of (es ++ rest) i ≡ address_of es i) × (folder_of (es ++ rest) i ≡ folder_of es i)
unfolding job_of address_of folder_of
entry_of es rest i n long h = (front (3 * i) (omega arith), front (3 * i + 1) (omega arith), front (3 * i + 2) (omega arith))
  where
    front : (j : ℕ) → j < length es → get_or (es ++ rest) j 0 ≡ get_or es j 0
    front j l = sym (get_or-take (length es) (es ++ rest) j 0 l) ∙ ap (λ (l : List ℕ). get_or l j 0) (take-append_seam es rest)

module _ (desk : Desk) (clock : ℕ) (list : List ℕ) (r : Swept) (list' : List ℕ) (p : ExpiresAll desk clock list r list') where
  n : ℕ
  n = room_in list

  es : List ℕ
  es = entries n desk clock

  room_for : length es ≤ length list
  unfolding n es room_in
  room_for = omega (arith, entries_long (length list / 3) desk clock, count_within (length list / 3) desk clock)

  laid : list' ≡ es ++ drop (length es) list
  unfolding n es
  laid = p.2 ∙ over_is (entries (room_in list) desk clock) list room_for

  same_entry : (i : ℕ) → i < how_many n desk clock → (job_of list' i ≡ job_of es i) × (address_of list' i ≡ address_of es i) × (folder_of list' i ≡ folder_of es i)
  unfolding n es
  same_entry i l = rw laid (entry_of es (drop (length es) list) i (how_many n desk clock) (entries_long n desk clock) l)

  counted_as : (i : ℕ) → i < r.count → i < how_many n desk clock
  unfolding n
  counted_as i l = rw p.1 at l

  entered_as : (i : ℕ) → i < how_many n desk clock → Entered desk clock list' i
  unfolding n es
  entered_as i l =
      let e : Entered desk clock (entries n desk clock) i = each_due n desk clock i l in
      let same = same_entry i l in
      record { place = e.place; host = e.host; address = same.1 ∙ e.address; due = e.due; job = same.0 ∙ e.job; folder = same.2 ∙ e.folder }

  pub sweeps : Sweeping desk clock list r list'
  unfolding n es room_in
  sweeps =
      record {
        within = rw p.1 (count_within n desk clock);
        all = rw (p.0, p.1) (nothing_left n desk clock);
        each = λ i l. entered_as i (counted_as i l);
        rise = λ i l. rw ((same_entry i (counted_as i (omega arith))).1, (same_entry (suc i) (counted_as (suc i) l)).1) (entries_rise n desk clock i (counted_as (suc i) l));
        rest = λ i l. rw ((same_entry i (counted_as i l)).1, p.0) (each_rests n desk clock i (counted_as i l));
        others = λ place apart. rw p.0 (others_stay n desk clock place (λ i l e. apart i (rw p.1 l) ((same_entry i l).1 ∙ e)));
        turn = ap (λ (d : Desk). d.turn) p.0 ∙ turn_stays n desk clock;
        stays = rw (p.1, ← entries_long n desk clock, laid) (drop-append_seam es (drop (length es) list));
        same = ap length p.2 ∙ length_over (entries n desk clock) list;
      }

-- ---- the nights count each of its closings: it is that many single calls, and their callers saw what the entries say

single_more : (m : ℕ) (desk : Desk) (clock : ℕ) (past : List Event)
    → (after_all desk (replicate (suc m) (expires clock)) ≡ after_all (expired desk clock).desk (replicate m (expires clock)))
    × (answered_all desk past (replicate (suc m) (expires clock))
    ≡ answered_all (expired desk clock).desk (of_closing (expired desk clock).answer clock ∷ past) (replicate m (expires clock)))
unfolding after_all answered_all after event_of expired
single_more m desk clock past = (refl, refl)

told_more : (job address folder : ℕ) (rest : List ℕ) (clock : ℕ) (past : List Event)
    → told (job ∷ address ∷ folder ∷ rest) clock past ≡ told rest clock (withdrawn job address folder clock ∷ past)
unfolding told
told_more job address folder rest clock past = refl

none_single : (desk : Desk) (clock : ℕ) (past : List Event)
    → (after_all desk [] ≡ desk) × (answered_all desk past [] ≡ past) × (told [] clock past ≡ past)
unfolding after_all answered_all told
none_single desk clock past = (refl, refl, refl)

none_entered : (desk : Desk) (clock : ℕ) → entries 0 desk clock ≡ []
unfolding entries
none_entered desk clock = refl

pub as_single_calls : (n : ℕ) (desk : Desk) (clock : ℕ) (past : List Event)
    → (desk_after n desk clock ≡ after_all desk (replicate (how_many n desk clock) (expires clock)))
    × (told (entries n desk clock) clock past ≡ answered_all desk past (replicate (how_many n desk clock) (expires clock)))
as_single_calls zero desk clock past =
    let none = none_single desk clock past in
    rw (none_of desk clock, none_done desk clock, none_entered desk clock, none.2) (sym none.0, sym none.1)
as_single_calls (suc n) desk clock past = ⊎_elim
    (λ nothing.
    let end = nothing_more (suc n) desk clock nothing in
    let none = none_single desk clock past in
    rw (end.0, end.1, end.2, none.2) (sym none.0, sym none.1))
    (λ s.
    let k = s.0 in
    let next = withdrawn_on desk (161 + k) clock in
    let job = (ticket_at desk k).asked.job in
    let folder = (ticket_at desk k).asked.folder in
    let one = expired_here desk clock k s.1 s.3 s.2 in
    let more = one_more n desk next clock job (161 + k) folder one in
    let call = rw one at (single_more (how_many n next clock) desk clock past) in
    let rest = as_single_calls n next clock (withdrawn job (161 + k) folder clock ∷ past) in
    rw (more.0, more.1, more.2, told_more job (161 + k) folder (entries n next clock) clock past) (rest.0 ∙ sym call.0, rest.1 ∙ sym call.1)) (step desk clock)

-- ---- so the call itself: as many single expiries as it answers, no more than the list has room for and all that are due where there is more, and
-- the list's first entries say what their callers saw

-- the entries that were filled are the definition's
pub filled : (desk : Desk) (clock : ℕ) (list : List ℕ) (r : Swept) (list' : List ℕ) → ExpiresAll desk clock list r list'
    → take (3 * r.count) list' ≡ entries (room_in list) desk clock
unfolding n es
filled desk clock list r list' p =
    rw (p.1, ← entries_long (room_in list) desk clock, laid desk clock list r list' p)
    (take-append_seam (entries (room_in list) desk clock) (drop (length (entries (room_in list) desk clock)) list))

pub call_as_single : (desk : Desk) (clock : ℕ) (list : List ℕ) (r : Swept) (list' : List ℕ) → ExpiresAll desk clock list r list'
    → (r.count ≤ length list / 3)
    × (r.count < length list / 3 → (place : ℕ) → place < 95 → IsDue clock (ticket_at r.desk place) → ⊥)
    × (r.desk ≡ after_all desk (replicate r.count (expires clock)))
    × ((past : List Event) → told (take (3 * r.count) list') clock past ≡ answered_all desk past (replicate r.count (expires clock)))
    × (drop (3 * r.count) list' ≡ drop (3 * r.count) list)
    × (length list' ≡ length list)
call_as_single desk clock list r list' p = (
  rw (p.1, ← room_is list) (count_within (room_in list) desk clock),
  rw (p.0, p.1, ← room_is list) (nothing_left (room_in list) desk clock),
  rw (p.0, p.1) (as_single_calls (room_in list) desk clock []).0,
  (λ past. rw (filled desk clock list r list' p, p.1) (as_single_calls (room_in list) desk clock past).1),
  (sweeps desk clock list r list' p).stays,
  (sweeps desk clock list r list' p).same,
)

-- a night goes on with it: after any calls, a sweep, and any calls more
pub night_swept : (calls : List Call) (clock : ℕ) (list : List ℕ) (r : Swept) (list' : List ℕ) → ExpiresAll (after_all fresh_desk calls) clock list r list'
    → (more : List Call) → Night (after_all r.desk more) (answered_all r.desk (told (take (3 * r.count) list') clock (answered_all fresh_desk [] calls)) more)
night_swept calls clock list r list' p more =
    let c = call_as_single (after_all fresh_desk calls) clock list r list' p in
    let sweep : List Call = replicate r.count (expires clock) in
    let one = then_all calls sweep fresh_desk [] in
    let two = then_all (calls ++ sweep) more fresh_desk [] in
    let desk_is : after_all fresh_desk (calls ++ sweep) ≡ r.desk = one.0 ∙ sym c.2 in
    let past_is : answered_all fresh_desk [] (calls ++ sweep) ≡ told (take (3 * r.count) list') clock (answered_all fresh_desk [] calls) = one.1 ∙ sym (c.3 (answered_all fresh_desk [] calls)) in
    subst (λ (d : Desk). Night (after_all d more) (answered_all d (told (take (3 * r.count) list') clock (answered_all fresh_desk [] calls)) more)) desk_is
    (subst (λ (past : List Event). Night (after_all (after_all fresh_desk (calls ++ sweep)) more) (answered_all (after_all fresh_desk (calls ++ sweep)) past more)) past_is
    (subst (λ (past : List Event). Night (after_all (after_all fresh_desk (calls ++ sweep)) more) past) two.1
    (subst (λ (d : Desk). Night d (answered_all fresh_desk [] ((calls ++ sweep) ++ more))) two.0 (any_night ((calls ++ sweep) ++ more)))))

-- 02, #110, with a sweep among the calls: "No two open tickets of different jobs may hold the same folder other than 0"
pub folders_apart_swept : (calls : List Call) (clock : ℕ) (list : List ℕ) (r : Swept) (list' : List ℕ) → ExpiresAll (after_all fresh_desk calls) clock list r list'
    → (more : List Call) (a b : ℕ)
    → (ticket_on (after_all r.desk more) a).live ≡ true
    → (ticket_on (after_all r.desk more) b).live ≡ true
    → (ticket_on (after_all r.desk more) a).asked.job ≢ (ticket_on (after_all r.desk more) b).asked.job
    → (ticket_on (after_all r.desk more) a).asked.folder ≢ 0
    → (ticket_on (after_all r.desk more) a).asked.folder ≢ (ticket_on (after_all r.desk more) b).asked.folder
folders_apart_swept calls clock list r list' p more = (night_swept calls clock list r list' p more).apart

-- a part of an entry is no entry
pub told_part : (job address clock : ℕ) (past : List Event) → (told (job ∷ []) clock past ≡ past) × (told (job ∷ address ∷ []) clock past ≡ past)
unfolding told
told_part job address clock past = (refl, refl)

over_none : (list : List ℕ) → over [] list ≡ list
unfolding over
over_none list = refl

zero_as : (desk : Desk) (clock : ℕ) (list : List ℕ) (r : Swept) (list' : List ℕ) (n : ℕ) → room_in list ≡ n → ExpiresAll desk clock list r list'
    → (entries n desk clock ≡ []) × (how_many n desk clock ≡ 0) × (desk_after n desk clock ≡ desk) → (r ≡ record { desk = desk; count = 0 }) × (list' ≡ list)
zero_as desk clock list r list' n e p z =
    let q = rw e at p in
    let d : r.desk ≡ desk = q.0 ∙ z.2 in
    let c : r.count ≡ 0 = q.1 ∙ z.1 in
    (same_swept r desk 0 d c, q.2 ∙ (ap (λ (l : List ℕ). over l list) z.0 ∙ over_none list))
  where
    same_swept : (r : Swept) (d : Desk) (c : ℕ) → r.desk ≡ d → r.count ≡ c → r ≡ record { desk = d; count = c }
    same_swept r d c a b = rw (← a, ← b) refl

-- "0, for no room or nothing due, isn't a refusal.": the answer is the desk as it was and 0, and nothing else
pub nothing_done : (desk : Desk) (clock : ℕ) (list : List ℕ) (r : Swept) (list' : List ℕ) → ExpiresAll desk clock list r list'
    → (length list < 3) ⊎ ((place : ℕ) → place < 95 → IsDue clock (ticket_at desk place) → ⊥) → (r ≡ record { desk = desk; count = 0 }) × (list' ≡ list)
nothing_done desk clock list r list' p why = ⊎_elim
    (λ short. zero_as desk clock list r list' 0 (room_is list ∙ omega (arith, short)) p (none_entered desk clock, none_of desk clock, none_done desk clock))
    (λ none. zero_as desk clock list r list' (room_in list) refl p (nothing_more (room_in list) desk clock (λ j l. told_false (decides_due clock (ticket_at desk j)) (none j l)))) why

-- ---- what `Sweeping` and `Entered` say, said out of the call

pub sweeps_plainly : (desk : Desk) (clock : ℕ) (list : List ℕ) (r : Swept) (list' : List ℕ) → ExpiresAll desk clock list r list'
    → ((i : ℕ) → i < r.count
    → (place : ℕ)
    × (place < 95)
    × (address_of list' i ≡ 161 + place)
    × IsDue clock (ticket_on desk (161 + place))
    × (job_of list' i ≡ (ticket_on desk (161 + place)).asked.job)
    × (folder_of list' i ≡ (ticket_on desk (161 + place)).asked.folder))
    × ((i : ℕ) → suc i < r.count → address_of list' i < address_of list' (suc i))
    × ((i : ℕ) → i < r.count → ticket_on r.desk (address_of list' i) ≡ withdrawn_at clock)
    × ((place : ℕ) → ((i : ℕ) → i < r.count → address_of list' i ≢ 161 + place) → ticket_at r.desk place ≡ ticket_at desk place)
    × (r.desk.turn ≡ desk.turn)
sweeps_plainly desk clock list r list' p =
    let s = sweeps desk clock list r list' p in (
      (λ i l. let e = s.each i l in (e.place, e.host, e.address, e.due, e.job, e.folder)),
      s.rise,
      s.rest,
      s.others,
      s.turn,
    )

-- ---- the call is settled

pub expires_all_settled : (desk : Desk) (clock : ℕ) (list : List ℕ) → Settled {A = Swept × List ℕ} (λ o. ExpiresAll desk clock list o.0 o.1)
expires_all_settled desk clock list =
    settled_parts (λ (d : Desk) (c : ℕ). record { desk = d; count = c }) (λ (r : Swept). r.desk) (λ (r : Swept). r.count) (λ r. refl) (λ d c. (refl, refl)) _ _ _

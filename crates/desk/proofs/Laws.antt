-- What is promised of the desk, each law under the sentence that it keeps: 01 is the specification, M the mission. Rows 10 to 22 and 61
-- are in Ranking.antt, and what holds over many calls in the crate `nights`.
-- Assumes nothing.
use Rattle.std.specs.Prelude.{Ok, Err}
use mathlib.Core.Path.{◌≡◌, refl, sym, ap, ap₂, ◌∙◌}
use mathlib.Core.Bool.{Bool, true, false, cond, not, true≢false}
use mathlib.Core.List.{List, [], ◌∷◌}
use mathlib.Core.Logic.{◌≢◌, ◌⊎◌}
use mathlib.Core.Option.{some, none}
use Prim.Native.Nat.{ℕ, zero, suc, ◌+◌, ◌-◌, ◌%◌, ◌≤◌, ◌<◌}
use native.Mathlib.Omega.{arith}
use borrow.Author.Tests.{ltb-false, leb-true, leb-false, not-false, le-ltb, le-leb, lt-leb}
use lib.Dec.{ltb, leb}
use lib.ListN.{length, get_or, take, replicate}
use lib.Seq.{get_or-set_same, get_or-set_other}
use Rattle.rows.proofs.Settled.{settled, settled_parts}
use Rattle.rows.specs.Settled.{Settled}
use Rattle.first.proofs.Laws.{first_at}
use Rattle.frame.specs.Frame.{framed, message_of}
use Rattle.lent.specs.Lent.{over}
use Rattle.marks.proofs.Laws.{none_marked}
use Rattle.marks.specs.Marks.{no_marks}
use Rattle.remainder.proofs.Laws.{burst_seen, nearby_burst}
use Rattle.remainder.specs.Remainder.{remainder_of, combined, AlteredNearby}
use Rattle.request.proofs.Laws.{allowed_writable}
use Rattle.request.specs.Request.{ask_refusal}
use Rattle.request.specs.declared.Request.{Request}
use Rattle.rows.proofs.Laws.{decides_eq, decides_and, decides_set, first_false, told_false, or-none, raised_none}
use Rattle.rows.specs.Rows.{first_row_of, raised, test}
use Rattle.telegram.proofs.Laws.{reads_back, altered_refused}
use Rattle.telegram.proofs.Send.{telegram_long, length-message_for}
use Rattle.telegram.specs.Read.{read_refusal, fields_in, data_in, read_frame, Reads}
use Rattle.telegram.specs.Write.{message_for, telegram_for, fields_for, write_refusal}
use Rattle.telegram.specs.declared.Fault.TheVariants.{CheckFault}
use Rattle.telegram.specs.declared.Fields.{Fields}
use Rattle.telegram.specs.Answers.{Reading}
use Rattle.telegram.specs.declared.Fault.{Fault as Unreadable}
use Rattle.ticket.proofs.Laws.{fitting, decides_due, decides_free}
use Rattle.ticket.specs.Due.{age, IsDue}
use Rattle.ticket.specs.Fit.{KindFits, RegisterFits, fit_refusal}
use Rattle.ticket.specs.Rest.{is_free}
use Rattle.ticket.specs.Ticket.{Open, no_ticket, new_ticket, withdrawn_at}
use Rattle.ticket.specs.declared.Ticket.{Ticket}
use Rattle.desk.proofs.Answers.{opened_told, open_refused_lem, book_refused, closed_told, close_refused, booked_told}
use Rattle.desk.proofs.Calls.{live_host, only_room}
use Rattle.desk.proofs.Standing.{length-standing, standing_with, standing_put, standing_alone}
use Rattle.desk.proofs.Ranking.{search_ended, search_passed, due_ended, decides_folder_held}
use Rattle.desk.specs.Close.{is_theirs, cancel_refusal, Cancels, Expires, due_place, expire_refusal, withdrawn_on}
use Rattle.desk.specs.Desk.{fresh_desk, standing, place_in, ticket_at, ticket_on, OpenOn, put_at, fault_number, Fresh, Stands, Looks, Numbers}
use Rattle.desk.specs.Folder.{IsFolderHeld, is_folder_held}
use Rattle.desk.specs.Open.{place_from, distance_of, given_place, request_at, place_tests, open_refusal, with_ticket, Opens}
use Rattle.desk.specs.Outcome.{Given, ClosedAlone, Books, Expired}
use Rattle.desk.specs.Reply.{book_refusal, reply_refusal, book_told, answered_on, Replies}
use Rattle.desk.specs.declared.Desk.{Desk}
use Rattle.desk.specs.declared.Fault.{Fault}
use Rattle.desk.specs.declared.Fault.TheVariants.{Denied, FolderHeld, NoneFree, NoRoom, Unread, Misfit, NotTheirs, NothingDue}
use Rattle.desk.specs.Answers.{Opening, booking, closing, opening}
use Rattle.desk.specs.Answers.{Booking}
use Rattle.desk.specs.Answers.{Closing}
use Rattle.desk.specs.declared.Seen.{Seen}
use Rattle.desk.specs.declared.Seen.TheVariants as seen
use Rattle.desk.specs.declared.AfterOpen.{AfterOpen}
use Rattle.desk.specs.declared.AfterReply.{AfterReply}
use Rattle.desk.specs.declared.AfterClose.{AfterClose}

-- ---- a store at one place

-- what stands on a host address stands at its place
pub on_host : (desk : Desk) (place : ℕ) → ticket_on desk (161 + place) ≡ ticket_at desk place
on_host desk place = let p : 161 + place - 161 ≡ place = omega arith in rw (le-leb 161 (161 + place) (omega arith), p)

-- it stands there, at one of 95 places
pub put_here : (desk : Desk) (place : ℕ) (ticket : Ticket) → (ticket.live ≡ true → place < 128) → place < length desk.tickets
    → ticket_at (put_at desk place ticket) place ≡ ticket
put_here desk place ticket near h =
    ap (λ (ts : List Ticket). place_in ts place) (standing_put desk.marks desk.tickets place ticket near)
    ∙ get_or-set_same (standing desk) place ticket no_ticket (rw (length-standing 0 desk.marks desk.tickets) h)

-- and at every other place what stood there
pub put_other : (desk : Desk) (place : ℕ) (ticket : Ticket) (other : ℕ) → other ≢ place
    → ticket_at (put_at desk place ticket) other ≡ ticket_at desk other
put_other desk place ticket other n =
    ap (λ (ts : List Ticket). place_in ts other) (standing_with desk.marks desk.tickets place ticket)
    ∙ get_or-set_other (standing desk) place other _ no_ticket n

-- every other address is as before
pub stored_other : (desk : Desk) (place : ℕ) (ticket : Ticket) (other : ℕ) → other ≢ 161 + place
    → ticket_on (put_at desk place ticket) other ≡ ticket_on desk other
stored_other desk place ticket other n = go (leb 161 other) refl
  where
    go : (t : Bool) → leb 161 other ≡ t
        → cond t (ticket_at (put_at desk place ticket) (other - 161)) no_ticket ≡ cond t (ticket_at desk (other - 161)) no_ticket
    go true e = put_other desk place ticket (other - 161) (λ p. n (omega (arith, leb-true 161 other e)))
    go false e = refl

-- ---- 01: "The address given is the first one without a ticket, from the turn upwards and after 255 from 161 on. The turn then moves to
-- the address after it, again with 161 after 255." 02, #102: one that rests "is not given out".

-- on a desk of 95 places, as every call leaves it
pub given_at : (desk : Desk) (asked : Request) (clock : ℕ) → length desk.tickets ≡ 95 → distance_of desk clock < 95
    → Given desk asked clock (161 + given_place desk clock) (with_ticket desk (given_place desk clock) (new_ticket asked clock))
unfolding given_place
given_at desk asked clock places near =
    let place : ℕ = place_from desk.turn (distance_of desk clock) in
    record {
      host = omega arith;
      last = omega arith;
      free = rw (on_host desk place) ((decides_free clock (ticket_at desk place)).so ((search_ended desk clock).there near));
      found = refl;
      near = near;
      passed = λ k h. rw (on_host desk (place_from desk.turn k)) (search_passed desk clock k h);
      stands =
          on_host (with_ticket desk place (new_ticket asked clock)) place
          ∙ put_here desk place (new_ticket asked clock) (λ live. omega arith) (omega arith);
      others = stored_other desk place (new_ticket asked clock);
      turn_after = let p : 161 + place - 161 ≡ place = omega arith in rw p;
    }

-- what no row refuses fits
pub fit_to_open : (desk : Desk) (asked : Request) (bytes : List ℕ) (clock room : ℕ) → open_refusal desk asked bytes clock room ≡ none
    → (ask_refusal asked bytes ≡ none)
    × (distance_of desk clock < 95)
    × (length (request_at (given_place desk clock) asked bytes) ≤ room)
    × (IsFolderHeld desk asked → ⊥)
unfolding open_refusal
fit_to_open desk asked bytes clock room e =
    let request : List ℕ = request_at (given_place desk clock) asked bytes in
    let a =
    or-none (raised Denied (ask_refusal asked bytes))
    (first_row_of (test (is_folder_held desk asked) FolderHeld ∷ place_tests (distance_of desk clock) request room)) e in
    let f = first_false (is_folder_held desk asked) FolderHeld _ a.1 in
    let b = first_false (leb 95 (distance_of desk clock)) NoneFree _ f.1 in
    let d = first_false (ltb room (length request)) NoRoom _ b.1 in
    (raised_none Denied (ask_refusal asked bytes) a.0, leb-false _ _ b.0, ltb-false _ _ d.0, (decides_folder_held desk asked).not_so f.0)

-- of what opening answers, by its contract
module _ (desk : Desk) (asked : Request) (bytes : List ℕ) (clock : ℕ) (room : List ℕ) (r : AfterOpen) (room' : List ℕ)
    (opens : Opens desk asked bytes clock room r room') where
  pub opened_fit : (address n : ℕ) → r.answer ≡ opening address n
      → (open_refusal desk asked bytes clock (length room) ≡ none)
      × (address ≡ 161 + given_place desk clock)
      × (n ≡ length (request_at (given_place desk clock) asked bytes))
  opened_fit address n e = opened_told _ _ _ address n (sym e ∙ opens.0)

  pub opened_given : (address n : ℕ) → length desk.tickets ≡ 95 → r.answer ≡ opening address n → Given desk asked clock address r.desk
  opened_given address n places e =
      let a = opened_fit address n e in
      let there : r.desk ≡ with_ticket desk (given_place desk clock) (new_ticket asked clock) = opens.1 ∙ rw a.0 in
      rw (a.1, there) (given_at desk asked clock places (fit_to_open desk asked bytes clock (length room) a.0).1)

  -- 01: "The request telegram is written with that address as source, into the first bytes of the lent buffer": read with room for the
  -- data, it gives back what was asked
  pub request_reads_back : (address n : ℕ) → r.answer ≡ opening address n
      → (buffer : List ℕ) (a : Reading) (buffer' : List ℕ) → length bytes ≤ length buffer → Reads (take n room') buffer a buffer'
      → (a ≡ Ok (fields_for asked.unit address asked.sort asked.register bytes)) × (buffer' ≡ over bytes buffer)
  request_reads_back address n e buffer a buffer' h reads =
      let o = opened_fit address n e in
      let fit = fit_to_open desk asked bytes clock (length room) o.0 in
      let can = allowed_writable asked bytes fit.0 in
      let wrote : write_refusal asked.unit address asked.sort asked.register bytes (length room) ≡ none =
      only_room asked.unit address asked.sort asked.register bytes (length room) can.0 can.1 (λ z. omega (arith, o.1)) can.2
      ∙ rw o.1 (simp (le-ltb (length room) (length (request_at (given_place desk clock) asked bytes)) fit.2)) in
      reads_back asked.unit address asked.sort asked.register bytes room n room'
      (rw (wrote, o.2, o.1) refl, opens.2 ∙ rw (o.0, wrote, o.1)) buffer a buffer' h reads

  -- "into the first bytes of the lent buffer; the address and the telegram's length are answered": every byte behind it stays
  pub request_written : (address n : ℕ) → r.answer ≡ opening address n
      → (n ≡ length (telegram_for asked.unit address asked.sort asked.register bytes))
      × (room' ≡ over (telegram_for asked.unit address asked.sort asked.register bytes) room)
  request_written address n e =
      let o = opened_fit address n e in
      (o.2 ∙ rw o.1, opens.2 ∙ rw (o.0, o.1))

  -- 01: "It returns its number only, and every buffer, ticket and register and the desk's turn are as before."
  pub open_refusal_keeps : (f : Fault) → r.answer ≡ Err f → (r.desk ≡ desk) × (room' ≡ room)
  open_refusal_keeps f e =
      let o = open_refused_lem (open_refusal desk asked bytes clock (length room)) _ _ f (sym e ∙ opens.0) in
      (opens.1 ∙ rw o, opens.2 ∙ rw o)

-- nothing stands at any place of a fresh desk
pub empty_place : (place : ℕ) → ticket_at fresh_desk place ≡ no_ticket
empty_place place =
    ap (λ (ts : List Ticket). place_in ts place)
    (standing_alone no_marks (replicate 95 no_ticket) (λ i h. none_marked i ∙ sym (ap (λ (t : Ticket). t.live) (empty 95 i))))
    ∙ empty 95 place
  where
    empty : (n i : ℕ) → get_or (replicate n no_ticket) i no_ticket ≡ no_ticket
    empty zero i = refl
    empty (suc n) zero = refl
    empty (suc n) (suc i) = empty n i

-- 01: "A fresh desk has no tickets and its next turn at 161": whatever may be asked is opened there, with room for the longest telegram
pub fresh_opens : (asked : Request) (bytes : List ℕ) (clock : ℕ) (room : List ℕ) (r : AfterOpen) (room' : List ℕ)
    → Opens fresh_desk asked bytes clock room r room' → ask_refusal asked bytes ≡ none → 494 ≤ length room
    → r.answer ≡ opening 161 (length (request_at 0 asked bytes))
unfolding open_refusal given_place distance_of IsFolderHeld
fresh_opens asked bytes clock room r room' opens allowed wide =
    let near : distance_of fresh_desk clock ≡ 0 =
    first_at (λ k. is_free clock (ticket_at fresh_desk (place_from 0 k))) 95 0 (omega arith) (λ i l. absurd (omega arith)) (ap (is_free clock) (empty_place 0)) in
    let can = allowed_writable asked bytes allowed in
    let sized = length-message_for asked.unit 161 asked.sort asked.register bytes in
    let long : length (request_at 0 asked bytes) ≤ 494 =
    telegram_long (message_for asked.unit 161 asked.sort asked.register bytes) (omega (arith, sized, can.0)) in
    let nobody : is_folder_held fresh_desk asked ≡ false =
    told_false (decides_folder_held fresh_desk asked) (λ held. true≢false (sym held.1.2.0 ∙ ap (λ (t : Ticket). t.live) (empty_place held.1.0))) in
    opens.0 ∙ rw (near, allowed, nobody) (simp (le-ltb (length room) (length (request_at 0 asked bytes)) (omega arith)))

-- ---- 01: "A booked reply closes the ticket [..] and frees the address", "Cancel closes the ticket that is open on the address", "Expire
-- closes one ticket": each closes one and leaves the others and the turn

live_within : (tickets : List Ticket) (i : ℕ) → Open (get_or tickets i no_ticket) → i < length tickets
live_within [] i e = absurd (true≢false (sym e))
live_within (t ∷ tickets) zero e = omega arith
live_within (t ∷ tickets) (suc i) e = let h : i < length tickets = live_within tickets i e in omega arith

-- a ticket is open on a host address and at a place of the desk
pub open_within : (desk : Desk) (address : ℕ) → OpenOn desk address → (161 ≤ address) × (address - 161 < length desk.tickets)
open_within desk address live =
    let host = live_host desk address live in
    (host, rw (length-standing 0 desk.marks desk.tickets) at (live_within (standing desk) (address - 161) (rw (le-leb 161 address host) at live)))

closes_alone : (desk : Desk) (address : ℕ) (left : Ticket) → left.live ≡ false → OpenOn desk address
    → ClosedAlone desk address left (put_at desk (address - 161) left)
closes_alone desk address left shut live =
    let within = open_within desk address live in
    record {
      was_open = live;
      closed = rw (le-leb 161 address within.0) (put_here desk (address - 161) left (λ live. absurd (true≢false (sym live ∙ shut))) within.1);
      others = λ other n. stored_other desk (address - 161) left other (λ e. n (omega (arith, within.0)));
      turn_kept = refl;
    }

-- 02, #102: "Booked replies still free the address at once."
pub answers_alone : (desk : Desk) (address : ℕ) → OpenOn desk address → ClosedAlone desk address no_ticket (answered_on desk address)
answers_alone desk address = closes_alone desk address no_ticket refl

-- 02, #102: "an address closed by cancel or expiry rests", from the clock of that call
pub withdraws_alone : (desk : Desk) (address clock : ℕ) → OpenOn desk address → ClosedAlone desk address (withdrawn_at clock) (withdrawn_on desk address clock)
withdraws_alone desk address clock = closes_alone desk address (withdrawn_at clock) refl

-- ---- 01: "A reply is first read as a telegram [..]. A read is answered by type 8, 0, 1 or 2, a write of any sort by 3, 0, 1 or 2. A
-- datagram's register must equal the ticket's. [..] A booked reply closes the ticket, answers its job, address, type and data"

pub fit_to_book : (desk : Desk) (frame : List ℕ) (room : ℕ) → reply_refusal desk frame room ≡ none
    → (read_refusal frame room ≡ none)
    × OpenOn desk (fields_in frame).destination
    × ((fields_in frame).source ≡ (ticket_on desk (fields_in frame).destination).asked.unit)
    × KindFits (ticket_on desk (fields_in frame).destination).asked.sort (fields_in frame).sort
    × RegisterFits (ticket_on desk (fields_in frame).destination).asked.register (fields_in frame).sort (fields_in frame).register
unfolding reply_refusal book_refusal
fit_to_book desk frame room e =
    let t : Fields = fields_in frame in
    let a = or-none (raised Unread (read_refusal frame room)) (book_refusal desk t) e in
    let fit = fitting (ticket_on desk t.destination) t (raised_none Misfit (fit_refusal (ticket_on desk t.destination) t) a.1) in
    (raised_none Unread (read_refusal frame room) a.0, fit.0, fit.1, fit.2, fit.3)

module _ (desk : Desk) (frame room : List ℕ) (r : AfterReply) (room' : List ℕ) (replies : Replies desk frame room r room') where
  pub booked_right : (job address sort n folder : ℕ) → r.answer ≡ booking job address sort n folder
      → Books desk frame (length room) (fields_in frame) job address sort n folder r.desk × (room' ≡ over (data_in frame) room)
  unfolding read_frame
  booked_right job address sort n folder e =
      let t : Fields = fields_in frame in
      let b = booked_told (reply_refusal desk frame (length room)) (ticket_on desk t.destination) t job address sort n folder (sym e ∙ replies.0) in
      let fit = fit_to_book desk frame (length room) b.0 in
      let there : r.desk ≡ answered_on desk t.destination = replies.1 ∙ rw b.0 in (
        record {
          was_read = rw fit.0;
          for_address = b.2;
          theirs = rw b.2 b.1;
          from_module = rw b.2 fit.2;
          kind_fits = rw b.2 fit.3;
          register_fits_lem = rw b.2 fit.4;
          type_answered = b.3;
          size_answered = b.4;
          folder_answered = rw b.2 b.5;
          closes = rw (b.2, there) (answers_alone desk t.destination fit.1);
        },
        replies.2 ∙ rw b.0,
      )

  pub reply_refusal_keeps : (f : Fault) → r.answer ≡ Err f → (r.desk ≡ desk) × (room' ≡ room)
  reply_refusal_keeps f e =
      let o = book_refused (reply_refusal desk frame (length room)) _ _ f (sym e ∙ replies.0) in
      (replies.1 ∙ rw o, replies.2 ∙ rw o)

  -- "a refusal there ends the call", and its number is the reader's
  pub unread_passed_up : (f : Unreadable) → read_refusal frame (length room) ≡ some f → r.answer ≡ Err (Unread f)
  unfolding reply_refusal
  unread_passed_up f e = replies.0 ∙ rw e

-- ---- M 3, for any desk: "Take any accepted message and alter one or more bits, all within 16 neighbouring bits [..]. Frame it again and
-- offer it with 240 bytes of room. It is refused as a check fault, closes no ticket" Stated of any alteration of the same length
-- whose own remainder is not 0.

pub altered_reply : (frame : List ℕ) (offered : ℕ) (t : Fields) → read_frame frame offered ≡ Ok t
    → (m : List ℕ) → length (message_of frame) ≡ length m → remainder_of (combined (message_of frame) m) ≢ 0
    → (desk : Desk) (room : List ℕ) (r : AfterReply) (room' : List ℕ) → 240 ≤ length room → Replies desk (framed m) room r room'
    → (r.answer ≡ Err (Unread CheckFault)) × (r.desk ≡ desk) × (room' ≡ room)
altered_reply frame offered t e m same odd desk room r room' h replies =
    let seven = altered_refused frame offered t e m same odd (length room) h in
    let answer = unread_passed_up desk (framed m) room r room' replies CheckFault seven in
    let kept = reply_refusal_keeps desk (framed m) room r room' replies (Unread CheckFault) answer in
    (answer, kept.0, kept.1)

pub nearby_reply : (frame : List ℕ) (offered : ℕ) (t : Fields) → read_frame frame offered ≡ Ok t → (m : List ℕ) → AlteredNearby (message_of frame) m
    → (desk : Desk) (room : List ℕ) (r : AfterReply) (room' : List ℕ) → 240 ≤ length room → Replies desk (framed m) room r room'
    → (r.answer ≡ Err (Unread CheckFault)) × (r.desk ≡ desk) × (room' ≡ room)
nearby_reply frame offered t e m near = altered_reply frame offered t e m near.same_length (burst_seen (combined (message_of frame) m) (nearby_burst near))

-- ---- 01: "Cancel closes the ticket that is open on the address for that job now [..] and answers job and address." 02, #102: "Cancel takes a
-- clock reading", from which on the address rests. #110: "Replies, cancels and expiries answer the folder as well".

pub fit_to_cancel : (desk : Desk) (job address : ℕ) → cancel_refusal desk job address ≡ none → OpenOn desk address × ((ticket_on desk address).asked.job ≡ job)
unfolding cancel_refusal
fit_to_cancel desk job address e =
    let b = first_false (not (is_theirs (ticket_on desk address) job)) NotTheirs none e in
    (decides_and (decides_set (ticket_on desk address).live) (decides_eq (ticket_on desk address).asked.job job)).so (not-false _ b.0)

pub cancelled_right : (desk : Desk) (job address clock : ℕ) (r : AfterClose) (job' address' folder : ℕ)
    → Cancels desk job address clock r → r.answer ≡ closing job' address' folder
    → (job' ≡ job)
    × (address' ≡ address)
    × ((ticket_on desk address).asked.job ≡ job)
    × ClosedAlone desk address (withdrawn_at clock) r.desk
    × (folder ≡ (ticket_on desk address).asked.folder)
cancelled_right desk job address clock r job' address' folder c e =
    let a = closed_told (cancel_refusal desk job address) (ticket_on desk address) address job' address' folder (sym e ∙ c.0) in
    let fit = fit_to_cancel desk job address a.0 in
    let there : r.desk ≡ withdrawn_on desk address clock = c.1 ∙ rw a.0 in
    (a.1 ∙ fit.1, a.2, fit.1, rw there (withdraws_alone desk address clock fit.0), a.3)

-- ---- 01: "Expire closes one ticket, the due one with the lowest address, and answers job and address."

pub fit_to_expire : (desk : Desk) (clock : ℕ) → expire_refusal desk clock ≡ none
    → (due_place desk clock < 95) × IsDue clock (ticket_on desk (161 + due_place desk clock))
unfolding expire_refusal
fit_to_expire desk clock e =
    let place : ℕ = due_place desk clock in
    let near : place < 95 = leb-false _ _ (first_false (leb 95 place) NothingDue none e).0 in
    (near, rw (on_host desk place) ((decides_due clock (ticket_at desk place)).so ((due_ended desk clock).there near)))

pub expired_right : (desk : Desk) (clock : ℕ) (r : AfterClose) (job address folder : ℕ) → Expires desk clock r → r.answer ≡ closing job address folder
    → Expired desk clock job address folder r.desk
expired_right desk clock r job address folder x e =
    let place : ℕ = due_place desk clock in
    let a = closed_told (expire_refusal desk clock) (ticket_on desk (161 + place)) (161 + place) job address folder (sym e ∙ x.0) in
    let fit = fit_to_expire desk clock a.0 in
    let there : r.desk ≡ withdrawn_on desk (161 + place) clock = x.1 ∙ rw a.0 in
    record {
      due = rw a.2 fit.1;
      lowest = λ other h under found.
          (decides_due clock (ticket_at desk (other - 161))).not_so ((due_ended desk clock).before (other - 161) (omega (arith, a.2)))
          (rw (le-leb 161 other h) at found);
      last = omega (arith, a.2, fit.0);
      theirs = rw a.2 a.1;
      folder_answered = rw a.2 a.3;
      closes = rw (a.2, there) (withdraws_alone desk (161 + place) clock fit.1.0);
    }

pub cancel_refusal_keeps : (desk : Desk) (job address clock : ℕ) (r : AfterClose) (f : Fault)
    → Cancels desk job address clock r → r.answer ≡ Err f → r.desk ≡ desk
cancel_refusal_keeps desk job address clock r f c e = let o = close_refused (cancel_refusal desk job address) _ _ f (sym e ∙ c.0) in c.1 ∙ rw o

pub expire_refusal_keeps : (desk : Desk) (clock : ℕ) (r : AfterClose) (f : Fault) → Expires desk clock r → r.answer ≡ Err f → r.desk ≡ desk
expire_refusal_keeps desk clock r f x e = let o = close_refused (expire_refusal desk clock) _ _ f (sym e ∙ x.0) in x.1 ∙ rw o

-- a reply to an address under 161, where no ticket can be, is 17
pub under_hosts : (desk : Desk) (frame room : List ℕ) (r : AfterReply) (room' : List ℕ) → Replies desk frame room r room'
    → read_refusal frame (length room) ≡ none → (fields_in frame).destination < 161 → book_told r.answer ≡ some 17
unfolding reply_refusal book_refusal fit_refusal
under_hosts desk frame room r room' replies read low = ap book_told replies.0 ∙ rw read (simp (lt-leb 161 (fields_in frame).destination low))

-- ---- what the records above say, said out

pub given_plainly : {desk : Desk} {asked : Request} {clock address : ℕ} {desk' : Desk} → Given desk asked clock address desk'
    → (161 ≤ address) × (address ≤ 255)
    × ((ticket_on desk address).live ≡ false)
    × (((ticket_on desk address).withdrawn ≡ true) × (age clock (ticket_on desk address).closed < 1000) → ⊥)
    × (address ≡ 161 + (desk.turn + distance_of desk clock) % 95) × (distance_of desk clock < 95)
    × ((k : ℕ) → k < distance_of desk clock
    → ((ticket_on desk (161 + (desk.turn + k) % 95)).live ≡ true)
    ⊎ (((ticket_on desk (161 + (desk.turn + k) % 95)).withdrawn ≡ true) × (age clock (ticket_on desk (161 + (desk.turn + k) % 95)).closed < 1000)))
    × (ticket_on desk' address ≡ record { live = true; asked = asked; opened = clock; withdrawn = false; closed = 0 })
    × ((other : ℕ) → other ≢ address → ticket_on desk' other ≡ ticket_on desk other)
    × (desk'.turn ≡ (address - 161 + 1) % 95)
given_plainly g = (g.host, g.last, g.free.0, g.free.1, g.found, g.near, g.passed, g.stands, g.others, g.turn_after)

pub closed_plainly : {desk : Desk} {address : ℕ} {left : Ticket} {desk' : Desk} → ClosedAlone desk address left desk'
    → ((ticket_on desk address).live ≡ true)
    × (ticket_on desk' address ≡ left)
    × ((other : ℕ) → other ≢ address → ticket_on desk' other ≡ ticket_on desk other)
    × (desk'.turn ≡ desk.turn)
closed_plainly c = (c.was_open, c.closed, c.others, c.turn_kept)

pub books_plainly : {desk : Desk} {frame : List ℕ} {room : ℕ} {t : Fields} {job address sort n folder : ℕ} {desk' : Desk}
    → Books desk frame room t job address sort n folder desk'
    → (read_frame frame room ≡ Ok t)
    × (address ≡ t.destination)
    × (job ≡ (ticket_on desk address).asked.job)
    × (t.source ≡ (ticket_on desk address).asked.unit)
    × KindFits (ticket_on desk address).asked.sort t.sort
    × RegisterFits (ticket_on desk address).asked.register t.sort t.register
    × (sort ≡ t.sort)
    × (n ≡ t.size)
    × (folder ≡ (ticket_on desk address).asked.folder)
    × ClosedAlone desk address no_ticket desk'
books_plainly b = (
  b.was_read,
  b.for_address,
  b.theirs,
  b.from_module,
  b.kind_fits,
  b.register_fits_lem,
  b.type_answered,
  b.size_answered,
  b.folder_answered,
  b.closes,
)

pub expired_plainly : {desk : Desk} {clock job address folder : ℕ} {desk' : Desk} → Expired desk clock job address folder desk'
    → ((ticket_on desk address).live ≡ true)
    × ((ticket_on desk address).asked.wait ≤ age clock (ticket_on desk address).opened)
    × ((other : ℕ) → 161 ≤ other → other < address
    → ((ticket_on desk other).live ≡ true) × ((ticket_on desk other).asked.wait ≤ age clock (ticket_on desk other).opened) → ⊥)
    × (address ≤ 255)
    × (job ≡ (ticket_on desk address).asked.job)
    × (folder ≡ (ticket_on desk address).asked.folder)
    × ClosedAlone desk address (withdrawn_at clock) desk'
expired_plainly e = (e.due.0, e.due.1, e.lowest, e.last, e.theirs, e.folder_answered, e.closes)

-- ---- looking at an address shows the ticket that is open there, or when its last one was cancelled or expired, or nothing

pub look_open : (desk : Desk) (address : ℕ) (r : Seen) → Looks desk address r → (ticket_on desk address).live ≡ true → r ≡ seen.Open (ticket_on desk address)
look_open desk address r p live = p ∙ rw live

pub look_withdrawn : (desk : Desk) (address : ℕ) (r : Seen) → Looks desk address r → (ticket_on desk address).live ≡ false
    → (ticket_on desk address).withdrawn ≡ true → r ≡ seen.Withdrawn (ticket_on desk address).closed
look_withdrawn desk address r p shut withdrawn = p ∙ rw (shut, withdrawn)

pub look_nothing : (desk : Desk) (address : ℕ) (r : Seen) → Looks desk address r → (ticket_on desk address).live ≡ false
    → (ticket_on desk address).withdrawn ≡ false → r ≡ seen.Nothing
look_nothing desk address r p shut kept = p ∙ rw (shut, kept)

-- the call `number` gives the number that the laws above tell
pub number_is : (f : Fault) (r : ℕ) → Numbers f r → r ≡ fault_number f
number_is f r p = p

-- ---- 01: "A fresh desk has no tickets and its next turn at 161": `fresh` gives the desk that the laws here and those of any night begin at

pub fresh_is : (desk : Desk) → Fresh desk → desk ≡ fresh_desk
fresh_is desk p = p

-- ---- 01: "Show that any two outcomes allowed by it are equal."

pub fresh_settled : Settled Fresh
fresh_settled = settled _

pub numbers_settled : (f : Fault) → Settled (Numbers f)
numbers_settled f = settled _

pub stands_settled : (desk : Desk) (address : ℕ) → Settled (Stands desk address)
stands_settled desk address = settled _

pub looks_settled : (desk : Desk) (address : ℕ) → Settled (Looks desk address)
looks_settled desk address = settled _

pub opens_settled : (desk : Desk) (asked : Request) (bytes : List ℕ) (clock : ℕ) (room : List ℕ) → Settled {A = AfterOpen × List ℕ} (λ o. Opens desk asked bytes clock room o.0 o.1)
opens_settled desk asked bytes clock room = opening_settled _ _ _ _
  where
    opening_settled : (x : Opening) (y : Desk) (z : List ℕ) (w : ℕ)
        → Settled {A = AfterOpen × List ℕ} (λ o. (o.0.answer ≡ x) × (o.0.desk ≡ y) × (o.1 ≡ z) × (o.0.count ≡ w))
    opening_settled x y z w =
        record {
          outcome = (record { answer = x; desk = y; count = w }, z);
          is_allowed_lem = (refl, refl, refl, refl);
          only = λ other p. rw (sym p.0, sym p.1, sym p.2, sym p.3) refl;
        }

pub replies_settled : (desk : Desk) (frame room : List ℕ) → Settled {A = AfterReply × List ℕ} (λ o. Replies desk frame room o.0 o.1)
replies_settled desk frame room = settled_parts (λ (a : Booking) (b : Desk). record { answer = a; desk = b }) (λ r. r.answer) (λ r. r.desk) (λ r. refl) (λ a b. (refl, refl)) _ _ _

closed_settled : (x : Closing) (y : Desk) → Settled {A = AfterClose} (λ r. (r.answer ≡ x) × (r.desk ≡ y))
closed_settled x y =
    record {
      outcome = record { answer = x; desk = y };
      is_allowed_lem = (refl, refl);
      only = λ other p. ap₂ (λ (a : Closing) (b : Desk). record { answer = a; desk = b }) p.0 p.1;
    }

pub cancels_settled : (desk : Desk) (job address clock : ℕ) → Settled (Cancels desk job address clock)
cancels_settled desk job address clock = closed_settled _ _

pub expires_settled : (desk : Desk) (clock : ℕ) → Settled (Expires desk clock)
expires_settled desk clock = closed_settled _ _

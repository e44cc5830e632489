-- 02, #102: a late answer does not land on the new ticket.
-- Assumes nothing.
use mathlib.Core.Path.{◌≡◌, refl, sym, ap, ◌∙◌}
use mathlib.Core.Bool.{true, false, true≢false}
use mathlib.Core.List.{List, [], ◌∷◌}
use mathlib.Core.Logic.{◌⊎◌, ◌↔◌, inl, inr, ⊎_elim}
use mathlib.Core.Option.{Option, some, none}
use Prim.Native.Nat.{ℕ, ◌+◌, ◌≤◌, ◌<◌}
use native.Mathlib.Omega.{arith}
use lib.ListN.{length}
use Rattle.rows.proofs.Laws.{clash}
use Rattle.rows.specs.Rows.{raised, or_later}
use Rattle.telegram.specs.Read.{read_refusal, fields_in}
use Rattle.telegram.specs.Read.{fault_number as read_number}
use Rattle.telegram.specs.declared.Fault.{Fault as Unreadable}
use Rattle.telegram.specs.declared.Fault.TheVariants as unreadable
use Rattle.telegram.specs.declared.Fields.{Fields}
use Rattle.ticket.proofs.Laws.{decides_free, rested, open_told_lem}
use Rattle.ticket.specs.Due.{age}
use Rattle.ticket.specs.Fit.{fit_refusal}
use Rattle.ticket.specs.Fit.{fault_number as fit_number}
use Rattle.ticket.specs.Rest.{Free}
use Rattle.ticket.specs.Ticket.{new_ticket, withdrawn_at}
use Rattle.ticket.specs.declared.Fault.{Fault as Unfit}
use Rattle.ticket.specs.declared.Ticket.{Ticket}
use Rattle.desk.proofs.Laws.{on_host, withdraws_alone, fit_to_book, fit_to_cancel, fit_to_expire}
use Rattle.desk.proofs.Ranking.{search_ended, book_tells}
use Rattle.desk.specs.Close.{cancel_refusal, due_place, expire_refusal, close_answer, close_desk, withdrawn_on}
use Rattle.marks.specs.Marks.{is_marked, with_mark}
use Rattle.desk.specs.Desk.{fresh_desk, standing_from, ticket_at, ticket_on, OpenOn, fault_number}
use Rattle.desk.specs.Open.{place_from, distance_of, given_place, open_refusal, open_answer, with_ticket}
use Rattle.desk.specs.Reply.{book_refusal, reply_refusal, book_answer, book_told, Replies}
use Rattle.desk.specs.declared.AfterReply.{AfterReply}
use Rattle.desk.specs.declared.Desk.{Desk}
use Rattle.desk.specs.declared.Fault.{Fault}
use Rattle.desk.specs.declared.Fault.TheVariants.{Unread, Misfit}
use Rattle.request.specs.declared.Request.{Request}
use Rattle.nights.proofs.Fair.{gives_opening, given_or_stays}
use Rattle.nights.proofs.Laws.{any_night}
use Rattle.nights.specs.Night.{Call, after, of_opening, of_booking, of_closing, event_of, after_all, answered_all, Last, last_on, kept, Kept}
use Rattle.nights.specs.Night.{asks, brings, cancels, expires, booked, withdrawn, never, stands, answered, given_up}
use Rattle.nights.specs.Round.{GivesAt, Among, GivenIn}

-- ---- what a cancel or an expiry leaves on the address, until it is given out again

closing_left : (o : Option Fault) (desk : Desk) (address at : ℕ) → (o ≡ none → OpenOn desk address) → (job place folder clock : ℕ)
    → of_closing (close_answer o (ticket_on desk address) address) at ≡ withdrawn job (161 + place) folder clock
    → ticket_at (close_desk o desk address at) place ≡ withdrawn_at clock
closing_left none desk address at live job place folder clock e =
    let there : address ≡ 161 + place = cc in
    let then : at ≡ clock = cc in
    sym (on_host (withdrawn_on desk address at) place) ∙ rw (← there, ← then) (withdraws_alone desk address at (live refl)).closed
closing_left (some f) desk address at live job place folder clock e = clash (cc)

opening_other : (o : Option Fault) (address n : ℕ) (asked : Request) (clock : ℕ) (job x folder at : ℕ)
    → of_opening (open_answer o address n) asked clock ≡ withdrawn job x folder at → ⊥
opening_other none address n asked clock job x folder at e = clash (cc)
opening_other (some f) address n asked clock job x folder at e = clash (cc)

booking_other : (o : Option Fault) (there : Ticket) (t : Fields) (frame : List ℕ) (job x folder at : ℕ)
    → of_booking (book_answer o there t) frame ≡ withdrawn job x folder at → ⊥
booking_other none there t frame job x folder at e = clash (cc)
booking_other (some f) there t frame job x folder at e = clash (cc)

withdrawn_left : (desk : Desk) (call : Call) (job place folder clock : ℕ) → event_of desk call ≡ withdrawn job (161 + place) folder clock
    → ticket_at (after desk call) place ≡ withdrawn_at clock
unfolding after event_of
withdrawn_left desk (asks asked bytes at room) job place folder clock e = absurd (opening_other (open_refusal desk asked bytes at (length room)) _ _ asked at _ _ _ _ e)
withdrawn_left desk (brings frame room) job place folder clock e = absurd (booking_other (reply_refusal desk frame (length room)) _ (fields_in frame) frame _ _ _ _ e)
withdrawn_left desk (cancels by address at) job place folder clock e =
    closing_left (cancel_refusal desk by address) desk address at (λ p. (fit_to_cancel desk by address p).0) job place folder clock e
withdrawn_left desk (expires at) job place folder clock e =
    closing_left (expire_refusal desk at) desk (161 + due_place desk at) at (λ p. (fit_to_expire desk at p).1.0) job place folder clock e

still_withdrawn : (calls : List Call) (desk : Desk) (place clock : ℕ) → ticket_at desk place ≡ withdrawn_at clock → (GivenIn desk calls place → ⊥)
    → ticket_at (after_all desk calls) place ≡ withdrawn_at clock
unfolding Among after_all
still_withdrawn [] desk place clock e none_gives = e
still_withdrawn (call ∷ calls) desk place clock e none_gives =
    ⊎_elim (λ g. absurd (none_gives (inl g)))
    (λ same. still_withdrawn calls (after desk call) place clock (same ∙ e) (λ later. none_gives (inr later)))
    (given_or_stays desk call place (ap (λ (t : Ticket). t.live) e))

booking_there : (o : Option Fault) (there : Ticket) (t : Fields) (frame : List ℕ) (job x source sort register folder : ℕ)
    → of_booking (book_answer o there t) frame ≡ booked job x source sort register folder → (o ≡ none) × (t.destination ≡ x)
booking_there none there t frame job x source sort register folder e = (refl, cc)
booking_there (some f) there t frame job x source sort register folder e = clash (cc)

opening_not_booked : (o : Option Fault) (address n : ℕ) (asked : Request) (clock : ℕ) (job x source sort register folder : ℕ)
    → of_opening (open_answer o address n) asked clock ≡ booked job x source sort register folder → ⊥
opening_not_booked none address n asked clock job x source sort register folder e = clash (cc)
opening_not_booked (some f) address n asked clock job x source sort register folder e = clash (cc)

closing_not_booked : (o : Option Fault) (there : Ticket) (address at : ℕ) (job x source sort register folder : ℕ)
    → of_closing (close_answer o there address) at ≡ booked job x source sort register folder → ⊥
closing_not_booked none there address at job x source sort register folder e = clash (cc)
closing_not_booked (some f) there address at job x source sort register folder e = clash (cc)

-- ---- after a cancel or an expiry at a clock, on any desk, and any calls since that did not give the address again

-- one such cancel
a_cancel : event_of (with_ticket fresh_desk 0 (new_ticket (record { job = 7; unit = 15; sort = 4; register = 102; wait = 1000; folder = 3 }) 0)) (cancels 7 161 40)
    ≡ withdrawn 7 (161 + 0) 3 40
unfolding event_of cancel_refusal standing_from is_marked with_mark
a_cancel = refl

module _ (desk : Desk) (closing : Call) (job place folder closed : ℕ)
    (gave_up : event_of desk closing ≡ withdrawn job (161 + place) folder closed)
    (calls : List Call) (none_gives : GivenIn (after desk closing) calls place → ⊥) where
  abbrev desk_then : Desk
  desk_then = after_all (after desk closing) calls

  left_then : ticket_at desk_then place ≡ withdrawn_at closed
  left_then = still_withdrawn calls (after desk closing) place closed (withdrawn_left desk closing job place folder closed gave_up) none_gives

  -- the address keeps that it was given up, and when
  pub kept_then : ticket_on desk_then (161 + place) ≡ withdrawn_at closed
  kept_then = on_host desk_then place ∙ left_then

  -- the next opening that gives it has a clock at least 1000 ms past the closing
  pub rested_before_again : (next : Call) (clock : ℕ) → GivesAt desk_then next place clock → 1000 ≤ age clock closed
  unfolding given_place
  rested_before_again next clock gives =
      let o = gives_opening desk_then next place clock gives in
      let there : ℕ = place_from desk_then.turn (distance_of desk_then clock) in
      let free : Free clock (ticket_at desk_then there) = (decides_free clock (ticket_at desk_then there)).so ((search_ended desk_then clock).there o.0.near) in
      rested clock closed (rw (← o.1, left_then) at free)

  -- until then every reply to it is refused, with 61 or what the reader refuses it with, and changes nothing
  pub late_refused : (frame room : List ℕ) (r : AfterReply) (room' : List ℕ) → Replies desk_then frame room r room'
      → (fields_in frame).destination ≡ 161 + place
      → (book_told r.answer ≡ or_later (raised read_number (read_refusal frame (length room))) (some 61)) × (r.desk ≡ desk_then) × (room' ≡ room)
  unfolding reply_refusal book_refusal fit_refusal
  late_refused frame room r room' replies there = go (read_refusal frame (length room)) refl
    where
      on : ticket_on desk_then (fields_in frame).destination ≡ withdrawn_at closed
      on = rw there kept_then

      go : (o : Option Unreadable) → read_refusal frame (length room) ≡ o
          → (book_told r.answer ≡ or_later (raised read_number o) (some 61)) × (r.desk ≡ desk_then) × (room' ≡ room)
      go (some f) e = (ap book_told replies.0 ∙ rw e, replies.1 ∙ rw e, replies.2 ∙ rw e)
      go none e = (ap book_told replies.0 ∙ rw (e, on), replies.1 ∙ rw (e, on), replies.2 ∙ rw (e, on))

  -- so nothing is booked there
  pub nothing_booked : (next : Call) (theirs source sort register filed : ℕ)
      → event_of desk_then next ≡ booked theirs (161 + place) source sort register filed → ⊥
  unfolding event_of
  nothing_booked (asks asked bytes clock room) theirs source sort register filed e =
      opening_not_booked (open_refusal desk_then asked bytes clock (length room)) _ _ asked clock _ _ _ _ _ _ e
  nothing_booked (brings frame room) theirs source sort register filed e =
      let b = booking_there (reply_refusal desk_then frame (length room)) _ (fields_in frame) frame _ _ _ _ _ _ e in
      let live : OpenOn desk_then (fields_in frame).destination = (fit_to_book desk_then frame (length room) b.0).1 in
      true≢false (sym (rw b.1 at live) ∙ ap (λ (t : Ticket). t.live) kept_then)
  nothing_booked (cancels by address clock) theirs source sort register filed e =
      closing_not_booked (cancel_refusal desk_then by address) _ address clock _ _ _ _ _ _ e
  nothing_booked (expires clock) theirs source sort register filed e =
      closing_not_booked (expire_refusal desk_then clock) _ (161 + due_place desk_then clock) clock _ _ _ _ _ _ e

-- ---- "61 in place of 17, when the reply's destination has no ticket and its last ticket was cancelled or expired": after any calls from a
-- fresh desk, of any telegram that can be read

read_number_low : (f : Unreadable) → read_number f ≤ 9
read_number_low unreadable.NotFramed = omega arith
read_number_low unreadable.StrayEnd = omega arith
read_number_low (unreadable.BadSubstitution place) = omega arith
read_number_low unreadable.ShortMessage = omega arith
read_number_low unreadable.LongMessage = omega arith
read_number_low unreadable.NoRoom = omega arith
read_number_low unreadable.CheckFault = omega arith
read_number_low unreadable.ZeroAddress = omega arith
read_number_low unreadable.UnknownType = omega arith

same_number : {m n : ℕ} → ◌≡◌ {A = Option ℕ} (some m) (some n) → m ≡ n
same_number e = cc

-- what is told of the fit alone
abbrev fit_tells : Last → Fields → Option ℕ
fit_tells l t = raised fit_number (fit_refusal (kept l) t)

tells_61 : (l : Last) (t : Fields) → (fit_tells l t ≡ some 61) ↔ ((clock : ℕ) × (l ≡ given_up clock))
unfolding fit_refusal
tells_61 never t = (λ e. absurd (omega (arith, same_number e)), λ p. clash (let q = p.1 in cc))
tells_61 (stands asked clock) t = (λ e. absurd (omega (arith, (open_told_lem (new_ticket asked clock) t refl 61 e).1)), λ p. clash (let q = p.1 in cc))
tells_61 answered t = (λ e. absurd (omega (arith, same_number e)), λ p. clash (let q = p.1 in cc))
tells_61 (given_up clock) t = (λ e. (clock, refl), λ p. refl)

tells_17 : (l : Last) (t : Fields) → (fit_tells l t ≡ some 17) ↔ ((l ≡ answered) ⊎ (l ≡ never))
unfolding fit_refusal
tells_17 never t = (λ e. inr refl, λ p. refl)
tells_17 (stands asked clock) t =
    (λ e. absurd (omega (arith, (open_told_lem (new_ticket asked clock) t refl 17 e).0)), ⊎_elim (λ p. clash (cc)) (λ p. clash (cc)))
tells_17 answered t = (λ e. inl refl, λ p. refl)
tells_17 (given_up clock) t = (λ e. absurd (omega (arith, same_number e)), ⊎_elim (λ p. clash (cc)) (λ p. clash (cc)))

module _ (calls : List Call) (frame room : List ℕ) (r : AfterReply) (room' : List ℕ) (replies : Replies (after_all fresh_desk calls) frame room r room') where
  -- what became of the last ticket on the reply's destination, by what the callers saw
  abbrev last_there : Last
  last_there = last_on (answered_all fresh_desk [] calls) (fields_in frame).destination

  reply_tells : book_told r.answer ≡ or_later (raised read_number (read_refusal frame (length room))) (fit_tells last_there (fields_in frame))
  unfolding reply_refusal book_refusal Kept
  reply_tells =
      ap book_told replies.0 ∙ book_tells (reply_refusal (after_all fresh_desk calls) frame (length room)) _ _
      ∙ rw ((any_night calls).kept (fields_in frame).destination)
      (passed (read_refusal frame (length room)) (fit_refusal (kept last_there) (fields_in frame)))
    where
      passed : (o : Option Unreadable) (p : Option Unfit)
          → raised fault_number (or_later (raised Unread o) (raised Misfit p)) ≡ or_later (raised read_number o) (raised fit_number p)
      passed (some f) p = refl
      passed none (some f) = refl
      passed none none = refl

  exactly : (n : ℕ) → 9 < n → {P : Type 0} → (fit_tells last_there (fields_in frame) ≡ some n) ↔ P
      → (book_told r.answer ≡ some n) ↔ ((read_refusal frame (length room) ≡ none) × P)
  exactly n high {P} tells = go (read_refusal frame (length room)) reply_tells
    where
      go : (o : Option Unreadable) → book_told r.answer ≡ or_later (raised read_number o) (fit_tells last_there (fields_in frame))
          → (book_told r.answer ≡ some n) ↔ ((o ≡ none) × P)
      go (some f) e =
          (λ told. absurd (omega (arith, read_number_low f, same_number (sym e ∙ told))), λ p. clash (let q = p.0 in cc))
      go none e = (λ told. (refl, tells.0 (sym e ∙ told)), λ p. e ∙ tells.1 p.1)

  -- 61 exactly when the last ticket there was cancelled or expired, and was not opened again since
  pub late_exactly : (book_told r.answer ≡ some 61) ↔ ((read_refusal frame (length room) ≡ none) × ((clock : ℕ) × (last_there ≡ given_up clock)))
  late_exactly = exactly 61 (omega arith) (tells_61 last_there (fields_in frame))

  -- 17 exactly when there is none and the last was booked, or there never was one
  pub no_ticket_exactly : (book_told r.answer ≡ some 17) ↔ ((read_refusal frame (length room) ≡ none) × ((last_there ≡ answered) ⊎ (last_there ≡ never)))
  no_ticket_exactly = exactly 17 (omega arith) (tells_17 last_there (fields_in frame))

-- 02, #112: "Show that from a fresh desk any calls give the same answers and tickets as before, the count of #108 included."
-- Assumes nothing.
use mathlib.Core.Path.{◌≡◌, refl, sym, ap, ap₂, subst, ◌∙◌}
use mathlib.Core.Bool.{Bool, true, false, true≢false}
use mathlib.Core.List.{List, [], ◌∷◌}
use mathlib.Core.Logic.{◌≢◌, ◌↔◌}
use mathlib.Core.Option.{Option, some, none}
use Prim.Native.Nat.{ℕ, zero, suc, ◌+◌, ◌-◌, ◌%◌, ◌≤◌, ◌<◌}
use native.Mathlib.Decide.{ℕ_discrete}
use native.Mathlib.Omega.{arith}
use lib.ListN.{length, get_or, set, replicate, length-set, length-replicate}
use lib.Seq.{get_or-set_same, get_or-set_other}
use Rattle.marks.proofs.Laws.{none_marked, changed_mark, other_mark}
use Rattle.marks.specs.Marks.{is_marked, with_mark}
use Rattle.desk.proofs.Laws.{open_within, fit_to_book, fit_to_cancel, fit_to_expire}
use Rattle.desk.proofs.Standing.{standing_alone}
use Rattle.desk.specs.Close.{due_in, due_place, cancel_refusal, expire_refusal, close_desk, Cancels, Expires}
use Rattle.desk.specs.Desk.{fresh_desk, standing, place_in, address_in, OpenOn, stored_at, shown, Looks, Stands}
use Rattle.desk.specs.Folder.{holder_place, is_folder_held}
use Rattle.desk.specs.Open.{distance_of, given_place, open_refusal, open_desk, Opens}
use Rattle.desk.specs.Reply.{book_refusal, reply_refusal, book_desk, Replies}
use Rattle.desk.specs.declared.AfterClose.{AfterClose}
use Rattle.desk.specs.Answers.{Booking}
use Rattle.desk.specs.Answers.{Closing}
use Rattle.desk.specs.Answers.{Opening}
use Rattle.desk.specs.declared.AfterOpen.{AfterOpen}
use Rattle.desk.specs.declared.AfterReply.{AfterReply}
use Rattle.desk.specs.declared.Desk.{Desk}
use Rattle.desk.specs.declared.Fault.{Fault}
use Rattle.desk.specs.declared.Seen.{Seen}
use Rattle.request.specs.declared.Request.{Request}
use Rattle.telegram.specs.Read.{fields_in}
use Rattle.ticket.specs.Ticket.{Open, no_ticket, new_ticket, withdrawn_at}
use Rattle.ticket.specs.declared.Ticket.{Ticket}
use Rattle.nights.specs.Night.{Call, after, after_all, asks, brings, cancels, expires}
use Rattle.nights.specs.Unmarked.{Told, tells, Unmarked, fresh_unmarked, distance_at, place_at, open_refused, reply_refused, cancel_refused, expire_refused, leaves}
use Rattle.nights.specs.Unmarked.{unmarked_tells, unmarked_after, all_told, unmarked_all, Same, opening, booking, closing}

-- ---- the calls tell what `tells` says

pub told_opening : (desk : Desk) (asked : Request) (bytes : List ℕ) (clock : ℕ) (room : List ℕ) (r : AfterOpen) (room' : List ℕ)
    → Opens desk asked bytes clock room r room' → opening r.answer r.count room' ≡ tells desk (asks asked bytes clock room)
unfolding tells
told_opening desk asked bytes clock room r room' o = rw (o.0, o.2, o.3)

pub told_booking : (desk : Desk) (frame room : List ℕ) (r : AfterReply) (room' : List ℕ)
    → Replies desk frame room r room' → booking r.answer room' ≡ tells desk (brings frame room)
unfolding tells
told_booking desk frame room r room' b = rw (b.0, b.2)

pub told_cancel : (desk : Desk) (job address clock : ℕ) (r : AfterClose)
    → Cancels desk job address clock r → closing r.answer ≡ tells desk (cancels job address clock)
unfolding tells
told_cancel desk job address clock r c = ap closing c.0

pub told_expiry : (desk : Desk) (clock : ℕ) (r : AfterClose) → Expires desk clock r → closing r.answer ≡ tells desk (expires clock)
unfolding tells
told_expiry desk clock r x = ap closing x.0

-- ---- on desks with the same turn and tickets, with the marks set where a ticket stands, one call

module _ (desk : Desk) (without : Unmarked) (s : Same desk without) where
  stands : standing desk ≡ without.tickets
  stands =
      standing_alone desk.marks desk.tickets
      (λ place h. s.marked place (omega (arith, ap length s.tickets_same, s.places)) ∙ ap (λ (ts : List Ticket). (place_in ts place).live) (sym s.tickets_same))
      ∙ s.tickets_same

  distances : (clock : ℕ) → distance_of desk clock ≡ distance_at without clock
  unfolding distance_of
  distances clock = rw (stands, s.turn_same)

  given : (clock : ℕ) → given_place desk clock ≡ place_at without clock
  unfolding given_place
  given clock = rw (distances clock, s.turn_same)

  near : (clock : ℕ) → given_place desk clock < 95
  unfolding given_place
  near clock = omega arith

  open_refused_lem : (asked : Request) (bytes : List ℕ) (clock room : ℕ) → open_refusal desk asked bytes clock room ≡ open_refused without asked bytes clock room
  unfolding open_refusal is_folder_held holder_place
  open_refused_lem asked bytes clock room = rw (distances clock, given clock, stands)

  reply_refused_lem : (frame : List ℕ) (room : ℕ) → reply_refusal desk frame room ≡ reply_refused without frame room
  unfolding reply_refusal book_refusal
  reply_refused_lem frame room = rw stands

  cancel_refused_lem : (job address : ℕ) → cancel_refusal desk job address ≡ cancel_refused without job address
  unfolding cancel_refusal
  cancel_refused_lem job address = rw stands

  due : (clock : ℕ) → due_place desk clock ≡ due_in without.tickets clock
  unfolding due_place
  due clock = rw stands

  expire_refused_lem : (clock : ℕ) → expire_refusal desk clock ≡ expire_refused without clock
  unfolding expire_refusal
  expire_refused_lem clock = rw (due clock)

  -- "the same answers", the count and the lent buffer with them
  pub tells_same : (call : Call) → tells desk call ≡ unmarked_tells without call
  unfolding tells unmarked_tells
  tells_same (asks asked bytes clock room) = rw (open_refused_lem asked bytes clock (length room), distances clock, given clock)
  tells_same (brings frame room) = rw (reply_refused_lem frame (length room), stands)
  tells_same (cancels job address clock) = rw (cancel_refused_lem job address, stands)
  tells_same (expires clock) = rw (expire_refused_lem clock, due clock, stands)

  -- and looking at an address shows the same
  pub looks_same : (address : ℕ) (r : Seen) → Looks desk address r
      → r ≡ shown (address_in without.tickets address) (address_in without.tickets address).live (address_in without.tickets address).withdrawn
  looks_same address r looks = looks ∙ rw stands

  -- and so does `ticket_on`
  pub stands_same : (address : ℕ) (r : Ticket) → Stands desk address r → r ≡ address_in without.tickets address
  stands_same address r there = there ∙ rw stands

  -- what is put at a place is put there on both, and its mark beside it
  put_same : (turn turn' place : ℕ) (ticket : Ticket) → turn ≡ turn' → place < 95
      → Same (stored_at desk turn place ticket (with_mark desk.marks place ticket.live))
      (record { turn = turn'; tickets = set without.tickets place ticket })
  put_same turn turn' place ticket turns near =
      record {
        turn_same = turns;
        tickets_same = ap (λ (ts : List Ticket). set ts place ticket) s.tickets_same;
        marked = λ other h. elim (ℕ_discrete other place) [
          | yes here ↦
              rw here
              (changed_mark desk.marks place ticket.live (omega arith)
              ∙ sym (ap (λ (t : Ticket). t.live) (get_or-set_same without.tickets place ticket no_ticket (omega (arith, s.places)))))
          | no there ↦
              other_mark desk.marks place ticket.live other there ∙ s.marked other h
              ∙ sym (ap (λ (t : Ticket). t.live) (get_or-set_other without.tickets place other ticket no_ticket there))
        ];
        beyond = λ other h. other_mark desk.marks place ticket.live other (λ e. omega (arith, e)) ∙ s.beyond other h;
        places = length-set without.tickets place ticket ∙ s.places;
      }

  -- an open ticket is at one of the 95 places
  within : (address : ℕ) → OpenOn desk address → address - 161 < 95
  within address live = omega (arith, (open_within desk address live).1, ap length s.tickets_same, s.places)

  closing_same : (o : Option Fault) (address clock : ℕ) → (o ≡ none → OpenOn desk address)
      → Same (close_desk o desk address clock) (leaves o without without.turn (address - 161) (withdrawn_at clock))
  closing_same none address clock live = put_same desk.turn without.turn (address - 161) (withdrawn_at clock) s.turn_same (within address (live refl))
  closing_same (some f) address clock live = s

  -- "and tickets as before"
  pub after_same : (call : Call) → Same (after desk call) (unmarked_after without call)
  unfolding after unmarked_after
  after_same (asks asked bytes clock room) = rw (← open_refused_lem asked bytes clock (length room), ← given clock) (go (open_refusal desk asked bytes clock (length room)))
    where
      go : (o : Option Fault) → Same (open_desk o desk (given_place desk clock) (new_ticket asked clock))
          (leaves o without ((given_place desk clock + 1) % 95) (given_place desk clock) (new_ticket asked clock))
      go none = put_same _ _ (given_place desk clock) (new_ticket asked clock) refl (near clock)
      go (some f) = s
  after_same (brings frame room) = rw (← reply_refused_lem frame (length room)) (go (reply_refusal desk frame (length room)) refl)
    where
      go : (o : Option Fault) → reply_refusal desk frame (length room) ≡ o
          → Same (book_desk o desk (fields_in frame)) (leaves o without without.turn ((fields_in frame).destination - 161) no_ticket)
      go none e =
          put_same desk.turn without.turn ((fields_in frame).destination - 161) no_ticket s.turn_same
          (within (fields_in frame).destination (fit_to_book desk frame (length room) e).1)
      go (some f) e = s
  after_same (cancels job address clock) =
      rw (← cancel_refused_lem job address) (closing_same (cancel_refusal desk job address) address clock (λ e. (fit_to_cancel desk job address e).0))
  after_same (expires clock) =
      rw (← expire_refused_lem clock, ← due clock)
      (closing_same (expire_refusal desk clock) (161 + due_place desk clock) clock (λ e. (fit_to_expire desk clock e).1.0))

-- ---- any calls

all_same : (calls : List Call) (desk : Desk) (without : Unmarked) → Same desk without
    → (all_told tells after desk calls ≡ all_told unmarked_tells unmarked_after without calls) × Same (after_all desk calls) (unmarked_all without calls)
unfolding all_told after_all unmarked_all
all_same [] desk without s = (refl, s)
all_same (call ∷ calls) desk without s =
    let rest = all_same calls (after desk call) (unmarked_after without call) (after_same desk without s call) in
    (ap₂ (λ (t : Told) (ts : List Told). t ∷ ts) (tells_same desk without s call) rest.0, rest.1)

fresh_same : Same fresh_desk fresh_unmarked
fresh_same =
    record {
      turn_same = refl;
      tickets_same = refl;
      marked = λ place h. none_marked place ∙ sym (ap (λ (t : Ticket). t.live) (empty 95 place));
      beyond = λ place h. none_marked place;
      places = length-replicate 95 no_ticket;
    }
  where
    empty : (n i : ℕ) → get_or (replicate n no_ticket) i no_ticket ≡ no_ticket
    empty zero i = refl
    empty (suc n) zero = refl
    empty (suc n) (suc i) = empty n i

-- "from a fresh desk any calls give the same answers and tickets as before, the count of #108 included"
pub as_before : (calls : List Call)
    → (all_told tells after fresh_desk calls ≡ all_told unmarked_tells unmarked_after fresh_unmarked calls)
    × Same (after_all fresh_desk calls) (unmarked_all fresh_unmarked calls)
as_before calls = all_same calls fresh_desk fresh_unmarked fresh_same

-- what `Same` says, said out: the very turn, the very tickets, and bit a is 1 exactly where a holds a ticket
pub same_plainly : {desk : Desk} {without : Unmarked} → Same desk without
    → (desk.turn ≡ without.turn) × (desk.tickets ≡ without.tickets)
    × ((place : ℕ) → place < 95 → (is_marked desk.marks place ≡ true) ↔ ((get_or desk.tickets place no_ticket).live ≡ true))
    × ((place : ℕ) → 95 ≤ place → is_marked desk.marks place ≡ false)
same_plainly {desk} {without} s = (
  s.turn_same,
  s.tickets_same,
  λ place h.
      let e : is_marked desk.marks place ≡ (get_or desk.tickets place no_ticket).live =
      s.marked place h ∙ ap (λ (ts : List Ticket). (place_in ts place).live) (sym s.tickets_same) in
      (λ m. sym e ∙ m, λ l. e ∙ l),
  s.beyond,
)

-- and what was told over any calls is what each of them told, in order, on the desk that those before it left
pub all_told_none : {D : Type 0} (told : D → Call → Told) (next : D → Call → D) (desk : D) → all_told told next desk [] ≡ []
unfolding all_told
all_told_none told next desk = refl

pub all_told_more : {D : Type 0} (told : D → Call → Told) (next : D → Call → D) (desk : D) (call : Call) (calls : List Call)
    → all_told told next desk (call ∷ calls) ≡ told desk call ∷ all_told told next (next desk call) calls
unfolding all_told
all_told_more told next desk call calls = refl

pub unmarked_none : (desk : Unmarked) → unmarked_all desk [] ≡ desk
unfolding unmarked_all
unmarked_none desk = refl

pub unmarked_more : (desk : Unmarked) (call : Call) (calls : List Call) → unmarked_all desk (call ∷ calls) ≡ unmarked_all (unmarked_after desk call) calls
unfolding unmarked_all
unmarked_more desk call calls = refl

-- ---- what `Told` and `Unmarked` are, said out

-- an unmarked desk is its turn and its tickets, and nothing beside them
pub unmarked_alone : (a b : Unmarked) → a.turn ≡ b.turn → a.tickets ≡ b.tickets → a ≡ b
unmarked_alone a b turns tickets = ap₂ (λ (n : ℕ) (ts : List Ticket). record { turn = n; tickets = ts }) turns tickets

-- what is told is the answer, the count and the lent buffer, each of them: where the same is told all are the same
pub told_opening_same : (a b : Opening) (m n : ℕ) (x y : List ℕ) → opening a m x ≡ opening b n y → (a ≡ b) × (m ≡ n) × (x ≡ y)
told_opening_same a b m n x y e = (ap answer_of e, ap count_of e, ap room_of e)
  where
    answer_of : Told → Opening
    answer_of (opening answer count room) = answer
    answer_of (booking answer room) = a
    answer_of (closing answer) = a

    count_of : Told → ℕ
    count_of (opening answer count room) = count
    count_of (booking answer room) = 0
    count_of (closing answer) = 0

    room_of : Told → List ℕ
    room_of (opening answer count room) = room
    room_of (booking answer room) = []
    room_of (closing answer) = []

pub told_booking_same : (a b : Booking) (x y : List ℕ) → booking a x ≡ booking b y → (a ≡ b) × (x ≡ y)
told_booking_same a b x y e = (ap answer_of e, ap room_of e)
  where
    answer_of : Told → Booking
    answer_of (opening answer count room) = a
    answer_of (booking answer room) = answer
    answer_of (closing answer) = a

    room_of : Told → List ℕ
    room_of (opening answer count room) = []
    room_of (booking answer room) = room
    room_of (closing answer) = []

pub told_closing_same : (a b : Closing) → closing a ≡ closing b → a ≡ b
told_closing_same a b e = ap answer_of e
  where
    answer_of : Told → Closing
    answer_of (opening answer count room) = a
    answer_of (booking answer room) = a
    answer_of (closing answer) = answer

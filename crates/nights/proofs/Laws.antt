-- What holds over any sequence of calls from a fresh desk on.
-- Assumes nothing.
use mathlib.Core.Path.{◌≡◌, refl, sym, ap, subst, ◌∙◌}
use mathlib.Core.Bool.{Bool, true, false, cond, not, true≢false}
use mathlib.Core.List.{List, [], ◌∷◌, ◌++◌}
use mathlib.Core.Logic.{◌≢◌}
use mathlib.Core.Option.{Option, some, none}
use Prim.Native.Nat.{ℕ, zero, suc, ◌+◌, ◌-◌, ◌≤◌, ◌<◌}
use native.Mathlib.Omega.{arith}
use borrow.Author.Tests.{eqb-true, eqb-false, not-false}
use lib.Dec.{eqb, leb}
use lib.ListN.{length, get_or, set, length-set, length-replicate}
use Rattle.desk.proofs.Laws.{open_within, answers_alone, withdraws_alone, given_at, empty_place}
use Rattle.desk.proofs.Folder.{folder_apart}
use Rattle.desk.proofs.Standing.{standing_put}
use Rattle.desk.proofs.Laws.{fit_to_open, fit_to_book, fit_to_cancel, fit_to_expire}
use Rattle.desk.specs.Close.{cancel_refusal, due_place, expire_refusal, close_answer, close_desk, withdrawn_on, Cancels, Expires}
use Rattle.desk.specs.Desk.{fresh_desk, standing, place_in, ticket_at, ticket_on, OpenOn, put_at}
use Rattle.desk.specs.Folder.{IsFolderHeld}
use Rattle.desk.specs.Open.{given_place, request_at, open_refusal, open_answer, with_ticket, open_desk, Opens}
use Rattle.desk.specs.Outcome.{Given, ClosedAlone}
use Rattle.desk.specs.Reply.{reply_refusal, book_answer, book_desk, answered_on, Replies}
use Rattle.desk.specs.declared.Desk.{Desk}
use Rattle.desk.specs.declared.Fault.{Fault}
use Rattle.desk.specs.Answers.{Opening}
use Rattle.desk.specs.Answers.{Booking}
use Rattle.desk.specs.Answers.{Closing}
use Rattle.desk.specs.declared.AfterOpen.{AfterOpen}
use Rattle.desk.specs.declared.AfterReply.{AfterReply}
use Rattle.desk.specs.declared.AfterClose.{AfterClose}
use Rattle.request.specs.Request.{one_to, is_request, is_wrong_data, ask_refusal}
use Rattle.request.specs.declared.Fault.TheVariants.{NoJob, NotAModule, NotARequest, WrongData, WrongWait}
use Rattle.request.specs.declared.Request.{Request}
use Rattle.rows.proofs.Laws.{decides_le, decides_eq, decides_or, decides_and, first_false}
use Rattle.telegram.specs.Read.{fields_in}
use Rattle.telegram.specs.declared.Fields.{Fields}
use Rattle.ticket.proofs.Laws.{rested}
use Rattle.ticket.specs.Due.{age}
use Rattle.ticket.specs.Fit.{KindFits, RegisterFits}
use Rattle.ticket.specs.Rest.{Free}
use Rattle.ticket.specs.Ticket.{Open, no_ticket, new_ticket, withdrawn_at}
use Rattle.ticket.specs.declared.Ticket.{Ticket}
use Rattle.nights.specs.Night.{Call, Event, after, of_opening, of_booking, of_closing, event_of, after_all, answered_all}
use Rattle.nights.specs.Night.{Last, last_on, MayBeGiven, FolderFree, Fitting, Theirs, Right, kept, Kept, SoundRequest, SoundDesk, FoldersApart, Night}
use Rattle.nights.specs.Night.{asks, brings, cancels, expires, opened, booked, withdrawn, nothing, never, stands, answered, given_up}

-- each ticket after a store is sound, if those before it are and the new one is, or is none
stored_sound : (tickets : List Ticket) (place : ℕ) (ticket : Ticket)
    → ((i : ℕ) → Open (get_or tickets i no_ticket) → SoundRequest (get_or tickets i no_ticket).asked)
    → (Open ticket → SoundRequest ticket.asked)
    → (i : ℕ) → Open (get_or (set tickets place ticket) i no_ticket) → SoundRequest (get_or (set tickets place ticket) i no_ticket).asked
stored_sound [] place ticket all new i live = all i live
stored_sound (t ∷ tickets) zero ticket all new zero live = new live
stored_sound (t ∷ tickets) zero ticket all new (suc i) live = all (suc i) live
stored_sound (t ∷ tickets) (suc place) ticket all new zero live = all 0 live
stored_sound (t ∷ tickets) (suc place) ticket all new (suc i) live = stored_sound tickets place ticket (λ j. all (suc j)) new i live

put_sound : (desk : Desk) (place : ℕ) (ticket : Ticket) → (Open ticket → place < 128)
    → ((i : ℕ) → Open (ticket_at desk i) → SoundRequest (ticket_at desk i).asked) → (Open ticket → SoundRequest ticket.asked)
    → (i : ℕ) → Open (ticket_at (put_at desk place ticket) i) → SoundRequest (ticket_at (put_at desk place ticket) i).asked
put_sound desk place ticket near all new i =
    subst (λ (ts : List Ticket). Open (place_in ts i) → SoundRequest (place_in ts i).asked)
    (sym (standing_put desk.marks desk.tickets place ticket near)) (stored_sound (standing desk) place ticket all new i)

-- ---- what rows 10 to 14 let through is sound

pub allowed_sound : (asked : Request) (bytes : List ℕ) → ask_refusal asked bytes ≡ none → SoundRequest asked
unfolding ask_refusal
allowed_sound asked bytes e =
    let sort : ℕ = asked.sort in
    let j = first_false (eqb asked.job 0) NoJob _ e in
    let m = first_false (not (one_to 160 asked.unit)) NotAModule _ j.1 in
    let t = first_false (not (is_request sort)) NotARequest _ m.1 in
    let d = first_false (is_wrong_data sort (length bytes)) WrongData _ t.1 in
    let w = first_false (not (one_to 60000 asked.wait)) WrongWait _ d.1 in
    record {
      has_job = eqb-false asked.job 0 j.0;
      has_module = (decides_and (decides_le 1 asked.unit) (decides_le asked.unit 160)).so (not-false _ m.0);
      has_request =
          (decides_or (decides_eq sort 4) (decides_or (decides_eq sort 5) (decides_or (decides_eq sort 6) (decides_or (decides_eq sort 7) (decides_eq sort 9))))).so
          (not-false _ t.0);
      has_wait = (decides_and (decides_le 1 asked.wait) (decides_le asked.wait 60000)).so (not-false _ w.0);
    }

-- ---- one opening or closing more

-- what is kept of the last ticket tells what became of it
pub open_last : (l : Last) → Open (kept l) → (asked : Request) × (clock : ℕ) × (l ≡ stands asked clock)
open_last never live = absurd (true≢false (sym live))
open_last (stands asked clock) live = (asked, clock, refl)
open_last answered live = absurd (true≢false (sym live))
open_last (given_up clock) live = absurd (true≢false (sym live))

free_last : (l : Last) (clock : ℕ) → Free clock (kept l) → MayBeGiven l clock
free_last never clock free = tt
free_last (stands asked opening) clock free = true≢false free.0
free_last answered clock free = tt
free_last (given_up closing) clock free = rested clock closing free

quiet : {desk : Desk} {past : List Event} → Night desk past → Night desk (nothing ∷ past)
unfolding Kept Right last_on
quiet n = record { sound = n.sound; apart = n.apart; kept = n.kept; right = n.right }

-- ---- folders: one opening or closing more

-- what is opened keeps off every other job's folder
apart_given : {desk : Desk} {asked : Request} {clock address : ℕ} {desk' : Desk} → Given desk asked clock address desk' → FoldersApart desk
    → ((other : ℕ) → OpenOn desk other → (ticket_on desk other).asked.job ≢ asked.job → asked.folder ≢ 0 → (ticket_on desk other).asked.folder ≢ asked.folder)
    → FoldersApart desk'
apart_given {desk} {asked} {clock} {address} {desk'} g apart new a b live_a live_b jobs used same = by (eqb a address) refl (eqb b address) refl
  where
    here : (x : ℕ) → eqb x address ≡ true → ticket_on desk' x ≡ new_ticket asked clock
    here x e = ap (ticket_on desk') (eqb-true x address e) ∙ g.stands

    there : (x : ℕ) → eqb x address ≡ false → ticket_on desk' x ≡ ticket_on desk x
    there x e = g.others x (eqb-false x address e)

    by : (s : Bool) → eqb a address ≡ s → (t : Bool) → eqb b address ≡ t → ⊥
    by true p true q = jobs (ap (λ (x : Ticket). x.asked.job) (here a p ∙ sym (here b q)))
    by true p false q =
        new b (rw (there b q) at live_b) (λ e. jobs (rw (here a p, there b q) (sym e))) (rw (here a p) at used) (sym (rw (here a p, there b q) at same))
    by false p true q =
        new a (rw (there a p) at live_a) (λ e. jobs (rw (there a p, here b q) e)) (λ e. used (same ∙ rw (here b q) e)) (rw (there a p, here b q) at same)
    by false p false q =
        apart a b (rw (there a p) at live_a) (rw (there b q) at live_b) (λ e. jobs (rw (there a p, there b q) e)) (rw (there a p) at used)
        (rw (there a p, there b q) at same)

-- a closing leaves open tickets only where they were
apart_closed : {desk : Desk} {address : ℕ} {left : Ticket} {desk' : Desk} → ClosedAlone desk address left desk' → left.live ≡ false → FoldersApart desk
    → FoldersApart desk'
apart_closed {desk} {address} {left} {desk'} alone shut apart a b live_a live_b jobs used same =
    let p = there a live_a in
    let q = there b live_b in
    apart a b (rw p at live_a) (rw q at live_b) (λ e. jobs (rw (p, q) e)) (rw p at used) (rw (p, q) at same)
  where
    there : (x : ℕ) → OpenOn desk' x → ticket_on desk' x ≡ ticket_on desk x
    there x live = alone.others x (λ e. true≢false (sym live ∙ (ap (λ (y : ℕ). (ticket_on desk' y).live) e ∙ (ap (λ (t : Ticket). t.live) alone.closed ∙ shut))))

given : (desk : Desk) (past : List Event) (asked : Request) (clock : ℕ) → Night desk past
    → Given desk asked clock (161 + given_place desk clock) (with_ticket desk (given_place desk clock) (new_ticket asked clock)) → SoundRequest asked
    → (IsFolderHeld desk asked → ⊥)
    → Night (with_ticket desk (given_place desk clock) (new_ticket asked clock)) (opened (161 + given_place desk clock) asked clock ∷ past)
unfolding Kept Right last_on
given desk past asked clock n g new free =
    record {
      sound =
          record {
            turn_within = omega arith;
            places = length-set desk.tickets place ticket ∙ n.sound.places;
            sound = put_sound desk place ticket (λ l. within) n.sound.sound (λ l. new);
          };
      apart = apart_given g n.apart keeps_off;
      kept = λ x. on x (eqb x (161 + place)) refl;
      right = (
        free_last (last_on past (161 + place)) clock (rw (n.kept (161 + place)) at g.free),
        λ a theirs opening stood other used same.
            let is : ticket_on desk a ≡ new_ticket theirs opening = n.kept a ∙ ap kept stood in
            keeps_off a (ap (λ (t : Ticket). t.live) is) (λ e. other (sym (ap (λ (t : Ticket). t.asked.job) is) ∙ e)) used
            (ap (λ (t : Ticket). t.asked.folder) is ∙ same),
        n.right,
      );
    }
  where
    place : ℕ
    place = given_place desk clock

    ticket : Ticket
    ticket = new_ticket asked clock

    within : place < 128
    within = omega (arith, g.last)

    keeps_off : (other : ℕ) → OpenOn desk other → (ticket_on desk other).asked.job ≢ asked.job → asked.folder ≢ 0 → (ticket_on desk other).asked.folder ≢ asked.folder
    keeps_off = folder_apart desk asked n.sound.places free

    on : (x : ℕ) (t : Bool) → eqb x (161 + given_place desk clock) ≡ t
        → ticket_on (with_ticket desk (given_place desk clock) ticket) x ≡ kept (cond t (stands asked clock) (last_on past x))
    on x true e =
        ap (λ (a : ℕ). ticket_on (with_ticket desk (given_place desk clock) ticket) a) (eqb-true x (161 + given_place desk clock) e) ∙ g.stands
    on x false e = g.others x (eqb-false x (161 + given_place desk clock) e) ∙ n.kept x

-- whatever event says so: an address that was closed alone
closed_kept : (desk : Desk) (past : List Event) (address : ℕ) (l : Last) (desk' : Desk) → Night desk past → ClosedAlone desk address (kept l) desk'
    → (x : ℕ) → ticket_on desk' x ≡ kept (cond (eqb x address) l (last_on past x))
unfolding Kept
closed_kept desk past address l desk' n alone x = on (eqb x address) refl
  where
    on : (t : Bool) → eqb x address ≡ t → ticket_on desk' x ≡ kept (cond t l (last_on past x))
    on true e = ap (λ (a : ℕ). ticket_on desk' a) (eqb-true x address e) ∙ alone.closed
    on false e = alone.others x (eqb-false x address e) ∙ n.kept x

closed_sound : (desk : Desk) (place : ℕ) (left : Ticket) → left.live ≡ false → SoundDesk desk → SoundDesk (put_at desk place left)
closed_sound desk place left shut s =
    record {
      turn_within = s.turn_within;
      places = length-set desk.tickets place left ∙ s.places;
      sound = put_sound desk place left (λ l. absurd (true≢false (sym l ∙ shut))) s.sound (λ l. absurd (true≢false (sym l ∙ shut)));
    }

-- ---- one call

module _ (desk : Desk) (past : List Event) (n : Night desk past) where
  after_asks : (asked : Request) (bytes : List ℕ) (clock : ℕ) (room : List ℕ)
      → Night (after desk (asks asked bytes clock room)) (event_of desk (asks asked bytes clock room) ∷ past)
  unfolding after event_of
  after_asks asked bytes clock room = go (open_refusal desk asked bytes clock (length room)) refl
    where
      go : (o : Option Fault) → open_refusal desk asked bytes clock (length room) ≡ o
          → Night (open_desk o desk (given_place desk clock) (new_ticket asked clock))
          (of_opening (open_answer o (161 + given_place desk clock) (length (request_at (given_place desk clock) asked bytes))) asked clock ∷ past)
      go (some f) e = quiet n
      go none e =
          let fit = fit_to_open desk asked bytes clock (length room) e in
          given desk past asked clock n (given_at desk asked clock n.sound.places fit.1) (allowed_sound asked bytes fit.0) fit.3

  -- the opening of a ticket that is open
  there : (address : ℕ) → OpenOn desk address
      → (asked : Request) × (clock : ℕ) × (last_on past address ≡ stands asked clock) × (ticket_on desk address ≡ new_ticket asked clock)
  unfolding Kept
  there address live =
      let s = open_last (last_on past address) (ap (λ (t : Ticket). t.live) (sym (n.kept address)) ∙ live) in
      (s.0, s.1, s.2, n.kept address ∙ ap kept s.2)

  after_brings : (frame room : List ℕ) → Night (after desk (brings frame room)) (event_of desk (brings frame room) ∷ past)
  unfolding after event_of Kept Right last_on
  after_brings frame room = go (reply_refusal desk frame (length room)) refl
    where
      t : Fields
      t = fields_in frame

      go : (o : Option Fault) → reply_refusal desk frame (length room) ≡ o
          → Night (book_desk o desk t) (of_booking (book_answer o (ticket_on desk t.destination) t) frame ∷ past)
      go (some f) e = quiet n
      go none e =
          let fit = fit_to_book desk frame (length room) e in
          let s = there (fields_in frame).destination fit.1 in
          record {
            sound = closed_sound desk ((fields_in frame).destination - 161) no_ticket refl n.sound;
            apart = apart_closed (answers_alone desk (fields_in frame).destination fit.1) refl n.apart;
            kept =
                closed_kept desk past (fields_in frame).destination answered (answered_on desk (fields_in frame).destination) n (answers_alone desk _ fit.1);
            right = (
              record {
                asked = s.0;
                opening = s.1;
                is_open = s.2;
                theirs = ap (λ (x : Ticket). x.asked.job) s.3;
                from_module = fit.2 ∙ ap (λ (x : Ticket). x.asked.unit) s.3;
                kind_fits = rw s.3 at fit.3;
                register_fits_lem = rw s.3 at fit.4;
                in_folder = ap (λ (x : Ticket). x.asked.folder) s.3;
              },
              n.right,
            );
          }

  after_closing : (o : Option Fault) (address clock : ℕ) → (o ≡ none → OpenOn desk address)
      → Night (close_desk o desk address clock) (of_closing (close_answer o (ticket_on desk address) address) clock ∷ past)
  unfolding Kept Right last_on
  after_closing (some f) address clock live = quiet n
  after_closing none address clock live =
      let s = there address (live refl) in
      record {
        sound = closed_sound desk (address - 161) (withdrawn_at clock) refl n.sound;
        apart = apart_closed (withdraws_alone desk address clock (live refl)) refl n.apart;
        kept = closed_kept desk past address (given_up clock) (withdrawn_on desk address clock) n (withdraws_alone desk address clock (live refl));
        right = (
          record {
            asked = s.0;
            opening = s.1;
            is_open = s.2;
            theirs = ap (λ (x : Ticket). x.asked.job) s.3;
            in_folder = ap (λ (x : Ticket). x.asked.folder) s.3;
          },
          n.right,
        );
      }

  pub step : (call : Call) → Night (after desk call) (event_of desk call ∷ past)
  unfolding after event_of
  step (asks asked bytes clock room) = after_asks asked bytes clock room
  step (brings frame room) = after_brings frame room
  step (cancels job address clock) = after_closing (cancel_refusal desk job address) address clock (λ e. (fit_to_cancel desk job address e).0)
  step (expires clock) = after_closing (expire_refusal desk clock) (161 + due_place desk clock) clock (λ e. (fit_to_expire desk clock e).1.0)

-- ---- any sequence

no_ticket_lem : (address : ℕ) → ticket_on fresh_desk address ≡ no_ticket
no_ticket_lem address = go (leb 161 address)
  where
    go : (t : Bool) → cond t (ticket_at fresh_desk (address - 161)) no_ticket ≡ no_ticket
    go true = empty_place (address - 161)
    go false = refl

fresh_night : Night fresh_desk []
unfolding Kept Right last_on
fresh_night =
    record {
      sound =
          record {
            turn_within = omega arith;
            places = length-replicate 95 no_ticket;
            sound = λ place live. absurd (true≢false (sym live ∙ ap (λ (t : Ticket). t.live) (empty_place place)));
          };
      apart = λ a b live_a live_b jobs used same. true≢false (sym live_a ∙ ap (λ (t : Ticket). t.live) (no_ticket_lem a));
      kept = λ address. no_ticket_lem address;
      right = tt;
    }

pub night_on : (calls : List Call) (desk : Desk) (past : List Event) → Night desk past → Night (after_all desk calls) (answered_all desk past calls)
unfolding after_all answered_all
night_on [] desk past n = n
night_on (call ∷ calls) desk past n = night_on calls (after desk call) (event_of desk call ∷ past) (step desk past n call)

-- from a fresh desk on, after any calls: what stands on each address is exactly the ticket of the last opening there with no closing since,
-- or what is kept of one that was cancelled or expired, or nothing; an address is given only where no ticket stands and where it does not
-- rest, and on no folder that another job has a ticket on; every booking fits that opening's module, kind and register and answers its job and
-- folder; every cancel and expiry answers that opening's job, address and folder; no two open tickets of different jobs hold the same folder
-- other than 0; and the desk is sound
pub any_night : (calls : List Call) → Night (after_all fresh_desk calls) (answered_all fresh_desk [] calls)
any_night calls = night_on calls fresh_desk [] fresh_night

-- the same of one answer more, each said out
module _ (calls : List Call) (call : Call) where
  abbrev desk_then : Desk
  desk_then = after_all fresh_desk calls

  abbrev past_then : List Event
  past_then = answered_all fresh_desk [] calls

  right_then : Right (event_of desk_then call ∷ past_then)
  right_then = (step desk_then past_then (any_night calls) call).right

  pub opened_where_free : (address : ℕ) (asked : Request) (clock : ℕ) → event_of desk_then call ≡ opened address asked clock
      → ((theirs : Request) (opening : ℕ) → last_on past_then address ≡ stands theirs opening → ⊥)
      × ((closing : ℕ) → last_on past_then address ≡ given_up closing → 1000 ≤ age clock closing)
      × ((other : ℕ) (theirs : Request) (opening : ℕ) → last_on past_then other ≡ stands theirs opening
      → theirs.job ≢ asked.job → asked.folder ≢ 0 → theirs.folder ≢ asked.folder)
  unfolding Right
  opened_where_free address asked clock e =
      let may : MayBeGiven (last_on past_then address) clock = (rw e at right_then).0 in
      let free : FolderFree past_then asked = (rw e at right_then).1 in
      (λ theirs opening p. subst (λ (l : Last). MayBeGiven l clock) p may, λ closing p. subst (λ (l : Last). MayBeGiven l clock) p may, free)

  pub booked_where_fits : (job address source sort register folder : ℕ) → event_of desk_then call ≡ booked job address source sort register folder
      → (asked : Request) × (opening : ℕ)
      × (last_on past_then address ≡ stands asked opening)
      × (job ≡ asked.job)
      × (source ≡ asked.unit)
      × KindFits asked.sort sort
      × RegisterFits asked.register sort register
      × (folder ≡ asked.folder)
  unfolding Right
  booked_where_fits job address source sort register folder e =
      let fit : Fitting (last_on past_then address) job source sort register folder = (rw e at right_then).0 in
      (fit.asked, fit.opening, fit.is_open, fit.theirs, fit.from_module, fit.kind_fits, fit.register_fits_lem, fit.in_folder)

  pub withdrawn_where_theirs : (job address folder clock : ℕ) → event_of desk_then call ≡ withdrawn job address folder clock
      → (asked : Request) × (opening : ℕ) × (last_on past_then address ≡ stands asked opening) × (job ≡ asked.job) × (folder ≡ asked.folder)
  unfolding Right
  withdrawn_where_theirs job address folder clock e =
      let own : Theirs (last_on past_then address) job folder = (rw e at right_then).0 in
      (own.asked, own.opening, own.is_open, own.theirs, own.in_folder)

-- at most one ticket to an address and at most 95 in all: a ticket is open on a host address or not at all
pub on_hosts_only : (desk : Desk) → SoundDesk desk → (address : ℕ) → OpenOn desk address → (161 ≤ address) × (address ≤ 255)
on_hosts_only desk s address live = let within = open_within desk address live in (within.0, omega (arith, within.1, s.places))

-- ---- some calls and then more

pub then_all : (first more : List Call) (desk : Desk) (past : List Event)
    → (after_all desk (first ++ more) ≡ after_all (after_all desk first) more)
    × (answered_all desk past (first ++ more) ≡ answered_all (after_all desk first) (answered_all desk past first) more)
unfolding after_all answered_all
then_all [] more desk past = (refl, refl)
then_all (c ∷ first) more desk past = then_all first more (after desk c) (event_of desk c ∷ past)

-- ---- these are the desks and answers of the contracts

pub opens_after : (desk : Desk) (asked : Request) (bytes : List ℕ) (clock : ℕ) (room : List ℕ) (r : AfterOpen) (room' : List ℕ)
    → Opens desk asked bytes clock room r room'
    → (r.desk ≡ after desk (asks asked bytes clock room)) × (of_opening r.answer asked clock ≡ event_of desk (asks asked bytes clock room))
unfolding after event_of
opens_after desk asked bytes clock room r room' o = (o.1, ap (λ (a : Opening). of_opening a asked clock) o.0)

pub replies_after : (desk : Desk) (frame room : List ℕ) (r : AfterReply) (room' : List ℕ) → Replies desk frame room r room'
    → (r.desk ≡ after desk (brings frame room)) × (of_booking r.answer frame ≡ event_of desk (brings frame room))
unfolding after event_of
replies_after desk frame room r room' o = (o.1, ap (λ (a : Booking). of_booking a frame) o.0)

pub cancels_after : (desk : Desk) (job address clock : ℕ) (r : AfterClose) → Cancels desk job address clock r
    → (r.desk ≡ after desk (cancels job address clock)) × (of_closing r.answer clock ≡ event_of desk (cancels job address clock))
unfolding after event_of
cancels_after desk job address clock r o = (o.1, ap (λ (a : Closing). of_closing a clock) o.0)

pub expires_after : (desk : Desk) (clock : ℕ) (r : AfterClose) → Expires desk clock r
    → (r.desk ≡ after desk (expires clock)) × (of_closing r.answer clock ≡ event_of desk (expires clock))
unfolding after event_of
expires_after desk clock r o = (o.1, ap (λ (a : Closing). of_closing a clock) o.0)

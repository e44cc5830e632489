-- What each return of the calls gives, over plain numbers, tickets and desks.
-- Assumes nothing.
use Rattle.desk.specs.Answers.{opening}
use Rattle.std.specs.Prelude.{Ok, Err, Option as Maybe, Some, None, is_some}
use Rattle.std.proofs.lemmas.Option.{cond_some, none-some}
use mathlib.Core.Path.{◌≡◌, refl, sym, ap, ◌∙◌}
use mathlib.Core.Bool.{Bool, true, false, cond, not, ◌&&◌, true≢false}
use mathlib.Core.List.{List}
use mathlib.Core.Logic.{◌≢◌}
use mathlib.Core.Option.{Option, some, none}
use Prim.Native.Nat.{ℕ, ◌+◌, ◌-◌, ◌≤◌, ◌<◌}
use native.Mathlib.Omega.{arith}
use borrow.Author.Tests.{leb-true, ltb-true, ltb-false, lt-ltb, le-ltb, le-leb, lt-leb, eq-eqb, ne_eqb}
use lib.Dec.{eqb, ltb, leb}
use lib.ListN.{length}
use Rattle.request.specs.Request.{ask_refusal}
use Rattle.request.specs.declared.Fault.{Fault as Asked}
use Rattle.rows.specs.Rows.{raised}
use Rattle.telegram.proofs.Judge.{reading_refused, reading_telegram}
use Rattle.telegram.specs.Read.{read_refusal, room_after, read_frame, fields_in}
use Rattle.telegram.specs.Write.{telegram_for, write_refusal, write_answer, Writes}
use Rattle.telegram.specs.declared.Fields.{Fields}
use Rattle.telegram.specs.Answers.{Reading}
use Rattle.telegram.specs.Answers.{Writing}
use Rattle.telegram.specs.declared.Fault.{Fault as Unreadable}
use Rattle.telegram.specs.declared.Fault.TheVariants.{NoRoom as OverRoom}
use Rattle.first.proofs.Laws.{first-none, first_at}
use Rattle.first.specs.First.{first_place}
use Rattle.ticket.specs.Fit.{fit_refusal}
use Rattle.ticket.specs.declared.Fault.{Fault as Unfit}
use Rattle.desk.specs.Close.{is_theirs, cancel_refusal, due_place, expire_refusal}
use Rattle.desk.specs.Open.{place_from, distance_of, given_place, request_at, open_refusal, with_ticket, OpensAt, PlacesAt, Opens}
use Rattle.desk.specs.Reply.{book_refusal, reply_refusal}
use Rattle.desk.specs.Desk.{ticket_at, ticket_on, under}
use Rattle.desk.specs.Folder.{holder_place, is_folder_held}
use Rattle.ticket.specs.Rest.{is_free}
use Rattle.ticket.specs.Ticket.{no_ticket, new_ticket}
use Rattle.request.specs.declared.Request.{Request}
use Rattle.ticket.specs.declared.Ticket.{Ticket}
use Rattle.desk.specs.declared.Desk.{Desk}
use Rattle.desk.specs.declared.Fault.TheVariants.{Denied, FolderHeld, NoneFree, NoRoom, Unread, Misfit, NotTheirs, NothingDue}
use Rattle.desk.specs.declared.AfterOpen.{AfterOpen}

-- ---- tickets

-- a live ticket stands on a host address
pub live_host : (desk : Desk) (address : ℕ) → (ticket_on desk address).live ≡ true → 161 ≤ address
live_host desk address e = go (leb 161 address) refl e
  where
    go : (t : Bool) → leb 161 address ≡ t → (cond t (ticket_at desk (address - 161)) no_ticket).live ≡ true → 161 ≤ address
    go true p q = leb-true 161 address p
    go false p q = absurd (true≢false (sym q))

-- what is under a most, and what is not
pub under_told : (most n k : ℕ) → under most n ≡ Some k → (k ≡ n) × (k < most)
unfolding under
under_told most n k e = let p = cond_some (ltb n most) n k e in (sym p.1, omega (arith, ltb-true n most p.0, p.1))

pub over_told : (most n : ℕ) → under most n ≡ None → most ≤ n
unfolding under
over_told most n e = go (ltb n most) refl e
  where
    go : (t : Bool) → ltb n most ≡ t → ◌≡◌ {A = Maybe ℕ} (cond t (Some n) None) None → most ≤ n
    go true p q = absurd (none-some n (sym q))
    go false p q = ltb-false n most p

pub under_some : (most n : ℕ) → n < most → Some n ≡ under most n
unfolding under
under_some most n h = rw (lt-ltb n most h) refl

pub under_none : (most n : ℕ) → most ≤ n → None ≡ under most n
unfolding under
under_none most n h = rw (le-ltb n most h) refl

some_under : (most n : ℕ) → is_some (under most n) ≡ ltb n most
unfolding under
some_under most n = go (ltb n most)
  where
    go : (t : Bool) → is_some (cond t (Some n) None) ≡ t
    go true = refl
    go false = refl

-- a search over all 95 places
pub found : (fits : ℕ → Bool) (r : Maybe ℕ) → ((k : ℕ) → r ≡ Some k → (k < 95) × (fits k ≡ true)) → ((k : ℕ) → r ≡ Some k → (i : ℕ) → i < k → fits i ≡ false)
    → (r ≡ None → (i : ℕ) → i < 95 → fits i ≡ false) → r ≡ under 95 (first_place fits 95)
found fits (Some k) there before nowhere =
    let t = there k refl in
    under_some 95 k t.0 ∙ ap (under 95) (sym (first_at fits 95 k t.0 (before k refl) t.1))
found fits None there before nowhere = under_none 95 (first_place fits 95) (rw (first-none fits 95 (nowhere refl)) (omega arith))

-- the search from the turn has come to a free place
pub free_found : (desk : Desk) (clock k : ℕ) → k < 95 → ((i : ℕ) → i < k → is_free clock (ticket_at desk (place_from desk.turn i)) ≡ false)
    → is_free clock (ticket_at desk (place_from desk.turn k)) ≡ true → Some k ≡ under 95 (distance_of desk clock)
unfolding distance_of
free_found desk clock k h before free = under_some 95 k h ∙ ap (under 95) (sym (first_at (λ i. is_free clock (ticket_at desk (place_from desk.turn i))) 95 k h before free))

-- ---- opening

pub open_denied : (desk : Desk) (asked : Request) (bytes : List ℕ) (clock room : ℕ) (f : Asked) → ask_refusal asked bytes ≡ some f
    → open_refusal desk asked bytes clock room ≡ some (Denied f)
unfolding open_refusal
open_denied desk asked bytes clock room f e = rw e

pub open_held : (desk : Desk) (asked : Request) (bytes : List ℕ) (clock room : ℕ) → ask_refusal asked bytes ≡ none → is_folder_held desk asked ≡ true
    → open_refusal desk asked bytes clock room ≡ some FolderHeld
unfolding open_refusal
open_held desk asked bytes clock room e held = rw (e, held)

pub open_full : (desk : Desk) (asked : Request) (bytes : List ℕ) (clock room : ℕ) → ask_refusal asked bytes ≡ none → is_folder_held desk asked ≡ false
    → 95 ≤ distance_of desk clock → open_refusal desk asked bytes clock room ≡ some NoneFree
unfolding open_refusal
open_full desk asked bytes clock room e free far = rw (e, free, le-leb 95 (distance_of desk clock) far) refl

pub open_allowed : (desk : Desk) (asked : Request) (bytes : List ℕ) (clock : ℕ) (room : List ℕ) (r : AfterOpen) (room' : List ℕ) (d : ℕ)
    → ask_refusal asked bytes ≡ none → is_folder_held desk asked ≡ false → d ≡ distance_of desk clock
    → PlacesAt desk d asked bytes clock room r room' → Opens desk asked bytes clock room r room'
unfolding open_refusal given_place
open_allowed desk asked bytes clock room r room' d e free far p = rw (e, free) (rw far at p)

-- whether the folder is held, by what was asked and where the search for its holder has ended
pub folder_none : (desk : Desk) (asked : Request) → asked.folder ≡ 0 → not (eqb asked.folder 0) ≡ is_folder_held desk asked
unfolding is_folder_held
folder_none desk asked e = rw (eq-eqb asked.folder 0 e)

pub folder_by : (desk : Desk) (asked : Request) (r : Maybe ℕ) → asked.folder ≢ 0 → r ≡ under 95 (holder_place desk asked.job asked.folder)
    → is_some r ≡ is_folder_held desk asked
unfolding is_folder_held
folder_by desk asked r n e = rw (ne_eqb asked.folder 0 n) (ap is_some e ∙ some_under 95 (holder_place desk asked.job asked.folder))

-- the writer can only lack room
pub only_room : (d s t r : ℕ) (bytes : List ℕ) (room : ℕ) → length bytes ≤ 240 → d ≢ 0 → s ≢ 0 → t ≤ 9
    → write_refusal d s t r bytes room ≡ cond (ltb room (length (telegram_for d s t r bytes))) (some OverRoom) none
unfolding write_refusal
only_room d s t r bytes room long hd hs ht = simp (le-ltb 240 (length bytes) long, ne_eqb d 0 hd, ne_eqb s 0 hs, le-ltb 9 t ht)

module _ (desk : Desk) (d : ℕ) (asked : Request) (bytes : List ℕ) (clock : ℕ) (room room' : List ℕ) (w : Writing) (near : d < 95)
    (fit : (length bytes ≤ 240) × (asked.unit ≢ 0) × (asked.sort ≤ 9))
    (writes : Writes asked.unit (161 + place_from desk.turn d) asked.sort asked.register bytes room w room') where
  place : ℕ
  place = place_from desk.turn d

  Outcome : Bool → AfterOpen → Type 0
  Outcome short r = OpensAt (cond short (some NoRoom) none) desk place d asked bytes clock room r room'

  -- what the writer tells, by whether there is too little room
  Told : Bool → Type 0
  Told short =
      (w ≡ write_answer (cond short (some OverRoom) none) (length (request_at place asked bytes)))
      × (room' ≡ room_after (cond short (some OverRoom) none) (request_at place asked bytes) room)

  written : (r : AfterOpen) → ((short : Bool) → Told short → Outcome short r) → PlacesAt desk d asked bytes clock room r room'
  unfolding place Outcome Told
  written r go =
      let only =
      only_room asked.unit (161 + place_from desk.turn d) asked.sort asked.register bytes (length room) fit.0 fit.1 (λ e. omega arith) fit.2 in
      rw (lt-leb 95 d near)
      (go (ltb (length room) (length (request_at (place_from desk.turn d) asked bytes))) (rw only at writes.0, rw only at writes.1))

  pub opened_at_lem : (n : ℕ) (desk' : Desk) → w ≡ Ok n → desk' ≡ with_ticket desk (place_from desk.turn d) (new_ticket asked clock)
      → PlacesAt desk d asked bytes clock room (record { desk = desk'; answer = opening (161 + place_from desk.turn d) n; count = d + 1 }) room'
  unfolding place Outcome Told
  opened_at_lem n desk' e laid = written _ go
    where
      go : (short : Bool) → Told short → Outcome short (record { desk = desk'; answer = opening (161 + place_from desk.turn d) n; count = d + 1 })
      go true told = absurd (let z : ◌≡◌ {A = ℕ} 0 1 = cc told.0 in omega arith)
      go false told =
          (ap (opening (161 + place_from desk.turn d)) (let same : n ≡ length (request_at place asked bytes) = cc told.0 in same), laid, told.1, refl)

  pub no_room_at : (f : Unreadable) → w ≡ Err f → PlacesAt desk d asked bytes clock room (record { desk = desk; answer = Err NoRoom; count = d + 1 }) room'
  unfolding place Outcome Told
  no_room_at f e = written _ go
    where
      go : (short : Bool) → Told short → Outcome short (record { desk = desk; answer = Err NoRoom; count = d + 1 })
      go true told = (refl, refl, told.1, refl)
      go false told = absurd (let z : ◌≡◌ {A = ℕ} 0 1 = cc told.0 in omega arith)

-- ---- a reply

pub reply_unread : (desk : Desk) (frame : List ℕ) (room : ℕ) (reading : Reading) (f : Unreadable)
    → reading ≡ read_frame frame room → reading ≡ Err f → reply_refusal desk frame room ≡ some (Unread f)
unfolding reply_refusal
reply_unread desk frame room reading f p q = rw (reading_refused frame room f (sym p ∙ q))

-- a telegram that was read is judged by its fields
pub reply_judged : (desk : Desk) (frame : List ℕ) (room : ℕ) (reading : Reading) (t : Fields) (ticket : Ticket) (o : Option Unfit)
    → reading ≡ read_frame frame room → reading ≡ Ok t → ticket ≡ ticket_on desk t.destination → fit_refusal ticket t ≡ o
    → (read_refusal frame room ≡ none) × (t ≡ fields_in frame) × (reply_refusal desk frame room ≡ raised Misfit o)
unfolding reply_refusal book_refusal
reply_judged desk frame room reading t ticket o p q on e =
    let a = reading_telegram frame room t (sym p ∙ q) in
    (a.0, a.1, rw (a.0, ← a.1, ← on, e))

-- ---- cancelling and expiring

pub cancel_told : (desk : Desk) (job address : ℕ) (ticket : Ticket) (theirs : Bool) → ticket ≡ ticket_on desk address → theirs ≡ is_theirs ticket job
    → cancel_refusal desk job address ≡ cond theirs none (some NotTheirs)
unfolding cancel_refusal
cancel_told desk job address ticket theirs on e = rw (← on, ← e) (go theirs)
  where
    go : (b : Bool) → cond (not b) (some NotTheirs) none ≡ cond b none (some NotTheirs)
    go true = refl
    go false = refl

-- whose ticket it is stands on a host address
pub theirs_host : (desk : Desk) (job address : ℕ) (ticket : Ticket) → ticket ≡ ticket_on desk address → is_theirs ticket job ≡ true → 161 ≤ address
theirs_host desk job address ticket on e = live_host desk address (rw (← on) (live ticket.live e))
  where
    live : (b : Bool) → (b && eqb ticket.asked.job job) ≡ true → b ≡ true
    live true h = refl
    live false h = h

pub expire_nothing : (desk : Desk) (clock k : ℕ) → k ≡ due_place desk clock → 95 ≤ k → expire_refusal desk clock ≡ some NothingDue
unfolding expire_refusal
expire_nothing desk clock k e h = rw (← e) (simp (le-leb 95 k h))

pub expire_due : (desk : Desk) (clock k : ℕ) → k ≡ due_place desk clock → k < 95 → expire_refusal desk clock ≡ none
unfolding expire_refusal
expire_due desk clock k e h = rw (← e) (simp (lt-leb 95 k h))

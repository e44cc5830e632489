-- The accident and the folders in C's numbers, written out: after any calls of a C host, from a fresh desk on.
-- Assumes nothing.
use mathlib.Core.Path.{◌≡◌, refl, ap, ◌∙◌, subst}
use mathlib.Core.Bool.{Bool, true, false}
use mathlib.Core.List.{List, []}
use mathlib.Core.Logic.{◌≢◌}
use mathlib.Core.Option.{none}
use Prim.Native.Nat.{ℕ, ◌≤◌}
use native.Mathlib.Omega.{arith}
use lib.ListN.{length}
use Rattle.desk.specs.Desk.{fresh_desk, shown, ticket_on}
use Rattle.desk.proofs.Laws.{fresh_opens}
use Rattle.desk.specs.Open.{request_at}
use Rattle.desk.specs.declared.Desk.{Desk}
use Rattle.lanes.specs.declared.Lanes.{Lanes}
use Rattle.nights.specs.Night.{Event, Last, Right, Fitting, Theirs, MayBeGiven, FolderFree, last_on, stands, given_up}
use Rattle.request.specs.Request.{ask_refusal}
use Rattle.request.specs.declared.Request.{Request}
use Rattle.scan.specs.declared.Scan.{Scan}
use Rattle.telegram.specs.Read.{fields_in}
use Rattle.ticket.specs.Due.{age}
use Rattle.ticket.specs.Fit.{KindFits, RegisterFits}
use Rattle.ticket.specs.declared.Ticket.{Ticket}
use Rattle.kamzhor.specs.Desk.{GivesOpen, GivesReply, GivesCancel, GivesExpire, GivesSeen, seen_given}
use Rattle.kamzhor.specs.Filters.{GivesEdge}
use Rattle.kamzhor.specs.Lanes.{GivesGrant}
use Rattle.kamzhor.specs.Scan.{GivesScanStep}
use Rattle.kamzhor.specs.declared.host_box.AfterBoxAsk.{AfterBoxAsk}
use Rattle.kamzhor.specs.declared.host_box.HostBox.{HostBox}
use Rattle.kamzhor.specs.declared.host_desk.AfterDeskClose.{AfterDeskClose}
use Rattle.kamzhor.specs.declared.host_desk.AfterDeskOpen.{AfterDeskOpen}
use Rattle.kamzhor.specs.declared.host_desk.AfterDeskReply.{AfterDeskReply}
use Rattle.kamzhor.specs.declared.host_desk.SeenAnswer.{SeenAnswer}
use Rattle.kamzhor.specs.declared.host_lanes.AfterLanesGrant.{AfterLanesGrant}
use Rattle.kamzhor.specs.declared.host_scan.AfterScanStep.{AfterScanStep}
use Rattle.varia.specs.declared.Pass.{Pass}
use Rattle.hosts.specs.Night.{Called, grants, sets, steps, granted, opens, replies, cancels, expires, AllMade, last_desk, all_seen}
use Rattle.hosts.proofs.Night.{goes_on, host_night}

-- what looking shows of an open ticket is that ticket
open_shown : (ticket : Ticket) (live gone : Bool) → (seen_given (shown ticket live gone)).state ≡ 1
    → (live ≡ true) × ((seen_given (shown ticket live gone)).asked ≡ ticket.asked)
open_shown ticket true gone e = (refl, refl)
open_shown ticket false true e = absurd (omega arith)
open_shown ticket false false e = absurd (omega arith)

module _ (calls : List Called) (made : AllMade fresh_desk calls) where
  -- the desk that the last call gave back, and what the host has seen, the latest first
  abbrev desk_now : Desk
  desk_now = last_desk fresh_desk calls

  abbrev seen_so_far : List Event
  seen_so_far = all_seen [] calls

  -- an opening is given an address on which no ticket stands and which does not rest, and a folder on which no other job has a ticket
  pub host_opens : (asked : Request) (bytes : List ℕ) (clock : ℕ) (room : List ℕ) (r : AfterDeskOpen) (room' : List ℕ)
      → GivesOpen desk_now asked bytes clock room r room' → r.answer.refusal ≡ 0
      → ((theirs : Request) (opening : ℕ) → last_on seen_so_far r.answer.address ≡ stands theirs opening → ⊥)
      × ((closing : ℕ) → last_on seen_so_far r.answer.address ≡ given_up closing → 1000 ≤ age clock closing)
      × ((other : ℕ) (theirs : Request) (opening : ℕ) → last_on seen_so_far other ≡ stands theirs opening
      → theirs.job ≢ asked.job → asked.folder ≢ 0 → theirs.folder ≢ asked.folder)
  unfolding Right
  host_opens asked bytes clock room r room' g done =
      let right = rw done at (goes_on desk_now seen_so_far (host_night calls made) (opens asked bytes clock room r room') g).right in
      let may : MayBeGiven (last_on seen_so_far r.answer.address) clock = right.0 in
      let free : FolderFree seen_so_far asked = right.1 in
      (λ theirs opening p. subst (λ (l : Last). MayBeGiven l clock) p may, λ closing p. subst (λ (l : Last). MayBeGiven l clock) p may, free)

  -- and so is what the lanes, the box and the scan open
  pub host_grants : (lanes : Lanes) (clock : ℕ) (room : List ℕ) (r : AfterLanesGrant) (room' : List ℕ) → GivesGrant lanes desk_now clock room r room'
      → r.answer.refusal ≡ 0 → MayBeGiven (last_on seen_so_far r.answer.address) clock × FolderFree seen_so_far (granted lanes)
  unfolding Right
  host_grants lanes clock room r room' g done =
      let right = rw done at (goes_on desk_now seen_so_far (host_night calls made) (grants lanes clock room r room') g).right in (right.0, right.1)

  pub host_sets : (pass : Pass) (filters : HostBox) (tenths wait clock : ℕ) (room : List ℕ) (r : AfterBoxAsk) (room' : List ℕ)
      → GivesEdge pass filters desk_now tenths wait clock room r room' → r.answer.refusal ≡ 0 → MayBeGiven (last_on seen_so_far r.answer.address) clock
  unfolding Right
  host_sets pass filters tenths wait clock room r room' g done =
      (rw done at (goes_on desk_now seen_so_far (host_night calls made) (sets pass filters tenths wait clock room r room') g).right).0

  pub host_scans : (scan : Scan) (clock : ℕ) (room : List ℕ) (r : AfterScanStep) (room' : List ℕ) → GivesScanStep scan desk_now clock room r room'
      → r.answer.state ≡ 1 → MayBeGiven (last_on seen_so_far r.answer.address) clock
  unfolding Right
  host_scans scan clock room r room' g asked =
      (rw asked at (goes_on desk_now seen_so_far (host_night calls made) (steps scan clock room r room') g).right).0

  -- "A filter reading meant for one animal was filed under the other": what is booked is answered with the job and the folder of the opening that stands
  -- on the address, and it came from the module that was asked, of a kind and a register that fit
  pub host_books : (frame room : List ℕ) (r : AfterDeskReply) (room' : List ℕ) → GivesReply desk_now frame room r room' → r.answer.refusal ≡ 0
      → (asked : Request) × (opening : ℕ)
      × (last_on seen_so_far r.answer.address ≡ stands asked opening)
      × (r.answer.job ≡ asked.job)
      × ((fields_in frame).source ≡ asked.unit)
      × KindFits asked.sort r.answer.sort
      × RegisterFits asked.register r.answer.sort (fields_in frame).register
      × (r.answer.folder ≡ asked.folder)
  unfolding Right
  host_books frame room r room' g done =
      let right = rw done at (goes_on desk_now seen_so_far (host_night calls made) (replies frame room r room') g).right in
      let fit : Fitting (last_on seen_so_far r.answer.address) r.answer.job (fields_in frame).source r.answer.sort (fields_in frame).register r.answer.folder = right.0 in
      (fit.asked, fit.opening, fit.is_open, fit.theirs, fit.from_module, fit.kind_fits, fit.register_fits_lem, fit.in_folder)

  -- and what is cancelled or expires is answered with the job and the folder of that opening
  pub host_cancels : (job address clock : ℕ) (r : AfterDeskClose) → GivesCancel desk_now job address clock r → r.answer.refusal ≡ 0
      → (asked : Request) × (opening : ℕ)
      × (last_on seen_so_far r.answer.address ≡ stands asked opening)
      × (r.answer.job ≡ asked.job)
      × (r.answer.folder ≡ asked.folder)
  unfolding Right
  host_cancels job address clock r g done =
      let right = rw done at (goes_on desk_now seen_so_far (host_night calls made) (cancels job address clock r) g).right in
      let own : Theirs (last_on seen_so_far r.answer.address) r.answer.job r.answer.folder = right.0 in
      (own.asked, own.opening, own.is_open, own.theirs, own.in_folder)

  pub host_expires : (clock : ℕ) (r : AfterDeskClose) → GivesExpire desk_now clock r → r.answer.refusal ≡ 0
      → (asked : Request) × (opening : ℕ)
      × (last_on seen_so_far r.answer.address ≡ stands asked opening)
      × (r.answer.job ≡ asked.job)
      × (r.answer.folder ≡ asked.folder)
  unfolding Right
  host_expires clock r g done =
      let right = rw done at (goes_on desk_now seen_so_far (host_night calls made) (expires clock r) g).right in
      let own : Theirs (last_on seen_so_far r.answer.address) r.answer.job r.answer.folder = right.0 in
      (own.asked, own.opening, own.is_open, own.theirs, own.in_folder)

  -- 02, #110: "No two open tickets of different jobs may hold the same folder other than 0", by what two looks show
  pub host_folders : (a b : ℕ) (here there : SeenAnswer) → GivesSeen desk_now a here → GivesSeen desk_now b there → here.state ≡ 1 → there.state ≡ 1
      → here.asked.job ≢ there.asked.job → here.asked.folder ≢ 0 → here.asked.folder ≢ there.asked.folder
  host_folders a b here there p q open-here open_there jobs used =
      let is = p.2 ∙ ap seen_given p.1 in
      let was = q.2 ∙ ap seen_given q.1 in
      let x = open_shown (ticket_on desk_now a) (ticket_on desk_now a).live (ticket_on desk_now a).withdrawn (rw is at open-here) in
      let y = open_shown (ticket_on desk_now b) (ticket_on desk_now b).live (ticket_on desk_now b).withdrawn (rw was at open_there) in
      let one : here.asked ≡ (ticket_on desk_now a).asked = ap (λ (s : SeenAnswer). s.asked) is ∙ x.1 in
      let two : there.asked ≡ (ticket_on desk_now b).asked = ap (λ (s : SeenAnswer). s.asked) was ∙ y.1 in
      rw (one, two) ((host_night calls made).apart a b x.0 y.0 (rw (one, two) at jobs) (rw one at used))

-- there are such calls: whatever may be asked is opened on a fresh desk, with room for the longest telegram
pub host_opens_fresh : (asked : Request) (bytes : List ℕ) (clock : ℕ) (room : List ℕ) (r : AfterDeskOpen) (room' : List ℕ)
    → GivesOpen fresh_desk asked bytes clock room r room' → ask_refusal asked bytes ≡ none → 494 ≤ length room
    → (r.answer.refusal ≡ 0) × (r.answer.address ≡ 161) × (r.answer.size ≡ length (request_at 0 asked bytes))
host_opens_fresh asked bytes clock room r room' g allowed wide =
    let is = fresh_opens asked bytes clock room g.0 room' g.1 allowed wide in
    rw (g.2, is) (refl, refl, refl)

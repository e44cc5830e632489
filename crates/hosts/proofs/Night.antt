-- Whatever a C host calls, its night is a night at the desk: so what is promised of those holds of what C is told.
-- Assumes nothing.
use Rattle.std.specs.Prelude.{Ok, Err}
use mathlib.Core.Path.{◌≡◌, refl}
use mathlib.Core.Bool.{Bool, true, false, cond}
use mathlib.Core.List.{List, [], ◌∷◌, ◌++◌}
use mathlib.Core.Option.{Option, some, none}
use Prim.Native.Nat.{ℕ, ◌+◌, ◌*◌}
use lib.ListN.{length, take}
use Rattle.desk.specs.Desk.{fresh_desk}
use Rattle.desk.specs.Open.{Opens}
use Rattle.desk.specs.declared.AfterOpen.{AfterOpen}
use Rattle.desk.specs.Answers.{Booking, Closing, Opening}
use Rattle.desk.specs.declared.Desk.{Desk}
use Rattle.lanes.specs.Lanes.{lane_at, waiting_at}
use Rattle.overdue.specs.Overdue.{told as entered}
use Rattle.varia.specs.declared.Pass.{Pass}
use Rattle.lanes.specs.Grant.{next_place, grant_refusal, GrantsBy, from_desk, takes_out}
use Rattle.lanes.specs.declared.AfterGrant.{AfterGrant}
use Rattle.lanes.specs.declared.Lanes.{Lanes}
use Rattle.nights.proofs.Laws.{step, any_night, night_on, opens_after, replies_after, cancels_after, expires_after}
use Rattle.nights.specs.Night.{Event, Night, asks, brings, after_all, answered_all, of_opening, of_booking, of_closing, opened, booked, withdrawn, nothing, Right, Kept, last_on}
use Rattle.overdue.proofs.Laws.{call_as_single}
use Rattle.request.specs.declared.Request.{Request}
use Rattle.scan.specs.Scan.{is_done, is_out, StepsBy}
use Rattle.scan.specs.declared.AfterStep.{AfterStep}
use Rattle.scan.specs.declared.Scan.{Scan}
use Rattle.telegram.specs.Read.{fields_in}
use Rattle.varia.specs.Ask.{Asks}
use Rattle.varia.specs.Box.{edge_register, edge_refusal, attenuation_refusal}
use Rattle.varia.specs.declared.AfterAsk.{AfterAsk}
use Rattle.varia.specs.declared.FilterBox.{FilterBox}
use Rattle.kamzhor.specs.Desk.{GivesDesk, GivesOpen, GivesReply, GivesCancel, GivesExpire, GivesSweep}
use Rattle.kamzhor.specs.Desk.{open_given, reply_given, close_given}
use Rattle.kamzhor.specs.Filters.{GivesEdge, GivesAttenuation, GivesMonitor, GivesStatus, ask_given, box_meant}
use Rattle.kamzhor.specs.Host.{told}
use Rattle.kamzhor.specs.Lanes.{GivesGrant, grant_given}
use Rattle.kamzhor.specs.Scan.{GivesScanStep, scan_given}
use Rattle.kamzhor.specs.declared.host_box.AfterBoxAsk.{AfterBoxAsk}
use Rattle.kamzhor.specs.declared.host_box.HostBox.{HostBox}
use Rattle.kamzhor.specs.declared.host_desk.AfterDeskClose.{AfterDeskClose}
use Rattle.kamzhor.specs.declared.host_desk.AfterDeskOpen.{AfterDeskOpen}
use Rattle.kamzhor.specs.declared.host_desk.AfterDeskReply.{AfterDeskReply}
use Rattle.kamzhor.specs.declared.host_desk.AfterDeskSweep.{AfterDeskSweep}
use Rattle.kamzhor.specs.declared.host_lanes.AfterLanesGrant.{AfterLanesGrant}
use Rattle.kamzhor.specs.declared.host_scan.AfterScanStep.{AfterScanStep}
use Rattle.hosts.specs.Night.{Called, Made, next, seen_if, seen, close_seen, granted, scan_seen, AllMade, last_desk, all_seen}
use Rattle.hosts.specs.Night.{opens, replies, cancels, expires, sweeps, grants, sets, attenuates, monitors, looks, steps}
use Rattle.hosts.proofs.Numbers.{open_number_lem, reply_number_lem, close_number_lem, ask_number_lem, grant_number_lem}
use Rattle.lanes.specs.declared.Fault as lanes_fault
use Rattle.lanes.specs.declared.Fault.TheVariants as lanes_faults
use Rattle.lanes.specs.declared.Turn.TheVariants as grantings
use Rattle.nights.specs.Night as desk_night
use Rattle.scan.specs.Scan as scanning
use Rattle.varia.specs.Ask as asking
use Rattle.varia.specs.declared.Fault as varia_fault

-- ---- what C is told of an answer is what the desk's callers see of it

open_seen : (a : Opening) (k : ℕ) (asked : Request) (clock : ℕ)
    → seen_if (told (open_given a k).refusal) (opened (open_given a k).address asked clock) ≡ of_opening a asked clock
open_seen (Err f) k asked clock = rw (open_number_lem (Err f) k)
open_seen (Ok _) k asked clock = refl

reply_seen : (a : Booking) (frame : List ℕ)
    → seen_if (told (reply_given a).refusal)
    (booked (reply_given a).job (reply_given a).address (fields_in frame).source (reply_given a).sort (fields_in frame).register (reply_given a).folder)
    ≡ of_booking a frame
reply_seen (Err f) frame = rw (reply_number_lem (Err f))
reply_seen (Ok _) frame = refl

close_seen_lem : (a : Closing) (clock : ℕ) → close_seen (close_given a) clock ≡ of_closing a clock
close_seen_lem (Err f) clock = rw (close_number_lem (Err f))
close_seen_lem (Ok _) clock = refl

ask_seen : (a : Opening) (k : ℕ) (asked : Request) (clock : ℕ)
    → seen_if (told (ask_given (asking.from_desk a) k).refusal) (opened (ask_given (asking.from_desk a) k).address asked clock) ≡ of_opening a asked clock
ask_seen (Err f) k asked clock = rw (ask_number_lem (asking.from_desk (Err f)) k)
ask_seen (Ok _) k asked clock = refl

grant_seen : (a : Opening) (job k : ℕ) (asked : Request) (clock : ℕ)
    → seen_if (told (grant_given (from_desk job a) k).refusal) (opened (grant_given (from_desk job a) k).address asked clock) ≡ of_opening a asked clock
grant_seen (Ok _) job k asked clock = refl
grant_seen (Err f) job k asked clock = by (takes_out f)
  where
    by : (out : Bool)
        → seen_if (told (grant_given (cond out (Ok (grantings.TakenOut job)) (Err (lanes_faults.AtDesk f))) k).refusal)
        (opened (grant_given (cond out (Ok (grantings.TakenOut job)) (Err (lanes_faults.AtDesk f))) k).address asked clock)
        ≡ nothing
    by true = refl
    by false = rw (grant_number_lem (Err (lanes_faults.AtDesk f)) k)

scan_seen_lem : (a : Opening) (unit k : ℕ) (asked : Request) (clock : ℕ)
    → scan_seen (scan_given (scanning.from_desk unit a) k).state (opened (scan_given (scanning.from_desk unit a) k).address asked clock) ≡ of_opening a asked clock
scan_seen_lem (Err f) unit k asked clock = refl
scan_seen_lem (Ok _) unit k asked clock = refl

-- ---- a night goes on

-- with nothing, on the same desk
unseen : {desk : Desk} {past : List Event} → Night desk past → Night desk (nothing ∷ past)
unfolding Kept Right last_on
unseen n = record { sound = n.sound; apart = n.apart; kept = n.kept; right = n.right }

-- with an opening, whoever asked for it
opens_on : (desk : Desk) (past : List Event) → Night desk past → (asked : Request) (bytes : List ℕ) (clock : ℕ) (room : List ℕ) (o : AfterOpen) (room' : List ℕ)
    → Opens desk asked bytes clock room o room' → Night o.desk (of_opening o.answer asked clock ∷ past)
opens_on desk past n asked bytes clock room o room' p =
    let a = opens_after desk asked bytes clock room o room' p in rw (a.0, a.1) (step desk past n (asks asked bytes clock room))

asks_on : (own : Option varia_fault.Fault) (box : FilterBox) (to : Opening → FilterBox) (desk : Desk) (asked : Request) (bytes : List ℕ) (clock : ℕ) (room : List ℕ)
    (o : AfterAsk) (room' : List ℕ) (past : List Event) → Night desk past → Asks own box to desk asked bytes clock room o room'
    → Night o.desk (seen_if (told (ask_given o.answer o.count).refusal) (opened (ask_given o.answer o.count).address asked clock) ∷ past)
asks_on (some f) box to desk asked bytes clock room o room' past n p =
    rw (p.0.0, p.0.2, ask_number_lem (Err f) o.count) (unseen n)
asks_on none box to desk asked bytes clock room o room' past n p =
    rw (p.2.0, p.2.2, ask_seen p.0.answer o.count asked clock) (opens_on desk past n asked bytes clock room p.0 room' p.1)

grants_on : (own : Option lanes_fault.Fault) (lanes : Lanes) (desk : Desk) (clock : ℕ) (room : List ℕ) (o : AfterGrant) (room' : List ℕ) (past : List Event)
    → Night desk past → GrantsBy own lanes desk clock room o room'
    → Night o.desk (seen_if (told (grant_given o.answer o.count).refusal) (opened (grant_given o.answer o.count).address (granted lanes) clock) ∷ past)
grants_on (some f) lanes desk clock room o room' past n p =
    rw (p.0.0, p.0.2, grant_number_lem (Err f) o.count) (unseen n)
grants_on none lanes desk clock room o room' past n p =
    rw (p.2.0, p.2.2, grant_seen p.0.answer (granted lanes).job o.count (granted lanes) clock)
    (opens_on desk past n (granted lanes) _ clock room p.0 room' p.1)

steps_on : (done out : Bool) (scan : Scan) (desk : Desk) (clock : ℕ) (room : List ℕ) (o : AfterStep) (room' : List ℕ) (past : List Event) → Night desk past
    → StepsBy done out scan desk clock room o room'
    → Night o.desk (scan_seen (scan_given o.answer o.count).state (opened (scan_given o.answer o.count).address (scanning.request scan) clock) ∷ past)
steps_on true out scan desk clock room o room' past n p = rw (p.0.0, p.0.2) (unseen n)
steps_on false true scan desk clock room o room' past n p = rw (p.0.0, p.0.2) (unseen n)
steps_on false false scan desk clock room o room' past n p =
    rw (p.2.0, p.2.2, scan_seen_lem p.0.answer _ o.count (scanning.request scan) clock)
    (opens_on desk past n (scanning.request scan) [] clock room p.0 room' p.1)

pub goes_on : (desk : Desk) (past : List Event) → Night desk past → (c : Called) → Made desk c → Night (next c) (seen past c)
goes_on desk past n (opens asked bytes clock room r room') g =
    rw (g.2, open_seen g.0.answer g.0.count asked clock) (opens_on desk past n asked bytes clock room g.0 room' g.1)
goes_on desk past n (replies frame room r room') g =
    let a = replies_after desk frame room g.0 room' g.1 in
    rw (g.2, reply_seen g.0.answer frame, a.0, a.1) (step desk past n (brings frame room))
goes_on desk past n (cancels job address clock r) g =
    let a = cancels_after desk job address clock g.0 g.1 in
    rw (g.2, close_seen_lem g.0.answer clock, a.0, a.1) (step desk past n (desk_night.cancels job address clock))
goes_on desk past n (expires clock r) g =
    let a = expires_after desk clock g.0 g.1 in
    rw (g.2, close_seen_lem g.0.answer clock, a.0, a.1) (step desk past n (desk_night.expires clock))
goes_on desk past n (sweeps clock list r list') g =
    let a = call_as_single desk clock list g.0 list' g.1 in
    rw (g.2, a.2, a.3 past) (night_on _ desk past n)
goes_on desk past n (grants lanes clock room r room') g = rw g.2 (grants_on (grant_refusal lanes (length room)) lanes desk clock room g.0 room' past n g.1)
goes_on desk past n (sets pass filters tenths wait clock room r room') g =
    rw g.2 (asks_on (edge_refusal (box_meant filters) pass tenths) (box_meant filters) _ desk _ _ clock room g.0 room' past n g.1)
goes_on desk past n (attenuates filters permille wait clock room r room') g =
    rw g.2 (asks_on (attenuation_refusal permille) (box_meant filters) _ desk _ _ clock room g.0 room' past n g.1)
goes_on desk past n (monitors filters wait clock room r room') g =
    rw g.2 (asks_on none (box_meant filters) (λ a. box_meant filters) desk _ [] clock room g.0 room' past n g.1)
goes_on desk past n (looks filters wait clock room r room') g =
    rw g.2 (asks_on none (box_meant filters) (λ a. box_meant filters) desk _ [] clock room g.0 room' past n g.1)
goes_on desk past n (steps scan clock room r room') g =
    rw g.2 (steps_on (is_done scan) (is_out scan) scan desk clock room g.0 room' past n g.1)

pub goes_on_all : (calls : List Called) (desk : Desk) (past : List Event) → Night desk past → AllMade desk calls
    → Night (last_desk desk calls) (all_seen past calls)
unfolding AllMade last_desk all_seen
goes_on_all [] desk past n made = n
goes_on_all (c ∷ cs) desk past n made = goes_on_all cs (next c) (seen past c) (goes_on desk past n c made.0) made.1

-- from a fresh desk on, whatever is called
pub host_night : (calls : List Called) → AllMade fresh_desk calls → Night (last_desk fresh_desk calls) (all_seen [] calls)
unfolding after_all answered_all
host_night calls made = goes_on_all calls fresh_desk [] (any_night []) made

-- and with the desk that C is given
pub night_from : (desk : Desk) → GivesDesk desk → (calls : List Called) → AllMade desk calls → Night (last_desk desk calls) (all_seen [] calls)
unfolding after_all answered_all
night_from desk g calls made = goes_on_all calls desk [] (rw g (any_night [])) made

-- ---- what a night of a C host is, said out

pub no_calls : (desk : Desk) (past : List Event) → AllMade desk [] × (last_desk desk [] ≡ desk) × (all_seen past [] ≡ past)
unfolding AllMade last_desk all_seen
no_calls desk past = (tt, refl, refl)

-- after any calls one more, which may be any whose contract holds on the desk that is there
pub one_more : (calls : List Called) (desk : Desk) (past : List Event) (c : Called) → AllMade desk calls → Made (last_desk desk calls) c
    → AllMade desk (calls ++ (c ∷ [])) × (last_desk desk (calls ++ (c ∷ [])) ≡ next c) × (all_seen past (calls ++ (c ∷ [])) ≡ seen (all_seen past calls) c)
unfolding AllMade last_desk all_seen
one_more [] desk past c made m = ((m, tt), refl, refl)
one_more (d ∷ ds) desk past c made m =
    let rest = one_more ds (next d) (seen past d) c made.1 m in ((made.0, rest.0), rest.1, rest.2)

-- each call: its contract makes it, the desk that comes back is the one in its answer, and where it is not refused this is what was seen
module _ (desk : Desk) (past : List Event) (clock : ℕ) (room room' : List ℕ) where
  pub open_plays : (asked : Request) (bytes : List ℕ) (r : AfterDeskOpen) → GivesOpen desk asked bytes clock room r room' → r.answer.refusal ≡ 0
      → Made desk (opens asked bytes clock room r room')
      × (next (opens asked bytes clock room r room') ≡ r.desk)
      × (seen past (opens asked bytes clock room r room') ≡ opened r.answer.address asked clock ∷ past)
  open_plays asked bytes r g done = (g, refl, rw done)

  pub reply_plays : (frame : List ℕ) (r : AfterDeskReply) → GivesReply desk frame room r room' → r.answer.refusal ≡ 0
      → Made desk (replies frame room r room')
      × (next (replies frame room r room') ≡ r.desk)
      × (seen past (replies frame room r room')
      ≡ booked r.answer.job r.answer.address (fields_in frame).source r.answer.sort (fields_in frame).register r.answer.folder ∷ past)
  reply_plays frame r g done = (g, refl, rw done)

  pub cancel_plays : (job address : ℕ) (r : AfterDeskClose) → GivesCancel desk job address clock r → r.answer.refusal ≡ 0
      → Made desk (cancels job address clock r)
      × (next (cancels job address clock r) ≡ r.desk)
      × (seen past (cancels job address clock r) ≡ withdrawn r.answer.job r.answer.address r.answer.folder clock ∷ past)
  cancel_plays job address r g done = (g, refl, rw done)

  pub expire_plays : (r : AfterDeskClose) → GivesExpire desk clock r → r.answer.refusal ≡ 0
      → Made desk (expires clock r)
      × (next (expires clock r) ≡ r.desk)
      × (seen past (expires clock r) ≡ withdrawn r.answer.job r.answer.address r.answer.folder clock ∷ past)
  expire_plays r g done = (g, refl, rw done)

  pub sweep_plays : (r : AfterDeskSweep) → GivesSweep desk clock room r room'
      → Made desk (sweeps clock room r room')
      × (next (sweeps clock room r room') ≡ r.desk)
      × (seen past (sweeps clock room r room') ≡ entered (take (3 * r.count) room') clock past)
  sweep_plays r g = (g, refl, refl)

  pub grant_plays : (lanes : Lanes) (r : AfterLanesGrant) → GivesGrant lanes desk clock room r room' → r.answer.refusal ≡ 0
      → Made desk (grants lanes clock room r room')
      × (next (grants lanes clock room r room') ≡ r.desk)
      × (seen past (grants lanes clock room r room') ≡ opened r.answer.address (waiting_at (lane_at lanes (next_place lanes)) 0).asked clock ∷ past)
  grant_plays lanes r g done = (g, refl, rw done)

  pub edge_plays : (pass : Pass) (filters : HostBox) (tenths wait : ℕ) (r : AfterBoxAsk) → GivesEdge pass filters desk tenths wait clock room r room'
      → r.answer.refusal ≡ 0
      → Made desk (sets pass filters tenths wait clock room r room')
      × (next (sets pass filters tenths wait clock room r room') ≡ r.desk)
      × (seen past (sets pass filters tenths wait clock room r room')
      ≡ opened r.answer.address
      (record { job = filters.job; unit = filters.unit; sort = 5; register = edge_register pass; wait = wait; folder = 0 }) clock ∷ past)
  edge_plays pass filters tenths wait r g done = (g, refl, rw done)

  pub attenuation_plays : (filters : HostBox) (permille wait : ℕ) (r : AfterBoxAsk) → GivesAttenuation filters desk permille wait clock room r room'
      → r.answer.refusal ≡ 0
      → Made desk (attenuates filters permille wait clock room r room')
      × (next (attenuates filters permille wait clock room r room') ≡ r.desk)
      × (seen past (attenuates filters permille wait clock room r room')
      ≡ opened r.answer.address (record { job = filters.job; unit = filters.unit; sort = 5; register = 50; wait = wait; folder = 0 }) clock ∷ past)
  attenuation_plays filters permille wait r g done = (g, refl, rw done)

  pub monitor_plays : (filters : HostBox) (wait : ℕ) (r : AfterBoxAsk) → GivesMonitor filters desk wait clock room r room' → r.answer.refusal ≡ 0
      → Made desk (monitors filters wait clock room r room')
      × (next (monitors filters wait clock room r room') ≡ r.desk)
      × (seen past (monitors filters wait clock room r room')
      ≡ opened r.answer.address (record { job = filters.job; unit = filters.unit; sort = 4; register = 19; wait = wait; folder = 0 }) clock ∷ past)
  monitor_plays filters wait r g done = (g, refl, rw done)

  pub status_plays : (filters : HostBox) (wait : ℕ) (r : AfterBoxAsk) → GivesStatus filters desk wait clock room r room' → r.answer.refusal ≡ 0
      → Made desk (looks filters wait clock room r room')
      × (next (looks filters wait clock room r room') ≡ r.desk)
      × (seen past (looks filters wait clock room r room')
      ≡ opened r.answer.address (record { job = filters.job; unit = filters.unit; sort = 4; register = 102; wait = wait; folder = 0 }) clock ∷ past)
  status_plays filters wait r g done = (g, refl, rw done)

  pub scan_plays : (scan : Scan) (r : AfterScanStep) → GivesScanStep scan desk clock room r room' → r.answer.state ≡ 1
      → Made desk (steps scan clock room r room')
      × (next (steps scan clock room r room') ≡ r.desk)
      × (seen past (steps scan clock room r room')
      ≡ opened r.answer.address
      (record { job = scan.job; unit = scan.turns + 1; sort = 4; register = 97; wait = 100; folder = 0 }) clock ∷ past)
  scan_plays scan r g asked = (g, refl, rw asked)

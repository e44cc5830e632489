-- A night of a C host: any calls of the archive on one desk, in any order, each on the desk that the call before it gave back, and what the
-- host saw, by the numbers that C is told.
-- Assumes nothing.
use Rattle.std.specs.Prelude.{cond, List, [], ◌∷◌, ℕ, ◌*◌, eqb, take}
use Rattle.std.proofs.Math.Option.{Option, some, none}
use Rattle.desk.specs.declared.Desk.{Desk}
use Rattle.lanes.specs.Grant.{next_place}
use Rattle.lanes.specs.Lanes.{lane_at, waiting_at}
use Rattle.lanes.specs.declared.Lanes.{Lanes}
use Rattle.nights.specs.Night.{Event, opened, booked, withdrawn, nothing}
use Rattle.overdue.specs.Overdue.{told as entered}
use Rattle.request.specs.declared.Request.{Request}
use Rattle.scan.specs.declared.Scan.{Scan}
use Rattle.telegram.specs.Read.{fields_in}
use Rattle.varia.specs.Box.{edge_register, attenuation_register, monitor_register, status_register}
use Rattle.varia.specs.declared.Pass.{Pass}
use Rattle.kamzhor.specs.Desk.{GivesOpen, GivesReply, GivesCancel, GivesExpire, GivesSweep}
use Rattle.kamzhor.specs.Filters.{GivesEdge, GivesAttenuation, GivesMonitor, GivesStatus, box_meant}
use Rattle.kamzhor.specs.Host.{told}
use Rattle.kamzhor.specs.Lanes.{GivesGrant}
use Rattle.kamzhor.specs.Scan.{GivesScanStep}
use Rattle.kamzhor.specs.declared.host_box.AfterBoxAsk.{AfterBoxAsk}
use Rattle.kamzhor.specs.declared.host_box.HostBox.{HostBox}
use Rattle.kamzhor.specs.declared.host_desk.AfterDeskClose.{AfterDeskClose}
use Rattle.kamzhor.specs.declared.host_desk.AfterDeskOpen.{AfterDeskOpen}
use Rattle.kamzhor.specs.declared.host_desk.AfterDeskReply.{AfterDeskReply}
use Rattle.kamzhor.specs.declared.host_desk.AfterDeskSweep.{AfterDeskSweep}
use Rattle.kamzhor.specs.declared.host_desk.CloseAnswer.{CloseAnswer}
use Rattle.kamzhor.specs.declared.host_lanes.AfterLanesGrant.{AfterLanesGrant}
use Rattle.kamzhor.specs.declared.host_scan.AfterScanStep.{AfterScanStep}
use Rattle.varia.specs.Box as box
use Rattle.scan.specs.Scan as scanning

-- a call, with what it was given and what came back
pub data Called : Type 0 where
  opens : (asked : Request) (bytes : List ℕ) (clock : ℕ) (room : List ℕ) (r : AfterDeskOpen) (room' : List ℕ) → Called
  replies : (frame room : List ℕ) (r : AfterDeskReply) (room' : List ℕ) → Called
  cancels : (job address clock : ℕ) (r : AfterDeskClose) → Called
  expires : (clock : ℕ) (r : AfterDeskClose) → Called
  sweeps : (clock : ℕ) (list : List ℕ) (r : AfterDeskSweep) (list' : List ℕ) → Called
  grants : (lanes : Lanes) (clock : ℕ) (room : List ℕ) (r : AfterLanesGrant) (room' : List ℕ) → Called
  sets : (pass : Pass) (filters : HostBox) (tenths wait clock : ℕ) (room : List ℕ) (r : AfterBoxAsk) (room' : List ℕ) → Called
  attenuates : (filters : HostBox) (permille wait clock : ℕ) (room : List ℕ) (r : AfterBoxAsk) (room' : List ℕ) → Called
  monitors : (filters : HostBox) (wait clock : ℕ) (room : List ℕ) (r : AfterBoxAsk) (room' : List ℕ) → Called
  looks : (filters : HostBox) (wait clock : ℕ) (room : List ℕ) (r : AfterBoxAsk) (room' : List ℕ) → Called
  steps : (scan : Scan) (clock : ℕ) (room : List ℕ) (r : AfterScanStep) (room' : List ℕ) → Called

-- it was made on that desk: its contract holds
abbrev pub Made : Desk → Called → Type 0
Made desk (opens asked bytes clock room r room') = GivesOpen desk asked bytes clock room r room'
Made desk (replies frame room r room') = GivesReply desk frame room r room'
Made desk (cancels job address clock r) = GivesCancel desk job address clock r
Made desk (expires clock r) = GivesExpire desk clock r
Made desk (sweeps clock list r list') = GivesSweep desk clock list r list'
Made desk (grants lanes clock room r room') = GivesGrant lanes desk clock room r room'
Made desk (sets pass filters tenths wait clock room r room') = GivesEdge pass filters desk tenths wait clock room r room'
Made desk (attenuates filters permille wait clock room r room') = GivesAttenuation filters desk permille wait clock room r room'
Made desk (monitors filters wait clock room r room') = GivesMonitor filters desk wait clock room r room'
Made desk (looks filters wait clock room r room') = GivesStatus filters desk wait clock room r room'
Made desk (steps scan clock room r room') = GivesScanStep scan desk clock room r room'

-- the desk that came back
abbrev pub next : Called → Desk
next (opens asked bytes clock room r room') = r.desk
next (replies frame room r room') = r.desk
next (cancels job address clock r) = r.desk
next (expires clock r) = r.desk
next (sweeps clock list r list') = r.desk
next (grants lanes clock room r room') = r.desk
next (sets pass filters tenths wait clock room r room') = r.desk
next (attenuates filters permille wait clock room r room') = r.desk
next (monitors filters wait clock room r room') = r.desk
next (looks filters wait clock room r room') = r.desk
next (steps scan clock room r room') = r.desk

-- ---- what the host saw: where the number is 0 what was answered, else nothing

abbrev pub seen_if : Option ℕ → Event → Event
seen_if none event = event
seen_if (some n) event = nothing

abbrev pub close_seen : CloseAnswer → ℕ → Event
close_seen a clock = seen_if (told a.refusal) (withdrawn a.job a.address a.folder clock)

-- the request that a grant opens: the oldest of the lane whose turn it is
abbrev pub granted : Lanes → Request
granted lanes = (waiting_at (lane_at lanes (next_place lanes)) 0).asked

-- a scan opens a ticket where it says 1
abbrev pub scan_seen : ℕ → Event → Event
scan_seen state event = cond (eqb state 1) event nothing

abbrev pub seen : List Event → Called → List Event
seen past (opens asked bytes clock room r room') = seen_if (told r.answer.refusal) (opened r.answer.address asked clock) ∷ past
seen past (replies frame room r room') =
    seen_if (told r.answer.refusal)
    (booked r.answer.job r.answer.address (fields_in frame).source r.answer.sort (fields_in frame).register r.answer.folder) ∷ past
seen past (cancels job address clock r) = close_seen r.answer clock ∷ past
seen past (expires clock r) = close_seen r.answer clock ∷ past
seen past (sweeps clock list r list') = entered (take (3 * r.count) list') clock past
seen past (grants lanes clock room r room') = seen_if (told r.answer.refusal) (opened r.answer.address (granted lanes) clock) ∷ past
seen past (sets pass filters tenths wait clock room r room') =
    seen_if (told r.answer.refusal) (opened r.answer.address (box.request (box_meant filters) 5 (edge_register pass) wait) clock) ∷ past
seen past (attenuates filters permille wait clock room r room') =
    seen_if (told r.answer.refusal) (opened r.answer.address (box.request (box_meant filters) 5 attenuation_register wait) clock) ∷ past
seen past (monitors filters wait clock room r room') =
    seen_if (told r.answer.refusal) (opened r.answer.address (box.request (box_meant filters) 4 monitor_register wait) clock) ∷ past
seen past (looks filters wait clock room r room') =
    seen_if (told r.answer.refusal) (opened r.answer.address (box.request (box_meant filters) 4 status_register wait) clock) ∷ past
seen past (steps scan clock room r room') = scan_seen r.answer.state (opened r.answer.address (scanning.request scan) clock) ∷ past

-- ---- any calls, one after the other

unfoldable pub AllMade : Desk → List Called → Type 0
AllMade desk [] = Unit {0}
AllMade desk (c ∷ cs) = Made desk c × AllMade (next c) cs

unfoldable pub last_desk : Desk → List Called → Desk
last_desk desk [] = desk
last_desk desk (c ∷ cs) = last_desk (next c) cs

unfoldable pub all_seen : List Event → List Called → List Event
all_seen past [] = past
all_seen past (c ∷ cs) = all_seen (seen past c) cs

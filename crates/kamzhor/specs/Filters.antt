-- What the C host is answered by a filter box, and the box as C keeps it: numbers only. Any numbers are a box.
-- Assumes nothing.
use Rattle.std.specs.Prelude.{◌≡◌, cond, List, ℕ, eqb, Ok, Err, Some, None}
use Rattle.desk.specs.declared.Desk.{Desk}
use Rattle.varia.specs.Ask.{SetsEdge, Attenuates, ReadsMonitor, ReadsStatus}
use Rattle.varia.specs.Box.{fresh_box, fault_number, HearsReply, HearsClosing}
use Rattle.varia.specs.Display.{is_moving, which_of}
use Rattle.varia.specs.declared.AfterAsk.{AfterAsk}
use Rattle.varia.specs.Answers.{Asking, Edge, sent}
use Rattle.varia.specs.declared.FilterBox.{FilterBox}
use Rattle.varia.specs.Answers.{Out}
use Rattle.varia.specs.declared.Pass.{Pass}
use Rattle.varia.specs.declared.Pass.TheVariants.{Short, Long}
use Rattle.kamzhor.specs.Desk.{open_number, booking_meant, closing_meant}
use Rattle.kamzhor.specs.Told.{Told}
use Rattle.kamzhor.specs.Values.{yes_told}
use Rattle.kamzhor.specs.declared.host_box.AfterBoxAsk.{AfterBoxAsk}
use Rattle.kamzhor.specs.declared.host_box.HostBox.{HostBox}
use Rattle.kamzhor.specs.declared.host_box.HostEdge.{HostEdge}
use Rattle.kamzhor.specs.declared.host_box.HostOut.{HostOut}
use Rattle.kamzhor.specs.declared.host_desk.CloseAnswer.{CloseAnswer}
use Rattle.kamzhor.specs.declared.host_desk.OpenAnswer.{OpenAnswer}
use Rattle.kamzhor.specs.declared.host_desk.ReplyAnswer.{ReplyAnswer}

-- ---- the box that numbers mean

-- an edge is unknown where 0 says so
abbrev pub edge_meant : HostEdge → Edge
edge_meant e = cond (eqb e.known 0) None (Some e.tenths)

-- what is out: 1 is the short-pass edge, 2 the long-pass edge, all else nothing
abbrev pub out_meant : HostOut → Out
out_meant o =
    cond (eqb o.edge 1) (sent o.address Short o.tenths) (cond (eqb o.edge 2) (sent o.address Long o.tenths) None)

abbrev pub box_meant : HostBox → FilterBox
box_meant b = record { job = b.job; unit = b.unit; short = edge_meant b.short; long = edge_meant b.long; out = out_meant b.out }

-- ---- the numbers of a box

abbrev pub edge_told : Edge → HostEdge
edge_told None = record { known = 0; tenths = 0 }
edge_told (Some tenths) = record { known = 1; tenths = tenths }

abbrev pub pass_told : Pass → ℕ
pass_told Short = 1
pass_told Long = 2

abbrev pub out_told : Out → HostOut
out_told None = record { edge = 0; address = 0; tenths = 0 }
out_told (Some was) = record { edge = pass_told was.pass; address = was.address; tenths = was.tenths }

abbrev pub box_told : FilterBox → HostBox
box_told b = record { job = b.job; unit = b.unit; short = edge_told b.short; long = edge_told b.long; out = out_told b.out }

-- ---- a request of the box's: a number, and by 02, #108, the count of addresses

abbrev pub ask_given : Asking → ℕ → OpenAnswer
ask_given (Err f) considered = open_number (fault_number f) considered
ask_given (Ok opened) considered = record { refusal = 0; address = opened.address; considered = considered; size = opened.size }

abbrev pub ask_told : AfterAsk → AfterBoxAsk
ask_told o = record { filters = box_told o.filters; desk = o.desk; answer = ask_given o.answer o.count }

-- ---- the contracts

-- `kamzhor_box_fresh`
abbrev pub GivesBox : ℕ → ℕ → HostBox → Type 0
GivesBox job unit r = r ≡ box_told (fresh_box job unit)

-- `kamzhor_after_box_set_short`, `kamzhor_after_box_set_long`
abbrev pub GivesEdge : Pass → HostBox → Desk → ℕ → ℕ → ℕ → List ℕ → AfterBoxAsk → List ℕ → Type 0
GivesEdge pass filters desk tenths wait clock room r room' =
    Told (λ o. SetsEdge pass (box_meant filters) desk tenths wait clock room o room') ask_told r

-- `kamzhor_after_box_attenuate`
abbrev pub GivesAttenuation : HostBox → Desk → ℕ → ℕ → ℕ → List ℕ → AfterBoxAsk → List ℕ → Type 0
GivesAttenuation filters desk permille wait clock room r room' =
    Told (λ o. Attenuates (box_meant filters) desk permille wait clock room o room') ask_told r

-- `kamzhor_after_box_read_monitor`
abbrev pub GivesMonitor : HostBox → Desk → ℕ → ℕ → List ℕ → AfterBoxAsk → List ℕ → Type 0
GivesMonitor filters desk wait clock room r room' = Told (λ o. ReadsMonitor (box_meant filters) desk wait clock room o room') ask_told r

-- `kamzhor_after_box_read_status`
abbrev pub GivesStatus : HostBox → Desk → ℕ → ℕ → List ℕ → AfterBoxAsk → List ℕ → Type 0
GivesStatus filters desk wait clock room r room' = Told (λ o. ReadsStatus (box_meant filters) desk wait clock room o room') ask_told r

-- `kamzhor_after_box_reply`
abbrev pub GivesBoxReply : HostBox → ReplyAnswer → HostBox → Type 0
GivesBoxReply filters answer r = Told (HearsReply (box_meant filters) (booking_meant answer)) box_told r

-- `kamzhor_after_box_close`
abbrev pub GivesBoxClose : HostBox → CloseAnswer → HostBox → Type 0
GivesBoxClose filters answer r = Told (HearsClosing (box_meant filters) (closing_meant answer)) box_told r

-- `kamzhor_box_moving`
abbrev pub GivesMoving : ℕ → ℕ → Type 0
GivesMoving status r = r ≡ yes_told (is_moving status)

-- `kamzhor_which_to_display`: 1 the fresh one's two bytes, 2 the kept one's, or 64
abbrev pub GivesWhich : List ℕ → List ℕ → ℕ → Type 0
GivesWhich fresh kept r = r ≡ which_of fresh kept

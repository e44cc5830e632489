-- "Thin over the proved functions": what a call of the C host gives is what the call below gives for the same arguments, told in numbers, and so
-- is the lent buffer.
-- Assumes nothing.
use mathlib.Core.Path.{◌≡◌, sym, ap, ◌∙◌}
use mathlib.Core.List.{List}
use Prim.Native.Nat.{ℕ}
use Rattle.bench.specs.Answers.{Seen}
use Rattle.bench.specs.Take.{Takes}
use Rattle.bench.specs.declared.Bench.{Bench}
use Rattle.desk.specs.Open.{Opens}
use Rattle.desk.specs.Reply.{Replies}
use Rattle.desk.specs.declared.Desk.{Desk}
use Rattle.lanes.specs.Grant.{Grants}
use Rattle.lanes.specs.declared.Lanes.{Lanes}
use Rattle.overdue.specs.Overdue.{ExpiresAll}
use Rattle.request.specs.declared.Request.{Request}
use Rattle.scan.specs.Scan.{Steps}
use Rattle.scan.specs.declared.Scan.{Scan}
use Rattle.setting.specs.declared.Head.{Head}
use Rattle.sheet_editor.specs.Editor.{Removes, RemovesModule, Adds}
use Rattle.sheet_writer.specs.Answers.{Writing as SheetWriting}
use Rattle.telegram.specs.Answers.{Writing as FrameWriting}
use Rattle.values.specs.Answers.{Writing as ValueWriting}
use Rattle.varia.specs.Ask.{SetsEdge, Attenuates, ReadsMonitor, ReadsStatus}
use Rattle.varia.specs.declared.Pass.{Pass}
use Rattle.kamzhor.specs.Bench.{GivesBench, GivesAdd, GivesSet, GivesTake, GivesRegister}
use Rattle.kamzhor.specs.Bench.{build_told, take_told, register_given}
use Rattle.kamzhor.specs.Desk.{GivesDesk, GivesOpen, GivesReply, GivesCancel, GivesExpire, GivesSweep, GivesSeen}
use Rattle.kamzhor.specs.Desk.{open_told, reply_told, close_told, sweep_told, seen_given, booking_meant, closing_meant}
use Rattle.kamzhor.specs.Filters.{GivesBox, GivesEdge, GivesAttenuation, GivesMonitor, GivesStatus, GivesBoxReply, GivesBoxClose, GivesMoving, GivesWhich}
use Rattle.kamzhor.specs.Filters.{box_meant, box_told, ask_told}
use Rattle.kamzhor.specs.Lanes.{GivesLanes, GivesJoin, GivesGrant, GivesWithdraw}
use Rattle.kamzhor.specs.Lanes.{join_told, grant_told, withdraw_told}
use Rattle.kamzhor.specs.Scan.{GivesScan, GivesScanStep, GivesScanReply, GivesScanClose, GivesFound}
use Rattle.kamzhor.specs.Scan.{scan_told, found_given}
use Rattle.kamzhor.specs.Sheet.{GivesSheet, GivesCheck, GivesRecord, GivesRemoved, GivesModuleRemoved, GivesAdded}
use Rattle.kamzhor.specs.Sheet.{sheet_given, check_given, record_given, edit_given}
use Rattle.kamzhor.specs.Values.{GivesWritten, GivesStored, GivesEntry}
use Rattle.kamzhor.specs.Values.{written_given, value_meant, stored_given, entry_given}
use Rattle.kamzhor.specs.declared.host_bench.AfterBenchTake.{AfterBenchTake}
use Rattle.kamzhor.specs.declared.host_box.AfterBoxAsk.{AfterBoxAsk}
use Rattle.kamzhor.specs.declared.host_box.HostBox.{HostBox}
use Rattle.kamzhor.specs.declared.host_desk.AfterDeskOpen.{AfterDeskOpen}
use Rattle.kamzhor.specs.declared.host_desk.AfterDeskReply.{AfterDeskReply}
use Rattle.kamzhor.specs.declared.host_desk.AfterDeskSweep.{AfterDeskSweep}
use Rattle.kamzhor.specs.declared.host_desk.CloseAnswer.{CloseAnswer}
use Rattle.kamzhor.specs.declared.host_desk.ReplyAnswer.{ReplyAnswer}
use Rattle.kamzhor.specs.declared.host_lanes.AfterLanesGrant.{AfterLanesGrant}
use Rattle.kamzhor.specs.declared.host_scan.AfterScanStep.{AfterScanStep}
use Rattle.kamzhor.specs.declared.host_sheet.RecordAnswer.{RecordAnswer}
use Rattle.kamzhor.specs.declared.host_values.SizeAnswer.{SizeAnswer}
use Rattle.hosts.proofs.Told.{as_called, as_called_with}
use Rattle.bench.proofs.Laws as bench_laws
use Rattle.catalogue.proofs.Laws as catalogue_laws
use Rattle.desk.proofs.Laws as desk_laws
use Rattle.lanes.proofs.Laws as lanes_laws
use Rattle.overdue.proofs.Laws as overdue_laws
use Rattle.scan.proofs.Laws as scan_laws
use Rattle.sheet.proofs.Laws as sheet_laws
use Rattle.sheet.specs.Sheet as sheets
use Rattle.sheet_editor.proofs.Laws as editor_laws
use Rattle.sheet_writer.proofs.Laws as writer_laws
use Rattle.sheet_writer.specs.Writer as writing
use Rattle.telegram.proofs.Laws as telegram_laws
use Rattle.telegram.specs.Write as telegrams
use Rattle.values.proofs.Laws as values_laws
use Rattle.values.specs.Values as value
use Rattle.varia.proofs.Laws as varia_laws
use mathlib.Core.Bool.{Bool}
use Rattle.bench.specs.Build.{Makes}
use Rattle.bench.specs.declared.AfterBuild.{AfterBuild}
use Rattle.bench.specs.declared.AfterTake.{AfterTake}
use Rattle.catalogue.specs.Answers.{Found}
use Rattle.catalogue.specs.Catalogue.{Finds}
use Rattle.desk.specs.Close.{Cancels, Expires}
use Rattle.desk.specs.declared.AfterClose.{AfterClose}
use Rattle.desk.specs.declared.AfterOpen.{AfterOpen}
use Rattle.desk.specs.declared.AfterReply.{AfterReply}
use Rattle.lanes.specs.Join.{Joins}
use Rattle.lanes.specs.Withdraw.{Withdraws}
use Rattle.lanes.specs.declared.AfterGrant.{AfterGrant}
use Rattle.lanes.specs.declared.AfterJoin.{AfterJoin}
use Rattle.lanes.specs.declared.AfterWithdraw.{AfterWithdraw}
use Rattle.overdue.specs.declared.Swept.{Swept}
use Rattle.scan.specs.declared.AfterStep.{AfterStep}
use Rattle.sheet.specs.Answers.{Checked, Reading}
use Rattle.sheet_editor.specs.Answers.{Editing}
use Rattle.varia.specs.Display.{TellsMoving, Displays}
use Rattle.varia.specs.declared.AfterAsk.{AfterAsk}
use Rattle.varia.specs.declared.FilterBox.{FilterBox}
use Rattle.kamzhor.specs.Values.{yes_told}
use Rattle.kamzhor.specs.declared.host_bench.AfterBenchBuild.{AfterBenchBuild}
use Rattle.kamzhor.specs.declared.host_bench.RegisterAnswer.{RegisterAnswer}
use Rattle.kamzhor.specs.declared.host_desk.AfterDeskClose.{AfterDeskClose}
use Rattle.kamzhor.specs.declared.host_desk.SeenAnswer.{SeenAnswer}
use Rattle.kamzhor.specs.declared.host_lanes.AfterLanesJoin.{AfterLanesJoin}
use Rattle.kamzhor.specs.declared.host_lanes.AfterLanesWithdraw.{AfterLanesWithdraw}
use Rattle.kamzhor.specs.declared.host_sheet.CheckAnswer.{CheckAnswer}
use Rattle.kamzhor.specs.declared.host_values.EntryAnswer.{EntryAnswer}
use Rattle.bench.specs.Build as building
use Rattle.bench.specs.Register as benches
use Rattle.desk.specs.Desk as desks
use Rattle.desk.specs.declared.Seen as desk_seen
use Rattle.lanes.specs.Lanes as in_lanes
use Rattle.scan.specs.Scan as scans
use Rattle.scan.specs.declared.Found as scan_found
use Rattle.varia.specs.Box as boxes

-- ---- writing

pub written_as_called : (destination source sort register : ℕ) (bytes room : List ℕ) (o : FrameWriting) (r : SizeAnswer) (x y : List ℕ)
    → telegrams.Writes destination source sort register bytes room o x
    → GivesWritten destination source sort register bytes room r y → (r ≡ written_given o) × (y ≡ x)
written_as_called destination source sort register bytes room =
    as_called_with (telegrams.Writes destination source sort register bytes room) written_given
    (telegram_laws.writes_settled destination source sort register bytes room)

pub stored_as_called : (kind negative magnitude : ℕ) (room : List ℕ) (o : ValueWriting) (r : ℕ) (x y : List ℕ)
    → value.Writes kind (value_meant negative magnitude) room o x → GivesStored kind negative magnitude room r y → (r ≡ stored_given o) × (y ≡ x)
stored_as_called kind negative magnitude room =
    as_called_with (value.Writes kind (value_meant negative magnitude) room) stored_given
    (values_laws.writes_settled kind (value_meant negative magnitude) room)

pub entry_as_called : (model register : ℕ) (o : Found) (r : EntryAnswer)
    → Finds model register o → GivesEntry model register r → r ≡ entry_given o
entry_as_called model register = as_called (Finds model register) entry_given (catalogue_laws.finds_settled model register)

-- ---- the desk

pub open_as_called : (desk : Desk) (asked : Request) (bytes : List ℕ) (clock : ℕ) (room : List ℕ) (o : AfterOpen) (r : AfterDeskOpen) (x y : List ℕ)
    → Opens desk asked bytes clock room o x → GivesOpen desk asked bytes clock room r y → (r ≡ open_told o) × (y ≡ x)
open_as_called desk asked bytes clock room =
    as_called_with (Opens desk asked bytes clock room) open_told (desk_laws.opens_settled desk asked bytes clock room)

pub reply_as_called : (desk : Desk) (frame room : List ℕ) (o : AfterReply) (r : AfterDeskReply) (x y : List ℕ)
    → Replies desk frame room o x → GivesReply desk frame room r y → (r ≡ reply_told o) × (y ≡ x)
reply_as_called desk frame room = as_called_with (Replies desk frame room) reply_told (desk_laws.replies_settled desk frame room)

pub cancel_as_called : (desk : Desk) (job address clock : ℕ) (o : AfterClose) (r : AfterDeskClose)
    → Cancels desk job address clock o → GivesCancel desk job address clock r → r ≡ close_told o
cancel_as_called desk job address clock = as_called (Cancels desk job address clock) close_told (desk_laws.cancels_settled desk job address clock)

pub expire_as_called : (desk : Desk) (clock : ℕ) (o : AfterClose) (r : AfterDeskClose)
    → Expires desk clock o → GivesExpire desk clock r → r ≡ close_told o
expire_as_called desk clock = as_called (Expires desk clock) close_told (desk_laws.expires_settled desk clock)

pub sweep_as_called : (desk : Desk) (clock : ℕ) (list : List ℕ) (o : Swept) (r : AfterDeskSweep) (x y : List ℕ)
    → ExpiresAll desk clock list o x → GivesSweep desk clock list r y → (r ≡ sweep_told o) × (y ≡ x)
sweep_as_called desk clock list = as_called_with (ExpiresAll desk clock list) sweep_told (overdue_laws.expires_all_settled desk clock list)

pub look_as_called : (desk : Desk) (address : ℕ) (o : desk_seen.Seen) (r : SeenAnswer)
    → desks.Looks desk address o → GivesSeen desk address r → r ≡ seen_given o
look_as_called desk address = as_called (desks.Looks desk address) seen_given (desk_laws.looks_settled desk address)

-- ---- the lanes

pub join_as_called : (lanes : Lanes) (asked : Request) (bytes : List ℕ) (o : AfterJoin) (r : AfterLanesJoin)
    → Joins lanes asked bytes o → GivesJoin lanes asked bytes r → r ≡ join_told o
join_as_called lanes asked bytes = as_called (Joins lanes asked bytes) join_told (lanes_laws.joins_settled lanes asked bytes)

pub grant_as_called : (lanes : Lanes) (desk : Desk) (clock : ℕ) (room : List ℕ) (o : AfterGrant) (r : AfterLanesGrant) (x y : List ℕ)
    → Grants lanes desk clock room o x → GivesGrant lanes desk clock room r y → (r ≡ grant_told o) × (y ≡ x)
grant_as_called lanes desk clock room = as_called_with (Grants lanes desk clock room) grant_told (lanes_laws.grants_settled lanes desk clock room)

pub withdraw_as_called : (lanes : Lanes) (job at : ℕ) (o : AfterWithdraw) (r : AfterLanesWithdraw)
    → Withdraws lanes job at o → GivesWithdraw lanes job at r → r ≡ withdraw_told o
withdraw_as_called lanes job at = as_called (Withdraws lanes job at) withdraw_told (lanes_laws.withdraws_settled lanes job at)

-- ---- the box

pub edge_as_called : (pass : Pass) (filters : HostBox) (desk : Desk) (tenths wait clock : ℕ) (room : List ℕ) (o : AfterAsk) (r : AfterBoxAsk) (x y : List ℕ)
    → SetsEdge pass (box_meant filters) desk tenths wait clock room o x
    → GivesEdge pass filters desk tenths wait clock room r y → (r ≡ ask_told o) × (y ≡ x)
edge_as_called pass filters desk tenths wait clock room =
    as_called_with (SetsEdge pass (box_meant filters) desk tenths wait clock room) ask_told
    (varia_laws.sets_settled pass (box_meant filters) desk tenths wait clock room)

pub attenuation_as_called : (filters : HostBox) (desk : Desk) (permille wait clock : ℕ) (room : List ℕ) (o : AfterAsk) (r : AfterBoxAsk) (x y : List ℕ)
    → Attenuates (box_meant filters) desk permille wait clock room o x
    → GivesAttenuation filters desk permille wait clock room r y → (r ≡ ask_told o) × (y ≡ x)
attenuation_as_called filters desk permille wait clock room =
    as_called_with (Attenuates (box_meant filters) desk permille wait clock room) ask_told
    (varia_laws.attenuates_settled (box_meant filters) desk permille wait clock room)

pub monitor_as_called : (filters : HostBox) (desk : Desk) (wait clock : ℕ) (room : List ℕ) (o : AfterAsk) (r : AfterBoxAsk) (x y : List ℕ)
    → ReadsMonitor (box_meant filters) desk wait clock room o x → GivesMonitor filters desk wait clock room r y → (r ≡ ask_told o) × (y ≡ x)
monitor_as_called filters desk wait clock room =
    as_called_with (ReadsMonitor (box_meant filters) desk wait clock room) ask_told
    (varia_laws.reads_monitor_settled (box_meant filters) desk wait clock room)

pub status_as_called : (filters : HostBox) (desk : Desk) (wait clock : ℕ) (room : List ℕ) (o : AfterAsk) (r : AfterBoxAsk) (x y : List ℕ)
    → ReadsStatus (box_meant filters) desk wait clock room o x → GivesStatus filters desk wait clock room r y → (r ≡ ask_told o) × (y ≡ x)
status_as_called filters desk wait clock room =
    as_called_with (ReadsStatus (box_meant filters) desk wait clock room) ask_told
    (varia_laws.reads_status_settled (box_meant filters) desk wait clock room)

pub box_reply_as_called : (filters : HostBox) (answer : ReplyAnswer) (o : FilterBox) (r : HostBox)
    → boxes.HearsReply (box_meant filters) (booking_meant answer) o → GivesBoxReply filters answer r → r ≡ box_told o
box_reply_as_called filters answer =
    as_called (boxes.HearsReply (box_meant filters) (booking_meant answer)) box_told
    (varia_laws.hears_reply_settled (box_meant filters) (booking_meant answer))

pub box_close_as_called : (filters : HostBox) (answer : CloseAnswer) (o : FilterBox) (r : HostBox)
    → boxes.HearsClosing (box_meant filters) (closing_meant answer) o → GivesBoxClose filters answer r → r ≡ box_told o
box_close_as_called filters answer =
    as_called (boxes.HearsClosing (box_meant filters) (closing_meant answer)) box_told
    (varia_laws.hears_closing_settled (box_meant filters) (closing_meant answer))

-- ---- the scan

pub scan_step_as_called : (scan : Scan) (desk : Desk) (clock : ℕ) (room : List ℕ) (o : AfterStep) (r : AfterScanStep) (x y : List ℕ)
    → Steps scan desk clock room o x → GivesScanStep scan desk clock room r y → (r ≡ scan_told o) × (y ≡ x)
scan_step_as_called scan desk clock room = as_called_with (Steps scan desk clock room) scan_told (scan_laws.steps_settled scan desk clock room)

pub found_as_called : (scan : Scan) (unit : ℕ) (o : scan_found.Found) (r : ℕ) → scans.Looks scan unit o → GivesFound scan unit r → r ≡ found_given o
found_as_called scan unit = as_called (scans.Looks scan unit) found_given (scan_laws.looks_settled scan unit)

-- ---- the bench

pub make_as_called : (address : ℕ) (o : AfterBuild) (r : AfterBenchBuild) → Makes address o → GivesBench address r → r ≡ build_told o
make_as_called address = as_called (Makes address) build_told (bench_laws.makes_settled address)

pub add_as_called : (bench : Bench) (number kind rights : ℕ) (o : AfterBuild) (r : AfterBenchBuild)
    → building.Adds bench number kind rights o → GivesAdd bench number kind rights r → r ≡ build_told o
add_as_called bench number kind rights =
    as_called (building.Adds bench number kind rights) build_told (bench_laws.adds_settled bench number kind rights)

pub set_as_called : (bench : Bench) (number negative magnitude : ℕ) (o : AfterBuild) (r : AfterBenchBuild)
    → building.Sets bench number (value_meant negative magnitude) o → GivesSet bench number negative magnitude r → r ≡ build_told o
set_as_called bench number negative magnitude =
    as_called (building.Sets bench number (value_meant negative magnitude)) build_told
    (bench_laws.sets_settled bench number (value_meant negative magnitude))

pub take_as_called : (bench : Bench) (frame room : List ℕ) (o : AfterTake) (r : AfterBenchTake) (x y : List ℕ)
    → Takes bench frame room o x → GivesTake bench frame room r y → (r ≡ take_told o) × (y ≡ x)
take_as_called bench frame room = as_called_with (Takes bench frame room) take_told (bench_laws.takes_settled bench frame room)

pub register_as_called : (bench : Bench) (number : ℕ) (o : Seen) (r : RegisterAnswer)
    → benches.Looks bench number o → GivesRegister bench number r → r ≡ register_given o
register_as_called bench number = as_called (benches.Looks bench number) register_given (bench_laws.looks_settled bench number)

-- ---- sheets

pub sheet_as_called : (rows values room : List ℕ) (o : SheetWriting) (r : SizeAnswer) (x y : List ℕ)
    → writing.Writes rows values room o x → GivesSheet rows values room r y → (r ≡ sheet_given o) × (y ≡ x)
sheet_as_called rows values room = as_called_with (writing.Writes rows values room) sheet_given (writer_laws.writes_settled rows values room)

pub check_as_called : (sheet : List ℕ) (o : Checked) (r : CheckAnswer) → sheets.Checks sheet o → GivesCheck sheet r → r ≡ check_given o
check_as_called sheet = as_called (sheets.Checks sheet) check_given (sheet_laws.checks_settled sheet)

pub record_as_called : (sheet : List ℕ) (index : ℕ) (room : List ℕ) (o : Reading) (r : RecordAnswer) (x y : List ℕ)
    → sheets.Reads sheet index room o x → GivesRecord sheet index room r y → (r ≡ record_given o) × (y ≡ x)
record_as_called sheet index room = as_called_with (sheets.Reads sheet index room) record_given (sheet_laws.reads_settled sheet index room)

pub removed_as_called : (room : List ℕ) (size index : ℕ) (o : Editing) (r : SizeAnswer) (x y : List ℕ)
    → Removes room size index o x → GivesRemoved room size index r y → (r ≡ edit_given o) × (y ≡ x)
removed_as_called room size index = as_called_with (Removes room size index) edit_given (editor_laws.removes_settled room size index)

pub module_removed_as_called : (room : List ℕ) (size unit : ℕ) (o : Editing) (r : SizeAnswer) (x y : List ℕ)
    → RemovesModule room size unit o x → GivesModuleRemoved room size unit r y → (r ≡ edit_given o) × (y ≡ x)
module_removed_as_called room size unit = as_called_with (RemovesModule room size unit) edit_given (editor_laws.removes_module_settled room size unit)

pub added_as_called : (room : List ℕ) (size : ℕ) (named : Head) (value : List ℕ) (o : Editing) (r : SizeAnswer) (x y : List ℕ)
    → Adds room size named value o x → GivesAdded room size named value r y → (r ≡ edit_given o) × (y ≡ x)
added_as_called room size named value = as_called_with (Adds room size named value) edit_given (editor_laws.adds_settled room size named value)

-- those that are equations of their own
pub fresh_as_called : (desk r : Desk) → desks.Fresh desk → GivesDesk r → r ≡ desk
fresh_as_called desk r p g = g ∙ sym p

pub lanes_as_called : (lanes r : Lanes) → in_lanes.Fresh lanes → GivesLanes r → r ≡ lanes
lanes_as_called lanes r p g = g ∙ sym p

pub box_as_called : (job unit : ℕ) (box : FilterBox) (r : HostBox) → boxes.Makes job unit box → GivesBox job unit r → r ≡ box_told box
box_as_called job unit box r p g = g ∙ ap box_told (sym p)

pub moving_as_called : (status : ℕ) (moves : Bool) (r : ℕ) → TellsMoving status moves → GivesMoving status r → r ≡ yes_told moves
moving_as_called status moves r p g = g ∙ ap yes_told (sym p)

pub which_as_called : (fresh kept part : List ℕ) (which r : ℕ) → Displays fresh kept part which → GivesWhich fresh kept r → r ≡ which
which_as_called fresh kept part which r p g = g ∙ sym p.1

pub scan_as_called : (job : ℕ) (scan r : Scan) → scans.Makes job scan → GivesScan job r → r ≡ scan
scan_as_called job scan r p g = g ∙ sym p

pub scan_reply_as_called : (scan : Scan) (answer : ReplyAnswer) (o r : Scan)
    → scans.HearsReply scan (booking_meant answer) o → GivesScanReply scan answer r → r ≡ o
scan_reply_as_called scan answer o r p g = g ∙ sym p

pub scan_close_as_called : (scan : Scan) (answer : CloseAnswer) (o r : Scan)
    → scans.HearsClosing scan (closing_meant answer) o → GivesScanClose scan answer r → r ≡ o
scan_close_as_called scan answer o r p g = g ∙ sym p

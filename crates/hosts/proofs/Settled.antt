-- "Show that any two outcomes allowed by it are equal": every call of the C host is settled, as the call below it is.
-- Assumes nothing.
use mathlib.Core.List.{List}
use Prim.Native.Nat.{ℕ}
use Rattle.rows.proofs.Settled.{settled}
use Rattle.rows.specs.Settled.{Settled}
use Rattle.bench.specs.Take.{Takes}
use Rattle.bench.specs.declared.Bench.{Bench}
use Rattle.desk.specs.Open.{Opens}
use Rattle.desk.specs.Reply.{Replies}
use Rattle.desk.specs.declared.Desk.{Desk}
use Rattle.lanes.specs.Grant.{Grants}
use Rattle.lanes.specs.declared.Lanes.{Lanes}
use Rattle.overdue.specs.Overdue.{ExpiresAll}
use Rattle.request.specs.declared.Request.{Request}
use Rattle.scan.specs.Scan.{Steps}
use Rattle.scan.specs.declared.Scan.{Scan}
use Rattle.setting.specs.declared.Head.{Head}
use Rattle.sheet_editor.specs.Editor.{Removes, RemovesModule, Adds}
use Rattle.varia.specs.Ask.{SetsEdge, Attenuates, ReadsMonitor, ReadsStatus}
use Rattle.varia.specs.declared.Pass.{Pass}
use Rattle.kamzhor.specs.Bench.{GivesBench, GivesAdd, GivesSet, GivesTake, GivesRegister}
use Rattle.kamzhor.specs.Bench.{build_told, take_told, register_given}
use Rattle.kamzhor.specs.Desk.{GivesDesk, GivesOpen, GivesReply, GivesCancel, GivesExpire, GivesSweep, GivesSeen}
use Rattle.kamzhor.specs.Desk.{open_told, reply_told, close_told, sweep_told, seen_given, booking_meant, closing_meant}
use Rattle.kamzhor.specs.Filters.{GivesBox, GivesEdge, GivesAttenuation, GivesMonitor, GivesStatus, GivesBoxReply, GivesBoxClose, GivesMoving, GivesWhich}
use Rattle.kamzhor.specs.Filters.{box_meant, box_told, ask_told}
use Rattle.kamzhor.specs.Lanes.{GivesLanes, GivesJoin, GivesGrant, GivesWithdraw}
use Rattle.kamzhor.specs.Lanes.{join_told, grant_told, withdraw_told}
use Rattle.kamzhor.specs.Scan.{GivesScan, GivesScanStep, GivesScanReply, GivesScanClose, GivesFound}
use Rattle.kamzhor.specs.Scan.{scan_told, found_given}
use Rattle.kamzhor.specs.Sheet.{GivesSheet, GivesCheck, GivesRecord, GivesRemoved, GivesModuleRemoved, GivesAdded}
use Rattle.kamzhor.specs.Sheet.{sheet_given, check_given, record_given, edit_given}
use Rattle.kamzhor.specs.Values.{GivesWritten, GivesStored, GivesEntry}
use Rattle.kamzhor.specs.Values.{written_given, value_meant, stored_given, entry_given}
use Rattle.kamzhor.specs.declared.host_bench.AfterBenchTake.{AfterBenchTake}
use Rattle.kamzhor.specs.declared.host_box.AfterBoxAsk.{AfterBoxAsk}
use Rattle.kamzhor.specs.declared.host_box.HostBox.{HostBox}
use Rattle.kamzhor.specs.declared.host_desk.AfterDeskOpen.{AfterDeskOpen}
use Rattle.kamzhor.specs.declared.host_desk.AfterDeskReply.{AfterDeskReply}
use Rattle.kamzhor.specs.declared.host_desk.AfterDeskSweep.{AfterDeskSweep}
use Rattle.kamzhor.specs.declared.host_desk.CloseAnswer.{CloseAnswer}
use Rattle.kamzhor.specs.declared.host_desk.ReplyAnswer.{ReplyAnswer}
use Rattle.kamzhor.specs.declared.host_lanes.AfterLanesGrant.{AfterLanesGrant}
use Rattle.kamzhor.specs.declared.host_scan.AfterScanStep.{AfterScanStep}
use Rattle.kamzhor.specs.declared.host_sheet.RecordAnswer.{RecordAnswer}
use Rattle.kamzhor.specs.declared.host_values.SizeAnswer.{SizeAnswer}
use Rattle.hosts.proofs.Told.{told_settled, told_settled_with}
use Rattle.bench.proofs.Laws as bench_laws
use Rattle.catalogue.proofs.Laws as catalogue_laws
use Rattle.desk.proofs.Laws as desk_laws
use Rattle.lanes.proofs.Laws as lanes_laws
use Rattle.overdue.proofs.Laws as overdue_laws
use Rattle.scan.proofs.Laws as scan_laws
use Rattle.sheet.proofs.Laws as sheet_laws
use Rattle.sheet.specs.Sheet as sheets
use Rattle.sheet_editor.proofs.Laws as editor_laws
use Rattle.sheet_writer.proofs.Laws as writer_laws
use Rattle.sheet_writer.specs.Writer as writing
use Rattle.telegram.proofs.Laws as telegram_laws
use Rattle.telegram.specs.Write as telegrams
use Rattle.values.proofs.Laws as values_laws
use Rattle.values.specs.Values as value
use Rattle.varia.proofs.Laws as varia_laws

-- ---- writing

pub gives_written_settled : (destination source sort register : ℕ) (bytes room : List ℕ)
    → Settled {A = SizeAnswer × List ℕ} (λ o. GivesWritten destination source sort register bytes room o.0 o.1)
gives_written_settled destination source sort register bytes room =
    told_settled_with (telegrams.Writes destination source sort register bytes room) written_given
    (telegram_laws.writes_settled destination source sort register bytes room)

pub gives_stored_settled : (kind negative magnitude : ℕ) (room : List ℕ)
    → Settled {A = ℕ × List ℕ} (λ o. GivesStored kind negative magnitude room o.0 o.1)
gives_stored_settled kind negative magnitude room =
    told_settled_with (value.Writes kind (value_meant negative magnitude) room) stored_given
    (values_laws.writes_settled kind (value_meant negative magnitude) room)

pub gives_entry_settled : (model register : ℕ) → Settled (GivesEntry model register)
gives_entry_settled model register = told_settled entry_given (catalogue_laws.finds_settled model register)

-- ---- the desk

pub gives_desk_settled : Settled GivesDesk
gives_desk_settled = settled _

pub gives_open_settled : (desk : Desk) (asked : Request) (bytes : List ℕ) (clock : ℕ) (room : List ℕ)
    → Settled {A = AfterDeskOpen × List ℕ} (λ o. GivesOpen desk asked bytes clock room o.0 o.1)
gives_open_settled desk asked bytes clock room =
    told_settled_with (Opens desk asked bytes clock room) open_told (desk_laws.opens_settled desk asked bytes clock room)

pub gives_reply_settled : (desk : Desk) (frame room : List ℕ) → Settled {A = AfterDeskReply × List ℕ} (λ o. GivesReply desk frame room o.0 o.1)
gives_reply_settled desk frame room = told_settled_with (Replies desk frame room) reply_told (desk_laws.replies_settled desk frame room)

pub gives_cancel_settled : (desk : Desk) (job address clock : ℕ) → Settled (GivesCancel desk job address clock)
gives_cancel_settled desk job address clock = told_settled close_told (desk_laws.cancels_settled desk job address clock)

pub gives_expire_settled : (desk : Desk) (clock : ℕ) → Settled (GivesExpire desk clock)
gives_expire_settled desk clock = told_settled close_told (desk_laws.expires_settled desk clock)

pub gives_sweep_settled : (desk : Desk) (clock : ℕ) (list : List ℕ) → Settled {A = AfterDeskSweep × List ℕ} (λ o. GivesSweep desk clock list o.0 o.1)
gives_sweep_settled desk clock list = told_settled_with (ExpiresAll desk clock list) sweep_told (overdue_laws.expires_all_settled desk clock list)

pub gives_seen_settled : (desk : Desk) (address : ℕ) → Settled (GivesSeen desk address)
gives_seen_settled desk address = told_settled seen_given (desk_laws.looks_settled desk address)

-- ---- the lanes

pub gives_lanes_settled : Settled GivesLanes
gives_lanes_settled = settled _

pub gives_join_settled : (lanes : Lanes) (asked : Request) (bytes : List ℕ) → Settled (GivesJoin lanes asked bytes)
gives_join_settled lanes asked bytes = told_settled join_told (lanes_laws.joins_settled lanes asked bytes)

pub gives_grant_settled : (lanes : Lanes) (desk : Desk) (clock : ℕ) (room : List ℕ)
    → Settled {A = AfterLanesGrant × List ℕ} (λ o. GivesGrant lanes desk clock room o.0 o.1)
gives_grant_settled lanes desk clock room = told_settled_with (Grants lanes desk clock room) grant_told (lanes_laws.grants_settled lanes desk clock room)

pub gives_withdraw_settled : (lanes : Lanes) (job at : ℕ) → Settled (GivesWithdraw lanes job at)
gives_withdraw_settled lanes job at = told_settled withdraw_told (lanes_laws.withdraws_settled lanes job at)

-- ---- the box

pub gives_box_settled : (job unit : ℕ) → Settled (GivesBox job unit)
gives_box_settled job unit = settled _

pub gives_edge_settled : (pass : Pass) (filters : HostBox) (desk : Desk) (tenths wait clock : ℕ) (room : List ℕ)
    → Settled {A = AfterBoxAsk × List ℕ} (λ o. GivesEdge pass filters desk tenths wait clock room o.0 o.1)
gives_edge_settled pass filters desk tenths wait clock room =
    told_settled_with (SetsEdge pass (box_meant filters) desk tenths wait clock room) ask_told
    (varia_laws.sets_settled pass (box_meant filters) desk tenths wait clock room)

pub gives_attenuation_settled : (filters : HostBox) (desk : Desk) (permille wait clock : ℕ) (room : List ℕ)
    → Settled {A = AfterBoxAsk × List ℕ} (λ o. GivesAttenuation filters desk permille wait clock room o.0 o.1)
gives_attenuation_settled filters desk permille wait clock room =
    told_settled_with (Attenuates (box_meant filters) desk permille wait clock room) ask_told
    (varia_laws.attenuates_settled (box_meant filters) desk permille wait clock room)

pub gives_monitor_settled : (filters : HostBox) (desk : Desk) (wait clock : ℕ) (room : List ℕ)
    → Settled {A = AfterBoxAsk × List ℕ} (λ o. GivesMonitor filters desk wait clock room o.0 o.1)
gives_monitor_settled filters desk wait clock room =
    told_settled_with (ReadsMonitor (box_meant filters) desk wait clock room) ask_told (varia_laws.reads_monitor_settled (box_meant filters) desk wait clock room)

pub gives_status_settled : (filters : HostBox) (desk : Desk) (wait clock : ℕ) (room : List ℕ)
    → Settled {A = AfterBoxAsk × List ℕ} (λ o. GivesStatus filters desk wait clock room o.0 o.1)
gives_status_settled filters desk wait clock room =
    told_settled_with (ReadsStatus (box_meant filters) desk wait clock room) ask_told (varia_laws.reads_status_settled (box_meant filters) desk wait clock room)

pub gives_box_reply_settled : (filters : HostBox) (answer : ReplyAnswer) → Settled (GivesBoxReply filters answer)
gives_box_reply_settled filters answer = told_settled box_told (varia_laws.hears_reply_settled (box_meant filters) (booking_meant answer))

pub gives_box_close_settled : (filters : HostBox) (answer : CloseAnswer) → Settled (GivesBoxClose filters answer)
gives_box_close_settled filters answer = told_settled box_told (varia_laws.hears_closing_settled (box_meant filters) (closing_meant answer))

pub gives_moving_settled : (status : ℕ) → Settled (GivesMoving status)
gives_moving_settled status = settled _

pub gives_which_settled : (fresh kept : List ℕ) → Settled (GivesWhich fresh kept)
gives_which_settled fresh kept = settled _

-- ---- the scan

pub gives_scan_settled : (job : ℕ) → Settled (GivesScan job)
gives_scan_settled job = settled _

pub gives_scan_step_settled : (scan : Scan) (desk : Desk) (clock : ℕ) (room : List ℕ)
    → Settled {A = AfterScanStep × List ℕ} (λ o. GivesScanStep scan desk clock room o.0 o.1)
gives_scan_step_settled scan desk clock room = told_settled_with (Steps scan desk clock room) scan_told (scan_laws.steps_settled scan desk clock room)

pub gives_scan_reply_settled : (scan : Scan) (answer : ReplyAnswer) → Settled (GivesScanReply scan answer)
gives_scan_reply_settled scan answer = scan_laws.hears_reply_settled scan (booking_meant answer)

pub gives_scan_close_settled : (scan : Scan) (answer : CloseAnswer) → Settled (GivesScanClose scan answer)
gives_scan_close_settled scan answer = scan_laws.hears_closing_settled scan (closing_meant answer)

pub gives_found_settled : (scan : Scan) (unit : ℕ) → Settled (GivesFound scan unit)
gives_found_settled scan unit = told_settled found_given (scan_laws.looks_settled scan unit)

-- ---- the bench

pub gives_bench_settled : (address : ℕ) → Settled (GivesBench address)
gives_bench_settled address = told_settled build_told (bench_laws.makes_settled address)

pub gives_add_settled : (bench : Bench) (number kind rights : ℕ) → Settled (GivesAdd bench number kind rights)
gives_add_settled bench number kind rights = told_settled build_told (bench_laws.adds_settled bench number kind rights)

pub gives_set_settled : (bench : Bench) (number negative magnitude : ℕ) → Settled (GivesSet bench number negative magnitude)
gives_set_settled bench number negative magnitude = told_settled build_told (bench_laws.sets_settled bench number (value_meant negative magnitude))

pub gives_take_settled : (bench : Bench) (frame room : List ℕ) → Settled {A = AfterBenchTake × List ℕ} (λ o. GivesTake bench frame room o.0 o.1)
gives_take_settled bench frame room = told_settled_with (Takes bench frame room) take_told (bench_laws.takes_settled bench frame room)

pub gives_register_settled : (bench : Bench) (number : ℕ) → Settled (GivesRegister bench number)
gives_register_settled bench number = told_settled register_given (bench_laws.looks_settled bench number)

-- ---- sheets

pub gives_sheet_settled : (rows values room : List ℕ) → Settled {A = SizeAnswer × List ℕ} (λ o. GivesSheet rows values room o.0 o.1)
gives_sheet_settled rows values room = told_settled_with (writing.Writes rows values room) sheet_given (writer_laws.writes_settled rows values room)

pub gives_check_settled : (sheet : List ℕ) → Settled (GivesCheck sheet)
gives_check_settled sheet = told_settled check_given (sheet_laws.checks_settled sheet)

pub gives_record_settled : (sheet : List ℕ) (index : ℕ) (room : List ℕ)
    → Settled {A = RecordAnswer × List ℕ} (λ o. GivesRecord sheet index room o.0 o.1)
gives_record_settled sheet index room = told_settled_with (sheets.Reads sheet index room) record_given (sheet_laws.reads_settled sheet index room)

pub gives_removed_settled : (room : List ℕ) (size index : ℕ) → Settled {A = SizeAnswer × List ℕ} (λ o. GivesRemoved room size index o.0 o.1)
gives_removed_settled room size index = told_settled_with (Removes room size index) edit_given (editor_laws.removes_settled room size index)

pub gives_module_removed_settled : (room : List ℕ) (size unit : ℕ)
    → Settled {A = SizeAnswer × List ℕ} (λ o. GivesModuleRemoved room size unit o.0 o.1)
gives_module_removed_settled room size unit = told_settled_with (RemovesModule room size unit) edit_given (editor_laws.removes_module_settled room size unit)

pub gives_added_settled : (room : List ℕ) (size : ℕ) (named : Head) (value : List ℕ)
    → Settled {A = SizeAnswer × List ℕ} (λ o. GivesAdded room size named value o.0 o.1)
gives_added_settled room size named value = told_settled_with (Adds room size named value) edit_given (editor_laws.adds_settled room size named value)

-- "Each is given exactly when its condition holds and no earlier one does": of the numbers that C is told, over the same rows as the calls
-- below. 0 is told exactly where no row holds.
-- Assumes nothing.
use Rattle.std.specs.Prelude.{Ok, Err}
use mathlib.Core.Path.{◌≡◌, refl, sym, ap, ◌∙◌, subst}
use mathlib.Core.Logic.{◌≢◌, ◌↔◌}
use mathlib.Core.Option.{some, none}
use mathlib.Core.List.{List, [], ◌∷◌, ◌++◌}
use Prim.Native.Nat.{ℕ, ◌+◌, ◌≤◌, ◌<◌}
use lib.ListN.{length}
use Rattle.rows.specs.Rows.{row, passed_up, numbers_of, First, NoRow, Numbered}
use Rattle.bench.specs.Build.{make_rows, add_rows, set_rows}
use Rattle.bench.proofs.Silence.{silent_number}
use Rattle.bench.specs.Take.{silence_rows, MeansSilence}
use Rattle.bench.specs.declared.Bench.{Bench}
use Rattle.bench.specs.Answers.{Taking}
use Rattle.catalogue.specs.Catalogue.{find_rows}
use Rattle.desk.specs.Close.{cancel_rows, expire_rows}
use Rattle.desk.specs.Folder.{IsFolderHeld}
use Rattle.desk.proofs.Count.{refused_count_lem}
use Rattle.desk.specs.Open.{open_rows, IsNoneFree, distance_of}
use Rattle.desk.specs.Reply.{reply_rows}
use Rattle.desk.specs.declared.Desk.{Desk}
use Rattle.lanes.specs.Grant.{next_place}
use Rattle.lanes.specs.Join.{join_rows}
use Rattle.lanes.specs.Lanes.{lane_at, waiting_at}
use Rattle.lanes.specs.Withdraw.{withdraw_rows}
use Rattle.lanes.specs.declared.Lanes.{Lanes}
use Rattle.request.specs.declared.Request.{Request}
use Rattle.scan.specs.declared.Scan.{Scan}
use Rattle.setting.specs.Setting.{setting}
use Rattle.setting.specs.declared.Head.{Head}
use Rattle.sheet_editor.specs.Editor.{remove_rows, module_rows, add_rows as added_rows}
use Rattle.varia.specs.Display.{display_rows, display_told, two_bytes}
use Rattle.turns.specs.Turns.{Orderly}
use Rattle.values.specs.Values.{bytes_of}
use Rattle.varia.specs.Box.{edge_rows, attenuation_rows, edge_register, request}
use Rattle.varia.specs.declared.Pass.{Pass}
use Rattle.kamzhor.specs.Bench.{GivesBench, GivesAdd, GivesSet, GivesTake, take_given}
use Rattle.kamzhor.specs.Desk.{GivesOpen, GivesReply, GivesCancel, GivesExpire}
use Rattle.kamzhor.specs.Filters.{GivesEdge, GivesAttenuation, GivesMonitor, GivesStatus, GivesWhich, box_meant}
use Rattle.kamzhor.specs.Host.{told}
use Rattle.kamzhor.specs.Lanes.{GivesJoin, GivesGrant, GivesWithdraw}
use Rattle.kamzhor.specs.Scan.{GivesScanStep}
use Rattle.kamzhor.specs.Sheet.{GivesSheet, GivesCheck, GivesRecord, GivesRemoved, GivesModuleRemoved, GivesAdded}
use Rattle.kamzhor.specs.Values.{GivesWritten, GivesStored, GivesEntry, value_meant}
use Rattle.kamzhor.specs.declared.host_bench.AfterBenchBuild.{AfterBenchBuild}
use Rattle.kamzhor.specs.declared.host_bench.AfterBenchTake.{AfterBenchTake}
use Rattle.kamzhor.specs.declared.host_box.AfterBoxAsk.{AfterBoxAsk}
use Rattle.kamzhor.specs.declared.host_box.HostBox.{HostBox}
use Rattle.kamzhor.specs.declared.host_desk.AfterDeskClose.{AfterDeskClose}
use Rattle.kamzhor.specs.declared.host_desk.AfterDeskOpen.{AfterDeskOpen}
use Rattle.kamzhor.specs.declared.host_desk.AfterDeskReply.{AfterDeskReply}
use Rattle.kamzhor.specs.declared.host_lanes.AfterLanesGrant.{AfterLanesGrant}
use Rattle.kamzhor.specs.declared.host_lanes.AfterLanesJoin.{AfterLanesJoin}
use Rattle.kamzhor.specs.declared.host_lanes.AfterLanesWithdraw.{AfterLanesWithdraw}
use Rattle.kamzhor.specs.declared.host_scan.AfterScanStep.{AfterScanStep}
use Rattle.kamzhor.specs.declared.host_sheet.CheckAnswer.{CheckAnswer}
use Rattle.kamzhor.specs.declared.host_sheet.RecordAnswer.{RecordAnswer}
use Rattle.kamzhor.specs.declared.host_values.EntryAnswer.{EntryAnswer}
use Rattle.kamzhor.specs.declared.host_values.SizeAnswer.{SizeAnswer}
use Rattle.hosts.proofs.Numbers.{written_number, stored_number, entry_number, open_number_lem, reply_number_lem, close_number_lem}
use Rattle.hosts.proofs.Numbers.{join_number_lem, grant_number_lem, withdraw_number, ask_number_lem, scan_number, build_number, take_number_lem}
use Rattle.hosts.proofs.Numbers.{sheet_number_lem, check_number, record_number, edit_number}
use Rattle.hosts.proofs.Fields.{open_count_lem}
use Rattle.hosts.proofs.Told.{numbered_as}
use Rattle.bench.proofs.Laws as bench
use Rattle.bench.specs.Register as at_bench
use Rattle.catalogue.proofs.Laws as catalogue
use Rattle.catalogue.specs.Catalogue as of_catalogue
use Rattle.desk.proofs.Ranking as desk_ranking
use Rattle.desk.specs.Desk as at_desk_lem
use Rattle.lanes.proofs.Ranking as lanes_ranking
use Rattle.lanes.specs.Lanes as in_lanes
use Rattle.scan.proofs.Laws as scan_laws
use Rattle.setting.specs.Setting as of_setting
use Rattle.sheet.proofs.Laws as sheet_laws
use Rattle.sheet.specs.Sheet as sheet
use Rattle.sheet_editor.proofs.Laws as editor_laws
use Rattle.sheet_editor.specs.Editor as of_editor
use Rattle.sheet_writer.proofs.Laws as writer_laws
use Rattle.sheet_writer.specs.Writer as writer
use Rattle.telegram.proofs.Ranking as telegram_ranking
use Rattle.telegram.specs.Read as of_telegram
use Rattle.telegram.specs.Write as telegram_write
use Rattle.values.proofs.Laws as values_laws
use Rattle.values.specs.Values as of_value
use Rattle.turns.proofs.Laws as turns
use Rattle.varia.proofs.Ranking as varia_ranking
use Rattle.varia.specs.Box as at_box

-- ---- writing

pub written_exactly : (destination source sort register : ℕ) (bytes room : List ℕ) {r : SizeAnswer} {room' : List ℕ}
    → GivesWritten destination source sort register bytes room r room'
    → Numbered (passed_up of_telegram.fault_number (telegram_write.write_rows destination source sort register bytes (length room))) (5 ∷ 8 ∷ 9 ∷ 6 ∷ [])
    (told r.refusal)
written_exactly destination source sort register bytes room {r} {room'} g =
    numbered_as (ap (λ (a : SizeAnswer). told a.refusal) g.2 ∙ written_number g.0)
    (telegram_ranking.write_exactly destination source sort register bytes room g.0 room' g.1)

pub stored_exactly : (kind negative magnitude : ℕ) (room : List ℕ) {r : ℕ} {room' : List ℕ} → GivesStored kind negative magnitude room r room'
    → Numbered (passed_up of_value.fault_number (of_value.write_rows kind (value_meant negative magnitude) room)) (40 ∷ 43 ∷ 44 ∷ []) (told r)
stored_exactly kind negative magnitude room g =
    numbered_as (ap told g.2 ∙ stored_number g.0) (values_laws.write_exactly kind (value_meant negative magnitude) room g.1)

pub entry_exactly : (model register : ℕ) {r : EntryAnswer} → GivesEntry model register r
    → Numbered (passed_up of_catalogue.fault_number (find_rows model register)) (50 ∷ []) (told r.refusal)
entry_exactly model register g =
    numbered_as (ap (λ (a : EntryAnswer). told a.refusal) g.2 ∙ entry_number g.0) (catalogue.find_exactly model register g.1)

-- ---- the desk

pub open_exactly : (desk : Desk) (asked : Request) (bytes : List ℕ) (clock : ℕ) (room : List ℕ) {r : AfterDeskOpen} {room' : List ℕ}
    → GivesOpen desk asked bytes clock room r room'
    → Numbered (passed_up at_desk_lem.fault_number (open_rows desk asked bytes clock (length room))) (10 ∷ 11 ∷ 12 ∷ 13 ∷ 14 ∷ 75 ∷ 15 ∷ 16 ∷ [])
    (told r.answer.refusal)
open_exactly desk asked bytes clock room {r} {room'} g =
    numbered_as (ap (λ (a : AfterDeskOpen). told a.answer.refusal) g.2 ∙ open_number_lem g.0.answer g.0.count)
    (desk_ranking.open_exactly desk asked bytes clock room g.0 room' g.1)

-- 02, #108: "95 with 15, 0 with 10 to 14", and 0 with 75
pub open_considered : (desk : Desk) (asked : Request) (bytes : List ℕ) (clock : ℕ) (room : List ℕ) (r : AfterDeskOpen) (room' : List ℕ)
    → GivesOpen desk asked bytes clock room r room' → (n : ℕ) → told r.answer.refusal ≡ some n
    → (n ≤ 14 → r.answer.considered ≡ 0)
    × (n ≡ 15 → r.answer.considered ≡ 95)
    × (n ≡ 16 → r.answer.considered ≡ distance_of desk clock + 1)
    × (n ≡ 75 → r.answer.considered ≡ 0)
open_considered desk asked bytes clock room r room' g n e =
    let same = ap (λ (a : AfterDeskOpen). told a.answer.refusal) g.2 ∙ open_number_lem g.0.answer g.0.count in
    let count = ap (λ (a : AfterDeskOpen). a.answer.considered) g.2 ∙ open_count_lem g.0.answer g.0.count in
    let below = refused_count_lem desk asked bytes clock room g.0 room' g.1 n (sym same ∙ e) in
    (λ h. count ∙ below.0 h, λ h. count ∙ below.1 h, λ h. count ∙ below.2 h, λ h. count ∙ below.3 h)

pub reply_exactly : (desk : Desk) (frame room : List ℕ) {r : AfterDeskReply} {room' : List ℕ} → GivesReply desk frame room r room'
    → Numbered (passed_up at_desk_lem.fault_number (reply_rows desk frame (length room)))
    (1 ∷ 2 ∷ 3 ∷ 4 ∷ 5 ∷ 6 ∷ 7 ∷ 8 ∷ 9 ∷ 61 ∷ 17 ∷ 18 ∷ 19 ∷ 20 ∷ []) (told r.answer.refusal)
reply_exactly desk frame room {r} {room'} g =
    numbered_as (ap (λ (a : AfterDeskReply). told a.answer.refusal) g.2 ∙ reply_number_lem g.0.answer)
    (desk_ranking.reply_exactly desk frame room g.0 room' g.1)

pub cancel_exactly : (desk : Desk) (job address clock : ℕ) {r : AfterDeskClose} → GivesCancel desk job address clock r
    → Numbered (passed_up at_desk_lem.fault_number (cancel_rows desk job address)) (21 ∷ []) (told r.answer.refusal)
cancel_exactly desk job address clock g =
    numbered_as (ap (λ (a : AfterDeskClose). told a.answer.refusal) g.2 ∙ close_number_lem g.0.answer)
    (desk_ranking.cancel_exactly desk job address clock g.0 g.1)

pub expire_exactly : (desk : Desk) (clock : ℕ) {r : AfterDeskClose} → GivesExpire desk clock r
    → Numbered (passed_up at_desk_lem.fault_number (expire_rows desk clock)) (22 ∷ []) (told r.answer.refusal)
expire_exactly desk clock g =
    numbered_as (ap (λ (a : AfterDeskClose). told a.answer.refusal) g.2 ∙ close_number_lem g.0.answer)
    (desk_ranking.expire_exactly desk clock g.0 g.1)

-- ---- the lanes

pub join_exactly : (lanes : Lanes) (asked : Request) (bytes : List ℕ) {r : AfterLanesJoin} → GivesJoin lanes asked bytes r
    → Numbered (passed_up in_lanes.fault_number (join_rows lanes asked bytes)) (10 ∷ 11 ∷ 12 ∷ 13 ∷ 14 ∷ 71 ∷ 72 ∷ []) (told r.answer.refusal)
join_exactly lanes asked bytes g =
    numbered_as (ap (λ (a : AfterLanesJoin). told a.answer.refusal) g.2 ∙ join_number_lem g.0.answer)
    (lanes_ranking.join_exactly lanes asked bytes g.0 g.1)

-- of lanes that are in order, as calls leave them; of any others a grant may be told another number of the desk's
pub grant_exactly : (lanes : Lanes) (desk : Desk) (clock : ℕ) (room : List ℕ) (r : AfterLanesGrant) (room' : List ℕ) → Orderly lanes
    → GivesGrant lanes desk clock room r room'
    → Numbered
    (row (length room < 494) 73
    ∷ row ((place : ℕ) → place < 16 → (lane_at lanes place).size ≡ 0) 74
    ∷ row (IsFolderHeld desk (waiting_at (lane_at lanes (next_place lanes)) 0).asked) 75
    ∷ row (IsNoneFree desk clock) 15
    ∷ [])
    (73 ∷ 74 ∷ 75 ∷ 15 ∷ []) (told r.answer.refusal)
grant_exactly lanes desk clock room r room' orderly g =
    numbered_as (ap (λ (a : AfterLanesGrant). told a.answer.refusal) g.2 ∙ grant_number_lem g.0.answer g.0.count)
    (turns.grant_exactly lanes desk clock room g.0 room' orderly g.1)

pub withdraw_exactly : (lanes : Lanes) (job at : ℕ) {r : AfterLanesWithdraw} → GivesWithdraw lanes job at r
    → Numbered (passed_up in_lanes.fault_number (withdraw_rows lanes job at)) (55 ∷ []) (told r.refusal)
withdraw_exactly lanes job at g =
    numbered_as (ap (λ (a : AfterLanesWithdraw). told a.refusal) g.2 ∙ withdraw_number g.0.answer)
    (lanes_ranking.withdraw_exactly lanes job at g.0 g.1)

-- ---- the box

module _ (filters : HostBox) (desk : Desk) (wait clock : ℕ) (room : List ℕ) (r : AfterBoxAsk) (room' : List ℕ) where
  pub edge_exactly : (pass : Pass) (tenths : ℕ) → GivesEdge pass filters desk tenths wait clock room r room'
      → Numbered
      (passed_up at_box.fault_number (edge_rows (box_meant filters) pass tenths)
      ++ passed_up at_desk_lem.fault_number (open_rows desk (request (box_meant filters) 5 (edge_register pass) wait) (bytes_of 2 tenths) clock (length room)))
      (59 ∷ 63 ∷ 10 ∷ 11 ∷ 12 ∷ 13 ∷ 14 ∷ 75 ∷ 15 ∷ 16 ∷ []) (told r.answer.refusal)
  edge_exactly pass tenths g =
      numbered_as (ap (λ (a : AfterBoxAsk). told a.answer.refusal) g.2 ∙ ask_number_lem g.0.answer g.0.count)
      (varia_ranking.set_exactly (box_meant filters) desk wait clock room g.0 room' pass tenths g.1)

  pub attenuation_exactly : (permille : ℕ) → GivesAttenuation filters desk permille wait clock room r room'
      → Numbered
      (passed_up at_box.fault_number (attenuation_rows permille)
      ++ passed_up at_desk_lem.fault_number (open_rows desk (request (box_meant filters) 5 50 wait) (bytes_of 2 permille) clock (length room)))
      (62 ∷ 10 ∷ 11 ∷ 12 ∷ 13 ∷ 14 ∷ 75 ∷ 15 ∷ 16 ∷ []) (told r.answer.refusal)
  attenuation_exactly permille g =
      numbered_as (ap (λ (a : AfterBoxAsk). told a.answer.refusal) g.2 ∙ ask_number_lem g.0.answer g.0.count)
      (varia_ranking.attenuate_exactly (box_meant filters) desk wait clock room g.0 room' permille g.1)

  pub monitor_exactly : GivesMonitor filters desk wait clock room r room'
      → Numbered (passed_up at_desk_lem.fault_number (open_rows desk (request (box_meant filters) 4 19 wait) [] clock (length room)))
      (10 ∷ 11 ∷ 12 ∷ 13 ∷ 14 ∷ 75 ∷ 15 ∷ 16 ∷ []) (told r.answer.refusal)
  monitor_exactly g =
      numbered_as (ap (λ (a : AfterBoxAsk). told a.answer.refusal) g.2 ∙ ask_number_lem g.0.answer g.0.count)
      (varia_ranking.monitor_exactly (box_meant filters) desk wait clock room g.0 room' g.1)

  pub status_exactly : GivesStatus filters desk wait clock room r room'
      → Numbered (passed_up at_desk_lem.fault_number (open_rows desk (request (box_meant filters) 4 102 wait) [] clock (length room)))
      (10 ∷ 11 ∷ 12 ∷ 13 ∷ 14 ∷ 75 ∷ 15 ∷ 16 ∷ []) (told r.answer.refusal)
  status_exactly g =
      numbered_as (ap (λ (a : AfterBoxAsk). told a.answer.refusal) g.2 ∙ ask_number_lem g.0.answer g.0.count)
      (varia_ranking.status_exactly (box_meant filters) desk wait clock room g.0 room' g.1)

-- 64, where neither string has two bytes
pub which_exactly : (fresh kept : List ℕ) {r : ℕ} → GivesWhich fresh kept r → Numbered (display_rows fresh kept) (64 ∷ []) (display_told r)
which_exactly fresh kept {r} g = varia_ranking.display_exactly fresh kept (two_bytes fresh kept) r (refl, g)

-- ---- the scan has no number of its own: where a module is to be asked, the desk's for that request

pub scan_exactly : (scan : Scan) (desk : Desk) (clock : ℕ) (room : List ℕ) (r : AfterScanStep) (room' : List ℕ) → GivesScanStep scan desk clock room r room'
    → scan.turns < 160 → scan.out ≡ 0
    → Numbered
    (passed_up at_desk_lem.fault_number
    (open_rows desk (record { job = scan.job; unit = scan.turns + 1; sort = 4; register = 97; wait = 100; folder = 0 }) [] clock (length room)))
    (10 ∷ 11 ∷ 12 ∷ 13 ∷ 14 ∷ 75 ∷ 15 ∷ 16 ∷ []) (told r.answer.refusal)
scan_exactly scan desk clock room r room' g left free =
    numbered_as (ap (λ (a : AfterScanStep). told a.answer.refusal) g.2 ∙ scan_number g.0.answer g.0.count)
    (scan_laws.step_exactly scan desk clock room g.0 room' g.1 left free)

-- ---- the bench

pub make_exactly : (address : ℕ) {r : AfterBenchBuild} → GivesBench address r
    → Numbered (passed_up at_bench.fault_number (make_rows address)) (34 ∷ []) (told r.refusal)
make_exactly address g =
    numbered_as (ap (λ (a : AfterBenchBuild). told a.refusal) g.2 ∙ build_number g.0.answer) (bench.make_exactly address g.1)

pub add_exactly : (held : Bench) (number kind rights : ℕ) {r : AfterBenchBuild} → GivesAdd held number kind rights r
    → Numbered (passed_up at_bench.fault_number (add_rows held number kind rights)) (30 ∷ 31 ∷ 32 ∷ 33 ∷ []) (told r.refusal)
add_exactly held number kind rights g =
    numbered_as (ap (λ (a : AfterBenchBuild). told a.refusal) g.2 ∙ build_number g.0.answer) (bench.add_exactly held number kind rights g.1)

pub set_exactly : (held : Bench) (number negative magnitude : ℕ) {r : AfterBenchBuild} → GivesSet held number negative magnitude r
    → Numbered (passed_up at_bench.fault_number (set_rows held number (value_meant negative magnitude))) (38 ∷ 43 ∷ []) (told r.refusal)
set_exactly held number negative magnitude g =
    numbered_as (ap (λ (a : AfterBenchBuild). told a.refusal) g.2 ∙ build_number g.0.answer)
    (bench.set_exactly held number (value_meant negative magnitude) g.1)

pub take_exactly : (held : Bench) (frame room : List ℕ) {r : AfterBenchTake} {room' : List ℕ} → GivesTake held frame room r room'
    → Numbered (passed_up at_bench.fault_number (silence_rows held frame (length room)))
    (1 ∷ 2 ∷ 3 ∷ 4 ∷ 5 ∷ 6 ∷ 7 ∷ 8 ∷ 9 ∷ 35 ∷ 36 ∷ 37 ∷ []) (told r.answer.refusal)
take_exactly held frame room g =
    numbered_as (ap (λ (a : AfterBenchTake). told a.answer.refusal) g.2 ∙ take_number_lem g.0.answer) (bench.take_exactly held frame room g.1)

-- of these 6 never is: all but 0 mean silence
pub take_silent : (held : Bench) (frame room : List ℕ) {r : AfterBenchTake} {room' : List ℕ} → GivesTake held frame room r room' → r.answer.refusal ≢ 0
    → MeansSilence r.answer.refusal
take_silent held frame room {r} {room'} g n =
    subst MeansSilence (sym (ap (λ (a : AfterBenchTake). a.answer.refusal) g.2))
    (by g.0.answer refl (λ e. n (ap (λ (a : AfterBenchTake). a.answer.refusal) g.2 ∙ e)))
  where
    by : (a : Taking) → g.0.answer ≡ a → (take_given g.0.answer).refusal ≢ 0 → MeansSilence (take_given g.0.answer).refusal
    by (Err f) e m = rw e (silent_number held frame room g.1 f e)
    by (Ok size) e m = absurd (m (rw e))

-- ---- sheets

pub sheet_exactly : (rows values room : List ℕ) {r : SizeAnswer} {room' : List ℕ} → GivesSheet rows values room r room'
    → Numbered (passed_up of_setting.fault_number (writer.write_rows rows values room)) (79 ∷ 68 ∷ 69 ∷ 57 ∷ []) (told r.refusal)
sheet_exactly rows values room {r} {room'} g =
    numbered_as (ap (λ (a : SizeAnswer). told a.refusal) g.2 ∙ sheet_number_lem g.0) (writer_laws.write_exactly rows values room g.0 room' g.1)

pub check_exactly : (bytes : List ℕ) {r : CheckAnswer} → GivesCheck bytes r
    → Numbered (passed_up of_setting.fault_number (sheet.check_rows bytes)) (65 ∷ 66 ∷ 67 ∷ 68 ∷ 69 ∷ 70 ∷ []) (told r.refusal)
check_exactly bytes g =
    numbered_as (ap (λ (a : CheckAnswer). told a.refusal) g.2 ∙ check_number g.0) (sheet_laws.check_exactly bytes g.0 g.1)

pub record_exactly : (bytes : List ℕ) (index : ℕ) (room : List ℕ) {r : RecordAnswer} {room' : List ℕ} → GivesRecord bytes index room r room'
    → Numbered (passed_up of_setting.fault_number (sheet.read_rows bytes index room)) (65 ∷ 66 ∷ 67 ∷ 68 ∷ 69 ∷ 70 ∷ 56 ∷ 57 ∷ []) (told r.refusal)
record_exactly bytes index room {r} {room'} g =
    numbered_as (ap (λ (a : RecordAnswer). told a.refusal) g.2 ∙ record_number g.0) (sheet_laws.read_exactly bytes index room g.0 room' g.1)

pub removed_exactly : (room : List ℕ) (size index : ℕ) {r : SizeAnswer} {room' : List ℕ} → GivesRemoved room size index r room'
    → Numbered (passed_up of_editor.fault_number (remove_rows room size index)) (80 ∷ 65 ∷ 66 ∷ 67 ∷ 68 ∷ 69 ∷ 70 ∷ 77 ∷ []) (told r.refusal)
removed_exactly room size index {r} {room'} g =
    numbered_as (ap (λ (a : SizeAnswer). told a.refusal) g.2 ∙ edit_number g.0) (editor_laws.remove_exactly room size index g.0 room' g.1)

pub module_removed_exactly : (room : List ℕ) (size unit : ℕ) {r : SizeAnswer} {room' : List ℕ} → GivesModuleRemoved room size unit r room'
    → Numbered (passed_up of_editor.fault_number (module_rows room size unit)) (80 ∷ 65 ∷ 66 ∷ 67 ∷ 68 ∷ 69 ∷ 70 ∷ 77 ∷ []) (told r.refusal)
module_removed_exactly room size unit {r} {room'} g =
    numbered_as (ap (λ (a : SizeAnswer). told a.refusal) g.2 ∙ edit_number g.0) (editor_laws.module_exactly room size unit g.0 room' g.1)

-- of adding, 69 and 80 stand twice, as in the call below
pub added_exactly : (room : List ℕ) (size : ℕ) (named : Head) (value : List ℕ) {r : SizeAnswer} {room' : List ℕ} → GivesAdded room size named value r room'
    → (numbers_of (passed_up of_editor.fault_number (added_rows room size (setting named value))) ≡ 80 ∷ 65 ∷ 66 ∷ 67 ∷ 68 ∷ 69 ∷ 70 ∷ 69 ∷ 78 ∷ 79 ∷ 80 ∷ [])
    × ((n : ℕ) → (told r.refusal ≡ some n) ↔ First (passed_up of_editor.fault_number (added_rows room size (setting named value))) n)
    × ((told r.refusal ≡ none) ↔ NoRow (passed_up of_editor.fault_number (added_rows room size (setting named value))))
added_exactly room size named value {r} {room'} g =
    rw (ap (λ (a : SizeAnswer). told a.refusal) g.2 ∙ edit_number g.0) (editor_laws.add_exactly room size named value g.0 room' g.1)

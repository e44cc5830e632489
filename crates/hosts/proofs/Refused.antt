-- "It returns its number only, and every buffer, ticket and register and the desk's turn are as before": of every call of the C host whose
-- refusal is not 0. Every other field of the answer is 0, but for the place with 3, the count of addresses (02, #108), and the job with 75.
-- Assumes nothing.
use Rattle.scan.specs.Answers.{Stepping}
use Rattle.std.specs.Prelude.{Ok, Err}
use mathlib.Core.Path.{◌≡◌, refl, ap, ◌∙◌, subst}
use mathlib.Core.List.{List}
use mathlib.Core.Logic.{◌≢◌}
use mathlib.Core.Option.{Option, some, none}
use Prim.Native.Nat.{ℕ}
use Rattle.bench.specs.Answers.{Building, Taking}
use Rattle.bench.specs.Register.{empty_bench}
use Rattle.bench.specs.declared.Bench.{Bench}
use Rattle.catalogue.specs.Answers.{Found}
use Rattle.desk.specs.Answers.{Booking, Closing, Opening}
use Rattle.desk.specs.declared.Desk.{Desk}
use Rattle.lanes.specs.Answers.{Joining, Withdrawing, Granting}
use Rattle.lanes.specs.declared.Lanes.{Lanes}
use Rattle.request.specs.declared.Request.{Request}
use Rattle.scan.specs.declared.Scan.{Scan}
use Rattle.setting.specs.declared.Head.{Head}
use Rattle.sheet.specs.Answers.{Checked, Reading}
use Rattle.sheet_editor.specs.Answers.{Editing}
use Rattle.sheet_writer.specs.Answers.{Writing}
use Rattle.varia.specs.Answers.{Asking}
use Rattle.varia.specs.declared.AfterAsk.{AfterAsk}
use Rattle.varia.specs.declared.Pass.{Pass}
use Rattle.kamzhor.specs.Bench.{GivesBench, GivesAdd, GivesSet, GivesTake, build_given, take_number, take_given}
use Rattle.kamzhor.specs.Desk.{GivesOpen, GivesReply, GivesCancel, GivesExpire}
use Rattle.kamzhor.specs.Desk.{open_number, open_given, reply_number, reply_given, close_number, close_given}
use Rattle.kamzhor.specs.Filters.{GivesEdge, GivesAttenuation, GivesMonitor, GivesStatus, box_meant, box_told, ask_given, ask_told}
use Rattle.kamzhor.specs.Lanes.{GivesJoin, GivesGrant, GivesWithdraw, join_number, join_given, grant_number, grant_given, withdraw_given}
use Rattle.kamzhor.specs.Scan.{GivesScanStep, scan_given}
use Rattle.kamzhor.specs.Sheet.{GivesSheet, GivesCheck, GivesRecord, GivesRemoved, GivesModuleRemoved, GivesAdded}
use Rattle.kamzhor.specs.Sheet.{sheet_given, check_given, record_given, edit_given}
use Rattle.kamzhor.specs.Values.{GivesWritten, GivesStored, GivesEntry, size_number, written_given, stored_given, entry_given, value_meant}
use Rattle.kamzhor.specs.declared.host_bench.AfterBenchBuild.{AfterBenchBuild}
use Rattle.kamzhor.specs.declared.host_bench.AfterBenchTake.{AfterBenchTake}
use Rattle.kamzhor.specs.declared.host_box.AfterBoxAsk.{AfterBoxAsk}
use Rattle.kamzhor.specs.declared.host_box.HostBox.{HostBox}
use Rattle.kamzhor.specs.declared.host_desk.AfterDeskClose.{AfterDeskClose}
use Rattle.kamzhor.specs.declared.host_desk.AfterDeskOpen.{AfterDeskOpen}
use Rattle.kamzhor.specs.declared.host_desk.AfterDeskReply.{AfterDeskReply}
use Rattle.kamzhor.specs.declared.host_lanes.AfterLanesGrant.{AfterLanesGrant}
use Rattle.kamzhor.specs.declared.host_lanes.AfterLanesJoin.{AfterLanesJoin}
use Rattle.kamzhor.specs.declared.host_lanes.AfterLanesWithdraw.{AfterLanesWithdraw}
use Rattle.kamzhor.specs.declared.host_scan.AfterScanStep.{AfterScanStep}
use Rattle.kamzhor.specs.declared.host_sheet.CheckAnswer.{CheckAnswer}
use Rattle.kamzhor.specs.declared.host_sheet.RecordAnswer.{RecordAnswer}
use Rattle.kamzhor.specs.declared.host_values.EntryAnswer.{EntryAnswer}
use Rattle.kamzhor.specs.declared.host_values.SizeAnswer.{SizeAnswer}
use Rattle.bench.proofs.Laws as bench
use Rattle.bench.specs.declared.Fault as bench_fault
use Rattle.desk.proofs.Laws as desk_laws
use Rattle.desk.specs.declared.Fault as desk_fault
use Rattle.lanes.proofs.Laws as lanes_laws
use Rattle.lanes.specs.declared.Fault as lanes_fault
use Rattle.lanes.specs.declared.Turn.TheVariants as grantings
use Rattle.scan.proofs.Laws as scan_laws
use Rattle.scan.specs.declared.Stage.TheVariants as steppings
use Rattle.setting.specs.declared.Fault as setting_fault
use Rattle.sheet.proofs.Laws as sheet_laws
use Rattle.sheet.specs.Sheet as sheet
use Rattle.sheet_editor.proofs.Laws as editor_laws
use Rattle.sheet_editor.specs.Editor as editor
use Rattle.sheet_editor.specs.declared.Fault as editor_fault
use Rattle.sheet_writer.proofs.Laws as writer_laws
use Rattle.sheet_writer.specs.Writer as writer
use Rattle.telegram.specs.Read as telegram
use Rattle.telegram.specs.Write as telegram_write
use Rattle.telegram.specs.declared.Fault as telegram_fault
use Rattle.values.specs.Values as values
use Rattle.values.specs.declared.Fault as values_fault
use Rattle.varia.proofs.Laws as varia_laws
use Rattle.varia.specs.declared.Fault as varia_fault

-- every other field is 0, written out
pub number_fields : (n job k : ℕ)
    → (open_number n k ≡ record { refusal = n; address = 0; considered = k; size = 0 })
    × (reply_number n k ≡ record { refusal = n; job = 0; folder = 0; address = 0; sort = 0; size = 0; place = k })
    × (close_number n ≡ record { refusal = n; job = 0; folder = 0; address = 0 })
    × (join_number n ≡ record { refusal = n; lane = 0; place = 0 })
    × (grant_number n job k ≡ record { refusal = n; job = job; address = 0; considered = k; size = 0 })
    × (take_number n k ≡ record { refusal = n; size = 0; place = k })
    × (size_number n ≡ record { refusal = n; size = 0 })
number_fields n job k = (refl, refl, refl, refl, refl, refl, refl)

-- ---- the desk

open_was : (a : Opening) (k : ℕ) → (open_given a k).refusal ≢ 0
    → (open_given a k ≡ open_number (open_given a k).refusal k) × ((f : desk_fault.Fault) × (a ≡ Err f))
open_was (Err f) k n = (refl, (f, refl))
open_was (Ok opened) k n = absurd (n refl)

pub open_refused_lem : (desk : Desk) (asked : Request) (bytes : List ℕ) (clock : ℕ) (room : List ℕ) {r : AfterDeskOpen} {room' : List ℕ}
    → GivesOpen desk asked bytes clock room r room' → r.answer.refusal ≢ 0
    → (r.answer ≡ open_number r.answer.refusal r.answer.considered) × (r.desk ≡ desk) × (room' ≡ room)
open_refused_lem desk asked bytes clock room {r} {room'} g n =
    let is : r.answer ≡ open_given g.0.answer g.0.count = ap (λ (a : AfterDeskOpen). a.answer) g.2 in
    let was = open_was g.0.answer g.0.count (rw is at n) in
    let kept = desk_laws.open_refusal_keeps desk asked bytes clock room g.0 room' g.1 was.1.0 was.1.1 in (
      rw is (was.0 ∙ rw was.1.1 refl),
      ap (λ (a : AfterDeskOpen). a.desk) g.2 ∙ kept.0,
      kept.1,
    )

reply_was : (a : Booking) → (reply_given a).refusal ≢ 0
    → (reply_given a ≡ reply_number (reply_given a).refusal (reply_given a).place) × ((f : desk_fault.Fault) × (a ≡ Err f))
reply_was (Err f) n = (refl, (f, refl))
reply_was (Ok booked) n = absurd (n refl)

pub reply_refused_lem : (desk : Desk) (frame room : List ℕ) {r : AfterDeskReply} {room' : List ℕ} → GivesReply desk frame room r room' → r.answer.refusal ≢ 0
    → (r.answer ≡ reply_number r.answer.refusal r.answer.place) × (r.desk ≡ desk) × (room' ≡ room)
reply_refused_lem desk frame room {r} {room'} g n =
    let is : r.answer ≡ reply_given g.0.answer = ap (λ (a : AfterDeskReply). a.answer) g.2 in
    let was = reply_was g.0.answer (rw is at n) in
    let kept = desk_laws.reply_refusal_keeps desk frame room g.0 room' g.1 was.1.0 was.1.1 in
    (rw is was.0, ap (λ (a : AfterDeskReply). a.desk) g.2 ∙ kept.0, kept.1)

close_was : (a : Closing) → (close_given a).refusal ≢ 0
    → (close_given a ≡ close_number (close_given a).refusal) × ((f : desk_fault.Fault) × (a ≡ Err f))
close_was (Err f) n = (refl, (f, refl))
close_was (Ok closed) n = absurd (n refl)

pub cancel_refused_lem : (desk : Desk) (job address clock : ℕ) {r : AfterDeskClose} → GivesCancel desk job address clock r → r.answer.refusal ≢ 0
    → (r.answer ≡ close_number r.answer.refusal) × (r.desk ≡ desk)
cancel_refused_lem desk job address clock {r} g n =
    let is : r.answer ≡ close_given g.0.answer = ap (λ (a : AfterDeskClose). a.answer) g.2 in
    let was = close_was g.0.answer (rw is at n) in (
      rw is was.0,
      ap (λ (a : AfterDeskClose). a.desk) g.2 ∙ desk_laws.cancel_refusal_keeps desk job address clock g.0 was.1.0 g.1 was.1.1,
    )

pub expire_refused_lem : (desk : Desk) (clock : ℕ) {r : AfterDeskClose} → GivesExpire desk clock r → r.answer.refusal ≢ 0
    → (r.answer ≡ close_number r.answer.refusal) × (r.desk ≡ desk)
expire_refused_lem desk clock {r} g n =
    let is : r.answer ≡ close_given g.0.answer = ap (λ (a : AfterDeskClose). a.answer) g.2 in
    let was = close_was g.0.answer (rw is at n) in (
      rw is was.0,
      ap (λ (a : AfterDeskClose). a.desk) g.2 ∙ desk_laws.expire_refusal_keeps desk clock g.0 was.1.0 g.1 was.1.1,
    )

-- ---- the lanes

join_was : (a : Joining) → (join_given a).refusal ≢ 0
    → (join_given a ≡ join_number (join_given a).refusal) × ((f : lanes_fault.Fault) × (a ≡ Err f))
join_was (Err f) n = (refl, (f, refl))
join_was (Ok joined) n = absurd (n refl)

pub join_refused : (lanes : Lanes) (asked : Request) (bytes : List ℕ) {r : AfterLanesJoin} → GivesJoin lanes asked bytes r → r.answer.refusal ≢ 0
    → (r.answer ≡ join_number r.answer.refusal) × (r.lanes ≡ lanes)
join_refused lanes asked bytes {r} g n =
    let is : r.answer ≡ join_given g.0.answer = ap (λ (a : AfterLanesJoin). a.answer) g.2 in
    let was = join_was g.0.answer (rw is at n) in (
      rw is was.0,
      ap (λ (a : AfterLanesJoin). a.lanes) g.2 ∙ lanes_laws.join_refusal_keeps lanes asked bytes g.0 was.1.0 g.1 was.1.1,
    )

grant_was : (a : Granting) (k : ℕ) → (grant_given a k).refusal ≢ 0
    → grant_given a k ≡ grant_number (grant_given a k).refusal (grant_given a k).job (grant_given a k).considered
grant_was (Err f) k n = refl
grant_was (Ok (grantings.TakenOut job)) k n = refl
grant_was (Ok (grantings.Granted job address size)) k n = absurd (n refl)

-- with 75 the request of the job that is told was taken out of its lane, and desk and buffer stay; with any other number the lanes stay too
pub grant_refused : (lanes : Lanes) (desk : Desk) (clock : ℕ) (room : List ℕ) (r : AfterLanesGrant) (room' : List ℕ)
    → GivesGrant lanes desk clock room r room' → r.answer.refusal ≢ 0
    → (r.answer ≡ grant_number r.answer.refusal r.answer.job r.answer.considered)
    × (r.desk ≡ desk)
    × (room' ≡ room)
    × (r.answer.refusal ≢ 75 → r.lanes ≡ lanes)
grant_refused lanes desk clock room r room' g n =
    let is : r.answer ≡ grant_given g.0.answer g.0.count = ap (λ (a : AfterLanesGrant). a.answer) g.2 in
    let was = grant_was g.0.answer g.0.count (rw is at n) in
    let kept = by g.0.answer refl (rw is at n) in (
      rw is was,
      ap (λ (a : AfterLanesGrant). a.desk) g.2 ∙ kept.0,
      kept.1,
      λ other. ap (λ (a : AfterLanesGrant). a.lanes) g.2 ∙ kept.2 (rw is at other),
    )
  where
    by : (a : Granting) → g.0.answer ≡ a → (grant_given g.0.answer g.0.count).refusal ≢ 0
        → (g.0.desk ≡ desk) × (room' ≡ room) × ((grant_given g.0.answer g.0.count).refusal ≢ 75 → g.0.lanes ≡ lanes)
    by (Err f) e m =
        let kept = lanes_laws.grant_refusal_keeps lanes desk clock room g.0 room' f g.1 e in (kept.1, kept.2, λ other. kept.0)
    by (Ok (grantings.TakenOut job)) e m =
        let kept = lanes_laws.taken_out_keeps lanes desk clock room g.0 room' g.1 job e in
        (kept.1, kept.2, λ other. absurd (other (rw e)))
    by (Ok (grantings.Granted job address size)) e m = absurd (m (rw e))

withdraw_was : (a : Withdrawing) → withdraw_given a ≢ 0 → (f : lanes_fault.Fault) × (a ≡ Err f)
withdraw_was (Err f) n = (f, refl)
withdraw_was (Ok _) n = absurd (n refl)

pub withdraw_refused : (lanes : Lanes) (job at : ℕ) {r : AfterLanesWithdraw} → GivesWithdraw lanes job at r → r.refusal ≢ 0 → r.lanes ≡ lanes
withdraw_refused lanes job at {r} g n =
    let is : r.refusal ≡ withdraw_given g.0.answer = ap (λ (a : AfterLanesWithdraw). a.refusal) g.2 in
    let was = withdraw_was g.0.answer (rw is at n) in
    ap (λ (a : AfterLanesWithdraw). a.lanes) g.2 ∙ lanes_laws.withdraw_refusal_keeps lanes job at g.0 was.0 g.1 was.1

-- ---- the box: it comes back as the numbers of the same box

ask_was : (a : Asking) (k : ℕ) → (ask_given a k).refusal ≢ 0
    → (ask_given a k ≡ open_number (ask_given a k).refusal k) × ((f : varia_fault.Fault) × (a ≡ Err f))
ask_was (Err f) k n = (refl, (f, refl))
ask_was (Ok opened) k n = absurd (n refl)

abbrev BoxKept : HostBox → Desk → List ℕ → AfterBoxAsk → List ℕ → Type 0
BoxKept filters desk room r room' =
    (r.answer ≡ open_number r.answer.refusal r.answer.considered)
    × (r.filters ≡ box_told (box_meant filters))
    × (r.desk ≡ desk)
    × (room' ≡ room)

module _ (filters : HostBox) (desk : Desk) (wait clock : ℕ) (room : List ℕ) (r : AfterBoxAsk) (room' : List ℕ) where
  ask_refused : (o : AfterAsk) → r ≡ ask_told o → r.answer.refusal ≢ 0
      → ((f : varia_fault.Fault) → o.answer ≡ Err f → (o.filters ≡ box_meant filters) × (o.desk ≡ desk) × (room' ≡ room))
      → BoxKept filters desk room r room'
  ask_refused o told n keeps =
      let is : r.answer ≡ ask_given o.answer o.count = ap (λ (a : AfterBoxAsk). a.answer) told in
      let was = ask_was o.answer o.count (rw is at n) in
      let kept = keeps was.1.0 was.1.1 in (
        rw is (was.0 ∙ rw was.1.1 refl),
        ap (λ (a : AfterBoxAsk). a.filters) told ∙ ap box_told kept.0,
        ap (λ (a : AfterBoxAsk). a.desk) told ∙ kept.1,
        kept.2,
      )

  pub edge_refused : (pass : Pass) (tenths : ℕ) → GivesEdge pass filters desk tenths wait clock room r room' → r.answer.refusal ≢ 0
      → BoxKept filters desk room r room'
  edge_refused pass tenths g n =
      ask_refused g.0 g.2 n (varia_laws.set_refusal_keeps (box_meant filters) desk wait clock room g.0 room' pass tenths g.1)

  pub attenuation_refused : (permille : ℕ) → GivesAttenuation filters desk permille wait clock room r room' → r.answer.refusal ≢ 0
      → BoxKept filters desk room r room'
  attenuation_refused permille g n =
      ask_refused g.0 g.2 n (varia_laws.attenuate_refusal_keeps (box_meant filters) desk wait clock room g.0 room' permille g.1)

  pub monitor_refused : GivesMonitor filters desk wait clock room r room' → r.answer.refusal ≢ 0 → BoxKept filters desk room r room'
  monitor_refused g n = ask_refused g.0 g.2 n (varia_laws.monitor_refusal_keeps (box_meant filters) desk wait clock room g.0 room' g.1)

  pub status_refused : GivesStatus filters desk wait clock room r room' → r.answer.refusal ≢ 0 → BoxKept filters desk room r room'
  status_refused g n = ask_refused g.0 g.2 n (varia_laws.status_refusal_keeps (box_meant filters) desk wait clock room g.0 room' g.1)

-- ---- the scan

scan_was : (a : Stepping) (k : ℕ) → (scan_given a k).refusal ≢ 0
    → (scan_given a k ≡ record { refusal = (scan_given a k).refusal; state = 0; address = 0; unit = 0; considered = k; size = 0 })
    × ((f : desk_fault.Fault) × (a ≡ Err f))
scan_was (Err f) k n = (refl, (f, refl))
scan_was (Ok (steppings.Asked address unit size)) k n = absurd (n refl)
scan_was (Ok (steppings.Waiting address)) k n = absurd (n refl)
scan_was (Ok steppings.Done) k n = absurd (n refl)

pub scan_refused : (scan : Scan) (desk : Desk) (clock : ℕ) (room : List ℕ) (r : AfterScanStep) (room' : List ℕ)
    → GivesScanStep scan desk clock room r room' → r.answer.refusal ≢ 0
    → (r.answer ≡ record { refusal = r.answer.refusal; state = 0; address = 0; unit = 0; considered = r.answer.considered; size = 0 })
    × (r.scan ≡ scan)
    × (r.desk ≡ desk)
    × (room' ≡ room)
scan_refused scan desk clock room r room' g n =
    let is : r.answer ≡ scan_given g.0.answer g.0.count = ap (λ (a : AfterScanStep). a.answer) g.2 in
    let was = scan_was g.0.answer g.0.count (rw is at n) in
    let kept = scan_laws.step_refusal_keeps scan desk clock room g.0 room' g.1 was.1.0 was.1.1 in (
      rw is (was.0 ∙ rw was.1.1 refl),
      ap (λ (a : AfterScanStep). a.scan) g.2 ∙ kept.0,
      ap (λ (a : AfterScanStep). a.desk) g.2 ∙ kept.1,
      kept.2,
    )

-- ---- the bench

build_was : (a : Building) → build_given a ≢ 0 → (f : bench_fault.Fault) × (a ≡ Err f)
build_was (Err f) n = (f, refl)
build_was (Ok _) n = absurd (n refl)

-- a bench that is not made has address 0, which no telegram is for
pub make_refused : (address : ℕ) {r : AfterBenchBuild} → GivesBench address r → r.refusal ≢ 0 → r.bench ≡ empty_bench 0
make_refused address {r} g n =
    let is : r.refusal ≡ build_given g.0.answer = ap (λ (a : AfterBenchBuild). a.refusal) g.2 in
    let was = build_was g.0.answer (rw is at n) in
    ap (λ (a : AfterBenchBuild). a.bench) g.2 ∙ bench.make_refused address was.0 g.1 was.1

pub add_refused : (held : Bench) (number kind rights : ℕ) {r : AfterBenchBuild} → GivesAdd held number kind rights r → r.refusal ≢ 0 → r.bench ≡ held
add_refused held number kind rights {r} g n =
    let is : r.refusal ≡ build_given g.0.answer = ap (λ (a : AfterBenchBuild). a.refusal) g.2 in
    let was = build_was g.0.answer (rw is at n) in
    ap (λ (a : AfterBenchBuild). a.bench) g.2 ∙ bench.add_refused held number kind rights was.0 g.1 was.1

pub set_refused : (held : Bench) (number negative magnitude : ℕ) {r : AfterBenchBuild} → GivesSet held number negative magnitude r → r.refusal ≢ 0
    → r.bench ≡ held
set_refused held number negative magnitude {r} g n =
    let is : r.refusal ≡ build_given g.0.answer = ap (λ (a : AfterBenchBuild). a.refusal) g.2 in
    let was = build_was g.0.answer (rw is at n) in
    ap (λ (a : AfterBenchBuild). a.bench) g.2 ∙ bench.set_refused held number (value_meant negative magnitude) was.0 g.1 was.1

take_was : (a : Taking) → (take_given a).refusal ≢ 0
    → (take_given a ≡ take_number (take_given a).refusal (take_given a).place) × ((f : bench_fault.Fault) × (a ≡ Err f))
take_was (Err f) n = (refl, (f, refl))
take_was (Ok size) n = absurd (n refl)

pub take_refused : (held : Bench) (frame room : List ℕ) {r : AfterBenchTake} {room' : List ℕ} → GivesTake held frame room r room' → r.answer.refusal ≢ 0
    → (r.answer ≡ take_number r.answer.refusal r.answer.place) × (r.bench ≡ held) × (room' ≡ room)
take_refused held frame room {r} {room'} g n =
    let is : r.answer ≡ take_given g.0.answer = ap (λ (a : AfterBenchTake). a.answer) g.2 in
    let was = take_was g.0.answer (rw is at n) in
    let kept = bench.silent_stays held frame room was.1.0 g.1 was.1.1 in
    (rw is was.0, ap (λ (a : AfterBenchTake). a.bench) g.2 ∙ kept.0, kept.1)

-- ---- writing

written_was : (o : Option telegram_fault.Fault) (k : ℕ) (bytes room : List ℕ) → (written_given (telegram_write.write_answer o k)).refusal ≢ 0
    → (written_given (telegram_write.write_answer o k) ≡ size_number (written_given (telegram_write.write_answer o k)).refusal)
    × (telegram.room_after o bytes room ≡ room)
written_was (some f) k bytes room n = (refl, refl)
written_was none k bytes room n = absurd (n refl)

pub written_refused : (destination source sort register : ℕ) (bytes room : List ℕ) {r : SizeAnswer} {room' : List ℕ}
    → GivesWritten destination source sort register bytes room r room' → r.refusal ≢ 0 → (r ≡ size_number r.refusal) × (room' ≡ room)
written_refused destination source sort register bytes room {r} {room'} g n =
    let is = g.2 ∙ ap written_given g.1.0 in
    let was = written_was (telegram_write.write_refusal destination source sort register bytes _) _ _ room (rw is at n) in
    (rw is was.0, g.1.1 ∙ was.1)

stored_was : (o : Option values_fault.Fault) (bytes room : List ℕ) → stored_given (values.write_answer o) ≢ 0 → values.room_after o bytes room ≡ room
unfolding values.room_after
stored_was (some f) bytes room n = refl
stored_was none bytes room n = absurd (n refl)

pub stored_refused : (kind negative magnitude : ℕ) (room : List ℕ) {r : ℕ} {room' : List ℕ} → GivesStored kind negative magnitude room r room' → r ≢ 0
    → room' ≡ room
stored_refused kind negative magnitude room g n =
    g.1.1 ∙ stored_was (values.write_refusal kind (value_meant negative magnitude) _) _ room (λ e. n (g.2 ∙ (ap stored_given g.1.0 ∙ e)))

pub entry_refused : (model register : ℕ) {r : EntryAnswer} → GivesEntry model register r → r.refusal ≢ 0
    → r ≡ record { refusal = r.refusal; kind = 0; writable = 0; lowest = 0; highest = 0 }
entry_refused model register {r} g n = rw g.2 (by g.0 (rw g.2 at n))
  where
    by : (e : Found) → (entry_given e).refusal ≢ 0
        → entry_given e ≡ record { refusal = (entry_given e).refusal; kind = 0; writable = 0; lowest = 0; highest = 0 }
    by (Err f) m = refl
    by (Ok e) m = absurd (m refl)

-- ---- sheets

sheet_was : (a : Writing) → (sheet_given a).refusal ≢ 0
    → (sheet_given a ≡ size_number (sheet_given a).refusal) × ((f : setting_fault.Fault) × (a ≡ Err f))
sheet_was (Err f) n = (refl, (f, refl))
sheet_was (Ok size) n = absurd (n refl)

pub sheet_refused : (rows values room : List ℕ) {r : SizeAnswer} {room' : List ℕ} → GivesSheet rows values room r room' → r.refusal ≢ 0
    → (r ≡ size_number r.refusal) × (room' ≡ room)
sheet_refused rows values room {r} {room'} g n =
    let was = sheet_was g.0 (rw g.2 at n) in (
      rw g.2 was.0,
      writer_laws.write_refusal_keeps rows values room was.1.0 room' (subst (λ (a : Writing). writer.Writes rows values room a room') was.1.1 g.1),
    )

pub check_refused : (bytes : List ℕ) {r : CheckAnswer} → GivesCheck bytes r → r.refusal ≢ 0 → r ≡ record { refusal = r.refusal; count = 0 }
check_refused bytes {r} g n = rw g.2 (by g.0 (rw g.2 at n))
  where
    by : (a : Checked) → (check_given a).refusal ≢ 0 → check_given a ≡ record { refusal = (check_given a).refusal; count = 0 }
    by (Err f) m = refl
    by (Ok count) m = absurd (m refl)

record_was : (a : Reading) → (record_given a).refusal ≢ 0
    → (record_given a ≡ record { refusal = (record_given a).refusal; head = record { unit = 0; register = 0; kind = 0; count = 0 }; size = 0 }) × ((f : setting_fault.Fault) × (a ≡ Err f))
record_was (Err f) n = (refl, (f, refl))
record_was (Ok r) n = absurd (n refl)

pub record_refused : (bytes : List ℕ) (index : ℕ) (room : List ℕ) {r : RecordAnswer} {room' : List ℕ} → GivesRecord bytes index room r room' → r.refusal ≢ 0
    → (r ≡ record { refusal = r.refusal; head = record { unit = 0; register = 0; kind = 0; count = 0 }; size = 0 }) × (room' ≡ room)
record_refused bytes index room {r} {room'} g n =
    let was = record_was g.0 (rw g.2 at n) in (
      rw g.2 was.0,
      sheet_laws.read_refusal_keeps bytes index room was.1.0 room' (subst (λ (a : Reading). sheet.Reads bytes index room a room') was.1.1 g.1),
    )

edit_was : (a : Editing) → (edit_given a).refusal ≢ 0
    → (edit_given a ≡ size_number (edit_given a).refusal) × ((f : editor_fault.Fault) × (a ≡ Err f))
edit_was (Err f) n = (refl, (f, refl))
edit_was (Ok size) n = absurd (n refl)

pub removed_refused : (room : List ℕ) (size index : ℕ) {r : SizeAnswer} {room' : List ℕ} → GivesRemoved room size index r room' → r.refusal ≢ 0
    → (r ≡ size_number r.refusal) × (room' ≡ room)
removed_refused room size index {r} {room'} g n =
    let was = edit_was g.0 (rw g.2 at n) in (
      rw g.2 was.0,
      editor_laws.remove_refusal_keeps room size index was.1.0 room' (subst (λ (a : Editing). editor.Removes room size index a room') was.1.1 g.1),
    )

pub module_removed_refused : (room : List ℕ) (size unit : ℕ) {r : SizeAnswer} {room' : List ℕ} → GivesModuleRemoved room size unit r room' → r.refusal ≢ 0
    → (r ≡ size_number r.refusal) × (room' ≡ room)
module_removed_refused room size unit {r} {room'} g n =
    let was = edit_was g.0 (rw g.2 at n) in (
      rw g.2 was.0,
      editor_laws.module_refusal_keeps room size unit was.1.0 room' (subst (λ (a : Editing). editor.RemovesModule room size unit a room') was.1.1 g.1),
    )

pub added_refused : (room : List ℕ) (size : ℕ) (named : Head) (value : List ℕ) {r : SizeAnswer} {room' : List ℕ} → GivesAdded room size named value r room'
    → r.refusal ≢ 0 → (r ≡ size_number r.refusal) × (room' ≡ room)
added_refused room size named value {r} {room'} g n =
    let was = edit_was g.0 (rw g.2 at n) in (
      rw g.2 was.0,
      editor_laws.add_refusal_keeps room size named value was.1.0 room'
          (subst (λ (a : Editing). editor.Adds room size named value a room') was.1.1 g.1),
    )

-- No refusal has the number 0: so the number that C is told says whether there was one, and which.
-- Assumes nothing.
use Rattle.scan.specs.Answers.{Stepping}
use Rattle.std.specs.Prelude.{Ok, Err}
use mathlib.Core.Path.{◌≡◌, refl}
use mathlib.Core.Option.{some}
use Prim.Native.Nat.{ℕ}
use Rattle.bench.specs.Answers.{Building, Taking}
use Rattle.catalogue.specs.Answers.{Found}
use Rattle.desk.specs.Answers.{Booking, Closing, Opening}
use Rattle.kamzhor.specs.Host.{told}
use Rattle.lanes.specs.Answers.{Joining, Withdrawing, Granting}
use Rattle.sheet.specs.Answers.{Checked, Reading}
use Rattle.sheet_editor.specs.Answers.{Editing}
use Rattle.sheet_writer.specs.Answers.{Writing as SheetWriting}
use Rattle.telegram.specs.Answers.{Writing as FrameWriting}
use Rattle.values.specs.Answers.{Writing as ValueWriting}
use Rattle.varia.specs.Answers.{Asking}
use Rattle.bench.specs.Register as bench
use Rattle.bench.specs.Build as bench_build
use Rattle.bench.specs.Take as bench_take
use Rattle.bench.specs.declared.Fault as bench_fault
use Rattle.bench.specs.declared.Fault.TheVariants as bench_faults
use Rattle.catalogue.specs.Catalogue as catalogue
use Rattle.catalogue.specs.declared.Fault as catalogue_fault
use Rattle.catalogue.specs.declared.Fault.TheVariants as catalogue_faults
use Rattle.desk.specs.Close as desk_close
use Rattle.desk.specs.Desk as desk
use Rattle.desk.specs.Open as desk_open
use Rattle.desk.specs.Reply as desk_reply
use Rattle.desk.specs.declared.Fault as desk_fault
use Rattle.desk.specs.declared.Fault.TheVariants as desk_faults
use Rattle.lanes.specs.Grant as lanes_grant
use Rattle.lanes.specs.Join as lanes_join
use Rattle.lanes.specs.Lanes as lanes
use Rattle.lanes.specs.Withdraw as lanes_withdraw
use Rattle.lanes.specs.declared.Fault as lanes_fault
use Rattle.lanes.specs.declared.Fault.TheVariants as lanes_faults
use Rattle.lanes.specs.declared.Turn.TheVariants as grantings
use Rattle.request.specs.Request as request
use Rattle.request.specs.declared.Fault as request_fault
use Rattle.request.specs.declared.Fault.TheVariants as request_faults
use Rattle.scan.specs.Scan as scan
use Rattle.scan.specs.declared.Stage.TheVariants as steppings
use Rattle.setting.specs.Setting as setting
use Rattle.setting.specs.declared.Fault as setting_fault
use Rattle.setting.specs.declared.Fault.TheVariants as setting_faults
use Rattle.sheet.specs.Sheet as sheet
use Rattle.sheet_editor.specs.Editor as editor
use Rattle.sheet_editor.specs.declared.Fault as editor_fault
use Rattle.sheet_editor.specs.declared.Fault.TheVariants as editor_faults
use Rattle.sheet_writer.specs.Writer as sheet_writer_lem
use Rattle.telegram.specs.Read as telegram
use Rattle.telegram.specs.Write as telegram_write
use Rattle.telegram.specs.declared.Fault as telegram_fault
use Rattle.telegram.specs.declared.Fault.TheVariants as telegram_faults
use Rattle.ticket.specs.Fit as ticket
use Rattle.ticket.specs.declared.Fault as ticket_fault
use Rattle.ticket.specs.declared.Fault.TheVariants as ticket_faults
use Rattle.values.specs.Values as values
use Rattle.values.specs.declared.Fault as values_fault
use Rattle.values.specs.declared.Fault.TheVariants as values_faults
use Rattle.varia.specs.Ask as varia_ask
use Rattle.varia.specs.Box as varia
use Rattle.varia.specs.declared.Fault as varia_fault
use Rattle.varia.specs.declared.Fault.TheVariants as varia_faults
use Rattle.kamzhor.specs.Bench as of_host_bench
use Rattle.kamzhor.specs.Desk as of_host_desk
use Rattle.kamzhor.specs.Filters as host_filters
use Rattle.kamzhor.specs.Lanes as host_lanes
use Rattle.kamzhor.specs.Scan as host_scan
use Rattle.kamzhor.specs.Sheet as host_sheet
use Rattle.kamzhor.specs.Values as host_values

-- ---- of each list of faults

pub asked : (f : request_fault.Fault) → told (request.fault_number f) ≡ some (request.fault_number f)
asked request_faults.NoJob = refl
asked request_faults.NotAModule = refl
asked request_faults.NotARequest = refl
asked request_faults.WrongData = refl
asked request_faults.WrongWait = refl

pub unread : (f : telegram_fault.Fault) → told (telegram.fault_number f) ≡ some (telegram.fault_number f)
unread telegram_faults.NotFramed = refl
unread telegram_faults.StrayEnd = refl
unread (telegram_faults.BadSubstitution place) = refl
unread telegram_faults.ShortMessage = refl
unread telegram_faults.LongMessage = refl
unread telegram_faults.NoRoom = refl
unread telegram_faults.CheckFault = refl
unread telegram_faults.ZeroAddress = refl
unread telegram_faults.UnknownType = refl

pub misfit : (f : ticket_fault.Fault) → told (ticket.fault_number f) ≡ some (ticket.fault_number f)
misfit ticket_faults.Withdrawn = refl
misfit ticket_faults.NoTicket = refl
misfit ticket_faults.OtherModule = refl
misfit ticket_faults.OtherKind = refl
misfit ticket_faults.OtherRegister = refl

pub at_desk_lem : (f : desk_fault.Fault) → told (desk.fault_number f) ≡ some (desk.fault_number f)
at_desk_lem (desk_faults.Denied f) = asked f
at_desk_lem desk_faults.FolderHeld = refl
at_desk_lem desk_faults.NoneFree = refl
at_desk_lem desk_faults.NoRoom = refl
at_desk_lem (desk_faults.Unread f) = unread f
at_desk_lem (desk_faults.Misfit f) = misfit f
at_desk_lem desk_faults.NotTheirs = refl
at_desk_lem desk_faults.NothingDue = refl

pub in_lanes : (f : lanes_fault.Fault) → told (lanes.fault_number f) ≡ some (lanes.fault_number f)
in_lanes (lanes_faults.Denied f) = asked f
in_lanes lanes_faults.NoLaneFree = refl
in_lanes lanes_faults.LaneFull = refl
in_lanes lanes_faults.ShortBuffer = refl
in_lanes lanes_faults.NothingWaiting = refl
in_lanes lanes_faults.NoSuchRequest = refl
in_lanes (lanes_faults.AtDesk f) = at_desk_lem f

pub at_box : (f : varia_fault.Fault) → told (varia.fault_number f) ≡ some (varia.fault_number f)
at_box varia_faults.EdgeOut = refl
at_box varia_faults.TooMuch = refl
at_box varia_faults.OutOfOrder = refl
at_box (varia_faults.AtDesk f) = at_desk_lem f

pub at_bench : (f : bench_fault.Fault) → told (bench.fault_number f) ≡ some (bench.fault_number f)
at_bench (bench_faults.Unread f) = unread f
at_bench bench_faults.WrongKind = refl
at_bench bench_faults.WrongRights = refl
at_bench bench_faults.AlreadyThere = refl
at_bench bench_faults.Full = refl
at_bench bench_faults.NotAModule = refl
at_bench bench_faults.OtherAddress = refl
at_bench bench_faults.NotARequest = refl
at_bench bench_faults.NoRoom = refl
at_bench bench_faults.NotHeld = refl
at_bench bench_faults.DoesNotFit = refl

pub of_value : (f : values_fault.Fault) → told (values.fault_number f) ≡ some (values.fault_number f)
of_value values_faults.UnknownKind = refl
of_value values_faults.WrongLength = refl
of_value values_faults.NoSuchElement = refl
of_value values_faults.DoesNotFit = refl
of_value values_faults.ShortBuffer = refl

pub of_row : (f : catalogue_fault.Fault) → told (catalogue.fault_number f) ≡ some (catalogue.fault_number f)
of_row catalogue_faults.NoSuchRow = refl

pub of_setting : (f : setting_fault.Fault) → told (setting.fault_number f) ≡ some (setting.fault_number f)
of_setting setting_faults.ShortSheet = refl
of_setting setting_faults.OtherVersion = refl
of_setting setting_faults.WrongHeader = refl
of_setting setting_faults.OutOfOrder = refl
of_setting setting_faults.NotAllowed = refl
of_setting setting_faults.WrongPlaces = refl
of_setting setting_faults.NoSuchRecord = refl
of_setting setting_faults.NoRoom = refl
of_setting setting_faults.TooMany = refl

pub of_edit : (f : editor_fault.Fault) → told (editor.fault_number f) ≡ some (editor.fault_number f)
of_edit editor_faults.Overstated = refl
of_edit (editor_faults.WrongSheet f) = of_setting f
of_edit editor_faults.NothingThere = refl
of_edit editor_faults.NotAllowed = refl
of_edit editor_faults.AlreadyThere = refl
of_edit editor_faults.Full = refl
of_edit editor_faults.NoRoom = refl

-- ---- of each answer: what C is told is what the call below tells

pub written_number : (w : FrameWriting) → told (host_values.written_given w).refusal ≡ telegram_write.write_told w
written_number (Err f) = unread f
written_number (Ok n) = refl

pub stored_number : (w : ValueWriting) → told (host_values.stored_given w) ≡ values.write_told w
stored_number (Err f) = of_value f
stored_number (Ok _) = refl

pub entry_number : (e : Found) → told (host_values.entry_given e).refusal ≡ catalogue.find_told e
entry_number (Err f) = of_row f
entry_number (Ok e) = refl

pub open_number_lem : (o : Opening) (considered : ℕ) → told (of_host_desk.open_given o considered).refusal ≡ desk_open.open_told o
open_number_lem (Err f) considered = at_desk_lem f
open_number_lem (Ok opened) considered = refl

pub reply_number_lem : (o : Booking) → told (of_host_desk.reply_given o).refusal ≡ desk_reply.book_told o
reply_number_lem (Err f) = at_desk_lem f
reply_number_lem (Ok booked) = refl

pub close_number_lem : (o : Closing) → told (of_host_desk.close_given o).refusal ≡ desk_close.close_told o
close_number_lem (Err f) = at_desk_lem f
close_number_lem (Ok closed) = refl

pub join_number_lem : (o : Joining) → told (host_lanes.join_given o).refusal ≡ lanes_join.join_told o
join_number_lem (Err f) = in_lanes f
join_number_lem (Ok joined) = refl

pub grant_number_lem : (o : Granting) (considered : ℕ) → told (host_lanes.grant_given o considered).refusal ≡ lanes_grant.grant_told o
grant_number_lem (Err f) considered = in_lanes f
grant_number_lem (Ok (grantings.TakenOut job)) considered = refl
grant_number_lem (Ok (grantings.Granted job address n)) considered = refl

pub withdraw_number : (o : Withdrawing) → told (host_lanes.withdraw_given o) ≡ lanes_withdraw.withdraw_told o
withdraw_number (Err f) = in_lanes f
withdraw_number (Ok _) = refl

pub ask_number_lem : (o : Asking) (considered : ℕ) → told (host_filters.ask_given o considered).refusal ≡ varia_ask.ask_told o
ask_number_lem (Err f) considered = at_box f
ask_number_lem (Ok opened) considered = refl

pub scan_number : (o : Stepping) (considered : ℕ) → told (host_scan.scan_given o considered).refusal ≡ scan.step_told o
scan_number (Err f) considered = at_desk_lem f
scan_number (Ok (steppings.Asked address unit n)) considered = refl
scan_number (Ok (steppings.Waiting address)) considered = refl
scan_number (Ok steppings.Done) considered = refl

pub build_number : (o : Building) → told (of_host_bench.build_given o) ≡ bench_build.build_told o
build_number (Err f) = at_bench f
build_number (Ok _) = refl

pub take_number_lem : (o : Taking) → told (of_host_bench.take_given o).refusal ≡ bench_take.take_told o
take_number_lem (Err f) = at_bench f
take_number_lem (Ok n) = refl

pub sheet_number_lem : (o : SheetWriting) → told (host_sheet.sheet_given o).refusal ≡ sheet_writer_lem.write_told o
sheet_number_lem (Err f) = of_setting f
sheet_number_lem (Ok n) = refl

pub check_number : (o : Checked) → told (host_sheet.check_given o).refusal ≡ sheet.check_told o
check_number (Err f) = of_setting f
check_number (Ok n) = refl

pub record_number : (o : Reading) → told (host_sheet.record_given o).refusal ≡ sheet.read_told o
record_number (Err f) = of_setting f
record_number (Ok r) = refl

pub edit_number : (o : Editing) → told (host_sheet.edit_given o).refusal ≡ editor.edit_told o
edit_number (Err f) = of_edit f
edit_number (Ok n) = refl

-- Demand 1: "Any bytes, any numbers, any order of calls get an answer. Whatever can't be done is refused with the number listed in the
-- specification, by its order of checks, and a refusal changes no ticket, no register and no byte of a buffer we lent."
--
-- No call has a precondition, and the toolchain proves of each that it ends, without a trap, with an outcome that its contract allows. Here,
-- for each call that can refuse: the contract allows exactly one outcome, whatever the call was given (`..-settled`), and a refusal leaves
-- what there was (`..-keeps`, and the laws of the layers that are cited). Calls that only read have nothing to leave. Every other call has
-- its layer's `..-settled` too; docs/PROMISES.md has the list. Over any order of calls: Order.antt.
-- Assumes nothing.
use Rattle.std.specs.Prelude.{Err}
use mathlib.Core.Path.{◌≡◌, sym, ◌∙◌}
use mathlib.Core.List.{List}
use mathlib.Core.Option.{Option, some, none}
use Prim.Native.Nat.{ℕ}
use lib.ListN.{length}
use Rattle.rows.proofs.Laws.{clash}
use Rattle.telegram.proofs.Judge.{reading_refused}
use Rattle.telegram.specs.Read.{room_after, Reads}
use Rattle.telegram.specs.Write.{write_answer, write_refusal, telegram_for, Writes}
use Rattle.telegram.specs.declared.Fault.{Fault as Unreadable}
use Rattle.values.specs.Values as values
use Rattle.values.specs.declared.Fault.{Fault as Unfit}
use Rattle.values.specs.declared.Value.{Value}
-- ---- "get an answer": exactly one, as the contract of each call says

pub use Rattle.telegram.proofs.Laws.{reads_settled, judges_settled, writes_settled}
pub use Rattle.values.proofs.Laws.{reads_settled as value_reads_settled, keeps_settled, writes_settled as value_writes_settled}
pub use Rattle.catalogue.proofs.Laws.{finds_settled}
pub use Rattle.bench.proofs.Laws.{makes_settled, adds_settled, sets_settled, takes_settled}
pub use Rattle.request.proofs.Laws.{asks_settled}
pub use Rattle.desk.proofs.Laws.{opens_settled, replies_settled, cancels_settled, expires_settled}
pub use Rattle.overdue.proofs.Laws.{expires_all_settled}
pub use Rattle.lanes.proofs.Laws.{joins_settled, grants_settled, withdraws_settled}
pub use Rattle.receiver.proofs.Laws.{steps_settled}
pub use Rattle.lister.proofs.Laws.{lists_settled}
pub use Rattle.varia.proofs.Laws.{sets_settled as edge_sets_settled, attenuates_settled, reads_monitor_settled, reads_status_settled, displays_settled}
pub use Rattle.scan.proofs.Laws.{makes_settled as scan_makes_settled, steps_settled as scan_steps_settled, hears_reply_settled, hears_closing_settled, looks_settled}
pub use Rattle.tally.proofs.Laws.{clears_settled, counts_where_settled, counts_settled}
pub use Rattle.sheet.proofs.Laws.{checks_settled as sheet_checks_settled, reads_settled as sheet_reads_settled}
pub use Rattle.sheet_writer.proofs.Laws.{writes_settled as sheet_writes_settled}
pub use Rattle.sheet_editor.proofs.Laws.{removes_settled, removes_module_settled, adds_settled as sheet_adds_settled}
pub use Rattle.kamzhor.proofs.Laws.{gives_frame_settled, gives_value_settled, gives_step_settled}
-- ---- "refused with the number listed in the specification, by its order of checks": that number exactly when its row holds and no earlier
-- one does, and done exactly when no row holds

-- rows 1 to 9
pub use Rattle.telegram.proofs.Ranking.{read_exactly, examine_exactly, write_exactly}
-- rows 10 to 22, and 61
pub use Rattle.request.proofs.Laws.{ask_exactly}
pub use Rattle.ticket.proofs.Laws.{fit_exactly}
pub use Rattle.desk.proofs.Ranking.{open_exactly, reply_exactly, cancel_exactly, expire_exactly}
-- the same with every condition written out
pub use Rattle.ticket.proofs.Laws.{fit_plainly}
pub use Rattle.desk.proofs.Ranking.{open_plainly, reply_plainly, cancel_plainly, expire_plainly}
-- rows 30 to 38, and 6, which cannot arise
pub use Rattle.bench.proofs.Laws.{make_exactly, add_exactly, set_exactly, take_exactly, never_6}
-- rows 40 to 44
pub use Rattle.values.proofs.Laws.{read_exactly as value_read_exactly, stored_exactly, write_exactly as value_write_exactly}
-- row 50
pub use Rattle.catalogue.proofs.Laws.{find_exactly}
-- row 60
pub use Rattle.receiver.proofs.Laws.{step_exactly}
pub use Rattle.lister.proofs.Laws.{list_exactly}
-- row 76, ahead of 60
pub use Rattle.tally.proofs.Laws.{step_exactly as tally_step_exactly, step_plainly as tally_step_plainly, told_76, told_60, told_none, no_line_no_76}
-- a scan's step passes up the desk's
pub use Rattle.scan.proofs.Laws.{step_exactly as scan_step_exactly, step_passed_up as scan_passed_up, step_refusals as scan_refusals, step_tells_nothing as scan_tells_nothing}
-- rows 59, 62 and 63, ahead of the desk's, and 64
pub use Rattle.varia.proofs.Ranking.{set_exactly as edge_set_exactly, attenuate_exactly, monitor_exactly, status_exactly, display_exactly}
pub use Rattle.varia.proofs.Ranking.{set_short_plainly, set_long_plainly, attenuate_plainly, display_plainly}
-- rows 65 to 70, then 56 and 57; 79, 68, 69 and 57
pub use Rattle.sheet.proofs.Laws.{check_exactly as sheet_check_exactly, read_exactly as sheet_read_exactly}
pub use Rattle.sheet_writer.proofs.Laws.{write_exactly as sheet_write_exactly}
pub use Rattle.sheet_editor.proofs.Laws.{remove_exactly, module_exactly, add_exactly as sheet_add_exactly, add_refused as sheet_add_refused}
pub use Rattle.sheet_editor.proofs.Plainly.{remove_plainly, module_plainly, plain_rows as sheet_add_rows, add_plainly as sheet_add_plainly}
pub use Rattle.sheet.proofs.Right.{whole as right_sheet_means, right as means_right_sheet}
pub use Rattle.setting.proofs.Plain.{above_plainly, allowed_plainly, length_plainly, head_plainly, lengths_plainly, falls_plainly, unfit_plainly}
pub use Rattle.setting.proofs.Plain.{row_plainly as sheet_row_plainly, rows_plainly as setting_rows_plainly}
pub use Rattle.sheet.proofs.Plain.{at_plainly, header_plainly, parts_plainly, rows_plainly as sheet_rows_plainly, read_rows_plainly}
pub use Rattle.sheet_writer.proofs.Laws.{many_plainly, fall_plainly, unfit_plainly as settings_unfit_plainly}
-- the calls `number` give the numbers that these laws tell
pub use Rattle.telegram.proofs.Laws.{number_is}
pub use Rattle.request.proofs.Laws.{number_is as request_number_is}
pub use Rattle.ticket.proofs.Laws.{number_is as ticket_number_is}
pub use Rattle.desk.proofs.Laws.{number_is as desk_number_is}
pub use Rattle.bench.proofs.Laws.{number_is as bench_number_is}
pub use Rattle.values.proofs.Laws.{number_is as value_number_is}
pub use Rattle.catalogue.proofs.Laws.{number_is as catalogue_number_is}
pub use Rattle.receiver.proofs.Laws.{number_is as receiver_number_is}
pub use Rattle.tally.proofs.Laws.{number_is as tally_number_is}
pub use Rattle.scan.proofs.Laws.{told_number as scan_told_number}
pub use Rattle.setting.proofs.Plain.{numbers_are as sheet_numbers_are}
pub use Rattle.sheet.proofs.Plain.{told_number as sheet_told_number}
pub use Rattle.sheet_writer.proofs.Laws.{told_number as sheet_writer_told_number}
pub use Rattle.sheet_editor.proofs.Laws.{told_number as sheet_editor_told_number, numbers_are as sheet_editor_numbers_are}
pub use Rattle.varia.proofs.Laws.{numbers_are as box_numbers_are, told_number as box_told_number}
pub use Rattle.lanes.proofs.Laws.{numbers_are as lanes_numbers_are, told_number as lanes_told_number}
pub use Rattle.lanes.proofs.Ranking.{join_exactly, withdraw_exactly, join_plainly, withdraw_plainly, their_plainly, their_again}
pub use Rattle.turns.proofs.Laws.{grant_exactly}
pub use Rattle.varia.proofs.Laws.{set_refused as edge_refused, attenuate_refused, set_passed_up, attenuate_passed_up, monitor_passed_up, status_passed_up}
-- 02, #105: with 3 the place of the first faulty 94, and with no other number a place
pub use Rattle.telegram.proofs.Faulty.{place_told, read_place_lem, refused_place, first_faulty_once, first_faulty_plainly, no_other_place, fault_no_place}
pub use Rattle.telegram.proofs.Faulty.{place_first, place-within, place_faulty}
pub use Rattle.telegram.proofs.Faulty.{place_is}
pub use Rattle.desk.proofs.Passed.{reply_place, reply_told_place, reply_no_place, place_is as desk_place_is}
pub use Rattle.bench.proofs.Passed.{take_place_lem, take-told_place, take_no_place, place_is as bench_place_is}
pub use Rattle.listing.proofs.Laws.{refused_line_place}
pub use Rattle.kamzhor.proofs.Laws.{frame_place, frame_no_place}
-- the same numbers in C
pub use Rattle.kamzhor.proofs.Laws.{frame_exactly, value_exactly}
pub use Rattle.kamzhor.proofs.Steps.{step_exactly as host_step_exactly}
-- ---- "a refusal changes no ticket, no register and no byte of a buffer we lent"

-- the desk's calls
pub use Rattle.desk.proofs.Laws.{open_refusal_keeps, reply_refusal_keeps, cancel_refusal_keeps, expire_refusal_keeps}
-- the bench's calls
pub use Rattle.bench.proofs.Laws.{make_refused, add_refused, set_refused, silent_stays}
-- the C host's calls
pub use Rattle.kamzhor.proofs.Laws.{frame_refused, value_refused}
pub use Rattle.kamzhor.proofs.Steps.{step_refused}
-- the receiver's calls
pub use Rattle.receiver.proofs.Laws.{step_refusal_keeps}
pub use Rattle.lister.proofs.Laws.{list_refusal_keeps}
pub use Rattle.tally.proofs.Laws.{refusal_keeps as tally_refusal_keeps, full_undone}
-- the scan's
pub use Rattle.scan.proofs.Laws.{step_refusal_keeps as scan_refusal_keeps}
-- the filter box's calls
pub use Rattle.varia.proofs.Laws.{set_refusal_keeps, attenuate_refusal_keeps, monitor_refusal_keeps, status_refusal_keeps}
-- the calls on settings sheets
pub use Rattle.sheet.proofs.Laws.{read_refusal_keeps as sheet_read_refusal_keeps}
pub use Rattle.sheet_writer.proofs.Laws.{write_refusal_keeps as sheet_write_refusal_keeps}
pub use Rattle.sheet_editor.proofs.Laws.{remove_refusal_keeps, module_refusal_keeps, add_refusal_keeps as sheet_add_refusal_keeps}

-- `telegram::read`
pub read_keeps : (frame room : List ℕ) (f : Unreadable) (room' : List ℕ) → Reads frame room (Err f) room' → room' ≡ room
read_keeps frame room f room' p = p.1 ∙ rw (reading_refused frame (length room) f (sym p.0))

-- `telegram::write`
pub write_keeps : (d s t r : ℕ) (bytes room : List ℕ) (f : Unreadable) (room' : List ℕ) → Writes d s t r bytes room (Err f) room' → room' ≡ room
write_keeps d s t r bytes room f room' p = go (write_refusal d s t r bytes (length room)) p.0 p.1
  where
    go : (o : Option Unreadable) → Err f ≡ write_answer o (length (telegram_for d s t r bytes)) → room' ≡ room_after o (telegram_for d s t r bytes) room → room' ≡ room
    go none e q = clash (cc)
    go (some g) e q = q

-- `values::write`
pub value_write_keeps : (kind : ℕ) (value : Value) (room : List ℕ) (f : Unfit) (room' : List ℕ) → values.Writes kind value room (Err f) room' → room' ≡ room
unfolding values.room_after
value_write_keeps kind value room f room' p = go (values.write_refusal kind value (length room)) _ p.0 p.1
  where
    go : (o : Option Unfit) (written : List ℕ) → Err f ≡ values.write_answer o → room' ≡ values.room_after o written room → room' ≡ room
    go none written e q = clash (cc)
    go (some g) written e q = q

-- Demand 2: "Telegrams, values and the bench follow the maker's published Interbus description, and the desk its listed rules. Every message
-- written reads back the same, given room for its data, no start or end byte stands inside a frame, and only that frame means that message.
-- A reply closes exactly the ticket open on its host address, and only where module, reply kind and register fit it."
-- Assumes nothing.
use Rattle.desk.specs.Answers.{booking}
use Rattle.std.specs.Prelude.{Ok}
use mathlib.Core.Path.{◌≡◌, sym, ap, ◌∙◌, subst}
use mathlib.Core.List.{List}
use mathlib.Core.Option.{none}
use Prim.Native.Nat.{ℕ}
use lib.ListN.{length}
use Rattle.lent.specs.Lent.{over}
use Rattle.rows.proofs.Laws.{done_exactly}
use Rattle.telegram.proofs.Judge.{reading_telegram}
use Rattle.telegram.specs.Read.{read_frame, data_in}
use Rattle.telegram.specs.declared.Fields.{Fields}
use Rattle.desk.proofs.Laws.{answers_alone}
use Rattle.desk.specs.Outcome.{ClosedAlone}
use Rattle.ticket.proofs.Laws.{fit_ranked}
use Rattle.ticket.specs.Fit.{KindFits, RegisterFits, IsWithdrawn, IsNoTicket, IsOtherModule, IsOtherKind, IsOtherRegister, fit_rows, fit_refusal}
use Rattle.desk.specs.Reply.{book_refusal, reply_refusal, answered_on, Replies}
use Rattle.desk.specs.Desk.{ticket_on, OpenOn}
use Rattle.ticket.specs.Ticket.{no_ticket}
use Rattle.ticket.specs.declared.Ticket.{Ticket}
use Rattle.desk.specs.declared.Desk.{Desk}
use Rattle.desk.specs.declared.AfterReply.{AfterReply}
use Rattle.kamzhor.specs.Desk.{GivesReply, reply_given}
use Rattle.kamzhor.specs.declared.host_desk.AfterDeskReply.{AfterDeskReply}
-- ---- "Every message written reads back the same, given room for its data", and what was accepted writes again to that very frame
pub use Rattle.telegram.proofs.Laws.{reads_back, written_again}
-- "no start or end byte stands inside a frame"
pub use Rattle.telegram.proofs.Laws.{no_end_inside}
-- "only that frame means that message": what is accepted is the telegram of its fields and data, and so no other frame has them
pub use Rattle.telegram.proofs.Laws.{accepted_telegram, one_frame}
-- "A telegram is at most 494 bytes", whether it was written or accepted
pub use Rattle.telegram.proofs.Laws.{written_long, accepted_long}
-- ---- "values [..] follow the maker's published Interbus description": lowest byte first, two's complement, masks bit by bit, and each
-- kind's ends in plain figures
pub use Rattle.values.proofs.Ends.{checked}
pub use Rattle.values.proofs.Laws.{integer_unsigned, integer_low, integer_high, fits_exactly, kept_exactly, fits_between, kept_between}
pub use Rattle.values.proofs.Laws.{written_reads, read_writes, laid_reads}
pub use Rattle.values.proofs.Laws.{set-one, set_zero, clear_one, clear_zero, toggle_one, toggle_zero}
-- the catalogue is its table
pub use Rattle.catalogue.proofs.Laws.{found_exactly, every_right, no_pair_twice}
-- ---- "and the bench": its rules, each reply to the asker, and what any calls keep
pub use Rattle.bench.proofs.Rules.{read_rule, write_rule, set_rule, clear_rule, toggle_rule, nack_rule, unknown_rule, reply_reads}
pub use Rattle.bench.proofs.Silence.{silent_number, take_never_6, every_reply}
pub use Rattle.bench.proofs.Written.{sets_bit, clears_bit, toggles_bit}
pub use Rattle.bench.proofs.Written.{written_reads as written_then_read}
-- what the tester sets is the number that a telegram reads, and what a telegram writes is the number that the tester sees
pub use Rattle.bench.proofs.Shown.{added_shown, set_shown, set_read, written_shown}
pub use Rattle.bench.proofs.Kept.{made_sound}
-- ---- "and the desk its listed rules": the address that is given, the request that is written, the tickets that are closed
pub use Rattle.desk.proofs.Laws.{fresh_is, fresh_opens, opened_given, request_written, request_reads_back}
pub use Rattle.desk.proofs.Laws.{booked_right, cancelled_right, expired_right, unread_passed_up, under_hosts}
pub use Rattle.desk.proofs.Laws.{given_plainly, books_plainly, closed_plainly, expired_plainly}
pub use Rattle.desk.proofs.Laws.{look_open, look_withdrawn, look_nothing}
-- 02, #110: what holds a folder, and that 75 is told exactly there
pub use Rattle.desk.proofs.Folder.{held_on, folder_apart, held_exactly, only_held, no_folder_lem}
pub use Rattle.ticket.proofs.Laws.{tells_barred}
-- 02, #108: how far an opening looked, and what its refusals say of that
pub use Rattle.desk.proofs.Count.{opened_count, opened_considered, refused_count_lem, no_room_considered, same_with_room, considered_plainly, one_up}
pub use Rattle.ticket.proofs.Laws.{read_answered_by, write_answered_by, zero_carried_by, own_carried_by, other_carried_by}
pub use Rattle.ticket.proofs.Laws.{free_plainly, tells_resting, tells_due, age_after, age_set_back, set_back_due}
pub use Rattle.ticket.proofs.Laws.{rests_under_1000, free_from_1000, rests_again, set_back_free}
-- over any sequence of calls from a fresh desk: what stands on each address, that each answer belongs to the opening that stands there, and
-- that the turn is fair
pub use Rattle.nights.proofs.Laws.{any_night, on_hosts_only, opens_after, replies_after, cancels_after, expires_after}
pub use Rattle.nights.proofs.Laws.{opened_where_free, booked_where_fits, withdrawn_where_theirs}
pub use Rattle.nights.proofs.Fair.{opened_gives, turn_fair, free_before_again}
pub use Rattle.nights.proofs.Count.{clear_exactly, openings_between}
-- and what an opening considered, after any calls
pub use Rattle.nights.proofs.Looked.{turn_within_then, considered_then, no_room_considered_then}
pub use Rattle.nights.proofs.Plainly.{among_plainly, each_plainly, passed_plainly, counted_one, counted_none, count_plainly, others_are, last_there, last_elsewhere}
-- 02, #102: after a cancel or an expiry the address rests, and a late answer is told as one; both before the address is given again
pub use Rattle.nights.proofs.Late.{kept_then, rested_before_again, late_refused, nothing_booked, late_exactly, no_ticket_exactly}
-- ---- 02, #109: lanes in front of the desk. A request is opened, or by #110 taken out, within 16 times p grants that do either, once, as it
-- was asked
pub use Rattle.lanes.proofs.Laws.{fresh_is as lanes_fresh_is, join_refusal_keeps, grant_refusal_keeps, withdraw_refusal_keeps}
pub use Rattle.lanes.proofs.Ranking.{passed_empty, next_waits, own_is, is_own, for_own, for_empty}
pub use Rattle.turns.proofs.Orderly.{fresh_orderly, any_orderly}
pub use Rattle.turns.proofs.Fair.{fair, turn_within, all_calls}
pub use Rattle.turns.proofs.Fate.{turn_by, withdrawn_by_lem, ended_in, turn_as_asked}
pub use Rattle.turns.proofs.Calls.{joined_right, granted_right, taken_right, withdrawn_right}
pub use Rattle.turns.proofs.Plainly.{less_plainly, waiting_first, waiting_joined, waiting_opened, waiting_taken, waiting_elsewhere, waiting_withdrew, right_plainly}
pub use Rattle.turns.proofs.Plainly.{orderly_plainly, in_turn_plainly, counts_plainly, opened_by_plainly, taken_by_plainly, ended_plainly}
pub use Rattle.turns.proofs.Plainly.{all_after_plainly, all_answered_plainly, counted_plainly, fate_plainly, grant_counts, queue_plainly, kept_plainly}
pub use Rattle.turns.proofs.Plainly.{desk_after_lem, reaches_plainly, all_reach_plainly, saw_plainly, numbers_first, numbers_there, numbers_others, numbers_stay}
pub use Rattle.turns.proofs.Plainly.{joined_at_plainly, turn_at_plainly, granted_at_plainly, taken_out_plainly, withdrawn_at_plainly}
pub use Rattle.lanes.proofs.Laws.{granted_count, none_free_count, not_asked_count, taken_out_keeps, taken_number, held_taken_out}
pub use Rattle.turns.proofs.Reached.{first_reached, fourth_reached, taken_reached}
pub use Rattle.turns.proofs.Laws.{any_turns, each_once, at_desk_lem, any_night_behind, joins_after, grants_after, withdraws_after}
-- ---- 02, #104: the filter box asks its module, through the desk, as its name says, and goes by what the desk answered
pub use Rattle.varia.proofs.Laws.{edge_registers, set_telegram, attenuate_telegram, monitor_telegram, status_telegram}
pub use Rattle.varia.proofs.Laws.{set_opened, attenuate_opened, monitor_opened, status_opened, edge_allowed}
pub use Rattle.varia.proofs.Laws.{passed_count, set_own_count, attenuate_own_count}
pub use Rattle.varia.proofs.Laws.{make_is, ack_sets, nack_keeps, giving_up_forgets, elsewhere_booked, elsewhere_given_up, reply_same_box, closing_same_box}
pub use Rattle.varia.proofs.Laws.{refusals_tell_nothing, nothing_out_stays}
pub use Rattle.varia.proofs.Laws.{display_fresh, display_kept, display_neither, moving_exactly}
-- over any evening: what it knows of the edges, that at most one request for an edge is out, and the house rule
pub use Rattle.evenings.proofs.Laws.{any_evening}
pub use Rattle.evenings.proofs.Plainly.{begins_plainly, evening_only, goes_on_set, goes_on_attenuate, goes_on_monitor, goes_on_status, goes_on_open, goes_on_reply, goes_on_cancel, goes_on_expire}
pub use Rattle.evenings.proofs.Plainly.{out_there, out_asked_only, out_elsewhere, out_once, known_plainly, known_by_one, known_otherwise, ack_replaces}
pub use Rattle.evenings.proofs.Plainly.{short-known, long_known, known_in_order, out_stands, none_is_out}
-- ---- 02, #113: who is on the line. The scan asks the next module, through the desk, and goes by what the desk answered
pub use Rattle.scan.proofs.Laws.{request_plainly, asks_the_desk, step_opened as scan_opened, step_telegram as scan_telegram}
pub use Rattle.scan.proofs.Laws.{done_exactly as scan_done_exactly, waiting_exactly, done_stays, waiting_stays, datagram_is_1, else_is_2, closed_is_absent, elsewhere_stays}
pub use Rattle.scan.proofs.Laws.{make_is as scan_make_is, make_results, result_set, none_after_160, not_yet_exactly, absent_exactly, present_exactly}
-- over any shift: at most one ticket out, the modules in turn, 160 turns, and each result what became of that very ticket
pub use Rattle.scans.proofs.Laws.{any_shift, one_job}
pub use Rattle.scans.proofs.JobZero.{job_0_stays, job_0_for_ever}
pub use Rattle.scans.proofs.Whole.{some_shift_ends, some_turn_answered}
pub use Rattle.scans.proofs.Sweep.{goes_on_sweep, sweep_plainly}
pub use Rattle.scans.proofs.Plainly.{shift_only, written_down, none_to_come}
pub use Rattle.scans.proofs.Plainly.{out_stands as scan_out_stands, none_is_out as none_of_the_scan_is_out, asked_in_turn, end_between, out_or_ended, not_given_away, answered_by}
pub use Rattle.scans.proofs.Plainly.{turns_are, ended_once, done_after_160, done_for_ever, one_result, found_1, found_2, found_absent, refused_again}
-- ---- 02, #107: everything due is expired as by single calls, and the nights count each of its closings
pub use Rattle.overdue.proofs.Laws.{expired_is, first_entry, entry_on, sweeps, as_single_calls}
pub use Rattle.overdue.proofs.Laws.{each_due, entries_rise, others_stay, each_rests, turn_stays, count_within, nothing_left, entries_long}
pub use Rattle.overdue.proofs.Laws.{call_as_single, night_swept, nothing_done, sweeps_plainly, told_part}
-- ---- 02, #106: a settings sheet: "Equal settings give equal sheets and the reverse."
pub use Rattle.sheet.proofs.Written.{sheet_right, held_of_sheet, held_writable, sheet_most, same_sheet, same_settings}
pub use Rattle.sheet.proofs.Right.{sheet_of_held}
pub use Rattle.sheet.proofs.Laws.{right_exactly, checked_right, read_answered, read_of, other_version, other_version_checked}
pub use Rattle.sheet_writer.proofs.Laws.{write_answered, all_taken, write_of, handed_back}
-- one sheet byte by byte, and the empty one
pub use Rattle.sheet.proofs.Example.{two_written, none_written, two-held, two_writable}
-- ---- 02, #114: settings thrown out of a sheet and added, where it stands: the sheet of what is left, and all behind it as it was
pub use Rattle.sheet_editor.proofs.Laws.{remove_kept, module_kept, add_kept, added_right, added_removed, removed_added, removes_done, removes_module_done, adds_done}
pub use Rattle.sheet_editor.proofs.Plainly.{kept_plainly as sheet_kept_plainly}
pub use Rattle.lent.proofs.Moving.{moves_plainly}
pub use Rattle.sheet_editor.proofs.Example.{first_out, first_back, all_out}
pub use Rattle.sheet_editor.proofs.Rising.{without_plainly, others_none, others_drops, others_keeps, among_plainly as sheet_among_plainly, added_out, out_added}

-- ---- "A reply closes exactly the ticket open on its host address, and only where module, reply kind and register fit it."

-- "only where": `booked_right`, cited above. And where they fit, it does: the ticket on its destination is answered and closed, alone.
pub fitting_booked : (desk : Desk) (frame room : List ℕ) (r : AfterReply) (room' : List ℕ) → Replies desk frame room r room'
    → (t : Fields) → read_frame frame (length room) ≡ Ok t
    → OpenOn desk t.destination
    → t.source ≡ (ticket_on desk t.destination).asked.unit
    → KindFits (ticket_on desk t.destination).asked.sort t.sort
    → RegisterFits (ticket_on desk t.destination).asked.register t.sort t.register
    → (r.answer ≡ booking (ticket_on desk t.destination).asked.job t.destination t.sort t.size (ticket_on desk t.destination).asked.folder)
    × ClosedAlone desk t.destination no_ticket r.desk
    × (room' ≡ over (data_in frame) room)
unfolding reply_refusal book_refusal fit_rows IsWithdrawn IsNoTicket IsOtherModule IsOtherKind IsOtherRegister
fitting_booked desk frame room r room' replies t read live unit kind register =
    let told = reading_telegram frame (length room) t read in
    let ticket : Ticket = ticket_on desk t.destination in
    let fits : fit_refusal ticket t ≡ none =
    (done_exactly (fit_rows ticket t) (fit_refusal ticket t) (fit_ranked ticket t)).1
    ((λ n. n.0 live), ((λ n. n live), ((λ n. n unit), ((λ n. n kind), ((λ n. n register), tt))))) in
    let none_of : reply_refusal desk frame (length room) ≡ none = rw (told.0, ← told.1, fits) in
    let closing : r.desk ≡ answered_on desk t.destination = replies.1 ∙ rw (none_of, ← told.1) in
    (replies.0 ∙ rw (none_of, ← told.1), rw closing (answers_alone desk t.destination live), replies.2 ∙ rw none_of)

-- the same in C's numbers
pub host_fitting_booked : (desk : Desk) (frame room : List ℕ) (r : AfterDeskReply) (room' : List ℕ) → GivesReply desk frame room r room'
    → (t : Fields) → read_frame frame (length room) ≡ Ok t
    → OpenOn desk t.destination
    → t.source ≡ (ticket_on desk t.destination).asked.unit
    → KindFits (ticket_on desk t.destination).asked.sort t.sort
    → RegisterFits (ticket_on desk t.destination).asked.register t.sort t.register
    → (r.answer
    ≡ record {
      refusal = 0;
      job = (ticket_on desk t.destination).asked.job;
      folder = (ticket_on desk t.destination).asked.folder;
      address = t.destination;
      sort = t.sort;
      size = t.size;
      place = 0;
    })
    × ClosedAlone desk t.destination no_ticket r.desk
    × (room' ≡ over (data_in frame) room)
host_fitting_booked desk frame room r room' g t read live unit kind register =
    let b = fitting_booked desk frame room g.0 room' g.1 t read live unit kind register in (
      ap (λ (a : AfterDeskReply). a.answer) g.2 ∙ ap reply_given b.0,
      subst (ClosedAlone desk t.destination no_ticket) (sym (ap (λ (a : AfterDeskReply). a.desk) g.2)) b.1,
      b.2,
    )

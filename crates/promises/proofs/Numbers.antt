-- Each number where the paper gives it, by one computed statement over the table. The desk's 10 to 14, 16, 21
-- and 22 have laws of their own.
-- Assumes nothing.
use mathlib.Core.Path.{◌≡◌, refl}
use mathlib.Core.Bool.{true}
use Rattle.first.specs.First.{first_place, passed_from}
use Rattle.frame.specs.Frame.{substituted, framed, between, restored, message_of}
use Rattle.remainder.specs.Remainder.{times_x, times_xs, with_byte, with_bytes, remainder_of}
use Rattle.telegram.specs.Read.{has_stray_end, has_bad_substitution, bad_place, message_refusal, read_refusal, fields_of, data_of, read_frame}
use Rattle.telegram.specs.Write.{sealed, write_refusal}
use Rattle.values.specs.Values.{size_of, is_signed, is_kind, greatest, fits, natural, bytes_of, value_at, element_of, read_value}
use Rattle.values.specs.Values as values
use Rattle.catalogue.specs.Catalogue.{table, is_for, line_for, find_refusal, find_entry}
use Rattle.catalogue.specs.Catalogue as catalogue
use Rattle.deeds.specs.Deeds.{read_deed, write_deed, held_deed}
use Rattle.bench.specs.Build.{make_refusal, add_refusal, set_refusal}
use Rattle.bench.specs.Register.{place_of}
use Rattle.bench.specs.Take.{deed_of, reply_for, reply_of, request_refusal, take_refusal}
use Rattle.receiver.specs.Receiver.{next, closing, told, step_from, step_refusal, step_of}
use Rattle.request.specs.Request.{ask_refusal}
use Rattle.ticket.specs.Due.{age}
use Rattle.ticket.specs.Fit.{fit_refusal}
use Rattle.marks.specs.Marks.{is_marked, with_mark}
use Rattle.desk.specs.Desk.{standing_from}
use Rattle.desk.specs.Folder.{holder_place, is_folder_held}
use Rattle.desk.specs.Open.{distance_of, given_place, open_refusal}
use Rattle.desk.specs.Reply.{book_refusal, reply_refusal}
use Rattle.varia.specs.Box.{edge_refusal, attenuation_refusal}
use Rattle.lanes.specs.Grant.{next_distance, grant_refusal}
use Rattle.lanes.specs.Join.{lane_for, join_refusal}
use Rattle.lanes.specs.Lanes.{own_lane, empty_lane}
use Rattle.lanes.specs.Withdraw.{withdraw_refusal}
use Rattle.lent.specs.Lent.{over}
use Rattle.setting.specs.Setting.{length_of, lengths_to, head_of, tail_of, rows_in, heads, tails, settings_in, is_above, is_allowed, falls, unfit, some_of}
use Rattle.sheet.specs.Sheet.{header_for, record_for, records_for, values_for, sheet_of, field_at, version_in, count_in, records_at, values_at, records_in, values_in, held, named, is_misplaced, check_refusal}
use Rattle.sheet.specs.Sheet as sheet
use Rattle.sheet_writer.specs.Writer.{handed, is_misstated}
use Rattle.sheet_writer.specs.Writer as writer
use Rattle.sheet_editor.specs.Editor.{among}
use Rattle.sheet_editor.specs.Editor as editor
use Rattle.promises.specs.Numbers.{all_given, refusals}

pub every_number : all_given refusals ≡ true
unfolding all_given first_place passed_from substituted framed between restored message_of times_x times_xs with_byte with_bytes remainder_of
    has_stray_end has_bad_substitution bad_place message_refusal read_refusal fields_of data_of read_frame sealed write_refusal size_of is_signed is_kind
    greatest fits natural bytes_of value_at element_of read_value values.read_refusal values.write_refusal table is_for line_for catalogue.named find_refusal find_entry
    read_deed write_deed held_deed make_refusal add_refusal set_refusal place_of deed_of reply_for reply_of request_refusal take_refusal
    next closing told step_from step_refusal step_of ask_refusal age fit_refusal is_folder_held holder_place standing_from is_marked with_mark distance_of given_place open_refusal book_refusal reply_refusal
    edge_refusal attenuation_refusal over own_lane empty_lane lane_for join_refusal next_distance grant_refusal withdraw_refusal
    length_of lengths_to head_of tail_of rows_in heads tails settings_in is_above is_allowed falls unfit some_of header_for record_for records_for values_for sheet_of
    field_at version_in count_in records_at values_at records_in values_in is_misplaced check_refusal sheet.read_refusal handed is_misstated writer.write_refusal
    held named among editor.remove_refusal editor.module_refusal editor.add_refusal
every_number = refl

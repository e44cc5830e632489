-- Each slip differs from the definition, by one computed statement over the table.
-- Assumes nothing.
use mathlib.Core.Path.{◌≡◌, refl}
use mathlib.Core.Bool.{true}
use Rattle.first.specs.First.{first_place, passed_from}
use Rattle.frame.specs.Frame.{substituted, framed, between, restored, message_of}
use Rattle.remainder.specs.Remainder.{times_x, times_xs, with_byte, with_bytes, remainder_of}
use Rattle.request.specs.Request.{ask_refusal}
use Rattle.telegram.specs.Read.{has_stray_end, has_bad_substitution, bad_place, message_refusal, read_refusal, fields_of, data_of, read_frame}
use Rattle.telegram.specs.Write.{sealed}
use Rattle.ticket.specs.Fit.{fit_refusal}
use Rattle.marks.specs.Marks.{is_marked, with_mark}
use Rattle.desk.specs.Desk.{standing_from}
use Rattle.desk.specs.Folder.{holder_place, is_folder_held}
use Rattle.desk.specs.Open.{distance_of, given_place, open_refusal}
use Rattle.values.specs.Values.{size_of, natural, bytes_of}
use Rattle.deeds.specs.Deeds.{read_deed, write_deed, held_deed}
use Rattle.bench.specs.Register.{place_of}
use Rattle.bench.specs.Take.{deed_of, reply_for, reply_of, request_refusal, take_refusal, done_to}
use Rattle.listing.specs.Events.{to_next, frame_event, event_of, events_from, events_of, total}
use Rattle.promises.specs.Slips.{all_show, slips}

pub every_slip : all_show slips ≡ true
unfolding all_show first_place passed_from substituted framed between restored message_of times_x times_xs with_byte with_bytes remainder_of
    ask_refusal has_stray_end has_bad_substitution bad_place message_refusal read_refusal fields_of data_of read_frame sealed fit_refusal is_folder_held holder_place standing_from is_marked with_mark distance_of
    given_place open_refusal size_of natural bytes_of read_deed write_deed held_deed place_of deed_of reply_for reply_of request_refusal
    take_refusal done_to to_next frame_event event_of events_from events_of total
every_slip = refl

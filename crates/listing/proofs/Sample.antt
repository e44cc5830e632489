-- 01's own sample, computed from the definitions, and one with what it does not show: bytes outside a frame, dropped frames, and data.
-- Assumes nothing.
use mathlib.Core.Path.{◌≡◌, refl}
use mathlib.Core.List.{[], ◌∷◌, ◌++◌}
use lib.ListN.{replicate}
use Rattle.remainder.specs.Remainder.{remainder_of, with_bytes, with_byte, times_x, times_xs}
use Rattle.frame.specs.Frame.{message_of, between, restored}
use Rattle.first.specs.First.{first_place, passed_from}
use Rattle.telegram.specs.Read.{read_frame, read_refusal, message_refusal, fields_of, has_stray_end, has_bad_substitution, bad_place}
use Rattle.telegram.specs.declared.Fault.TheVariants.{BadSubstitution, LongMessage}
use Rattle.lines.specs.declared.Event.TheVariants.{Refused}
use Rattle.text.specs.Text.{ascii, newline, decimal, decimal_by}
use Rattle.lines.specs.Lines.{header_text, line_text, totals_text}
use Rattle.listing.specs.Events.{frame_event, to_next, event_of, events_from, events_of, total}
use Rattle.listing.specs.Listing.{lines_text, listing_text}

pub sample : listing_text (13 ∷ 162 ∷ 15 ∷ 3 ∷ 48 ∷ 72 ∷ 47 ∷ 10 ∷ 13 ∷ 10 ∷ 13 ∷ 5 ∷ [])
    ≡ ascii "Interbus capture" ++ (newline
    ++ (ascii "at 0 ok 162 15 3 48 0" ++ (newline
    ++ (ascii "at 8 refused 4" ++ (newline
    ++ (ascii "at 10 open" ++ (newline
    ++ (ascii "ok 1 refused 1 dropped 0" ++ newline))))))))
unfolding remainder_of with_bytes with_byte times_x times_xs message_of between restored read_frame read_refusal message_refusal fields_of
    has_stray_end has_bad_substitution bad_place first_place passed_from decimal decimal_by header_text line_text totals_text frame_event to_next event_of events_from events_of
    total lines_text listing_text
sample = refl

-- 05 0A, a frame that a second 13 drops, that one dropped too, and 162's reply from 15 with two bytes of data
pub drops : listing_text (5 ∷ 10 ∷ 13 ∷ 1 ∷ 13 ∷ 13 ∷ 162 ∷ 15 ∷ 8 ∷ 102 ∷ 52 ∷ 18 ∷ 88 ∷ 187 ∷ 10 ∷ 10 ∷ [])
    ≡ ascii "Interbus capture" ++ (newline
    ++ (ascii "at 2 dropped" ++ (newline
    ++ (ascii "at 4 dropped" ++ (newline
    ++ (ascii "at 5 ok 162 15 8 102 2" ++ (newline
    ++ (ascii "ok 1 refused 0 dropped 2" ++ newline))))))))
unfolding remainder_of with_bytes with_byte times_x times_xs message_of between restored read_frame read_refusal message_refusal fields_of
    has_stray_end has_bad_substitution bad_place first_place passed_from decimal decimal_by header_text line_text totals_text frame_event to_next event_of events_from events_of
    total lines_text listing_text
drops = refl

-- at the limit: a frame of 494 bytes is the reader's, which finds a faulty 94 in it, and one of 495 is too long
pub at_limit : event_of (replicate 492 94 ++ (10 ∷ [])) ≡ Refused (BadSubstitution 1)
unfolding read_frame read_refusal message_refusal fields_of has_stray_end has_bad_substitution bad_place first_place passed_from frame_event to_next event_of between
at_limit = refl

pub over_limit : event_of (replicate 493 94 ++ (10 ∷ [])) ≡ Refused LongMessage
unfolding frame_event to_next event_of
over_limit = refl

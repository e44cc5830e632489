-- "One table and one statement over it holds these twelve".
-- Assumes nothing.
use mathlib.Core.Path.{◌≡◌, refl}
use mathlib.Core.Bool.{true}
use Rattle.ticket.specs.Due.{age}
use Rattle.frame.specs.Frame.{substituted, framed, between, restored, message_of}
use Rattle.promises.specs.Table.{holds, all_hold, table}
use Rattle.remainder.specs.Remainder.{times_x, times_xs, with_byte, with_bytes, remainder_of}
use Rattle.first.specs.First.{first_place, passed_from}
use Rattle.telegram.specs.Read.{has_stray_end, has_bad_substitution, bad_place, message_refusal, read_refusal, fields_of, read_frame}
use Rattle.values.specs.Values.{size_of, is_signed, natural, value_at, is_kind, element_of, read_value}
use Rattle.values.specs.Values as values

pub every_fact : all_hold table ≡ true
unfolding all_hold holds remainder_of with_bytes with_byte times_x times_xs framed substituted between restored message_of has_stray_end
    has_bad_substitution bad_place first_place passed_from message_refusal read_refusal fields_of read_frame size_of is_signed natural value_at is_kind element_of
    values.read_refusal read_value age
every_fact = refl

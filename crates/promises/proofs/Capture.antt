-- "The night listing", and captures that come in chunks: what is promised of a captured line's listing, cited in one place.
-- Assumes nothing.
-- ---- "each frame's line is defined": one event for each 13, in order of its place, and nothing else has one
pub use Rattle.listing.proofs.Laws.{every_13, only_13s, rising, open_once, too_long, is_read}
pub use Rattle.receiver.proofs.Laws.{passed_over}
pub use Rattle.receiver.proofs.Chunks.{chunk_13s, chunk_lines, chunk_kept}
-- "a second 13 drops it and opens another, a 10 closes it and it is read"; without an end it is open; each is counted as what it is
pub use Rattle.listing.proofs.Frames.{drops_it, closes_it, left_open, read_fields, read_fault, counted_as}
-- "however the bytes were cut, gives the same lines in order and the same open frame at the end as one reading of all bytes joined"
pub use Rattle.receiver.proofs.Chunks.{same_reading, same_cuts}
pub use Rattle.listing.proofs.Laws.{from_place}
-- "60, ahead of all, when a chunk would carry the place past the largest; none of it is taken"
pub use Rattle.receiver.proofs.Laws.{tests_right, refused_untouched}
-- a step goes up to the first byte that ends a line, or through all of the chunk
pub use Rattle.receiver.proofs.Laws.{step_forward, step_all, step_first, starts_empty}
pub use Rattle.lister.proofs.Laws.{list_untouched}
-- "totals made up (they equal the numbers of such lines)"; ok, refused and dropped, and 1 where one is open, are the number of 13s
pub use Rattle.lister.proofs.Whole.{totals_are}
-- 02, #113: the tally that is lent to each step: each number is the count of such lines since it was cleared, and the reading is as without it
pub use Rattle.tally.proofs.Laws.{step_adds, line_counted_lem, silent_keeps, receivers_own, number_for_lem}
pub use Rattle.tally.proofs.Since.{since_cleared, since_plainly, behind_clearing}
pub use Rattle.tally.proofs.With.{feed_same, same_reading_with, same_cuts_with, same_tally_with, feed_totals}
pub use Rattle.tally.proofs.Sample.{counted_each, counted_most, full_there, both_at_once, only_60}
pub use Rattle.tally.proofs.Plainly.{counts_by_value, tallies_plainly, adds_plainly, told_plainly, own_plainly, fed_60}
pub use Rattle.lister.proofs.Tallied.{tally_begins, tally_is, tally_from_start, tally_anew}
pub use Rattle.listing.proofs.Laws.{thirteens_are}
-- the whole text is the definition's: header, the calls' texts, the end's text
pub use Rattle.lister.proofs.Whole.{lines_are, listed}
pub use Rattle.lister.proofs.Laws.{list_stops, list_carries}
-- the paper's own sample, computed, and one in chunks
pub use Rattle.listing.proofs.Sample.{sample, at_limit, over_limit}
pub use Rattle.receiver.proofs.Sample.{cut, cut_read}
pub use Rattle.lister.proofs.Sample.{poured_text, end_text_lem, listed_here}
-- what a C host is told of a line
pub use Rattle.kamzhor.proofs.Steps.{line_none, line_read, line_refused, line_dropped}
-- and of the tally that it lends to each step: one more in the number of the line that is told, and no other changed
pub use Rattle.kamzhor.proofs.Steps.{step_counts, step_own}
pub use Rattle.kamzhor.proofs.Steps.{step_told_whole, step_receiver}

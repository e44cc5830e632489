-- The whole text of a listing.
-- Assumes nothing.
use Rattle.std.specs.Prelude.{List, [], ◌∷◌, ◌++◌, ℕ}
use Rattle.lines.specs.Lines.{header_text, line_text, totals_text}
use Rattle.lines.specs.declared.Placed.{Placed}
use Rattle.listing.specs.Events.{events_of, is_ok, is_refused, is_dropped, total}

unfoldable pub lines_text : List Placed → List ℕ
lines_text [] = []
lines_text (e ∷ rest) = line_text e.place e.event ++ lines_text rest

-- what the program writes for a capture
unfoldable pub listing_text : List ℕ → List ℕ
listing_text capture =
    header_text
    ++ (lines_text (events_of capture)
    ++ totals_text (total is_ok (events_of capture)) (total is_refused (events_of capture)) (total is_dropped (events_of capture)))

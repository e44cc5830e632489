-- The text of chunks, computed from the definitions: a capture that was cut inside its frames.
-- Assumes nothing.
use Rattle.std.proofs.Common.{◌≡◌, ℕ, List, [], ◌∷◌, ◌++◌, refl, arith}
use Rattle.lent.specs.Lent.{over, over_at}
use Rattle.frame.specs.Frame.{message_of, between, restored}
use Rattle.first.specs.First.{first_place, passed_from}
use Rattle.telegram.specs.Read.{read_frame, read_refusal, message_refusal, fields_of, has_stray_end, has_bad_substitution, bad_place}
use Rattle.text.specs.Text.{ascii, newline, decimal, decimal_by}
use Rattle.lines.specs.Lines.{header_text, line_text, totals_text, ending_text}
use Rattle.listing.specs.Events.{frame_event, total}
use Rattle.listing.specs.Listing.{lines_text, listing_text}
use Rattle.receiver.specs.Receiver.{no_bytes, next, closing, told, step_refusal}
use Rattle.receiver.specs.Chunks.{joined}
use Rattle.lister.proofs.Whole.{listed}
use Rattle.lister.specs.Text.{begin_at, pour, pour_of, pours, pours_all, end_text}

-- 0D A2 0F 03 0D and then 30 48 2F 0A 0D: the second 13 drops the first frame, the third is open at the end
abbrev first : List ℕ
first = 13 ∷ 162 ∷ 15 ∷ 3 ∷ 13 ∷ []

abbrev second : List ℕ
second = 48 ∷ 72 ∷ 47 ∷ 10 ∷ 13 ∷ []

-- a room of one line's length takes a line a call
pub poured_text : (pours_all (λ place. 150) (begin_at 0) (first ∷ [] ∷ second ∷ [])).text ≡ ascii "at 0 dropped" ++ (newline ++ (ascii "at 4 refused 4" ++ newline))
unfolding message_of between restored read_frame read_refusal message_refusal fields_of has_stray_end has_bad_substitution bad_place first_place passed_from over over_at frame_event
    no_bytes next closing told step_refusal pour pour_of pours pours_all lines_text line_text decimal decimal_by total
poured_text = refl

pub end_text_lem : end_text (pours_all (λ place. 150) (begin_at 0) (first ∷ [] ∷ second ∷ [])).listing
    ≡ ascii "at 9 open" ++ (newline ++ (ascii "ok 0 refused 1 dropped 1" ++ newline))
unfolding message_of between restored read_frame read_refusal message_refusal fields_of has_stray_end has_bad_substitution bad_place first_place passed_from over over_at frame_event
    no_bytes next closing told step_refusal pour pour_of pours pours_all lines_text line_text totals_text ending_text decimal decimal_by total
end_text_lem = refl

-- the whole by the law: its premises can be met
pub listed_here : header_text ++ ((pours_all (λ place. 150) (begin_at 0) (first ∷ [] ∷ second ∷ [])).text ++ end_text (pours_all (λ place. 150) (begin_at 0) (first ∷ [] ∷ second ∷ [])).listing)
    ≡ listing_text (first ++ second)
unfolding joined
listed_here = listed (λ place. 150) (λ n. omega arith) (first ∷ [] ∷ second ∷ []) (omega arith)

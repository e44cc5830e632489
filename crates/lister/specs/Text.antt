-- The lines of a chunk as text, in a room that somebody lent; and the text of a whole listing, however its bytes were cut.
-- Assumes nothing.
use Rattle.std.specs.Prelude.{◌≡◌, ℕ, zero, suc, ◌+◌, ◌-◌, ◌%◌, ◌^◌, cond, List, [], ◌∷◌, ◌++◌, length, drop, nat_lt, Ok, Err}
use Rattle.std.proofs.Math.Option.{Option, some, none}
use Rattle.lent.specs.Lent.{over}
use Rattle.lines.specs.declared.Event.{Event}
use Rattle.lines.specs.declared.Placed.{Placed}
use Rattle.lines.specs.Lines.{ending_text}
use Rattle.listing.specs.Events.{is_ok, is_refused, is_dropped, total}
use Rattle.listing.specs.Listing.{lines_text}
use Rattle.receiver.specs.declared.Receiver.{Receiver}
use Rattle.receiver.specs.declared.Fault.{Fault}
use Rattle.lister.specs.declared.Listing.{Listing}
use Rattle.lister.specs.declared.Listed.{Listed}
use Rattle.lister.specs.Answers.{Outcome}
use Rattle.receiver.specs.Receiver.{outside_at, is_inside, next, told, step_refusal, fault_number}
use Rattle.receiver.specs.Chunks.{line_in}
use Rattle.tally.specs.Tally.{clear_tally, is_full, with_line}
use Rattle.tally.specs.declared.Tally.{Tally}

-- ---- the totals

-- a capture whose first byte has that place: nothing counted
abbrev pub begin_at : ℕ → Listing
begin_at place = record { receiver = outside_at place; tally = clear_tally; ok = 0; refused = 0; dropped = 0 }

-- 02, #113: a tally is "lent to each listing step". Where a line would carry its number past the most, this listing clears it and goes on with
-- that line (docs/DECISIONS.md, 86)
abbrev pub tally_after : Event → Tally → Tally
tally_after e t = with_line e (cond (is_full e t) clear_tally t)

abbrev pub tally_on : Tally → List Placed → Tally
tally_on t [] = t
tally_on t (line ∷ lines) = tally_on (tally_after line.event t) lines

-- so many more, in 64 bits
abbrev pub plus : ℕ → ℕ → ℕ
plus n more = (n + more) % 2 ^ 64

-- these lines counted
abbrev pub counted_with : Listing → List Placed → Receiver → Tally → Listing
counted_with l lines r t =
    record {
      receiver = r;
      tally = t;
      ok = plus l.ok (total is_ok lines);
      refused = plus l.refused (total is_refused lines);
      dropped = plus l.dropped (total is_dropped lines);
    }

abbrev pub counted : Listing → List Placed → Receiver → Listing
counted l lines r = counted_with l lines r (tally_on l.tally lines)

-- ---- the lines of a chunk, as long as there is room for the longest line

abbrev pub longest_line : ℕ
longest_line = 150

-- what came of it: the listing behind it, how many bytes were taken, and the text
pub record Poured : Type 0 where
  pub listing : Listing
  pub taken : ℕ
  pub text : List ℕ

abbrev pub poured : Listing → ℕ → List ℕ → Poured
poured l taken text = record { listing = l; taken = taken; text = text }

-- with the bytes and the text before it
abbrev pub behind : ℕ → List ℕ → Poured → Poured
behind taken text later = poured later.listing (taken + later.taken) (text ++ later.text)

abbrev pub text_told : Listing → ℕ → List ℕ
text_told l b = lines_text (line_in (told l.receiver b))

abbrev pub onward : Listing → ℕ → Listing
onward l b = counted l (line_in (told l.receiver b)) (next l.receiver b)

-- the listing behind some bytes
unfoldable pub carried : Listing → List ℕ → Listing
carried l [] = l
carried l (b ∷ rest) = carried (onward l b) rest

unfoldable pub pour : Listing → ℕ → List ℕ → Poured
pour l room [] = poured l 0 []
pour l room (b ∷ rest) = cond (nat_lt room longest_line) (poured l 0 []) (behind 1 (text_told l b) (pour (onward l b) (room - length (text_told l b)) rest))

-- what a call pours: nothing where the chunk is refused
abbrev pub pour_answer : Option Fault → Listing → Poured → Poured
pour_answer (some f) l p = poured l 0 []
pour_answer none l p = p

unfoldable pub pour_of : Listing → ℕ → List ℕ → Poured
pour_of l room chunk = pour_answer (step_refusal l.receiver chunk) l (pour l room chunk)

abbrev pub list_outcome : Option Fault → Outcome
list_outcome (some f) = Err f
list_outcome none = Ok tt

-- the number that a call tells, or none
abbrev pub list_told : Outcome → Option ℕ
list_told (Err f) = some (fault_number f)
list_told (Ok _) = none

-- what is left to say at the capture's end
abbrev pub end_text : Listing → List ℕ
end_text l = ending_text (is_inside l.receiver) l.receiver.start l.ok l.refused l.dropped

-- ---- the contracts

abbrev pub Begins : ℕ → Listing → Type 0
Begins place r = r ≡ begin_at place

abbrev pub listed : Listing → ℕ → ℕ → Outcome → Listed
listed l taken size outcome = record { listing = l; taken = taken; size = size; outcome = outcome }

abbrev pub Lists : Listing → List ℕ → List ℕ → Listed → List ℕ → Type 0
Lists l chunk room r room' =
    let p = pour_of l (length room) chunk in
    (r ≡ listed p.listing p.taken (length p.text) (list_outcome (step_refusal l.receiver chunk))) × (room' ≡ over p.text room)

-- ---- a capture in pieces, each poured by as many calls as it has bytes, with any room at each place

unfoldable pub pours : (ℕ → ℕ) → ℕ → Listing → List ℕ → Poured
pours rooms zero l chunk = poured l 0 []
pours rooms (suc n) l chunk =
    behind (pour_of l (rooms l.receiver.place) chunk).taken (pour_of l (rooms l.receiver.place) chunk).text
    (pours rooms n (pour_of l (rooms l.receiver.place) chunk).listing (drop (pour_of l (rooms l.receiver.place) chunk).taken chunk))

unfoldable pub pours_all : (ℕ → ℕ) → Listing → List (List ℕ) → Poured
pours_all rooms l [] = poured l 0 []
pours_all rooms l (piece ∷ pieces) =
    behind (pours rooms (length piece) l piece).taken (pours rooms (length piece) l piece).text (pours_all rooms (pours rooms (length piece) l piece).listing pieces)

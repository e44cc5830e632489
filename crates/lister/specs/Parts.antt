-- What the listing's own functions answer.
-- Assumes nothing.
use Rattle.std.specs.Prelude.{◌≡◌, ℕ, Bool, true, false, List, length, Ok, Err, Some, None}
use Rattle.lent.specs.Lent.{over}
use Rattle.lines.specs.declared.Event.{Event}
use Rattle.lines.specs.declared.Placed.{Placed}
use Rattle.listing.specs.Events.{total, is_ok, is_dropped}
use Rattle.listing.specs.Events.{is_refused as is_refused_line}
use Rattle.lister.specs.declared.Kinds.{Kinds}
use Rattle.lister.specs.declared.Listing.{Listing}
use Rattle.lister.specs.declared.Listed.{Listed}
use Rattle.lister.specs.declared.Lent.{Lent}
use Rattle.receiver.specs.Chunks.{line_in}
use Rattle.receiver.specs.Receiver.{step_of}
use Rattle.receiver.specs.Answers.{Answer as Ended}
use Rattle.receiver.specs.declared.Receiver.{Receiver}
use Rattle.tally.specs.Answers.{Answer}
use Rattle.tally.specs.declared.Counted.{Counted}
use Rattle.tally.specs.declared.Tally.{Tally}
use Rattle.lister.specs.Text.{pour, listed, tally_on}

-- how many of some lines are of each kind
abbrev pub kinds_in : List Placed → Kinds
kinds_in lines = record { ok = total is_ok lines; refused = total is_refused_line lines; dropped = total is_dropped lines }

abbrev pub kind_of : Event → Kinds
kind_of event = record { ok = is_ok event; refused = is_refused_line event; dropped = is_dropped event }

-- ---- a step with the tally lent to it, and lent again where it is full

abbrev pub is_refused : Answer → Bool
is_refused (Ok None) = false
is_refused (Ok (Some line)) = false
is_refused (Err f) = true

-- the receiver's own answer, of a step that was done
abbrev pub ran_answer : Answer → Ended
ran_answer (Ok None) = Ok None
ran_answer (Ok (Some line)) = Ok (Some line)
ran_answer (Err f) = Ok None

abbrev pub ran_on : Counted → Lent
ran_on c =
    record {
      tally = c.tally;
      stepped = record { receiver = c.stepped.receiver; taken = c.stepped.taken; answer = ran_answer c.stepped.answer };
    }

-- `lent_to`: the receiver's own step, and the tally behind its line
abbrev pub Lends : Tally → Receiver → List ℕ → Lent → Type 0
Lends t r chunk lent = (lent.stepped ≡ step_of r chunk) × (lent.tally ≡ tally_on t (line_in (step_of r chunk).answer))

-- `list` for a chunk that is not refused
abbrev pub Fills : Listing → List ℕ → List ℕ → Listed → List ℕ → Type 0
Fills l chunk room r room' =
    let p = pour l (length room) chunk in
    (r ≡ listed p.listing p.taken (length p.text) (Ok tt)) × (room' ≡ over p.text room)

-- "Slips this trade makes" and the programs of "Try these programs", each by one input: what the definition answers, what is expected there,
-- and what the slip would answer. A contract allows one outcome only, so a program with the slip meets none, whatever its shape.
-- Assumes nothing.
use Rattle.std.specs.Prelude.{Bool, true, not, ◌&&◌, List, [], ◌∷◌, ◌++◌, ℕ, ◌+◌, ◌/◌, ◌%◌, length}
use Rattle.std.proofs.Math.Option.{Option, some, none}
use Rattle.first.specs.First.{first_place}
use Rattle.frame.specs.Frame.{substituted, framed}
use Rattle.remainder.specs.Remainder.{with_bytes, remainder_of}
use Rattle.request.specs.declared.Request.{Request}
use Rattle.telegram.specs.Read.{message_refusal, read_answer, read_told, read_frame, fields_in}
use Rattle.frame.specs.Frame.{message_of}
use Rattle.telegram.specs.Write.{unsealed, telegram_for}
use Rattle.telegram.specs.declared.Fields.{Fields}
use Rattle.ticket.specs.Fit.{fit_refusal, fit_answer, fit_told}
use Rattle.ticket.specs.Rest.{is_free}
use Rattle.ticket.specs.Ticket.{new_ticket}
use Rattle.desk.specs.Desk.{fresh_desk, ticket_at}
use Rattle.desk.specs.Open.{open_answer, open_refusal, open_told, given_place, with_ticket}
use Rattle.desk.specs.Reply.{answered_on}
use Rattle.desk.specs.declared.Desk.{Desk}
use Rattle.bench.specs.Build.{with_register}
use Rattle.bench.specs.Register.{empty_bench, register_at}
use Rattle.bench.specs.Take.{take_refusal, take_bench, done_to, deed_of}
use Rattle.bench.specs.declared.Bench.{Bench}
use Rattle.telegram.specs.Read.{data_in}
use Rattle.lines.specs.declared.Event.{Event}
use Rattle.lines.specs.declared.Event.TheVariants.{Refused}
use Rattle.lines.specs.declared.Placed.{Placed}
use Rattle.listing.specs.Events.{placed, events_of, is_ok, is_refused, is_dropped, total}
use Rattle.listing.specs.Listing.{lines_text}
use Rattle.telegram.specs.declared.Fault.TheVariants.{ShortMessage}
use Rattle.promises.specs.Table.{same_bytes}

pub record Slip : Type 0 where
  pub defined : List ℕ
  pub expected : List ℕ
  pub slipped : List ℕ

-- the definition answers what is expected, and the slip does not
abbrev pub shows : Slip → Bool
shows s = same_bytes s.defined s.expected && not (same_bytes s.slipped s.expected)

unfoldable pub all_show : List Slip → Bool
all_show [] = true
all_show (s ∷ rest) = shows s && all_show rest

-- a number that is told, or 0 for none
abbrev pub or_zero : Option ℕ → ℕ
or_zero (some n) = n
or_zero none = 0

-- ---- the inputs

-- T1's bytes: module 15 is asked by host 162 to read register 102
abbrev pub asking : List ℕ
asking = 0x0F ∷ 0xA2 ∷ 0x04 ∷ 0x66 ∷ []

-- the right message 01 A2 04 66 65 EC, its 1 sent as 94 65
abbrev pub oddly : List ℕ
oddly = 13 ∷ 94 ∷ 65 ∷ 0xA2 ∷ 0x04 ∷ 0x66 ∷ 0x65 ∷ 0xEC ∷ 10 ∷ []

-- the paper's own sample of a capture
abbrev pub sampled : List ℕ
sampled = 13 ∷ 162 ∷ 15 ∷ 3 ∷ 48 ∷ 72 ∷ 47 ∷ 10 ∷ 13 ∷ 10 ∷ 13 ∷ 5 ∷ []

-- a job's read of register 102 of module 15, for folder 3, and the reply of module 10 to its address
abbrev pub request : Request
request = record { job = 7; unit = 15; sort = 4; register = 102; wait = 1000; folder = 3 }

abbrev pub crossed : Fields
crossed = record { destination = 161; source = 10; sort = 8; register = 102; size = 2 }

-- a desk that gave 161 to it
abbrev pub asked_desk : Desk
asked_desk = with_ticket fresh_desk 0 (new_ticket request 0)

-- and had it back
abbrev pub used_desk : Desk
used_desk = answered_on asked_desk 161

-- a bench at 15 with register 48, a U8 with the right to write, and T2's telegram, which writes 3 there
abbrev pub bench : Bench
bench = with_register (empty_bench 15) 48 1 2

abbrev pub writing : List ℕ
writing = telegram_for 15 162 5 48 (3 ∷ [])

abbrev pub after_writing : Bench
after_writing =
    take_bench (take_refusal bench writing 494) bench (done_to bench (fields_in writing).register (deed_of bench (fields_in writing) (data_in writing)))

-- two telegrams, one after the other
abbrev pub capture : List ℕ
capture = telegram_for 15 162 4 102 [] ++ telegram_for 162 15 8 102 (0x34 ∷ 0x12 ∷ [])

-- every event but the first called refused
abbrev pub spoilt : List Placed → List Placed
spoilt [] = []
spoilt (e ∷ rest) = placed e.place (Refused ShortMessage) ∷ spoilt rest

abbrev pub first_only : List Placed → List Placed
first_only [] = []
first_only (e ∷ rest) = e ∷ spoilt rest

abbrev pub totals : List Placed → List ℕ
totals events = total is_ok events ∷ total is_refused events ∷ total is_dropped events ∷ []

-- ---- the table

abbrev pub slips : List Slip
slips =
    -- "Starting the remainder from FFFFh."
    record { defined = remainder_of asking ∷ []; expected = 0xC7B6 ∷ []; slipped = with_bytes 0xFFFF asking ∷ [] }
    -- "Sending it low byte first."
    ∷ record {
      defined = telegram_for 15 162 4 102 [];
      expected = 0x0D ∷ 0x0F ∷ 0xA2 ∷ 0x04 ∷ 0x66 ∷ 0xC7 ∷ 0xB6 ∷ 0x0A ∷ [];
      slipped = framed (asking ++ (remainder_of asking % 256 ∷ remainder_of asking / 256 ∷ []));
    }
    -- "Working it out over substituted bytes.": T3's bytes, which begin with a 10
    ∷ record {
      defined = remainder_of (unsealed 10 162 5 35 (0x88 ∷ 0x13 ∷ [])) ∷ [];
      expected = 0x3B55 ∷ [];
      slipped = remainder_of (substituted (unsealed 10 162 5 35 (0x88 ∷ 0x13 ∷ []))) ∷ [];
    }
    -- "Reading 94 65 as 1.": the slip passes over row 3
    ∷ record {
      defined = or_zero (read_told (read_frame oddly 240)) ∷ [];
      expected = 3 ∷ [];
      slipped =
          or_zero (read_told (read_answer (message_refusal (message_of oddly) 240) (fields_in oddly))) ∷ [];
    }
    -- "Pairing a reply by host address only."
    ∷ record {
      defined = or_zero (fit_told (fit_answer (fit_refusal (new_ticket request 0) crossed))) ∷ [];
      expected = 18 ∷ [];
      slipped =
          or_zero (fit_told (fit_answer (fit_refusal (new_ticket request 0)
          (record { destination = 161; source = 15; sort = 8; register = 102; size = 2 })))) ∷ [];
    }
    -- "Giving out the lowest free address instead of the turn's, so one address comes back within milliseconds."
    ∷ record {
      defined = (161 + given_place used_desk 0) ∷ [];
      expected = 162 ∷ [];
      slipped = (161 + first_place (λ place. is_free 0 (ticket_at used_desk place)) 95) ∷ [];
    }
    -- "a reader that refuses all"
    ∷ record { defined = or_zero (read_told (read_frame (telegram_for 15 162 4 102 []) 240)) ∷ []; expected = 0 ∷ []; slipped = 4 ∷ [] }
    -- "a desk with no address to give"
    ∷ record {
      defined = or_zero (open_told (open_answer (open_refusal fresh_desk request [] 0 494) (161 + given_place fresh_desk 0) 8)) ∷ [];
      expected = 0 ∷ [];
      slipped = 15 ∷ [];
    }
    -- "a remainder that is always 0"
    ∷ record { defined = remainder_of asking ∷ []; expected = 0xC7B6 ∷ []; slipped = 0 ∷ [] }
    -- "a bench that acks and writes nothing"
    ∷ record { defined = (register_at after_writing 0).value ∷ []; expected = 3 ∷ []; slipped = (register_at bench 0).value ∷ [] }
    -- "a listing that reads the first frame and calls the rest refused"
    ∷ record { defined = totals (events_of capture); expected = 2 ∷ 0 ∷ 0 ∷ []; slipped = totals (first_only (events_of capture)) }
    -- "totals made up": every frame counted as read, on the paper's own sample
    ∷ record {
      defined = totals (events_of sampled);
      expected = 1 ∷ 1 ∷ 0 ∷ [];
      slipped = length (events_of sampled) ∷ 0 ∷ 0 ∷ [];
    }
    ∷ []

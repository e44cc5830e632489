-- What the receiver's own functions answer: a stretch of bytes at once, by places.
-- Assumes nothing.
use Rattle.std.specs.Prelude.{◌≡◌, Bool, cond, List, ℕ, ◌+◌, ◌-◌, ◌≤◌, eqb, leb, ltb, length, take}
use Rattle.lent.specs.Lent.{over_at}
use Rattle.telegram.specs.declared.Fault.TheVariants.{LongMessage}
use Rattle.lines.specs.declared.Event.{Event}
use Rattle.lines.specs.declared.Event.TheVariants.{Refused}
use Rattle.listing.specs.Events.{frame_event}
use Rattle.receiver.specs.declared.Receiver.{Receiver}
use Rattle.receiver.specs.Receiver.{largest}

-- the chunk, from a place on, is not refused
abbrev pub Fits : ℕ → List ℕ → Type 0
Fits place chunk = place + length chunk ≤ largest

-- a receiver's bytes are 494, whoever made it
abbrev pub Held : Receiver → Type 0
Held r = length r.bytes ≡ 494

abbrev pub is_start : ℕ → Bool
is_start b = eqb b 13

-- so many bytes outside a frame
abbrev pub passed_by : Receiver → ℕ → Receiver
passed_by r n = record { place = r.place + n; start = r.start; size = r.size; bytes = r.bytes }

-- how much is kept of a frame that grows by so much
abbrev pub size_by : ℕ → ℕ → ℕ
size_by size more = cond (leb 494 size) size (cond (ltb (494 - size) more) 494 (size + more))

-- some more bytes of the open frame
abbrev pub grown_by : Receiver → List ℕ → Receiver
grown_by r xs = record { place = r.place + length xs; start = r.start; size = size_by r.size (length xs); bytes = over_at r.size xs r.bytes }

-- the event of the open frame from its last bytes, the 10 among them
abbrev pub closed_by : Receiver → List ℕ → Event
closed_by r last =
    cond (leb 494 r.size) (Refused LongMessage)
    (cond (ltb (494 - r.size) (length last)) (Refused LongMessage) (frame_event (take (r.size + length last) (over_at r.size last r.bytes))))

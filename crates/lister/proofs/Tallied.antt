-- What the tally of a listing comes to: cleared at first, the listing's own totals as long as they fit it, and begun anew with the line that
-- would carry a number past the most. 02, #113.
-- Assumes nothing.
use Rattle.std.specs.Prelude.{Ok, Err, Some, None}
use Rattle.std.proofs.Common.{◌≡◌, ℕ, suc, ◌+◌, ◌<◌, ◌≤◌, List, [], ◌∷◌, length, sym, refl, ap, subst, mod-eq_of_lt, arith, le-ltb, lt-ltb}
use Rattle.lines.specs.declared.Event.{Event}
use Rattle.lines.specs.declared.Event.TheVariants as event
use Rattle.lines.specs.declared.Placed.{Placed}
use Rattle.listing.specs.Events.{is_ok, is_refused, is_dropped}
use Rattle.listing.proofs.Events.{one_total, no_total}
use Rattle.receiver.specs.Chunks.{line_in}
use Rattle.receiver.specs.Receiver.{next, told}
use Rattle.receiver.specs.Answers.{Answer}
use Rattle.tally.specs.Tally.{clear_tally, number_for, with_line, Clears}
use Rattle.tally.specs.declared.Tally.{Tally}
use Rattle.lister.specs.Text.{tally_after, plus, counted, onward, carried, Begins}
use Rattle.lister.specs.declared.Listing.{Listing}

pub tally_begins : (place : ℕ) (l : Listing) → Begins place l → Clears l.tally
tally_begins place l b = ap (λ (l : Listing). l.tally) b

-- a line that would carry its number past the most is the first of a cleared tally
pub tally_anew : (e : Event) (t : Tally) → 4294967295 < number_for e t + 1 → tally_after e t ≡ with_line e clear_tally
tally_anew e t full = rw (lt-ltb 4294967295 (number_for e t + 1) full) refl

-- ---- the tally and the listing's own totals

-- they are the same three numbers
abbrev pub Alike : Listing → Type 0
Alike l = (l.tally.read ≡ l.ok) × (l.tally.refused ≡ l.refused) × (l.tally.dropped ≡ l.dropped)

-- and so many lines more fit all three
abbrev pub RoomFor : ℕ → Listing → Type 0
RoomFor n l = (l.ok + n ≤ 4294967295) × (l.refused + n ≤ 4294967295) × (l.dropped + n ≤ 4294967295)

small : (n k : ℕ) → n + k ≤ 4294967295 → plus n k ≡ n + k
small n k h = mod-eq_of_lt (omega (arith, h))

room_in : (e : Event) (t : Tally) → number_for e t + 1 ≤ 4294967295 → tally_after e t ≡ with_line e t
room_in e t h = rw (le-ltb 4294967295 (number_for e t + 1) h) refl

abbrev One : ℕ → ℕ → ℕ → Type 0
One n m k = (m ≡ n + k) × (k ≤ 1)

abbrev Ones : Event → Tally → Tally → Type 0
Ones e t t' = One t.read t'.read (is_ok e) × One t.refused t'.refused (is_refused e) × One t.dropped t'.dropped (is_dropped e)

with_one : (e : Event) (t : Tally) → Ones e t (with_line e t)
with_one (event.Read f) t = ((refl, omega arith), (omega arith, omega arith), (omega arith, omega arith))
with_one (event.Refused f) t = ((omega arith, omega arith), (refl, omega arith), (omega arith, omega arith))
with_one event.Dropped t = ((omega arith, omega arith), (omega arith, omega arith), (refl, omega arith))
with_one event.Open t = ((omega arith, omega arith), (omega arith, omega arith), (omega arith, omega arith))

has_room : (e : Event) (t : Tally) → t.read + 1 ≤ 4294967295 → t.refused + 1 ≤ 4294967295 → t.dropped + 1 ≤ 4294967295 → number_for e t + 1 ≤ 4294967295
has_room (event.Read f) t a b c = a
has_room (event.Refused f) t a b c = b
has_room event.Dropped t a b c = c
has_room event.Open t a b c = omega arith

one : (e : Event) (t : Tally) → t.read + 1 ≤ 4294967295 → t.refused + 1 ≤ 4294967295 → t.dropped + 1 ≤ 4294967295 → Ones e t (tally_after e t)
one e t a b c = subst (Ones e t) (sym (room_in e t (has_room e t a b c))) (with_one e t)

-- a byte is at most one line
onward_alike : (l : Listing) (b n : ℕ) → Alike l → RoomFor (suc n) l → Alike (onward l b) × RoomFor n (onward l b)
onward_alike l b n alike room = go (told l.receiver b)
  where
    Behind : List Placed → Type 0
    Behind lines = Alike (counted l lines (next l.receiver b)) × RoomFor n (counted l lines (next l.receiver b))

    none : Behind []
    none = rw (
      no_total is_ok,
      no_total is_refused,
      no_total is_dropped,
      small l.ok 0 (omega (arith, room.0)),
      small l.refused 0 (omega (arith, room.1)),
      small l.dropped 0 (omega (arith, room.2)),
    ) ((omega (arith, alike.0), omega (arith, alike.1), omega (arith, alike.2)), (omega (arith, room.0), omega (arith, room.1), omega (arith, room.2)))

    line : (e : Placed) → Behind (e ∷ [])
    line e =
        let o = one e.event l.tally (omega (arith, alike.0, room.0)) (omega (arith, alike.1, room.1)) (omega (arith, alike.2, room.2)) in
        rw (
          one_total is_ok e,
          one_total is_refused e,
          one_total is_dropped e,
          small l.ok (is_ok e.event) (omega (arith, o.0.1, room.0)),
          small l.refused (is_refused e.event) (omega (arith, o.1.1, room.1)),
          small l.dropped (is_dropped e.event) (omega (arith, o.2.1, room.2)),
        ) (
          (omega (arith, o.0.0, alike.0), omega (arith, o.1.0, alike.1), omega (arith, o.2.0, alike.2)),
          (omega (arith, o.0.1, room.0), omega (arith, o.1.1, room.1), omega (arith, o.2.1, room.2)),
        )

    go : (a : Answer) → Behind (line_in a)
    go (Ok (Some e)) = line e
    go (Ok None) = none
    go (Err f) = none

-- as long as the totals fit it, the tally of a listing has them
pub tally_is : (l : Listing) (chunk : List ℕ) → Alike l → RoomFor (length chunk) l → Alike (carried l chunk)
unfolding carried
tally_is l [] alike room = alike
tally_is l (b ∷ rest) alike room = let on = onward_alike l b (length rest) alike room in tally_is (onward l b) rest on.0 on.1

-- and so from its beginning, over any capture of less than 4 GiB
pub tally_from_start : (place : ℕ) (l : Listing) (chunk : List ℕ) → Begins place l → length chunk ≤ 4294967295 → Alike (carried l chunk)
tally_from_start place l chunk b h = rw b (tally_is _ chunk (refl, refl, refl) (omega (arith, h), omega (arith, h), omega (arith, h)))

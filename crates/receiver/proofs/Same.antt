-- "the same lines in order and the same open frame at the end as one reading of all bytes joined": what bytes bring, one at a time, and what
-- their events and the receiver behind them are from the bytes alone.
-- Assumes nothing.
use mathlib.Core.Path.{◌≡◌, refl, sym, ap, ap₂, ◌∙◌}
use mathlib.Core.Bool.{Bool, true, false, cond, ◌&&◌}
use mathlib.Core.List.{List, [], ◌∷◌, ◌++◌, append_assoc, append-nil}
use mathlib.Core.Logic.{inl, inr, ⊎_elim}
use Prim.Native.Nat.{ℕ, suc, ◌+◌, ◌≤◌, ◌<◌, min}
use native.Mathlib.Nat.{le_of_suc-le-suc, not-suc-le-zero}
use native.Mathlib.Numerals.{add-one}
use native.Mathlib.Omega.{arith}
use borrow.Author.Tests.{le-leb, lt-leb, lt-ltb, le-ltb, leb-true, leb-false, ltb-true, ltb-false, eq-eqb, ne_eqb, eqb-true, eqb-false}
use lib.Dec.{eqb, leb, ltb}
use lib.ListN.{length, get_or, take}
use lib.Seq.{take-suc}
use Rattle.lent.proofs.Laws.{over_at_append}
use Rattle.lines.specs.declared.Event.{Event}
use Rattle.lines.specs.declared.Event.TheVariants.{Dropped, Open}
use Rattle.lines.specs.declared.Placed.{Placed}
use Rattle.listing.specs.Events.{placed, frame_event, is_end, to_next, to_next_end, event_of, events_from}
use Rattle.listing.proofs.Events.{events_none, events_cons}
use Rattle.listing.proofs.Next.{next-none}
use Rattle.listing.proofs.Numbers.{decides_end, ends_there}
use Rattle.receiver.specs.declared.Receiver.{Receiver}
use Rattle.receiver.specs.Receiver.{no_bytes, outside_at, opened_at, is_inside, passed, grown, next, closing, told}
use Rattle.receiver.specs.Chunks.{line_in, inside_at, receiver_of, open_line}
use Rattle.receiver.specs.Parts.{Held, size_by, grown_by}
use Rattle.receiver.proofs.Kept.{length_none, opened_held, one_held, one_positive, grown_none, grown_more, closing_grown, closed_opened}
use Rattle.receiver.proofs.Stretches.{at_start, told_outside, next_outside, told_dropped, told_closed, next_closed, told_grown, next_grown}

-- ---- the next end, one byte on

next_cons : (b : ℕ) (rest : List ℕ) → to_next_end (b ∷ rest) ≡ cond (is_end b) 0 (suc (to_next_end rest))
unfolding to_next
next_cons b rest = refl

leb_suc : (a b : ℕ) → leb (suc a) (suc b) ≡ leb a b
leb_suc a b = go (leb a b) refl
  where
    go : (t : Bool) → leb a b ≡ t → leb (suc a) (suc b) ≡ t
    go true e = let h : a ≤ b = leb-true a b e in le-leb (suc a) (suc b) (omega arith)
    go false e = let h : b < a = leb-false a b e in lt-leb (suc a) (suc b) (omega arith)

-- ---- the event of the open frame, from what is kept of it and the bytes to come

open_event : Receiver → List ℕ → Event
open_event r rest =
    cond (leb (length rest) (to_next_end rest)) Open
    (cond (eqb (get_or rest (to_next_end rest) 0) 13) Dropped (closing (grown_by r (take (to_next_end rest) rest))))

open_end : (r : Receiver) → open_event r [] ≡ Open
unfolding open_event
open_end r = rw (next-none is_end) refl

module _ (r : Receiver) (b : ℕ) (rest : List ℕ) where
  open_dropped : b ≡ 13 → open_event r (b ∷ rest) ≡ Dropped
  unfolding open_event
  open_dropped e = rw (e, next_cons 13 rest, lt-leb (suc (length rest)) 0 (omega arith)) refl

  open_closed : b ≡ 10 → open_event r (b ∷ rest) ≡ closing r
  unfolding open_event
  open_closed e = rw (e, next_cons 10 rest, lt-leb (suc (length rest)) 0 (omega arith)) (ap closing (grown_none r))

  open_grown : is_end b ≡ false → Held r → open_event r (b ∷ rest) ≡ open_event (grown r b) rest
  unfolding open_event
  open_grown e held =
      rw (next_cons b rest, e, leb_suc (length rest) (to_next_end rest), grown_more r b (take (to_next_end rest) rest) held) refl

-- a frame that has just been opened
open_opened : (place : ℕ) (rest : List ℕ) → open_event (opened_at place) rest ≡ event_of rest
unfolding open_event event_of
open_opened place rest = go (leb (length rest) (to_next_end rest)) refl (eqb (get_or rest (to_next_end rest) 0) 13) refl
  where
    k : ℕ
    k = to_next_end rest

    go : (s : Bool) → leb (length rest) (to_next_end rest) ≡ s → (t : Bool) → eqb (get_or rest (to_next_end rest) 0) 13 ≡ t
        → cond s Open (cond t Dropped (closing (grown_by (opened_at place) (take (to_next_end rest) rest)))) ≡ cond s Open (cond t Dropped (frame_event (13 ∷ take (suc (to_next_end rest)) rest)))
    go true p t q = refl
    go false p true q = refl
    go false p false q =
        let under : to_next_end rest < length rest = leb-false (length rest) (to_next_end rest) p in
        let ten : get_or rest (to_next_end rest) 0 ≡ 10 = ⊎_elim (λ e. e) (λ e. absurd (eqb-false (get_or rest (to_next_end rest) 0) 13 q e)) (ends_there rest under) in
        let last : take (suc (to_next_end rest)) rest ≡ take (to_next_end rest) rest ++ (10 ∷ []) = rw (take-suc rest (to_next_end rest) 0 under, ten) refl in
        closing_grown (opened_at place) (take (to_next_end rest) rest) (opened_held place) ∙ closed_opened place (take (to_next_end rest) rest ++ (10 ∷ []))
        ∙ ap (λ (l : List ℕ). frame_event (13 ∷ l)) (sym last)

-- ---- the events still to be told: the open frame's, and those of the bytes to come

pub expected : Receiver → List ℕ → List Placed
expected r rest = cond (is_inside r) (placed r.start (open_event r rest) ∷ []) [] ++ events_from r.place rest

events_opened : (place : ℕ) (rest : List ℕ) → expected (opened_at place) rest ≡ placed place (event_of rest) ∷ events_from (suc place) rest
unfolding expected
events_opened place rest = ap₂ (λ (e : Event) (n : ℕ). placed place e ∷ events_from n rest) (open_opened place rest) (add-one place)

-- at the end only the open frame's
pub expected_end : (r : Receiver) → expected r [] ≡ open_line r
unfolding expected
expected_end r = rw (open_end r, events_none r.place) (append-nil (open_line r))

-- before any byte all events are to come
pub expected_first : (place : ℕ) (bytes : List ℕ) → expected (outside_at place) bytes ≡ events_from place bytes
unfolding expected
expected_first place bytes = refl

module _ (r : Receiver) (b : ℕ) (rest : List ℕ) (held : Held r) where
  events_13 : b ≡ 13 → events_from r.place (b ∷ rest) ≡ placed r.place (event_of rest) ∷ events_from (suc r.place) rest
  events_13 e = rw (events_cons r.place b rest, eq-eqb b 13 e) refl

  events_other : (b ≡ 13 → ⊥) → events_from r.place (b ∷ rest) ≡ events_from (r.place + 1) rest
  events_other n = rw (events_cons r.place b rest, ne_eqb b 13 n, add-one r.place) refl

  -- outside a frame
  module _ (out : r.size ≡ 0) where
    not_inside : is_inside r ≡ false
    not_inside = le-ltb 0 r.size (omega arith)

    expected_outside : (xs : List ℕ) → expected r xs ≡ events_from r.place xs
    unfolding expected
    expected_outside xs = rw not_inside refl

    byte_outside : (t : Bool) → eqb b 13 ≡ t → line_in (told r b) ++ expected (next r b) rest ≡ expected r (b ∷ rest)
    unfolding expected
    byte_outside true e =
        let is : b ≡ 13 = eqb-true b 13 e in
        ap₂ (λ (l : List Placed) (s : Receiver). l ++ expected s rest) (ap line_in (told_outside r b out)) (at_start r b is)
        ∙ events_opened r.place rest ∙ sym (events_13 is) ∙ sym (expected_outside (b ∷ rest))
    byte_outside false e =
        let n : b ≡ 13 → ⊥ = eqb-false b 13 e in
        ap₂ (λ (l : List Placed) (s : Receiver). l ++ expected s rest) (ap line_in (told_outside r b out)) (next_outside r b out n)
        ∙ rw not_inside (sym (events_other n)) ∙ sym (expected_outside (b ∷ rest))

  -- inside one
  module _ (open-here : 0 < r.size) where
    expected_inside : (xs : List ℕ) → expected r xs ≡ placed r.start (open_event r xs) ∷ events_from r.place xs
    unfolding expected
    expected_inside xs = rw (lt-ltb 0 r.size open-here) refl

    byte_inside : (s t : Bool) → eqb b 13 ≡ s → eqb b 10 ≡ t → line_in (told r b) ++ expected (next r b) rest ≡ expected r (b ∷ rest)
    unfolding expected
    byte_inside true t e f =
        let is : b ≡ 13 = eqb-true b 13 e in
        ap₂ (λ (l : List Placed) (s : Receiver). l ++ expected s rest) (ap line_in (told_dropped r b open-here is)) (at_start r b is)
        ∙ ap (λ (l : List Placed). placed r.start Dropped ∷ l) (events_opened r.place rest ∙ sym (events_13 is))
        ∙ ap (λ (e : Event). placed r.start e ∷ events_from r.place (b ∷ rest)) (sym (open_dropped r b rest is)) ∙ sym (expected_inside (b ∷ rest))
    byte_inside false true e f =
        let is : b ≡ 10 = eqb-true b 10 f in
        ap₂ (λ (l : List Placed) (s : Receiver). l ++ expected s rest) (ap line_in (told_closed r b open-here is)) (next_closed r b open-here is)
        ∙ ap (λ (l : List Placed). placed r.start (closing r) ∷ l) (sym (events_other (eqb-false b 13 e)))
        ∙ ap (λ (e : Event). placed r.start e ∷ events_from r.place (b ∷ rest)) (sym (open_closed r b rest is)) ∙ sym (expected_inside (b ∷ rest))
    byte_inside false false e f =
        let n : b ≡ 13 → ⊥ = eqb-false b 13 e in
        let m : b ≡ 10 → ⊥ = eqb-false b 10 f in
        let inner : is_end b ≡ false = rw (e, f) refl in
        ap₂ (λ (l : List Placed) (s : Receiver). l ++ expected s rest) (ap line_in (told_grown r b open-here n m)) (next_grown r b open-here n m)
        ∙ rw (lt-ltb 0 (grown r b).size (one_positive r b open-here)) (ap₂ (λ (e : Event) (l : List Placed). placed r.start e ∷ l) (sym (open_grown r b rest inner held)) (sym (events_other n)))
        ∙ sym (expected_inside (b ∷ rest))

  pub byte_same : line_in (told r b) ++ expected (next r b) rest ≡ expected r (b ∷ rest)
  byte_same = go (ltb 0 r.size) refl
    where
      go : (t : Bool) → ltb 0 r.size ≡ t → line_in (told r b) ++ expected (next r b) rest ≡ expected r (b ∷ rest)
      go true e = byte_inside (ltb-true 0 r.size e) (eqb b 13) (eqb b 10) refl refl
      go false e = let out : r.size ≤ 0 = ltb-false 0 r.size e in byte_outside (omega arith) (eqb b 13) refl

-- ---- the receiver behind some bytes

unfoldable pub behind_bytes : Receiver → List ℕ → Receiver
behind_bytes r [] = r
behind_bytes r (b ∷ rest) = behind_bytes (next r b) rest

pub next_held : (r : Receiver) (b : ℕ) → Held r → Held (next r b)
unfolding next
next_held r b h = go (eqb b 13) (is_inside r) (eqb b 10)
  where
    go : (s t u : Bool) → Held (cond s (opened_at r.place) (cond t (cond u (outside_at (r.place + 1)) (grown r b)) (passed r)))
    go true t u = opened_held r.place
    go false true true = length_none
    go false true false = one_held r b h
    go false false u = h

-- inside a frame whose end does not come
stays : (r : Receiver) (xs : List ℕ) → Held r → 0 < r.size → length xs ≤ to_next_end xs → behind_bytes r xs ≡ grown_by r xs
unfolding behind_bytes
stays r [] held inside h = sym (grown_none r)
stays r (b ∷ rest) held inside h = go (is_end b) refl (rw (next_cons b rest) at h) (stays (grown r b) rest (one_held r b held) (one_positive r b inside))
  where
    go : (t : Bool) → is_end b ≡ t → suc (length rest) ≤ cond t 0 (suc (to_next_end rest)) → (length rest ≤ to_next_end rest → behind_bytes (grown r b) rest ≡ grown_by (grown r b) rest)
        → behind_bytes (next r b) rest ≡ grown_by r (b ∷ rest)
    go true e l ih = absurd (not-suc-le-zero l)
    go false e l ih =
        let n = (decides_end b).not_so e in
        ap (λ (s : Receiver). behind_bytes s rest) (next_grown r b inside (λ p. n (inr p)) (λ p. n (inl p))) ∙ ih (le_of_suc-le-suc l) ∙ grown_more r b rest held

-- where its end comes, what was before it does not matter
forgets : (r : Receiver) (xs : List ℕ) → 0 < r.size → to_next_end xs < length xs → behind_bytes r xs ≡ behind_bytes (outside_at r.place) xs
unfolding behind_bytes
forgets r [] inside h = absurd (not-suc-le-zero h)
forgets r (b ∷ rest) inside h =
    go (eqb b 13) (eqb b 10) refl refl (rw (next_cons b rest) at h) (forgets (grown r b) rest (one_positive r b inside))
  where
    go : (s t : Bool) → eqb b 13 ≡ s → eqb b 10 ≡ t → cond (is_end b) 0 (suc (to_next_end rest)) < suc (length rest)
        → (to_next_end rest < length rest → behind_bytes (grown r b) rest ≡ behind_bytes (outside_at (r.place + 1)) rest)
        → behind_bytes (next r b) rest ≡ behind_bytes (next (outside_at r.place) b) rest
    go true t e f l ih = ap (λ (s : Receiver). behind_bytes s rest) (at_start r b (eqb-true b 13 e) ∙ sym (at_start (outside_at r.place) b (eqb-true b 13 e)))
    go false true e f l ih =
        ap (λ (s : Receiver). behind_bytes s rest)
        (next_closed r b inside (eqb-true b 10 f) ∙ sym (next_outside (outside_at r.place) b refl (eqb-false b 13 e)))
    go false false e f l ih =
        let inner : is_end b ≡ false = rw (e, f) refl in
        ap (λ (s : Receiver). behind_bytes s rest) (next_grown r b inside (eqb-false b 13 e) (eqb-false b 10 f))
        ∙ ih (le_of_suc-le-suc (rw inner at l)) ∙ ap (λ (s : Receiver). behind_bytes s rest) (sym (next_outside (outside_at r.place) b refl (eqb-false b 13 e)))

-- a frame from its 13 on
opened_grown : (place : ℕ) (rest : List ℕ) → grown_by (opened_at place) rest ≡ inside_at place (13 ∷ rest)
opened_grown place rest =
    ap₂ (λ (p : ℕ × ℕ) (d : List ℕ). record { place = p.0; start = place; size = p.1; bytes = d })
    (ap₂ (λ (p s : ℕ). (p, s)) (place_is place (length rest)) (size_is (length rest))) (over_at_append 0 (13 ∷ []) rest no_bytes)
  where
    place_is : (p n : ℕ) → p + 1 + n ≡ p + suc n
    place_is p n = omega arith

    size_is : (n : ℕ) → size_by 1 n ≡ min 494 (suc n)
    size_is n = go (ltb 493 n) refl
      where
        go : (t : Bool) → ltb 493 n ≡ t → cond t 494 (1 + n) ≡ min 494 (suc n)
        go true e = let h : 493 < n = ltb-true 493 n e in omega arith
        go false e = let h : n ≤ 493 = ltb-false 493 n e in omega arith

pub from_bytes : (place : ℕ) (xs : List ℕ) → behind_bytes (outside_at place) xs ≡ receiver_of place xs
unfolding behind_bytes receiver_of
from_bytes place [] = refl
from_bytes place (b ∷ rest) = go (eqb b 13) refl (leb (length rest) (to_next_end rest)) refl (from_bytes (suc place) rest)
  where
    go : (s : Bool) → eqb b 13 ≡ s → (t : Bool) → leb (length rest) (to_next_end rest) ≡ t → behind_bytes (outside_at (suc place)) rest ≡ receiver_of (suc place) rest
        → behind_bytes (next (outside_at place) b) rest ≡ cond (s && t) (inside_at place (b ∷ rest)) (receiver_of (suc place) rest)
    go true e true f ih =
        let is : b ≡ 13 = eqb-true b 13 e in
        ap (λ (s : Receiver). behind_bytes s rest) (at_start (outside_at place) b is)
        ∙ stays (opened_at place) rest (opened_held place) (omega arith) (leb-true (length rest) (to_next_end rest) f) ∙ opened_grown place rest ∙ ap (λ (c : ℕ). inside_at place (c ∷ rest)) (sym is)
    go true e false f ih =
        ap (λ (s : Receiver). behind_bytes s rest) (at_start (outside_at place) b (eqb-true b 13 e))
        ∙ forgets (opened_at place) rest (omega arith) (leb-false (length rest) (to_next_end rest) f) ∙ ap (λ (p : ℕ). behind_bytes (outside_at p) rest) (add-one place) ∙ ih
    go false e t f ih =
        ap (λ (s : Receiver). behind_bytes s rest) (next_outside (outside_at place) b refl (eqb-false b 13 e)) ∙ ap (λ (p : ℕ). behind_bytes (outside_at p) rest) (add-one place) ∙ ih

-- ---- some bytes taken: the lines told, the receiver behind them, and the bytes left come to what the bytes before came to

pub record Moved (r : Receiver) (chunk : List ℕ) (r' : Receiver) (lines : List Placed) (left : List ℕ) : Type 0 where
  pub same_lines : (more : List ℕ) → lines ++ expected r' (left ++ more) ≡ expected r (chunk ++ more)
  pub same_receiver : (more : List ℕ) → behind_bytes r' (left ++ more) ≡ behind_bytes r (chunk ++ more)
  pub held : Held r'

pub not_moved : (r : Receiver) (chunk : List ℕ) → Held r → Moved r chunk r [] chunk
not_moved r chunk h = record { same_lines = λ more. refl; same_receiver = λ more. refl; held = h }

pub moved_byte : (r : Receiver) (b : ℕ) (rest : List ℕ) → Held r → Moved r (b ∷ rest) (next r b) (line_in (told r b)) rest
unfolding behind_bytes
moved_byte r b rest h = record { same_lines = λ more. byte_same r b (rest ++ more) h; same_receiver = λ more. refl; held = next_held r b h }

pub moved_then : {r r' r'' : Receiver} {chunk left left' : List ℕ} {a b : List Placed} → Moved r chunk r' a left → Moved r' left r'' b left' → Moved r chunk r'' (a ++ b) left'
moved_then {r'' = r''} {left' = left'} {a = a} {b = b} p q =
    record {
      same_lines = λ more. append_assoc a b (expected r'' (left' ++ more)) ∙ ap (λ (l : List Placed). a ++ l) (q.same_lines more) ∙ p.same_lines more;
      same_receiver = λ more. q.same_receiver more ∙ p.same_receiver more;
      held = q.held;
    }

-- a chunk that was taken whole, and then another
pub moved_joined : {r r' r'' : Receiver} {chunk next_chunk : List ℕ} {a b : List Placed} → Moved r chunk r' a [] → Moved r' next_chunk r'' b [] → Moved r (chunk ++ next_chunk) r'' (a ++ b) []
moved_joined {r} {r'' = r''} {chunk} {next_chunk} {a} {b} p q =
    record {
      same_lines = λ more. append_assoc a b (expected r'' more) ∙ ap (λ (l : List Placed). a ++ l) (q.same_lines more) ∙ p.same_lines (next_chunk ++ more)
          ∙ ap (expected r) (sym (append_assoc chunk next_chunk more));
      same_receiver = λ more. q.same_receiver more ∙ p.same_receiver (next_chunk ++ more) ∙ ap (behind_bytes r) (sym (append_assoc chunk next_chunk more));
      held = q.held;
    }
